-- The streams of a scratch that hold the parcels of parts, and the parcels that bytes of a stream are. The parcels of a part stand in the stream with the next number after its own; stream 0 is for other data.
use Rattle.std.specs.Prelude.{ℕ, ◌+◌, ◌/◌, ◌^◌, ◌<◌, ℤ, pos, List, map, length, slice_index_or}
use Rattle.svo_base.specs.declared.shapes.Point.{Point}
use Rattle.dev_traits.specs.Streams.{stream_of}
use Rattle.octree_specs.specs.FacedTriangles.{Faced}
use Rattle.octree_specs.specs.Parcels.{pieces_of}
use Rattle.room_plan.specs.declared.elements.Parcel.{Parcel}
use Rattle.room_plan.specs.Coordinates.{number_at, point_at}

-- the part's stream is started, and has a number of 32 bits
pub record HasStream (started part : ℕ) : Type 0 where
  pub is_started : 1 + part < started
  pub numbered : 1 + part < 2 ^ 32

-- the bytes of a part's stream
abbrev pub part_stream : List (List ℕ) → ℕ → List ℕ
part_stream streams part = stream_of streams (1 + part)

-- ---- a parcel as a triangle with its face

-- the point whose coordinates stand at a place and behind it
abbrev pub corner_at : List ℤ → ℕ → Point
corner_at corners place =
    record { x = slice_index_or corners place (pos 0); y = slice_index_or corners (place + 1) (pos 0); z = slice_index_or corners (place + 2) (pos 0) }

unfoldable pub faced_of : Parcel → Faced
faced_of parcel =
    record { triangle = record { a = corner_at parcel.corners 0; b = corner_at parcel.corners 3; c = corner_at parcel.corners 6 }; face = parcel.face }

-- ---- bytes as parcels

-- what 40 bytes stand for: nine coordinates and a face
unfoldable pub parcel_from : List ℕ → Faced
parcel_from bytes = record { triangle = record { a = point_at bytes 0; b = point_at bytes 3; c = point_at bytes 6 }; face = number_at bytes 9 }

-- the parcels of a stream, of which bytes behind the last whole one are no part
unfoldable pub parcels_in : List ℕ → List Faced
parcels_in bytes = map parcel_from (pieces_of bytes (length bytes / 40))
