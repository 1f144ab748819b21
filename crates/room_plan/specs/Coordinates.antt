-- Bytes on scratch as numbers: little-endian, of 4 bytes each, one after another.
use Rattle.std.specs.Prelude.{ℕ, ◌+◌, ◌*◌, ℤ, List, drop}
use Rattle.std.specs.Int.{w32, cast_signed}
use Rattle.byteorder.specs.Endian.{little_number}
use Rattle.svo_base.specs.declared.shapes.Point.{Point}
pub use Rattle.svo_base.specs.Boxes.{IsPoint}

-- the number behind so many others
abbrev pub number_at : List ℕ → ℕ → ℕ
number_at bytes place = little_number 4 (drop (4 * place) bytes)

-- the same with a sign
abbrev pub coordinate_at : List ℕ → ℕ → ℤ
coordinate_at bytes place = cast_signed w32 (number_at bytes place)

-- the point whose coordinates are there and the next ones
abbrev pub point_at : List ℕ → ℕ → Point
point_at bytes place = record { x = coordinate_at bytes place; y = coordinate_at bytes (place + 1); z = coordinate_at bytes (place + 2) }
