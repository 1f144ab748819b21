-- What a partition leaves on scratch.
use Rattle.std.specs.Prelude.{◌≡◌, ℕ, ◌+◌, ◌-◌, ◌*◌, ◌^◌, ◌<◌, ◌≤◌, List, [], ◌++◌, length, drop, All, Option, Some}
use Rattle.std.specs.List.{flat_map}
use Rattle.svo_base.specs.GridShape.{GridShape}
use Rattle.dev_traits.specs.Streams.{stream_of}
use Rattle.octree_specs.specs.FacedTriangles.{Faced}
use Rattle.octree_specs.specs.Parcels.{parcel_bytes, HoldAlike, HoldsParcels}
use Rattle.octree_specs.specs.Parts.{part_of}
use Rattle.room_plan.specs.declared.elements.Parcel.{Parcel}
use Rattle.room_plan.specs.Coordinates.{IsPoint}
use Rattle.tri_partition.specs.PartStreams.{part_stream, parcels_in}
use Rattle.tri_partition.specs.Partitioning.{parcels_of, part_under, parcels_under, Spills}

-- nothing was appended yet, and what is appended in two steps is appended in all
pub record SpillsInSteps : Type 0 where
  pub none : (told : Option (List (List ℕ))) (waiting : List Parcel) → Spills told told waiting [] waiting
  pub more : (first between last : Option (List (List ℕ))) (waited more then_wait further wait : List Parcel)
      → Spills first between waited more then_wait → Spills between last then_wait further wait → Spills first last waited (more ++ further) wait

-- a stream has grown by the bytes of these parcels, each as often, in any order
pub record GrewByParcels (before after : List ℕ) (parcels : List Faced) : Type 0 where
  pub stand : List Faced
  pub bytes : after ≡ before ++ flat_map parcel_bytes stand
  pub alike : HoldAlike stand parcels

-- each part's stream has grown by the parcels of the triangles that reach the part, and all other streams stayed
pub record IsPartitioned (grid : GridShape) (split : ℕ) (faced : List Faced) (first now : List (List ℕ)) : Type 0 where
  pub many : length now ≡ length first
  pub parts : (part : ℕ) → part < 8 ^ split → 1 + part < length first → GrewByParcels (part_stream first part) (part_stream now part) (part_of grid split part faced)
  pub front : stream_of now 0 ≡ stream_of first 0
  pub behind : (stream : ℕ) → 8 ^ split < stream → stream_of now stream ≡ stream_of first stream

-- so they are once all parcels of these triangles were appended, and none waits
abbrev pub PartsAreSpilled : Type 0
PartsAreSpilled = (grid : GridShape) (split : ℕ) (faced : List Faced) (first now : List (List ℕ))
    → Spills (Some first) (Some now) [] (flat_map (parcels_of grid split) faced) [] → IsPartitioned grid split faced first now

-- the stream of each part under a node of level 4 has grown by the parcels of the triangles that reach the part, and all other streams stayed
pub record IsPartitionedUnder (grid : GridShape) (split first : ℕ) (faced : List Faced) (before now : List (List ℕ)) : Type 0 where
  pub many : length now ≡ length before
  pub parts : (place : ℕ) → place < 8 ^ (split - 4) → 4097 + place < length before
      → GrewByParcels (stream_of before (4097 + place)) (stream_of now (4097 + place)) (part_of grid split (part_under split first place) faced)
  pub front : (stream : ℕ) → stream < 4097 → stream_of now stream ≡ stream_of before stream
  pub behind : (stream : ℕ) → 4096 + 8 ^ (split - 4) < stream → stream_of now stream ≡ stream_of before stream

-- so they are once the triangles that reach the node, in whatever order, were spilled again, and none waits
abbrev pub SecondPartsAreSpilled : Type 0
SecondPartsAreSpilled = (grid : GridShape) (split first : ℕ) (faced held : List Faced) (before now : List (List ℕ)) → 4 ≤ split → split ≤ grid.depth → first < 8 ^ 4
    → HoldAlike held (part_of grid 4 first faced) → Spills (Some before) (Some now) [] (flat_map (parcels_under grid split first) held) [] → IsPartitionedUnder grid split first faced before now

-- corners and face have 32 bits
pub record IsFaced (x : Faced) : Type 0 where
  pub a : IsPoint x.triangle.a
  pub b : IsPoint x.triangle.b
  pub c : IsPoint x.triangle.c
  pub face : x.face < 2 ^ 32

-- a stream that was empty holds the parcels that it grew by, and these are read back from it
pub record ReadsBack : Type 0 where
  pub holds : (bytes : List ℕ) (parcels : List Faced) → GrewByParcels [] bytes parcels → HoldsParcels bytes parcels
  pub reads : (grid : GridShape) (split part : ℕ) (bytes : List ℕ) (faced : List Faced) → All IsFaced faced → GrewByParcels [] bytes (part_of grid split part faced)
      → HoldAlike (parcels_in bytes) (part_of grid split part faced)

-- so it is with parcels that a stream grew by behind what it had: they stand behind it, as many as they are, and are read back from there on
pub record ReadsBehind : Type 0 where
  pub holds : (before after : List ℕ) (parcels : List Faced) → GrewByParcels before after parcels → (after ≡ before ++ drop (length before) after) × HoldsParcels (drop (length before) after) parcels
  pub long : (before after : List ℕ) (parcels : List Faced) → GrewByParcels before after parcels → length after ≡ length before + 40 * length parcels
  pub reads : (grid : GridShape) (split part : ℕ) (before after : List ℕ) (faced : List Faced) → All IsFaced faced → GrewByParcels before after (part_of grid split part faced)
      → HoldAlike (parcels_in (drop (length before) after)) (part_of grid split part faced)
