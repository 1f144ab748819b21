-- The slots of a part that say which of its cells are solid.
use Rattle.std.specs.Prelude.{◌≡◌, ℕ, ◌+◌, ◌-◌, ◌%◌, ◌^◌, ◌<◌, List, slice_index, Option, Result, IfSome, OnOk}
use Rattle.svo_base.specs.GridShape.{GridShape}
use Rattle.octree_specs.specs.FacedTriangles.{Faced}
use Rattle.morton_scan.specs.Putting.{first_of_part}
use Rattle.tri_partition.specs.PartStreams.{part_stream, parcels_in}
use Rattle.solid_parity.specs.Counts.{AddsCounts, noted_of}
use Rattle.solid_parity.specs.Parity.{number_over}
use Rattle.solid_parity.specs.PartCells.{Part, part_side}

-- the slot of each cell of the part is 1 where an odd number of these triangles is over it, and else 0
abbrev pub HasParities : GridShape → ℕ → ℕ → List Faced → List ℕ → Type 0
HasParities grid split part faced slots = (place : ℕ) → place < 8 ^ (grid.depth - split) → slice_index slots place ≡ number_over grid faced (first_of_part grid split part + place) % 2

-- ---- the parcels of a stream

-- all parcels of a part's stream were taken where nothing was refused
abbrev pub AreAllOf : {T E : Type 0} → ℕ → Option (List (List ℕ)) → Result T E → List Faced → Type 0
AreAllOf part told result parcels = OnOk result (IfSome told (λ streams. parcels ≡ parcels_in (part_stream streams part)))

-- parcels were taken, and noted in their columns
pub record TakesNotes {T E : Type 0} (p : Part) (told : Option (List (List ℕ))) (result : Result T E) (old new : List ℕ) : Type 0 where
  pub parcels : List Faced
  pub noted : AddsCounts (part_side p.grid p.split) (noted_of p parcels) old new
  pub all : AreAllOf p.part told result parcels

-- parcels were taken, and where nothing was refused the slots are theirs
pub record TakesParities {T E : Type 0} (grid : GridShape) (split part : ℕ) (told : Option (List (List ℕ))) (result : Result T E) (slots : List ℕ) : Type 0 where
  pub parcels : List Faced
  pub filled : OnOk result (HasParities grid split part parcels slots)
  pub all : AreAllOf part told result parcels
