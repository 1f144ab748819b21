-- The slots of a part.
use Rattle.std.specs.Prelude.{◌≡◌, [], ◌∷◌, ◌++◌, ℕ, ◌+◌, ◌-◌, ◌*◌, ◌^◌, ◌<◌, ◌≤◌, Bool, min, List, All, map, slice_index, Option, Result, IfSome, OnOk}
use Rattle.std.specs.List.{sum_by}
use Rattle.svo_base.specs.GridShape.{GridShape}
use Rattle.octree_specs.specs.FacedTriangles.{Faced}
use Rattle.octree_specs.specs.FilledCells.{IsSlotOf}
use Rattle.octree_specs.specs.Parcels.{HoldAlike}
use Rattle.octree_specs.specs.Parts.{part_of, passing, PassWhereMet}
use Rattle.tri_partition.specs.PartStreams.{part_stream, parcels_in}
use Rattle.morton_scan.specs.Putting.{ArePut, MeetsInPart, first_of_part}

-- each cell of the part has its slot for these triangles
abbrev pub HasSlotsFor : GridShape → ℕ → ℕ → List Faced → List ℕ → Type 0
HasSlotsFor grid split part faced slots = (place : ℕ) → place < 8 ^ (grid.depth - split) → IsSlotOf grid faced (first_of_part grid split part + place) (slice_index slots place)

-- empty slots are those of no triangles, and a face that is put for one triangle more gives the slots of one more
pub record GrowsByTriangles : Type 0 where
  pub none : (grid : GridShape) (split part : ℕ) (slots : List ℕ) → ((place : ℕ) → slice_index slots place ≡ 0) → HasSlotsFor grid split part [] slots
  pub more : (grid : GridShape) (split part : ℕ) (x : Faced) (faced : List Faced) (old new : List ℕ) → HasSlotsFor grid split part faced old
      → ArePut (MeetsInPart grid split part x.triangle) (first_of_part grid split part) x.face old new → HasSlotsFor grid split part (x ∷ faced) new

-- the slots are those that they were for with these triangles behind
abbrev pub AddsTriangles : GridShape → ℕ → ℕ → List ℕ → List ℕ → List Faced → Type 0
AddsTriangles grid split part old new more = (faced : List Faced) → HasSlotsFor grid split part faced old → HasSlotsFor grid split part (faced ++ more) new

-- ---- the parcels of a stream

-- the greatest face of 32 bits counts as one less, since a slot keeps one more than its face
abbrev pub limited : Faced → Faced
limited x = record { triangle = x.triangle; face = min x.face (2 ^ 32 - 2) }

-- how many tests the parcels may take: one each, and eight for each node of the part above the cells that passes its test
abbrev pub tests_of : GridShape → ℕ → ℕ → (Faced → ℕ → ℕ → Bool) → List Faced → ℕ
tests_of grid split part test parcels = sum_by (λ x. 1 + 8 * passing (test x) (grid.depth - split) part) parcels

-- each parcel has a test that the nodes pass which its triangle meets
abbrev pub TestEachParcel : GridShape → (Faced → ℕ → ℕ → Bool) → Type 0
TestEachParcel grid test = (x : Faced) → PassWhereMet grid x.triangle (test x)

-- the first parcels of a part's stream were taken, all of them where nothing was refused, and no more tests were made than they may take
pub record TakesParcels {T E : Type 0} (grid : GridShape) (split part : ℕ) (told : Option (List (List ℕ))) (before after : ℕ) (result : Result T E) (Taken : List Faced → Type 0) : Type 0 where
  pub parcels : List Faced
  pub taken : Taken (map limited parcels)
  pub tests : (test : Faced → ℕ → ℕ → Bool) → TestEachParcel grid test → after ≤ before + tests_of grid split part test parcels
  pub front : IfSome told (λ streams. (rest : List Faced) × (parcels_in (part_stream streams part) ≡ parcels ++ rest))
  pub all : OnOk result (IfSome told (λ streams. parcels ≡ parcels_in (part_stream streams part)))

-- the slots that the parcels of a part give, in any order, are those of all triangles; where no face is the greatest, nothing was limited
pub record FillsFromParcels : Type 0 where
  pub all : (grid : GridShape) (split part : ℕ) (parcels faced : List Faced) (slots : List ℕ) → split ≤ grid.depth
      → HoldAlike parcels (part_of grid split part faced) → HasSlotsFor grid split part (map limited parcels) slots → HasSlotsFor grid split part (map limited faced) slots
  pub unlimited : (faced : List Faced) → All (λ x. x.face < 2 ^ 32 - 1) faced → map limited faced ≡ faced
