-- Triangles whose parts lie on scratch, and the tests that it takes to fill them.
use Rattle.std.specs.Prelude.{◌≡◌, ℕ, ◌^◌, ◌<◌, ◌≤◌, ◌-◌, Bool, List, Option, Some, All}
use Rattle.std.specs.List.{sum_by, range_with_len}
use Rattle.svo_base.specs.GridShape.{GridShape}
use Rattle.octree_specs.specs.FacedTriangles.{Faced}
use Rattle.octree_specs.specs.Parcels.{HoldAlike}
use Rattle.octree_specs.specs.Parts.{part_of}
use Rattle.tri_partition.specs.PartStreams.{part_stream, parcels_in}
use Rattle.morton_scan.specs.FilledParts.{tests_of}

-- the scratch tells its streams, and the part's stream has the parcels of those of these triangles that reach the part, in any order
pub record HasPartOf (grid : GridShape) (split part : ℕ) (told : Option (List (List ℕ))) (faced : List Faced) : Type 0 where
  pub streams : List (List ℕ)
  pub are_told : told ≡ Some streams
  pub faces : All (λ x. x.face ≤ 2 ^ 32 - 2) faced
  pub parcels : HoldAlike (parcels_in (part_stream streams part)) (part_of grid split part faced)

-- the same of each part
abbrev pub HasPartsOf : GridShape → ℕ → Option (List (List ℕ)) → List Faced → Type 0
HasPartsOf grid split told faced = (part : ℕ) → part < 8 ^ split → HasPartOf grid split part told faced

-- how many tests the first parts of these triangles may take
abbrev pub tests_of_parts : GridShape → ℕ → ℕ → (Faced → ℕ → ℕ → Bool) → List Faced → ℕ
tests_of_parts grid split parts test faced = sum_by (λ part. tests_of grid split part test (part_of grid split part faced)) (range_with_len 0 parts)
