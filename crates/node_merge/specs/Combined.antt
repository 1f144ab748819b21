-- Maps of cells to faces that are made from other such maps.
use Rattle.std.specs.Prelude.{ℕ, zero, suc, ◌+◌, ◌-◌, ◌*◌, ◌^◌, min, List, [], ◌∷◌, ◌++◌, Option, None, Some}
use Rattle.octree_specs.specs.Cells.{Cell}
use Rattle.svo_base.specs.GridShape.{GridShape}
use Rattle.node_check.specs.Walks.{face_at}
use Rattle.node_merge.specs.declared.kinds.MergeKind.{MergeKind}
use Rattle.node_merge.specs.declared.kinds.MergeKind.TheVariants.{Union, Both, Minus}

-- a code with the face that it has, if it has one
abbrev pub cell_of : ℕ → Option ℕ → List Cell
cell_of code None = []
cell_of code (Some face) = record { code = code; face = face } ∷ []

-- the cells below a bound to which a function gives a face, in ascending order of their codes
unfoldable pub cells_below : ℕ → (ℕ → Option ℕ) → List Cell
cells_below zero face_of = []
cells_below (suc code) face_of = cells_below code face_of ++ cell_of code (face_of code)

-- a cell's face in two maps together: in the union the first map's where it has one, else the second's; in both, and in the first without the second, the first map's
abbrev pub face_in : MergeKind → Option ℕ → Option ℕ → Option ℕ
face_in Union (Some face) other = Some face
face_in Union None other = other
face_in Both (Some face) (Some other) = Some face
face_in Both (Some face) None = None
face_in Both None other = None
face_in Minus (Some face) (Some other) = None
face_in Minus (Some face) None = Some face
face_in Minus None other = None

-- two maps of one depth together
abbrev pub merged : MergeKind → ℕ → List Cell → List Cell → List Cell
merged kind depth first second = cells_below (8 ^ depth) (λ code. face_in kind (face_at first code) (face_at second code))

-- the lesser of two faces, of which either may be missing
abbrev pub least_of : Option ℕ → Option ℕ → Option ℕ
least_of None other = other
least_of (Some face) None = Some face
least_of (Some face) (Some other) = Some (min face other)

-- the least face that a function gives so many codes from the first on
unfoldable pub least_in : (ℕ → Option ℕ) → ℕ → ℕ → Option ℕ
least_in face_of first zero = None
least_in face_of first (suc count) = least_of (least_in face_of first count) (face_of (first + count))

-- the least face of the cells under a node that is so many levels above them
abbrev pub least_under : ℕ → List Cell → ℕ → Option ℕ
least_under levels cells node = least_in (face_at cells) (node * 8 ^ levels) (8 ^ levels)

-- a map of so many levels less: each nonempty node with the least face of the cells under it
abbrev pub coarse : ℕ → ℕ → List Cell → List Cell
coarse levels depth cells = cells_below (8 ^ (depth - levels)) (least_under levels cells)

-- its grid, whose cells are as much wider
abbrev pub coarse_grid : ℕ → GridShape → GridShape
coarse_grid levels grid = record { depth = grid.depth - levels; origin = grid.origin; cell = grid.cell * 2 ^ levels }
