-- Slots that say of each cell of a part whether an odd number of triangles was counted there.
use Rattle.std.specs.Prelude.{◌≡◌, ℕ, ◌+◌, ◌-◌, ◌*◌, ◌^◌, ◌/◌, ◌%◌, ◌<◌, ◌≤◌, true, false, ◌==◌, ◌&&◌, cond, nat_lt, List, length, slice_index}
use Rattle.std.specs.List.{sum_by}
use Rattle.bit_grid.specs.Places.{is_set_at}
use Rattle.bit_grid.specs.Touched.{AreTouched}
use Rattle.bit_grid.specs.declared.touched.TouchedBlocks.{TouchedBlocks}
use Rattle.octree_specs.specs.FacedTriangles.{Faced}
use Rattle.svo_base.specs.declared.shapes.Triangle.{Triangle}
use Rattle.solid_parity.specs.Notes.{is_highest, place_in}
use Rattle.solid_parity.specs.Parity.{one}
use Rattle.solid_parity.specs.PartCells.{Part, part_side, is_over_in}

-- a number for each cell, by its places along the axes: the slots are as odd as these
abbrev pub HasCounts : ℕ → (ℕ → ℕ → ℕ → ℕ) → List ℕ → Type 0
HasCounts side number slots = (x y z : ℕ) → x < side → y < side → z < side → slice_index slots (place_in x y z) ≡ number x y z % 2

-- whatever was counted before, these numbers were counted too
abbrev pub AddsCounts : ℕ → (ℕ → ℕ → ℕ → ℕ) → List ℕ → List ℕ → Type 0
AddsCounts side more old new = (number : ℕ → ℕ → ℕ → ℕ) → HasCounts side number old → HasCounts side (λ x y z. number x y z + more x y z) new

-- ---- the cells that are the highest ones that a triangle is over

abbrev pub notes : Part → Triangle → ℕ → ℕ → ℕ → ℕ
notes p t a b z = one (is_highest p t a b z)

-- those in one row of columns, and in one column
abbrev pub row_notes : Part → Triangle → ℕ → ℕ → ℕ → ℕ → ℕ
row_notes p t y a b z = one ((b == y) && is_highest p t a b z)

abbrev pub column_notes : Part → Triangle → ℕ → ℕ → ℕ → ℕ → ℕ → ℕ
column_notes p t x y a b z = one ((a == x) && ((b == y) && is_highest p t a b z))

-- the slots of all other columns stay
abbrev pub OthersStay : ℕ → ℕ → ℕ → List ℕ → List ℕ → Type 0
OthersStay side x y old new = (a b z : ℕ) → a < side → b < side → z < side → (a ≡ x → b ≡ y → ⊥) → slice_index new (place_in a b z) ≡ slice_index old (place_in a b z)

-- how many triangles have the cell as the highest that they are over in its column
abbrev pub noted_of : Part → List Faced → ℕ → ℕ → ℕ → ℕ
noted_of p faced x y z = sum_by (λ f. one (is_highest p f.triangle x y z)) faced

-- how many are over it
abbrev pub over_of : Part → List Faced → ℕ → ℕ → ℕ → ℕ
over_of p faced x y z = sum_by (λ f. one (is_over_in p.grid p.split p.part f.triangle x y z)) faced

-- ---- one column

-- the slots of a column are as odd as these numbers of its cells
abbrev pub HasColumn : ℕ → ℕ → ℕ → (ℕ → ℕ) → List ℕ → Type 0
HasColumn side x y number slots = (z : ℕ) → z < side → slice_index slots (place_in x y z) ≡ number z % 2

-- what is counted at a cell of a column and above it, where a column has so many
abbrev pub from_place : ℕ → (ℕ → ℕ) → ℕ → ℕ
from_place side over z = cond (nat_lt z side) (over z) 0

-- each number is the sum of what is noted there and above
abbrev pub AddsUp : ℕ → (ℕ → ℕ) → (ℕ → ℕ) → Type 0
AddsUp side noted over = (z : ℕ) → z < side → over z ≡ noted z + from_place side over (z + 1)

abbrev pub AddsUpEach : ℕ → (ℕ → ℕ → ℕ → ℕ) → (ℕ → ℕ → ℕ → ℕ) → Type 0
AddsUpEach side noted over = (x y : ℕ) → x < side → y < side → AddsUp side (noted x y) (over x y)

-- whatever was noted, the slots are made of notes those of the sums from above
abbrev pub IsSettled : ℕ → List ℕ → List ℕ → Type 0
IsSettled side old new = (noted over : ℕ → ℕ → ℕ → ℕ) → AddsUpEach side noted over → HasCounts side noted old → HasCounts side over new

abbrev pub IsSettledColumn : ℕ → ℕ → ℕ → List ℕ → List ℕ → Type 0
IsSettledColumn side x y old new = (noted over : ℕ → ℕ) → AddsUp side noted over → HasColumn side x y noted old → HasColumn side x y over new

-- ---- the columns in which something was noted

-- the column's place among the marks, of which a row has 512
abbrev pub mark_of : ℕ → ℕ → ℕ
mark_of x y = 512 * y + x

-- slots of columns that have no mark are 0
pub record AreMarked (side : ℕ) (slots marks : List ℕ) : Type 0 where
  pub within : (mark : ℕ) → is_set_at marks mark ≡ true → (mark % 512 < side) × (mark / 512 < side)
  pub empty : (x y z : ℕ) → x < side → y < side → z < side → is_set_at marks (mark_of x y) ≡ false → slice_index slots (place_in x y z) ≡ 0

-- all that the slots, the table of touched blocks and the marks of a part keep
pub record AreKept (p : Part) (slots : List ℕ) (blocks : TouchedBlocks) (marks : List ℕ) : Type 0 where
  pub small : part_side p.grid p.split ≤ 512
  pub room : 8 ^ (p.grid.depth - p.split) ≤ length slots
  pub touched : AreTouched slots blocks
  pub long : length marks ≡ 4096
  pub marked : AreMarked (part_side p.grid p.split) slots marks
