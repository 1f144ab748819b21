-- A face is put into slots.
use Rattle.std.specs.Prelude.{◌≡◌, ℕ, ◌+◌, ◌-◌, ◌*◌, ◌/◌, ◌^◌, ◌<◌, ◌≤◌, List, slice_index}
use Rattle.svo_base.specs.GridShape.{GridShape}
use Rattle.svo_base.specs.declared.shapes.Triangle.{Triangle}
use Rattle.bit_grid.specs.Slots.{lesser_slot}
use Rattle.octree_specs.specs.Meeting.{Meets}
use Rattle.octree_specs.specs.NodeCube.{node_cube}
use Rattle.octree_specs.specs.Parts.{part_with}

-- the face is put into the slots of the chosen codes, and all other slots stay. The first slot is that of the first code
pub record ArePut (Chosen : ℕ → Type 0) (first face : ℕ) (old new : List ℕ) : Type 0 where
  pub put : (place : ℕ) → Chosen (first + place) → slice_index new place ≡ lesser_slot (slice_index old place) face
  pub others : (place : ℕ) → (Chosen (first + place) → ⊥) → slice_index new place ≡ slice_index old place

-- the code of a part's first cell
abbrev pub first_of_part : GridShape → ℕ → ℕ → ℕ
first_of_part grid split part = part * 8 ^ (grid.depth - split)

-- the cell of this code lies in the part, and the triangle meets it
abbrev pub MeetsInPart : GridShape → ℕ → ℕ → Triangle → ℕ → Type 0
MeetsInPart grid split part t code = (part_with grid split code ≡ part) × Meets t (node_cube grid grid.depth code)

-- the cell of this code lies under one of a row of nodes of one height, and the triangle meets it
abbrev pub MetUnder : GridShape → Triangle → ℕ → ℕ → ℕ → ℕ → Type 0
MetUnder grid t height from to code = (from ≤ code / 8 ^ height) × ((code / 8 ^ height < to) × Meets t (node_cube grid grid.depth code))
