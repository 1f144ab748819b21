-- What a triangle leaves in the slots of a part's columns.
use Rattle.std.specs.Prelude.{◌≡◌, ℕ, ◌+◌, ◌<◌, Bool, true, false, ◌&&◌, not, nat_lt, List, slice_index, set as put_at}
use Rattle.svo_base.specs.declared.shapes.Triangle.{Triangle}
use Rattle.bit_grid.specs.Slots.{turned_slot}
use Rattle.octree_specs.specs.NodeCube.{code_of}
use Rattle.solid_parity.specs.PartCells.{Part, part_side, is_over_in}

-- of the cells of the part's column that the triangle is over, it is the highest
unfoldable pub is_highest : Part → Triangle → ℕ → ℕ → ℕ → Bool
is_highest p t x y z =
    is_over_in p.grid p.split p.part t x y z && not (nat_lt (z + 1) (part_side p.grid p.split) && is_over_in p.grid p.split p.part t x y (z + 1))

-- the slot of the cell at these places of the part
abbrev pub place_in : ℕ → ℕ → ℕ → ℕ
place_in x y z = code_of 20 x y z

-- the slot of the column's highest such cell is turned, and no other; where there is no such cell all slots stay
pub record IsNoted (p : Part) (t : Triangle) (x y : ℕ) (old new : List ℕ) : Type 0 where
  pub highest : (z : ℕ) → z < part_side p.grid p.split → is_highest p t x y z ≡ true → new ≡ put_at old (place_in x y z) (turned_slot (slice_index old (place_in x y z)))
  pub none : ((z : ℕ) → z < part_side p.grid p.split → is_highest p t x y z ≡ false) → new ≡ old
