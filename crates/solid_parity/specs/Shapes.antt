-- A triangle prepared for many columns.
use Rattle.std.specs.Prelude.{◌≡◌, ℕ, ◌<◌, ◌≤◌, ◌^◌, true, false, ℤ, pos, ◌*ℤ◌}
use Rattle.svo_base.specs.declared.shapes.Triangle.{Triangle}
use Rattle.svo_base.specs.declared.shapes.Vector.{Vector}
use Rattle.octree_specs.specs.Vectors.{IsWithin}
use Rattle.solid_parity.specs.Parity.{normal_of}
use Rattle.solid_parity.specs.PartCells.{Part, part_side, is_over_in}
use Rattle.solid_parity.specs.Seen.{IsCorner}
use Rattle.solid_parity.specs.declared.seen.Seen.{Seen}

-- a corner's doubled x and y
pub record IsDoubled (s : Seen) (x y : ℤ) : Type 0 where
  pub x_is : s.x ≡ pos 2 *ℤ x
  pub y_is : s.y ≡ pos 2 *ℤ y
  pub within : IsCorner s

-- the doubled corners and the normal are those of the triangle
pub record IsPrepared (t : Triangle) (a b c : Seen) (normal : Vector) : Type 0 where
  pub a_is : IsDoubled a t.a.x t.a.y
  pub b_is : IsDoubled b t.b.x t.b.y
  pub c_is : IsDoubled c t.c.x t.c.y
  pub normal_is : normal ≡ normal_of t
  pub near : IsWithin (2 ^ 69) normal

-- of a part's column these are the cells, from the lowest on, that the triangle is over
pub record AreUnder (p : Part) (t : Triangle) (x y count : ℕ) : Type 0 where
  pub within : count ≤ part_side p.grid p.split
  pub over : (z : ℕ) → z < count → is_over_in p.grid p.split p.part t x y z ≡ true
  pub others : (z : ℕ) → count ≤ z → z < part_side p.grid p.split → is_over_in p.grid p.split p.part t x y z ≡ false
