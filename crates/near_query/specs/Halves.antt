-- Squares of gaps to halves of a cube.
use Rattle.std.specs.Prelude.{◌≡◌, ℕ, ◌+◌, ◌*◌, ◌/◌, ◌%◌, ◌^◌, ◌<◌, ◌≤◌, ◌==◌, cond, List, ℤ, pos, ◌+ℤ◌, unsigned_abs}
use Rattle.svo_base.specs.GridShape.{GridShape}
use Rattle.ray_fraction.specs.Crossings.{box_of}
use Rattle.near_query.specs.Distances.{along, gap_of}
use Rattle.near_query.specs.declared.gaps.Halves.{Halves}
use Rattle.near_query.specs.declared.gaps.Interval.{Interval}
use Rattle.near_query.specs.declared.measures.Octants.{Octants}

-- the planes are at most 2^33 away from 0
pub record IsKept (interval : Interval) : Type 0 where
  pub low : unsigned_abs interval.low ≤ 2 ^ 33
  pub high : unsigned_abs interval.high ≤ 2 ^ 33

-- the squares are those of gaps of at most 2^41
pub record AreSmall (halves : Halves) : Type 0 where
  pub lower : halves.lower ≤ 2 ^ 82
  pub upper : halves.upper ≤ 2 ^ 82

-- the squares for the two halves, of this size each, of what begins at `low`
abbrev pub halves_at : (at low : ℤ) → ℕ → Halves
halves_at at low size = record {
  lower = gap_of at low (low +ℤ pos size) * gap_of at low (low +ℤ pos size);
  upper = gap_of at (low +ℤ pos size) (low +ℤ pos (2 * size)) * gap_of at (low +ℤ pos size) (low +ℤ pos (2 * size));
}

-- the squares along an axis are those for the children of a node, which stand at this height
abbrev pub IsHalved : List ℤ → GridShape → ℕ → ℕ → ℕ → Halves → Type 0
IsHalved point grid height node axis halves =
    (place : ℕ) → place < 8
    → cond (place / 2 ^ axis % 2 == 1) halves.upper halves.lower ≡ along point (box_of grid height (8 * node + place)) axis * along point (box_of grid height (8 * node + place)) axis

-- and so along each axis
pub record AreOctants (point : List ℤ) (grid : GridShape) (height node : ℕ) (octants : Octants) : Type 0 where
  pub x : IsHalved point grid height node 0 octants.x
  pub y : IsHalved point grid height node 1 octants.y
  pub z : IsHalved point grid height node 2 octants.z
  pub small_x : AreSmall octants.x
  pub small_y : AreSmall octants.y
  pub small_z : AreSmall octants.z
