-- The columns of a part that an extent reaches along an axis, and those of a triangle.
use Rattle.std.specs.Prelude.{◌≡◌, ℕ, ◌+◌, ◌<◌, ◌≤◌, false, pos, ◌*ℤ◌, ◌≤ℤ◌, ◌<ℤ◌}
use Rattle.svo_base.specs.declared.boxes.Extent.{Extent}
use Rattle.svo_base.specs.declared.shapes.Triangle.{Triangle}
use Rattle.tri_partition.specs.declared.part_ranges.PartRange.{PartRange}
use Rattle.solid_parity.specs.Notes.{is_highest}
use Rattle.solid_parity.specs.Parity.{centre_at}
use Rattle.solid_parity.specs.PartCells.{Part, part_side, first_along}

-- centres of places before these lie below the extent, and those of places behind them lie not below its upper end
pub record AreReached (p : Part) (axis : ℕ) (extent : Extent) (places : PartRange) : Type 0 where
  pub within : places.to ≤ part_side p.grid p.split
  pub before : (place : ℕ) → place < places.from → centre_at p.grid axis (first_along p.grid p.split p.part axis + place) <ℤ (pos 2 *ℤ extent.low)
  pub behind : (place : ℕ) → places.to ≤ place → place < part_side p.grid p.split → (pos 2 *ℤ extent.high) ≤ℤ centre_at p.grid axis (first_along p.grid p.split p.part axis + place)

-- beside these columns along x the triangle is over no cell
pub record AreAcross (p : Part) (t : Triangle) (places : PartRange) : Type 0 where
  pub within : places.to ≤ part_side p.grid p.split
  pub before : (x y z : ℕ) → x < places.from → is_highest p t x y z ≡ false
  pub behind : (x y z : ℕ) → places.to ≤ x → x < part_side p.grid p.split → is_highest p t x y z ≡ false
