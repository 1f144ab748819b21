-- A column's numbers against a triangle's plane, and what 64 and 128 bits keep.
use Rattle.std.proofs.Common.{◌≡◌, ℕ, ◌+◌, ◌*◌, ◌^◌, ◌≤◌, ◌<◌, ℤ, pos, ◌+ℤ◌, ◌-ℤ◌, ◌*ℤ◌, unsigned_abs, arith, ap, refl, ◌-◌, ◌%◌, ◌∙◌, mul-le-mul_left, slice_index_or, lit<}
use Rattle.std.proofs.Math.Nat.{pow-le-pow_right}
use Rattle.std.proofs.lemmas.Nat.{pow_pos, pow-add}
use Rattle.std.proofs.lemmas.List.Elements.{All-get_or}
use Rattle.std.specs.Int.{w64, w128}
use Rattle.std.proofs.lemmas.Int.{ints, to_z-of_z, fits_signed_from_abs}
use Rattle.svo_base.specs.GridShape.{GridShape, IsGrid}
use Rattle.svo_base.specs.declared.shapes.Triangle.{Triangle}
use Rattle.morton_code.proofs.Coordinates.{coordinate_below}
use Rattle.octree_specs.specs.NodeCube.{coordinate_of, low_plane}
use Rattle.octree_specs.specs.Vectors.{vector}
use Rattle.solid_parity.specs.Heights.{is_above_at}
use Rattle.solid_parity.specs.Parity.{centre_at, have_opposite_signs, normal_of, is_above}
use Rattle.solid_parity.specs.PartCells.{part_side, first_along, HasCentres}
use mir.Val.{to_z, of_z}

pub kept_64 : (z : ℤ) → unsigned_abs z ≤ 2 ^ 35 → to_z w64 (of_z w64 z) ≡ z
kept_64 z near = to_z-of_z w64 z (fits_signed_from_abs w64 z (omega arith))

pub kept_128 : (z : ℤ) → unsigned_abs z ≤ 2 ^ 105 → to_z w128 (of_z w128 z) ≡ z
kept_128 z near = to_z-of_z w128 z (fits_signed_from_abs w128 z (omega arith))

moved : (low height corner : ℤ) → (low -ℤ corner) +ℤ height ≡ (low +ℤ height) -ℤ corner
moved low height corner = omega (arith, ints)

-- the plane passes above a centre of the column, said by the column's numbers
pub above_is : (t : Triangle) (x y slope base low from : ℤ) (step place : ℕ) → slope ≡ (normal_of t).z
    → base ≡ ((normal_of t).x *ℤ (x -ℤ (pos 2 *ℤ t.a.x))) +ℤ ((normal_of t).y *ℤ (y -ℤ (pos 2 *ℤ t.a.y)))
    → from ≡ low -ℤ (pos 2 *ℤ t.a.z)
    → is_above_at (record { slope = slope; base = base; low = from; step = step }) place ≡ is_above t (vector x y (low +ℤ pos (step * place)))
unfolding is_above_at is_above
above_is t x y slope base low from step place is_slope is_base is_from =
    rw (is_slope, is_base, is_from)
    (ap (λ height. have_opposite_signs (normal_of t).z ((((normal_of t).x *ℤ (x -ℤ (pos 2 *ℤ t.a.x))) +ℤ ((normal_of t).y *ℤ (y -ℤ (pos 2 *ℤ t.a.y)))) +ℤ ((normal_of t).z *ℤ height)))
    (moved low (pos (step * place)) (pos 2 *ℤ t.a.z)))

-- the centre of the first cell above a plane between parts
pub first_is : (o : ℤ) (cell side at : ℕ) → (pos 2 *ℤ (o +ℤ pos (cell * side * at))) +ℤ pos cell ≡ (pos 2 *ℤ o) +ℤ pos (cell * (2 * (at * side) + 1))
first_is o cell side at = omega (arith, ints)

pub sum_kept : (a b : ℤ) → unsigned_abs a ≤ 2 ^ 103 → unsigned_abs b ≤ 2 ^ 103 → to_z w128 (of_z w128 (to_z w128 (of_z w128 a) +ℤ to_z w128 (of_z w128 b))) ≡ a +ℤ b
sum_kept a b p q = rw (kept_128 a (omega (arith, p)), kept_128 b (omega (arith, q))) (kept_128 (a +ℤ b) (omega (arith, ints, p, q)))

pub narrow_cell : (cell depth : ℕ) → cell * 2 ^ depth ≤ 2 ^ 32 → cell ≤ 2 ^ 32
narrow_cell cell depth narrow =
    let most : cell * 1 ≤ cell * 2 ^ depth = mul-le-mul_left cell (pow_pos depth) in omega (arith, most, narrow)

pub kept_cell : (z : ℤ) (cell depth : ℕ) → z ≡ pos cell → cell * 2 ^ depth ≤ 2 ^ 32 → to_z w64 (of_z w64 z) ≡ pos cell
kept_cell z cell depth is narrow = rw is (kept_64 (pos cell) (omega (arith, ints, narrow_cell cell depth narrow)))

-- the centre of the first cell of a part, from the part's lower plane
pub first_from : (grid : GridShape) (split part axis : ℕ) (low cell first : ℤ) → low ≡ low_plane grid split part axis → cell ≡ pos grid.cell → first ≡ (pos 2 *ℤ low) +ℤ cell
    → unsigned_abs first ≤ 2 ^ 35 → to_z w64 (of_z w64 first) ≡ centre_at grid axis (first_along grid split part axis)
first_from grid split part axis low cell first is_low is_cell is_first within =
    kept_64 first within
    ∙ (is_first ∙ (rw (is_low, is_cell) refl ∙ first_is (slice_index_or grid.origin axis (pos 0)) grid.cell (2 ^ (grid.depth - split)) (coordinate_of axis split part)))

pub two_cells : (cell : ℕ) (z : ℤ) → z ≡ pos cell → 2 * unsigned_abs z ≡ 2 * cell
two_cells cell z is = rw is refl

pub shifted_one : (depth halved split : ℕ) → halved ≡ depth → depth ≤ 12 → 1 * 2 ^ (halved - split) % 4294967296 ≡ 2 ^ (depth - split)
shifted_one depth halved split is shallow =
    let most : 2 ^ (depth - split) ≤ 2 ^ 12 = pow-le-pow_right {n = 2} (lit< tt) {i = depth - split} {j = 12} (omega (arith, shallow)) in
    rw is (omega (arith, most))

near_origin : (grid : GridShape) (axis : ℕ) → IsGrid grid → axis < 3 → unsigned_abs (slice_index_or grid.origin axis (pos 0)) ≤ 2 ^ 30
near_origin grid axis limits three = All-get_or (λ o. unsigned_abs o ≤ 2 ^ 30) grid.origin axis (pos 0) (omega (arith, three, limits.axes)) limits.near

-- the centres of a part, and one step more, are near
reached : (o first : ℤ) (cell depth split at steps many : ℕ) → unsigned_abs o ≤ 2 ^ 30 → 1 ≤ depth → split ≤ depth → at < 2 ^ split → cell * 2 ^ depth ≤ 2 ^ 32
    → first ≡ (pos 2 *ℤ o) +ℤ pos (cell * (2 * (at * 2 ^ (depth - split)) + 1)) → steps ≡ 2 * cell → many ≡ 2 ^ (depth - split) → unsigned_abs first + steps * many ≤ 6 * 2 ^ 31
reached o first cell depth split at steps many near halved shallow below narrow is_first is_steps is_many =
    let side : ℕ = 2 ^ (depth - split) in
    let power : 2 ^ ((depth - split) + split) ≡ side * 2 ^ split = pow-add 2 (depth - split) split in
    let total : (depth - split) + split ≡ depth = omega (arith, shallow) in
    let whole : 2 ^ depth ≡ side * 2 ^ split = rw total at power in
    let most : side * (at + 1) ≤ side * 2 ^ split = mul-le-mul_left side (omega (arith, below)) in
    let wide : cell * (side * (at + 1)) ≤ cell * 2 ^ depth = mul-le-mul_left cell (omega (arith, most, whole)) in
    let two : 2 ^ 1 ≤ 2 ^ depth = pow-le-pow_right {n = 2} (lit< tt) {i = 1} {j = depth} halved in
    let small : cell * 2 ≤ cell * 2 ^ depth = mul-le-mul_left cell two in
    rw (is_first, is_steps, is_many) (omega (arith, ints, near, wide, small, narrow))

pub centres_from : (grid : GridShape) (split part : ℕ) (x y z : ℤ) (steps many : ℕ) → IsGrid grid → split ≤ grid.depth
    → x ≡ centre_at grid 0 (first_along grid split part 0) → y ≡ centre_at grid 1 (first_along grid split part 1) → z ≡ centre_at grid 2 (first_along grid split part 2)
    → steps ≡ 2 * grid.cell → many ≡ part_side grid split → HasCentres (record { grid = grid; split = split; part = part }) x y z steps many
centres_from grid split part x y z steps many limits shallow is_x is_y is_z is_steps is_many =
    let near : (axis : ℕ) → axis < 3 → (first : ℤ) → first ≡ centre_at grid axis (first_along grid split part axis) → unsigned_abs first + steps * many ≤ 6 * 2 ^ 31 =
    λ axis three first is. reached (slice_index_or grid.origin axis (pos 0)) first grid.cell grid.depth split (coordinate_of axis split part) steps many
    (near_origin grid axis limits three) limits.halved shallow (coordinate_below axis split part) limits.narrow is is_steps is_many
    in
    let most : 2 ^ (grid.depth - split) ≤ 2 ^ 12 = pow-le-pow_right {n = 2} (lit< tt) {i = grid.depth - split} {j = 12} (omega (arith, limits.shallow)) in
    record {
      x_is = is_x;
      y_is = is_y;
      z_is = is_z;
      step_is = is_steps;
      moves = omega (arith, is_steps, limits.solid);
      side_is = is_many;
      x_near = near 0 (omega arith) x is_x;
      y_near = near 1 (omega arith) y is_y;
      z_near = near 2 (omega arith) z is_z;
      short = omega (arith, is_many, most);
    }
