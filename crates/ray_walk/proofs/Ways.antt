-- How far ahead the planes of nodes are, in the way of a ray.
use Rattle.std.proofs.Common.{◌≡◌, ℕ, zero, suc, ◌+◌, ◌-◌, ◌*◌, ◌/◌, ◌%◌, ◌^◌, ◌<◌, ◌≤◌, ◌↔◌, true, false, cond, arith, refl, ap, ◌∙◌, inl, inr, ℤ, pos, ◌+ℤ◌, ◌-ℤ◌, ◌*ℤ◌, neg_ℤ, ◌≤ℤ◌, ◌<ℤ◌}
use Rattle.std.specs.Prelude.{unsigned_abs}
use Rattle.std.specs.List.{slice_index_or}
use Rattle.std.proofs.Math.Nat.{pow-suc}
use Rattle.std.proofs.lemmas.Bool.{cases_Bool}
use mir.Val.{to_z, of_z}
use Rattle.std.specs.Int.{w64}
use Rattle.std.proofs.lemmas.Int.{ints, to_z-of_z, fits_signed_from_abs}
use Rattle.svo_base.specs.GridShape.{GridShape}
use Rattle.octree_specs.specs.Meeting.{low_of, high_of}
use Rattle.octree_specs.specs.NodeCube.{coordinate_of, side_of}
use Rattle.octree_specs.proofs.Integers.{product_at_most, factor_at_most}
use Rattle.octree_specs.proofs.SignedTerms.{the, times, same}
use Rattle.morton_code.proofs.Coordinates.{coordinate_of_zero}
use Rattle.ray_fraction.specs.Crossings.{box_of}
use Rattle.ray_fraction.specs.InCube.{IsInAlong}
use Rattle.ray_fraction.specs.RayShape.{RayShape}
use Rattle.ray_fraction.specs.Spans.{HasGone}
use Rattle.ray_fraction.proofs.Gone.{gone_in_slab, gone_turned}
use Rattle.ray_walk.specs.Octants.{direction_along, origin_along, falls, turn_of, visited}
use Rattle.ray_walk.specs.Stays.{box_side, near_of}
use Rattle.ray_walk.proofs.Siblings.{low_is, side_is, child_low, box_high, turn_along, turn_below, visited_bit, visited_below, falls_below, rises_from}

-- ---- the way to a child's nearer plane

-- the lower plane of a parent, in its children's sides
parent_low : (grid : GridShape) (height node axis : ℕ) → height < grid.depth → axis < 3
    → low_of (box_of grid (height + 1) node) axis ≡ slice_index_or grid.origin axis (pos 0) +ℤ pos (box_side grid height * (2 * coordinate_of axis (grid.depth - (height + 1)) node))
parent_low grid height node axis within real =
    let up : height + 1 ≡ suc height = omega arith in
    let power : 2 ^ suc height ≡ 2 ^ height * 2 = pow-suc 2 height in
    let side : side_of grid (grid.depth - (height + 1)) ≡ 2 * box_side grid height = side_is grid (height + 1) (omega (arith, within)) ∙ (ap (λ h. grid.cell * 2 ^ h) up ∙ rw power (omega arith)) in
    let at : side_of grid (grid.depth - (height + 1)) * coordinate_of axis (grid.depth - (height + 1)) node ≡ box_side grid height * (2 * coordinate_of axis (grid.depth - (height + 1)) node) =
    ap (λ s. s * coordinate_of axis (grid.depth - (height + 1)) node) side ∙ omega arith in
    low_is grid (grid.depth - (height + 1)) node axis real ∙ ap (λ n. slice_index_or grid.origin axis (pos 0) +ℤ pos n) at

pub twice_side : (grid : GridShape) (height : ℕ) → box_side grid (height + 1) ≡ 2 * box_side grid height
twice_side grid height =
    let up : height + 1 ≡ suc height = omega arith in
    let power : 2 ^ suc height ≡ 2 ^ height * 2 = pow-suc 2 height in
    ap (λ h. grid.cell * 2 ^ h) up ∙ rw power (omega arith)

-- it is that of the parent, and farther by a side where the place in the order has the axis's bit
pub near_of_child : (ray : RayShape) (grid : GridShape) (axis height node k : ℕ) → axis < 3 → height < grid.depth → k < 8
    → near_of ray grid axis height (8 * node + visited (turn_of ray) k) ≡ near_of ray grid axis (height + 1) node +ℤ pos (box_side grid height * (k / 2 ^ axis % 2))
near_of_child ray grid axis height node k real within octant =
    let place : ℕ = visited (turn_of ray) k in
    let below : place < 8 = visited_below (turn_of ray) k (turn_below ray) octant in
    let bit : place / 2 ^ axis % 2 ≡ (k / 2 ^ axis % 2 + turn_of ray / 2 ^ axis % 2) % 2 = visited_bit (turn_of ray) k axis in
    let turned : turn_of ray / 2 ^ axis % 2 ≡ cond (falls ray axis) 1 0 = turn_along ray axis real in
    let corner : ℤ = slice_index_or grid.origin axis (pos 0) in
    let side : ℕ = box_side grid height in
    let at : ℕ = coordinate_of axis (grid.depth - (height + 1)) node in
    let low : low_of (box_of grid height (8 * node + place)) axis ≡ corner +ℤ pos (side * (2 * at + place / 2 ^ axis % 2)) = child_low grid height node place axis within real below in
    let high : high_of (box_of grid height (8 * node + place)) axis ≡ low_of (box_of grid height (8 * node + place)) axis +ℤ pos side = box_high grid height (8 * node + place) axis (omega (arith, within)) real in
    let parent : low_of (box_of grid (height + 1) node) axis ≡ corner +ℤ pos (side * (2 * at)) = parent_low grid height node axis within real in
    let parent_high : high_of (box_of grid (height + 1) node) axis ≡ low_of (box_of grid (height + 1) node) axis +ℤ pos (2 * side) =
    box_high grid (height + 1) node axis (omega (arith, within)) real ∙ ap (λ s. low_of (box_of grid (height + 1) node) axis +ℤ pos s) (twice_side grid height) in
    elim (cases_Bool (falls ray axis)) [
      | inr up ↦
          let same_bit : place / 2 ^ axis % 2 ≡ k / 2 ^ axis % 2 = let none : turn_of ray / 2 ^ axis % 2 ≡ 0 = turned ∙ rw up refl in omega (arith, bit, none) in
          let step : side * (2 * at + place / 2 ^ axis % 2) ≡ side * (2 * at) + side * (k / 2 ^ axis % 2) = rw same_bit (omega arith) in
          rw up (omega (arith, ints, low, parent, step))
      | inl down ↦
          let other : place / 2 ^ axis % 2 + k / 2 ^ axis % 2 ≡ 1 = let one : turn_of ray / 2 ^ axis % 2 ≡ 1 = turned ∙ rw down refl in omega (arith, bit, one) in
          let step : side * (2 * at + place / 2 ^ axis % 2) + side + side * (k / 2 ^ axis % 2) ≡ side * (2 * at) + 2 * side = joined side at (place / 2 ^ axis % 2) (k / 2 ^ axis % 2) other in
          rw down (omega (arith, ints, low, high, parent, parent_high, step))
    ]
  where
    joined : (side at b c : ℕ) → b + c ≡ 1 → side * (2 * at + b) + side + side * c ≡ side * (2 * at) + 2 * side
    joined side at zero c e = let one : c ≡ 1 = omega (arith, e) in rw one (omega arith)
    joined side at (suc zero) c e = let none : c ≡ 0 = omega (arith, e) in rw none (omega arith)
    joined side at (suc (suc b)) c e = absurd (omega (arith, e))

-- ---- the way to the whole grid

pub root_low : (grid : GridShape) (axis : ℕ) → axis < 3 → low_of (box_of grid grid.depth 0) axis ≡ slice_index_or grid.origin axis (pos 0)
root_low grid axis real =
    let at : side_of grid (grid.depth - grid.depth) * coordinate_of axis (grid.depth - grid.depth) 0 ≡ 0 = rw (coordinate_of_zero axis (grid.depth - grid.depth)) (omega arith) in
    low_is grid (grid.depth - grid.depth) 0 axis real ∙ rw at (omega (arith, ints))

pub root_high : (grid : GridShape) (axis : ℕ) → axis < 3 → high_of (box_of grid grid.depth 0) axis ≡ slice_index_or grid.origin axis (pos 0) +ℤ pos (box_side grid grid.depth)
root_high grid axis real = box_high grid grid.depth 0 axis (omega arith) real ∙ ap (λ low. low +ℤ pos (box_side grid grid.depth)) (root_low grid axis real)

pub near_falling : (ray : RayShape) (grid : GridShape) (axis : ℕ) (way upper : ℤ) → axis < 3 → falls ray axis ≡ true → upper ≡ slice_index_or grid.origin axis (pos 0) +ℤ pos (box_side grid grid.depth)
    → way ≡ origin_along ray axis -ℤ upper → way ≡ near_of ray grid axis grid.depth 0
near_falling ray grid axis way upper real down is_upper is = rw (down, root_high grid axis real, ← is_upper) is

pub near_rising : (ray : RayShape) (grid : GridShape) (axis : ℕ) (way : ℤ) → axis < 3 → falls ray axis ≡ false
    → way ≡ slice_index_or grid.origin axis (pos 0) -ℤ origin_along ray axis → way ≡ near_of ray grid axis grid.depth 0
near_rising ray grid axis way real up is = rw (up, root_low grid axis real) is

-- ---- the same in finer units

pub gone_finer : (pace : ℕ) (near far : ℤ) (speed n m : ℕ) → 1 ≤ pace → HasGone (pos pace *ℤ near) (pos pace *ℤ far) (pos (pace * speed)) n m ↔ HasGone near far (pos speed) n m
gone_finer pace near far speed n m some =
    let low : pos m *ℤ (pos pace *ℤ near) ≡ pos pace *ℤ (pos m *ℤ near) = turned near in
    let high : pos m *ℤ (pos pace *ℤ far) ≡ pos pace *ℤ (pos m *ℤ far) = turned far in
    let way : pos n *ℤ pos (pace * speed) ≡ pos pace *ℤ (pos n *ℤ pos speed) = omega (arith, ints) in
    let above : pos 0 <ℤ pos pace = omega (arith, ints, some) in
    let least : pos 0 ≤ℤ pos pace = omega (arith, ints) in (
      λ gone. record {
        near_passed = factor_at_most (pos pace) (pos m *ℤ near) (pos n *ℤ pos speed) above (rw (← low, ← way) gone.near_passed);
        far_ahead = factor_at_most (pos pace) (pos n *ℤ pos speed) (pos m *ℤ far) above (rw (← high, ← way) gone.far_ahead);
      },
      λ gone. record {
        near_passed = rw (low, way) (product_at_most (pos pace) (pos m *ℤ near) (pos n *ℤ pos speed) least gone.near_passed);
        far_ahead = rw (high, way) (product_at_most (pos pace) (pos n *ℤ pos speed) (pos m *ℤ far) least gone.far_ahead);
      },
    )
  where
    turned : (z : ℤ) → pos m *ℤ (pos pace *ℤ z) ≡ pos pace *ℤ (pos m *ℤ z)
    turned z = same (times (the (pos m)) (times (the (pos pace)) (the z))) (times (the (pos pace)) (times (the (pos m)) (the z))) (omega arith)

-- the planes seen in the way of the ray
pub gone_along : (ray : RayShape) (grid : GridShape) (axis height node n m : ℕ) → axis < 3 → height ≤ grid.depth
    → HasGone (near_of ray grid axis height node) (near_of ray grid axis height node +ℤ pos (box_side grid height)) (pos (unsigned_abs (direction_along ray axis))) n m ↔ IsInAlong axis ray (box_of grid height node) n m
gone_along ray grid axis height node n m real within =
    let high : high_of (box_of grid height node) axis ≡ low_of (box_of grid height node) axis +ℤ pos (box_side grid height) = box_high grid height node axis within real in
    elim (cases_Bool (falls ray axis)) [
      | inr up ↦
          let speed : pos (unsigned_abs (direction_along ray axis)) ≡ direction_along ray axis = size_up (direction_along ray axis) (rises_from (direction_along ray axis) up) in
          let far : (low_of (box_of grid height node) axis -ℤ origin_along ray axis) +ℤ pos (box_side grid height) ≡ high_of (box_of grid height node) axis -ℤ origin_along ray axis = omega (arith, ints, high) in
          rw (up, far) (gone_in_slab (origin_along ray axis) (direction_along ray axis) (low_of (box_of grid height node) axis) (high_of (box_of grid height node) axis)
          (low_of (box_of grid height node) axis -ℤ origin_along ray axis) (high_of (box_of grid height node) axis -ℤ origin_along ray axis) (pos (unsigned_abs (direction_along ray axis))) refl refl speed n m)
      | inl down ↦
          let speed : pos (unsigned_abs (direction_along ray axis)) ≡ neg_ℤ (direction_along ray axis) = size_down (direction_along ray axis) (falls_below (direction_along ray axis) down) in
          let to_low : ℤ = low_of (box_of grid height node) axis -ℤ origin_along ray axis in
          let to_high : ℤ = high_of (box_of grid height node) axis -ℤ origin_along ray axis in
          let near : origin_along ray axis -ℤ high_of (box_of grid height node) axis ≡ neg_ℤ to_high = omega (arith, ints) in
          let far : (origin_along ray axis -ℤ high_of (box_of grid height node) axis) +ℤ pos (box_side grid height) ≡ neg_ℤ to_low = omega (arith, ints, high) in
          let turned : HasGone (origin_along ray axis -ℤ high_of (box_of grid height node) axis) ((origin_along ray axis -ℤ high_of (box_of grid height node) axis) +ℤ pos (box_side grid height)) (pos (unsigned_abs (direction_along ray axis))) n m
          ↔ HasGone to_low to_high (direction_along ray axis) n m = gone_turned to_low to_high (direction_along ray axis) (origin_along ray axis -ℤ high_of (box_of grid height node) axis)
          ((origin_along ray axis -ℤ high_of (box_of grid height node) axis) +ℤ pos (box_side grid height)) (pos (unsigned_abs (direction_along ray axis))) near far speed n m in
          let slab : HasGone to_low to_high (direction_along ray axis) n m ↔ IsInAlong axis ray (box_of grid height node) n m =
          gone_in_slab (origin_along ray axis) (direction_along ray axis) (low_of (box_of grid height node) axis) (high_of (box_of grid height node) axis) to_low to_high (direction_along ray axis) refl refl refl n m in
          rw down (λ gone. slab.0 (turned.0 gone), λ at. turned.1 (slab.1 at))
    ]
  where
    size_up : (z : ℤ) → pos 0 ≤ℤ z → pos (unsigned_abs z) ≡ z
    size_up z up = omega (arith, ints, up)

    size_down : (z : ℤ) → z <ℤ pos 0 → pos (unsigned_abs z) ≡ neg_ℤ z
    size_down z down = omega (arith, ints, down)

-- a way is kept in 64 bits
pub kept : (z : ℤ) → unsigned_abs z ≤ 2 ^ 41 → to_z w64 (of_z w64 z) ≡ z
kept z near = to_z-of_z w64 z (fits_signed_from_abs w64 z (omega (arith, near)))
