-- Children of a node in the order in which a ray visits them, and a child's times among its parent's.
use Rattle.std.proofs.Common.{◌≡◌, ℕ, zero, suc, ◌+◌, ◌-◌, ◌*◌, ◌/◌, ◌%◌, ◌^◌, ◌<◌, ◌≤◌, true, false, Bool, cond, arith, refl, sym, ap, subst, ◌∙◌, inl, inr, ℤ, pos, ◌+ℤ◌, ◌*ℤ◌, ◌≤ℤ◌, ◌<ℤ◌, lit≤}
use Rattle.std.specs.List.{slice_index_or}
use Rattle.std.specs.Int.{is_negative}
use Rattle.std.proofs.Math.Nat.{mul-le-mul_left}
use Rattle.std.proofs.lemmas.Bool.{cases_Bool}
use Rattle.std.proofs.lemmas.Int.{ints}
use Rattle.std.proofs.lemmas.Nat.{pow-add, xor_lt}
use Rattle.std.proofs.lemmas.Nat.Bits.{bit_at_xor}
use Rattle.svo_base.specs.GridShape.{GridShape}
use Rattle.svo_base.specs.declared.shapes.Cube.{Cube}
use Rattle.octree_specs.specs.Meeting.{low_of, high_of}
use Rattle.octree_specs.specs.NodeCube.{coordinate_of, side_of, low_plane, node_cube}
use Rattle.morton_code.specs.Laws.{IsInside}
use Rattle.morton_code.proofs.Children.{halves_coordinates, cover_parent}
use Rattle.morton_code.proofs.Coordinates.{coordinate_below}
use Rattle.ray_fraction.specs.Crossings.{box_of, IsOffPlanes}
use Rattle.ray_fraction.specs.Fractions.{IsUpTo}
use Rattle.ray_fraction.specs.InCube.{IsInSlab, IsInAlong, InAt}
use Rattle.ray_fraction.specs.RayShape.{RayShape}
use Rattle.ray_walk.specs.Octants.{direction_along, origin_along, falls, turn_of, visited}
use Rattle.ray_walk.specs.Stays.{InBox, box_side}
use Rattle.ray_walk.proofs.Planes.{ordered_up, ordered_down, AreApart, apart}

-- ---- planes by coordinates

pub low_is : (grid : GridShape) (level node axis : ℕ) → axis < 3 → low_of (node_cube grid level node) axis ≡ low_plane grid level node axis
unfolding node_cube
low_is grid level node zero real = refl
low_is grid level node (suc zero) real = refl
low_is grid level node (suc (suc zero)) real = refl
low_is grid level node (suc (suc (suc axis))) real = absurd (omega arith)

pub high_is : (grid : GridShape) (level node axis : ℕ) → axis < 3 → high_of (node_cube grid level node) axis ≡ low_plane grid level node axis +ℤ pos (side_of grid level)
unfolding node_cube
high_is grid level node zero real = refl
high_is grid level node (suc zero) real = refl
high_is grid level node (suc (suc zero)) real = refl
high_is grid level node (suc (suc (suc axis))) real = absurd (omega arith)

pub side_is : (grid : GridShape) (height : ℕ) → height ≤ grid.depth → side_of grid (grid.depth - height) ≡ box_side grid height
side_is grid height within =
    let back : grid.depth - (grid.depth - height) ≡ height = omega arith in
    ap (λ h. grid.cell * 2 ^ h) back

-- the lower plane of a child
pub child_low : (grid : GridShape) (height node place axis : ℕ) → height < grid.depth → axis < 3 → place < 8
    → low_of (box_of grid height (8 * node + place)) axis
    ≡ slice_index_or grid.origin axis (pos 0) +ℤ pos (box_side grid height * (2 * coordinate_of axis (grid.depth - (height + 1)) node + place / 2 ^ axis % 2))
child_low grid height node place axis within real octant =
    let level : grid.depth - height ≡ (grid.depth - (height + 1)) + 1 = omega arith in
    let at : coordinate_of axis (grid.depth - height) (8 * node + place) ≡ 2 * coordinate_of axis (grid.depth - (height + 1)) node + place / 2 ^ axis % 2 =
    ap (λ l. coordinate_of axis l (8 * node + place)) level ∙ halves_coordinates.child axis (grid.depth - (height + 1)) node place real octant in
    let side : side_of grid (grid.depth - height) ≡ box_side grid height = side_is grid height (omega arith) in
    low_is grid (grid.depth - height) (8 * node + place) axis real
    ∙ ap (λ n. slice_index_or grid.origin axis (pos 0) +ℤ pos n) (ap (λ s. s * coordinate_of axis (grid.depth - height) (8 * node + place)) side ∙ ap (λ c. box_side grid height * c) at)

pub box_high : (grid : GridShape) (height node axis : ℕ) → height ≤ grid.depth → axis < 3 → high_of (box_of grid height node) axis ≡ low_of (box_of grid height node) axis +ℤ pos (box_side grid height)
box_high grid height node axis within real =
    high_is grid (grid.depth - height) node axis real
    ∙ (ap (λ s. low_plane grid (grid.depth - height) node axis +ℤ pos s) (side_is grid height within)
    ∙ ap (λ low. low +ℤ pos (box_side grid height)) (sym (low_is grid (grid.depth - height) node axis real)))

-- ---- bits of places

pub bit_small : (b : Bool) → cond b 1 0 ≤ 1
bit_small true = lit≤ tt
bit_small false = lit≤ tt

turn_bits : (a b c : Bool) (axis : ℕ) → axis < 3 → (d : Bool) → (axis ≡ 0 → d ≡ a) → (axis ≡ 1 → d ≡ b) → (axis ≡ 2 → d ≡ c)
    → (cond a 1 0 + 2 * cond b 1 0 + 4 * cond c 1 0) / 2 ^ axis % 2 ≡ cond d 1 0
turn_bits a b c zero real d x y z = rw (x refl) (omega (arith, bit_small a, bit_small b, bit_small c))
turn_bits a b c (suc zero) real d x y z = rw (y refl) (omega (arith, bit_small a, bit_small b, bit_small c))
turn_bits a b c (suc (suc zero)) real d x y z = rw (z refl) (omega (arith, bit_small a, bit_small b, bit_small c))
turn_bits a b c (suc (suc (suc axis))) real d x y z = absurd (omega arith)

pub turn_along : (ray : RayShape) (axis : ℕ) → axis < 3 → turn_of ray / 2 ^ axis % 2 ≡ cond (falls ray axis) 1 0
unfolding turn_of
turn_along ray axis real =
    turn_bits (falls ray 0) (falls ray 1) (falls ray 2) axis real (falls ray axis) (λ e. ap (falls ray) e) (λ e. ap (falls ray) e) (λ e. ap (falls ray) e)

pub turn_below : (ray : RayShape) → turn_of ray < 8
unfolding turn_of
turn_below ray = omega (arith, bit_small (falls ray 0), bit_small (falls ray 1), bit_small (falls ray 2))

pub visited_bit : (turn k axis : ℕ) → visited turn k / 2 ^ axis % 2 ≡ (k / 2 ^ axis % 2 + turn / 2 ^ axis % 2) % 2
unfolding visited
visited_bit turn k axis = bit_at_xor k turn axis

pub visited_below : (turn k : ℕ) → turn < 8 → k < 8 → visited turn k < 8
unfolding visited
visited_below turn k turned octant = xor_lt 3 k turn octant turned

-- ---- siblings

at_axis : (ray : RayShape) (cube : Cube) (n m axis : ℕ) → axis < 3 → InAt ray cube n m → IsInAlong axis ray cube n m
at_axis ray cube n m zero real at = at.x
at_axis ray cube n m (suc zero) real at = at.y
at_axis ray cube n m (suc (suc zero)) real at = at.z
at_axis ray cube n m (suc (suc (suc axis))) real at = absurd (omega arith)

-- a child of which the place's bit is known lies between two planes
in_half : (ray : RayShape) (grid : GridShape) (height node place axis bit n m : ℕ) → height < grid.depth → axis < 3 → place < 8 → place / 2 ^ axis % 2 ≡ bit → InBox ray grid height (8 * node + place) n m
    → let low : ℤ = slice_index_or grid.origin axis (pos 0) +ℤ pos (box_side grid height * (2 * coordinate_of axis (grid.depth - (height + 1)) node + bit)) in
    IsInSlab (origin_along ray axis) (direction_along ray axis) low (low +ℤ pos (box_side grid height)) n m
in_half ray grid height node place axis bit n m within real octant is at =
    let low : low_of (box_of grid height (8 * node + place)) axis ≡ slice_index_or grid.origin axis (pos 0) +ℤ pos (box_side grid height * (2 * coordinate_of axis (grid.depth - (height + 1)) node + bit)) =
    child_low grid height node place axis within real octant ∙ ap (λ b. slice_index_or grid.origin axis (pos 0) +ℤ pos (box_side grid height * (2 * coordinate_of axis (grid.depth - (height + 1)) node + b))) is in
    let high : high_of (box_of grid height (8 * node + place)) axis ≡ low_of (box_of grid height (8 * node + place)) axis +ℤ pos (box_side grid height) =
    box_high grid height (8 * node + place) axis (omega arith) real in
    let there : IsInAlong axis ray (box_of grid height (8 * node + place)) n m = at_axis ray (box_of grid height (8 * node + place)) n m axis real at in
    let lower : IsInSlab (origin_along ray axis) (direction_along ray axis) (low_of (box_of grid height (8 * node + place)) axis) (low_of (box_of grid height (8 * node + place)) axis +ℤ pos (box_side grid height)) n m =
    subst (λ plane. IsInSlab (origin_along ray axis) (direction_along ray axis) (low_of (box_of grid height (8 * node + place)) axis) plane n m) high there in
    subst (λ plane. IsInSlab (origin_along ray axis) (direction_along ray axis) plane (plane +ℤ pos (box_side grid height)) n m) low lower

-- the middle plane is one between cells
middle_within : (grid : GridShape) (height node axis : ℕ) → height < grid.depth → 2 ^ height * (2 * coordinate_of axis (grid.depth - (height + 1)) node + 1) ≤ 2 ^ grid.depth
middle_within grid height node axis within =
    let levels : ℕ = grid.depth - (height + 1) in
    let below : coordinate_of axis levels node < 2 ^ levels = coordinate_below axis levels node in
    let depth : grid.depth ≡ height + (1 + levels) = omega arith in
    let power : 2 ^ (height + (1 + levels)) ≡ 2 ^ height * 2 ^ (1 + levels) = pow-add 2 height (1 + levels) in
    let next : 2 ^ (1 + levels) ≡ 2 ^ 1 * 2 ^ levels = pow-add 2 1 levels in
    let inner : 2 * coordinate_of axis levels node + 1 ≤ 2 ^ (1 + levels) = omega (arith, next, below) in
    let whole : 2 ^ grid.depth ≡ 2 ^ height * 2 ^ (1 + levels) = ap (λ d. 2 ^ d) depth ∙ power in
    rw whole (mul-le-mul_left (2 ^ height) inner)

-- so a ray that stands along an axis does not run in it
off_middle : (ray : RayShape) (grid : GridShape) (height node axis : ℕ) → IsOffPlanes ray grid → height < grid.depth → axis < 3 → direction_along ray axis ≡ pos 0
    → origin_along ray axis ≡ slice_index_or grid.origin axis (pos 0) +ℤ pos (box_side grid height * (2 * coordinate_of axis (grid.depth - (height + 1)) node + 1)) → ⊥
off_middle ray grid height node axis off within real stands runs =
    let at : box_side grid height * (2 * coordinate_of axis (grid.depth - (height + 1)) node + 1) ≡ grid.cell * (2 ^ height * (2 * coordinate_of axis (grid.depth - (height + 1)) node + 1)) = omega arith in
    off axis (2 ^ height * (2 * coordinate_of axis (grid.depth - (height + 1)) node + 1)) real (middle_within grid height node axis within) stands
    (runs ∙ ap (λ n. slice_index_or grid.origin axis (pos 0) +ℤ pos n) at)

pub falls_below : (z : ℤ) → is_negative z ≡ true → z <ℤ pos 0
falls_below z down = omega (arith, ints, down)

pub rises_from : (z : ℤ) → is_negative z ≡ false → pos 0 ≤ℤ z
rises_from z up = omega (arith, ints, up)

-- a child is never left later than a following one is entered
pub siblings_in_order : (ray : RayShape) (grid : GridShape) → IsOffPlanes ray grid → (height node j k n m p q : ℕ) → height < grid.depth → j < k → k < 8
    → InBox ray grid height (8 * node + visited (turn_of ray) j) n m → InBox ray grid height (8 * node + visited (turn_of ray) k) p q → IsUpTo n m p q
siblings_in_order ray grid off height node j k n m p q within order below first second =
    let parted : AreApart j k = apart j k order below in
    let axis : ℕ = parted.axis in
    let real : axis < 3 = parted.real in
    let turned : turn_of ray / 2 ^ axis % 2 ≡ cond (falls ray axis) 1 0 = turn_along ray axis real in
    let first_bit : visited (turn_of ray) j / 2 ^ axis % 2 ≡ (j / 2 ^ axis % 2 + turn_of ray / 2 ^ axis % 2) % 2 = visited_bit (turn_of ray) j axis in
    let second_bit : visited (turn_of ray) k / 2 ^ axis % 2 ≡ (k / 2 ^ axis % 2 + turn_of ray / 2 ^ axis % 2) % 2 = visited_bit (turn_of ray) k axis in
    let first_place : visited (turn_of ray) j < 8 = visited_below (turn_of ray) j (turn_below ray) (omega arith) in
    let second_place : visited (turn_of ray) k < 8 = visited_below (turn_of ray) k (turn_below ray) below in
    let corner : ℤ = slice_index_or grid.origin axis (pos 0) in
    let side : ℕ = box_side grid height in
    let at : ℕ = coordinate_of axis (grid.depth - (height + 1)) node in
    let step : corner +ℤ pos (side * (2 * at + 1)) ≡ (corner +ℤ pos (side * (2 * at + 0))) +ℤ pos side = omega (arith, ints) in
    elim (cases_Bool (falls ray axis)) [
      | inr up ↦
          let turn_bit : turn_of ray / 2 ^ axis % 2 ≡ 0 = turned ∙ rw up refl in
          let lower : IsInSlab (origin_along ray axis) (direction_along ray axis) (corner +ℤ pos (side * (2 * at + 0))) ((corner +ℤ pos (side * (2 * at + 0))) +ℤ pos side) n m =
          in_half ray grid height node (visited (turn_of ray) j) axis 0 n m within real first_place (omega (arith, first_bit, turn_bit, parted.first)) first in
          let upper : IsInSlab (origin_along ray axis) (direction_along ray axis) (corner +ℤ pos (side * (2 * at + 1))) ((corner +ℤ pos (side * (2 * at + 1))) +ℤ pos side) p q =
          in_half ray grid height node (visited (turn_of ray) k) axis 1 p q within real second_place (omega (arith, second_bit, turn_bit, parted.second)) second in
          let reached : IsInSlab (origin_along ray axis) (direction_along ray axis) (corner +ℤ pos (side * (2 * at + 0))) (corner +ℤ pos (side * (2 * at + 1))) n m =
          subst (λ plane. IsInSlab (origin_along ray axis) (direction_along ray axis) (corner +ℤ pos (side * (2 * at + 0))) plane n m) (sym step) lower in
          ordered_up (origin_along ray axis) (direction_along ray axis) (corner +ℤ pos (side * (2 * at + 0))) (corner +ℤ pos (side * (2 * at + 1))) ((corner +ℤ pos (side * (2 * at + 1))) +ℤ pos side) n m p q
          (off_middle ray grid height node axis off within real) (rises_from (direction_along ray axis) up) first.some second.some reached upper
      | inl down ↦
          let turn_bit : turn_of ray / 2 ^ axis % 2 ≡ 1 = turned ∙ rw down refl in
          let upper : IsInSlab (origin_along ray axis) (direction_along ray axis) (corner +ℤ pos (side * (2 * at + 1))) ((corner +ℤ pos (side * (2 * at + 1))) +ℤ pos side) n m =
          in_half ray grid height node (visited (turn_of ray) j) axis 1 n m within real first_place (omega (arith, first_bit, turn_bit, parted.first)) first in
          let lower : IsInSlab (origin_along ray axis) (direction_along ray axis) (corner +ℤ pos (side * (2 * at + 0))) ((corner +ℤ pos (side * (2 * at + 0))) +ℤ pos side) p q =
          in_half ray grid height node (visited (turn_of ray) k) axis 0 p q within real second_place (omega (arith, second_bit, turn_bit, parted.second)) second in
          let reached : IsInSlab (origin_along ray axis) (direction_along ray axis) (corner +ℤ pos (side * (2 * at + 0))) (corner +ℤ pos (side * (2 * at + 1))) p q =
          subst (λ plane. IsInSlab (origin_along ray axis) (direction_along ray axis) (corner +ℤ pos (side * (2 * at + 0))) plane p q) (sym step) lower in
          ordered_down (origin_along ray axis) (direction_along ray axis) (corner +ℤ pos (side * (2 * at + 0))) (corner +ℤ pos (side * (2 * at + 1))) ((corner +ℤ pos (side * (2 * at + 1))) +ℤ pos side) n m p q
          (falls_below (direction_along ray axis) down) first.some second.some upper reached
    ]

-- ---- a child in its parent

pub child_in : (ray : RayShape) (grid : GridShape) (height node place n m : ℕ) → height < grid.depth → place < 8 → InBox ray grid height (8 * node + place) n m → InBox ray grid (height + 1) node n m
child_in ray grid height node place n m within octant at =
    let level : (grid.depth - (height + 1)) + 1 ≡ grid.depth - height = omega arith in
    let point : ℕ → ℤ = λ axis. (pos m *ℤ origin_along ray axis) +ℤ (pos n *ℤ direction_along ray axis) in
    let inside : IsInside m (point 0) (point 1) (point 2) (box_of grid height (8 * node + place)) = record {
      x_low = at.x.above;
      x_high = at.x.below;
      y_low = at.y.above;
      y_high = at.y.below;
      z_low = at.z.above;
      z_high = at.z.below;
    } in
    let parent : IsInside m (point 0) (point 1) (point 2) (box_of grid (height + 1) node) =
    cover_parent.within grid (grid.depth - (height + 1)) node place m (point 0) (point 1) (point 2) (omega arith) octant
    (subst (λ l. IsInside m (point 0) (point 1) (point 2) (node_cube grid l (8 * node + place))) (sym level) inside) in
    record {
      some = at.some;
      x = record { above = parent.x_low; below = parent.x_high };
      y = record { above = parent.y_low; below = parent.y_high };
      z = record { above = parent.z_low; below = parent.z_high };
    }
