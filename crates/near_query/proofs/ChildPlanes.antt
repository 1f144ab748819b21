-- The planes of a node's children.
use Rattle.std.proofs.Common.{◌≡◌, ℕ, zero, suc, ◌+◌, ◌-◌, ◌*◌, ◌/◌, ◌%◌, ◌^◌, ◌<◌, ◌≤◌, arith, refl, sym, ap, ◌∙◌, pos, ◌+ℤ◌}
use Rattle.std.specs.List.{slice_index_or}
use Rattle.std.proofs.Math.Nat.{pow-suc}
use Rattle.std.proofs.lemmas.Int.{ints}
use Rattle.svo_base.specs.GridShape.{GridShape}
use Rattle.octree_specs.specs.Meeting.{low_of, high_of}
use Rattle.octree_specs.specs.NodeCube.{coordinate_of, side_of, low_plane, node_cube}
use Rattle.morton_code.proofs.Children.{halves_coordinates}
use Rattle.ray_fraction.specs.Crossings.{box_of}

-- the side of a node's cube
abbrev pub box_side : GridShape → ℕ → ℕ
box_side grid height = grid.cell * 2 ^ height

low_is : (grid : GridShape) (level node axis : ℕ) → axis < 3 → low_of (node_cube grid level node) axis ≡ low_plane grid level node axis
unfolding node_cube
low_is grid level node zero real = refl
low_is grid level node (suc zero) real = refl
low_is grid level node (suc (suc zero)) real = refl
low_is grid level node (suc (suc (suc axis))) real = absurd (omega arith)

high_is : (grid : GridShape) (level node axis : ℕ) → axis < 3 → high_of (node_cube grid level node) axis ≡ low_plane grid level node axis +ℤ pos (side_of grid level)
unfolding node_cube
high_is grid level node zero real = refl
high_is grid level node (suc zero) real = refl
high_is grid level node (suc (suc zero)) real = refl
high_is grid level node (suc (suc (suc axis))) real = absurd (omega arith)

side_is : (grid : GridShape) (height : ℕ) → height ≤ grid.depth → side_of grid (grid.depth - height) ≡ box_side grid height
side_is grid height within =
    let back : grid.depth - (grid.depth - height) ≡ height = omega arith in
    ap (λ h. grid.cell * 2 ^ h) back

twice_side : (grid : GridShape) (height : ℕ) → box_side grid (height + 1) ≡ 2 * box_side grid height
twice_side grid height =
    let up : height + 1 ≡ suc height = omega arith in
    let power : 2 ^ suc height ≡ 2 ^ height * 2 = pow-suc 2 height in
    ap (λ h. grid.cell * 2 ^ h) up ∙ rw power (omega arith)

pub box_high : (grid : GridShape) (height node axis : ℕ) → height ≤ grid.depth → axis < 3 → high_of (box_of grid height node) axis ≡ low_of (box_of grid height node) axis +ℤ pos (box_side grid height)
box_high grid height node axis within real =
    high_is grid (grid.depth - height) node axis real
    ∙ (ap (λ s. low_plane grid (grid.depth - height) node axis +ℤ pos s) (side_is grid height within)
    ∙ ap (λ low. low +ℤ pos (box_side grid height)) (sym (low_is grid (grid.depth - height) node axis real)))

-- a parent's cube is twice as wide as its children's
pub parent_high : (grid : GridShape) (height node axis : ℕ) → height < grid.depth → axis < 3
    → high_of (box_of grid (height + 1) node) axis ≡ low_of (box_of grid (height + 1) node) axis +ℤ pos (2 * box_side grid height)
parent_high grid height node axis within real =
    box_high grid (height + 1) node axis (omega (arith, within)) real ∙ ap (λ s. low_of (box_of grid (height + 1) node) axis +ℤ pos s) (twice_side grid height)

-- a child begins with its parent, or a side farther where its place has the axis's bit
pub child_low : (grid : GridShape) (height node place axis : ℕ) → height < grid.depth → axis < 3 → place < 8
    → low_of (box_of grid height (8 * node + place)) axis ≡ low_of (box_of grid (height + 1) node) axis +ℤ pos (box_side grid height * (place / 2 ^ axis % 2))
child_low grid height node place axis within real octant =
    let side : ℕ = box_side grid height in
    let upper : ℕ = coordinate_of axis (grid.depth - (height + 1)) node in
    let bit : ℕ = place / 2 ^ axis % 2 in
    let level : grid.depth - height ≡ (grid.depth - (height + 1)) + 1 = omega (arith, within) in
    let at : coordinate_of axis (grid.depth - height) (8 * node + place) ≡ 2 * upper + bit =
    ap (λ l. coordinate_of axis l (8 * node + place)) level ∙ halves_coordinates.child axis (grid.depth - (height + 1)) node place real octant in
    let child : low_of (box_of grid height (8 * node + place)) axis ≡ slice_index_or grid.origin axis (pos 0) +ℤ pos (side * (2 * upper + bit)) =
    low_is grid (grid.depth - height) (8 * node + place) axis real
    ∙ ap (λ n. slice_index_or grid.origin axis (pos 0) +ℤ pos n) (ap (λ s. s * coordinate_of axis (grid.depth - height) (8 * node + place)) (side_is grid height (omega (arith, within))) ∙ ap (λ c. side * c) at) in
    let parent : low_of (box_of grid (height + 1) node) axis ≡ slice_index_or grid.origin axis (pos 0) +ℤ pos (2 * side * upper) =
    low_is grid (grid.depth - (height + 1)) node axis real
    ∙ ap (λ n. slice_index_or grid.origin axis (pos 0) +ℤ pos n) (ap (λ s. s * upper) (side_is grid (height + 1) (omega (arith, within)) ∙ twice_side grid height)) in
    let split : side * (2 * upper + bit) ≡ 2 * side * upper + side * bit = omega arith in
    omega (arith, ints, child, parent, split)
