-- A node is not farther than what lies under it.
use Rattle.std.proofs.Common.{◌≡◌, ℕ, zero, suc, ◌+◌, ◌*◌, ◌/◌, ◌%◌, ◌^◌, ◌<◌, ◌≤◌, List, arith, sym, subst, ℤ, pos}
use Rattle.std.specs.List.{slice_index_or}
use Rattle.std.proofs.lemmas.Int.{ints}
use Rattle.svo_base.specs.GridShape.{GridShape}
use Rattle.svo_base.specs.declared.shapes.Cube.{Cube}
use Rattle.octree_specs.specs.Meeting.{low_of, high_of}
use Rattle.octree_laws.proofs.Under.{div-up}
use Rattle.ray_fraction.specs.Crossings.{box_of}
use Rattle.near_query.specs.Distances.{along, distance_of, distance_to}
use Rattle.near_query.proofs.ChildPlanes.{box_side, box_high, parent_high, child_low}
use Rattle.near_query.proofs.Intervals.{gap_grows, squares_grow}

side_once : (side bit : ℕ) → bit < 2 → side * bit + side ≤ 2 * side
side_once side zero below = omega arith
side_once side (suc zero) below = omega arith
side_once side (suc (suc bit)) below = absurd (omega (arith, below))

child_along : (point : List ℤ) (grid : GridShape) (height node place axis : ℕ) → height < grid.depth → axis < 3 → place < 8
    → along point (box_of grid (height + 1) node) axis ≤ along point (box_of grid height (8 * node + place)) axis
child_along point grid height node place axis within real octant =
    let side : ℕ = box_side grid height in
    let bit : ℕ = place / 2 ^ axis % 2 in
    let low = child_low grid height node place axis within real octant in
    let high = box_high grid height (8 * node + place) axis (omega (arith, within)) real in
    let whole = parent_high grid height node axis within real in
    let once : side * bit + side ≤ 2 * side = side_once side bit (omega arith) in
    gap_grows (slice_index_or point axis (pos 0)) (low_of (box_of grid height (8 * node + place)) axis) (high_of (box_of grid height (8 * node + place)) axis)
    (low_of (box_of grid (height + 1) node) axis) (high_of (box_of grid (height + 1) node) axis)
    (omega (arith, ints, low)) (omega (arith, ints, low, high, whole, once))

-- where each gap is not greater the distance is not
distance_grows : (point : List ℤ) (a b : Cube) → along point a 0 ≤ along point b 0 → along point a 1 ≤ along point b 1 → along point a 2 ≤ along point b 2 → distance_of point a ≤ distance_of point b
unfolding distance_of
distance_grows point a b x y z =
    omega (arith, squares_grow (along point a 0) (along point b 0) x, squares_grow (along point a 1) (along point b 1) y, squares_grow (along point a 2) (along point b 2) z)

pub child_farther : (point : List ℤ) (grid : GridShape) (height node place : ℕ) → height < grid.depth → place < 8 → distance_to point grid (height + 1) node ≤ distance_to point grid height (8 * node + place)
unfolding distance_to
child_farther point grid height node place within octant =
    distance_grows point (box_of grid (height + 1) node) (box_of grid height (8 * node + place))
    (child_along point grid height node place 0 within (omega arith) octant) (child_along point grid height node place 1 within (omega arith) octant) (child_along point grid height node place 2 within (omega arith) octant)

-- the nodes above a cell, up to the root
pub cell_farther : (point : List ℤ) (grid : GridShape) (height code : ℕ) → height ≤ grid.depth → distance_to point grid height (code / 8 ^ height) ≤ distance_to point grid 0 code
cell_farther point grid zero code within = let same : code / 8 ^ 0 ≡ code = omega arith in subst (λ c. distance_to point grid 0 c ≤ distance_to point grid 0 code) (sym same) (omega arith)
cell_farther point grid (suc height) code within =
    let parts : 8 * (code / 8 ^ height / 8) + code / 8 ^ height % 8 ≡ code / 8 ^ height = omega arith in
    let up : height + 1 ≡ suc height = omega arith in
    let child : distance_to point grid (height + 1) (code / 8 ^ height / 8) ≤ distance_to point grid height (8 * (code / 8 ^ height / 8) + code / 8 ^ height % 8) =
    child_farther point grid height (code / 8 ^ height / 8) (code / 8 ^ height % 8) (omega (arith, within)) (omega arith) in
    let parent : distance_to point grid (suc height) (code / 8 ^ suc height) ≤ distance_to point grid height (code / 8 ^ height) =
    subst (λ n. distance_to point grid (suc height) n ≤ distance_to point grid height (code / 8 ^ height)) (sym (div-up code height))
    (subst (λ h. distance_to point grid h (code / 8 ^ height / 8) ≤ distance_to point grid height (code / 8 ^ height)) up
    (subst (λ n. distance_to point grid (height + 1) (code / 8 ^ height / 8) ≤ distance_to point grid height n) parts child)) in
    omega (arith, parent, cell_farther point grid height code (omega (arith, within)))
