-- The squares for a node's children, from halves of its cube.
use Rattle.std.proofs.Common.{◌≡◌, ℕ, zero, suc, ◌+◌, ◌*◌, ◌/◌, ◌%◌, ◌^◌, ◌<◌, List, cond, arith, refl, sym, ap, subst, ◌∙◌, ℤ, pos, ◌+ℤ◌}
use Rattle.std.specs.Prelude.{◌==◌}
use Rattle.std.specs.List.{slice_index_or}
use Rattle.std.proofs.lemmas.Int.{ints}
use Rattle.svo_base.specs.GridShape.{GridShape}
use Rattle.svo_base.specs.declared.shapes.Cube.{Cube}
use Rattle.octree_specs.specs.Meeting.{low_of, high_of}
use Rattle.ray_fraction.specs.Crossings.{box_of}
use Rattle.near_query.specs.Distances.{along, distance_of, distance_to, gap_of}
use Rattle.near_query.specs.Halves.{AreOctants, IsHalved, halves_at}
use Rattle.near_query.specs.declared.gaps.Halves.{Halves}
use Rattle.near_query.specs.declared.measures.Octants.{Octants}
use Rattle.near_query.proofs.ChildPlanes.{box_side, box_high, parent_high, child_low}

square_between : ℤ → ℤ → ℤ → ℕ
square_between at low high = gap_of at low high * gap_of at low high

-- the half that a bit names
half_is : (at low : ℤ) (side bit : ℕ) → bit < 2
    → cond (bit == 1) (halves_at at low side).upper (halves_at at low side).lower ≡ gap_of at (low +ℤ pos (side * bit)) ((low +ℤ pos (side * bit)) +ℤ pos side) * gap_of at (low +ℤ pos (side * bit)) ((low +ℤ pos (side * bit)) +ℤ pos side)
half_is at low side zero below =
    let begins : low +ℤ pos (side * 0) ≡ low = omega (arith, ints) in
    rw begins refl
half_is at low side (suc zero) below =
    let begins : low +ℤ pos (side * 1) ≡ low +ℤ pos side = omega (arith, ints) in
    let ends : low +ℤ pos (2 * side) ≡ (low +ℤ pos side) +ℤ pos side = omega (arith, ints) in
    rw (begins, ends) refl
half_is at low side (suc (suc bit)) below = absurd (omega (arith, below))

pub halved : (point : List ℤ) (grid : GridShape) (height node axis : ℕ) (cube : Cube) (halves : Halves) → height < grid.depth → axis < 3 → cube ≡ box_of grid (height + 1) node
    → ((size : ℕ) → high_of cube axis ≡ low_of cube axis +ℤ pos (2 * size) → halves ≡ halves_at (slice_index_or point axis (pos 0)) (low_of cube axis) size)
    → IsHalved point grid height node axis halves
halved point grid height node axis cube halves within real is by_size place octant =
    let at : ℤ = slice_index_or point axis (pos 0) in
    let side : ℕ = box_side grid height in
    let bit : ℕ = place / 2 ^ axis % 2 in
    let low : ℤ = low_of (box_of grid (height + 1) node) axis in
    let wide : high_of cube axis ≡ low_of cube axis +ℤ pos (2 * side) =
    subst (λ c. high_of c axis ≡ low_of c axis +ℤ pos (2 * side)) (sym is) (parent_high grid height node axis within real) in
    let halves_are : halves ≡ halves_at at low side = by_size side wide ∙ ap (λ c. halves_at at (low_of c axis) side) is in
    let begins : low_of (box_of grid height (8 * node + place)) axis ≡ low +ℤ pos (side * bit) = child_low grid height node place axis within real octant in
    let ends : high_of (box_of grid height (8 * node + place)) axis ≡ (low +ℤ pos (side * bit)) +ℤ pos side =
    box_high grid height (8 * node + place) axis (omega (arith, within)) real ∙ ap (λ l. l +ℤ pos side) begins in
    ap (λ h. cond (bit == 1) h.upper h.lower) halves_are
    ∙ (half_is at low side bit (omega arith)
    ∙ sym (ap (λ l. gap_of at l (high_of (box_of grid height (8 * node + place)) axis) * gap_of at l (high_of (box_of grid height (8 * node + place)) axis)) begins
    ∙ ap (λ h. gap_of at (low +ℤ pos (side * bit)) h * gap_of at (low +ℤ pos (side * bit)) h) ends))

pub added_up : (octants : Octants) (place : ℕ) (x y z : ℕ) → place < 8 → x ≡ cond (place % 2 == 1) octants.x.upper octants.x.lower → y ≡ cond (place / 2 % 2 == 1) octants.y.upper octants.y.lower → z ≡ cond (place / 4 % 2 == 1) octants.z.upper octants.z.lower
    → (point : List ℤ) (grid : GridShape) (height node : ℕ) → AreOctants point grid height node octants → x + y + z ≡ distance_to point grid height (8 * node + place)
unfolding distance_to distance_of
added_up octants place x y z octant is_x is_y is_z point grid height node are =
    let low : place / 2 ^ 0 ≡ place = omega arith in
    let first : x ≡ along point (box_of grid height (8 * node + place)) 0 * along point (box_of grid height (8 * node + place)) 0 =
    is_x ∙ (ap (λ p. cond (p % 2 == 1) octants.x.upper octants.x.lower) (sym low) ∙ are.x place octant) in
    let second : y ≡ along point (box_of grid height (8 * node + place)) 1 * along point (box_of grid height (8 * node + place)) 1 = is_y ∙ are.y place octant in
    let third : z ≡ along point (box_of grid height (8 * node + place)) 2 * along point (box_of grid height (8 * node + place)) 2 = is_z ∙ are.z place octant in
    ap (λ n. n + y + z) first ∙ (ap (λ n. along point (box_of grid height (8 * node + place)) 0 * along point (box_of grid height (8 * node + place)) 0 + n + z) second
    ∙ ap (λ n. along point (box_of grid height (8 * node + place)) 0 * along point (box_of grid height (8 * node + place)) 0 + along point (box_of grid height (8 * node + place)) 1 * along point (box_of grid height (8 * node + place)) 1 + n) third)
