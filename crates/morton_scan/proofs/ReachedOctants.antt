-- A child that the triangle's box does not reach, as its halves along the axes say, is not met.
use Rattle.std.proofs.Common.{◌≡◌, ◌≢◌, ℕ, zero, suc, ◌+◌, ◌-◌, ◌*◌, ◌/◌, ◌%◌, ◌^◌, ◌<◌, ◌≤◌, Bool, true, false, ◌&&◌, ℤ, pos, ◌+ℤ◌, inl, inr, arith, refl, sym, ap, subst, ◌∙◌}
use Rattle.std.specs.Prelude.{int_le, Option, None, Some, IfSome}
use Rattle.std.proofs.lemmas.Bool.{cases_eq, and_parts, both_ways}
use Rattle.std.proofs.lemmas.Int.{ints}
use Rattle.svo_base.specs.GridShape.{GridShape}
use Rattle.svo_base.specs.declared.shapes.Cube.{Cube}
use Rattle.svo_base.specs.declared.shapes.Triangle.{Triangle}
use Rattle.octree_specs.specs.Meeting.{Meets, low_of, high_of}
use Rattle.octree_specs.specs.NodeCube.{low_plane, node_cube}
use Rattle.svo_base.specs.declared.boxes.Bounds.{Bounds}
use Rattle.svo_base.specs.declared.boxes.Extent.{Extent}
use Rattle.morton_scan.specs.declared.nodes.Node.{Node}
use Rattle.morton_scan.specs.declared.octants.Halves.{Halves}
use Rattle.morton_scan.specs.declared.octants.Octants.{Octants}
use Rattle.morton_scan.specs.Narrowing.{IsChildUnmet}
use Rattle.morton_scan.specs.Nodes.{IsNode}
use Rattle.svo_base.specs.Boxes.{bounds_of}
use Rattle.morton_scan.specs.Reaching.{bounds_reach, extent_reaches, halves_of, has_half, has_octant, octants_of}
use Rattle.morton_scan.proofs.Planes.{child_plane}
use Rattle.morton_scan.proofs.ReachedCubes.{reach_where_met}

-- of two halves the other one
other_half : (halves : Halves) (half bit : ℕ) → bit < 2 → ((other : ℕ) → other < 2 → other ≢ half → has_half halves other ≡ false) → has_half halves bit ≡ true → bit ≡ half
other_half halves half bit below only has = elim (cases_eq bit half) [
  | inl same ↦ same
  | inr apart ↦ absurd (both_ways (has_half halves bit) (only bit below apart) has)
]

not_true : (test : Bool) → (test ≡ true → ⊥) → test ≡ false
not_true true none = absurd (none refl)
not_true false none = refl

-- one octant alone
pub one_octant : (octants : Octants) (x y z octant : ℕ) → octant < 8 → octant ≢ x + 2 * y + 4 * z
    → ((other : ℕ) → other < 2 → other ≢ x → has_half octants.x other ≡ false)
    → ((other : ℕ) → other < 2 → other ≢ y → has_half octants.y other ≡ false)
    → ((other : ℕ) → other < 2 → other ≢ z → has_half octants.z other ≡ false) → has_octant octants octant ≡ false
unfolding has_octant
one_octant octants x y z octant below apart only_x only_y only_z = not_true (has_octant octants octant) (λ has.
    let parts = and_parts (has_half octants.x (octant % 2) && has_half octants.y (octant / 2 % 2)) (has_half octants.z (octant / 4 % 2)) has in
    let front = and_parts (has_half octants.x (octant % 2)) (has_half octants.y (octant / 2 % 2)) parts.0 in
    let is_x = other_half octants.x x (octant % 2) (omega arith) only_x front.0 in
    let is_y = other_half octants.y y (octant / 2 % 2) (omega arith) only_y front.1 in
    let is_z = other_half octants.z z (octant / 4 % 2) (omega arith) only_z parts.1 in
    apart (omega (arith, below, is_x, is_y, is_z)))

-- the half in which a child lies is reached where the child is
half_reached : (e : Extent) (child last : Cube) (axis bit side : ℕ) (low : ℤ) → bit < 2 → low_of last axis ≡ low +ℤ pos side
    → low_of child axis ≡ low +ℤ pos (side * bit) → high_of child axis ≡ low_of child axis +ℤ pos side
    → extent_reaches e child axis ≡ true → has_half (halves_of e last axis) bit ≡ true
half_reached e child last axis zero side low below is_last is_low is_high reached =
    let parts = and_parts _ _ reached in
    let none : side * 0 ≡ 0 = omega arith in
    let start : low_of child axis ≡ low +ℤ pos 0 = subst (λ n. low_of child axis ≡ low +ℤ pos n) none is_low in
    let same : high_of child axis ≡ low_of last axis = omega (arith, ints, is_last, start, is_high) in
    subst (λ plane. int_le e.low plane ≡ true) same parts.0
half_reached e child last axis (suc rest) side low below is_last is_low is_high reached =
    let parts = and_parts _ _ reached in
    let one : side * suc rest ≡ side = let e : suc rest ≡ 1 = omega (arith, below) in rw e (omega arith) in
    let same : low_of child axis ≡ low_of last axis = subst (λ n. low_of child axis ≡ low +ℤ pos n) one is_low ∙ sym is_last in
    subst (λ plane. int_le plane e.high ≡ true) same parts.1

-- the planes of a child by its code
pub record ChildPlanes (grid : GridShape) (level code axis side bit : ℕ) (low : ℤ) : Type 0 where
  pub lower : low_of (node_cube grid level code) axis ≡ low +ℤ pos (side * bit)
  pub upper : high_of (node_cube grid level code) axis ≡ low_of (node_cube grid level code) axis +ℤ pos side

child_planes_x : (grid : GridShape) (height code octant : ℕ) → height ≤ grid.depth → 0 < height → octant < 8
    → ChildPlanes grid (grid.depth - (height - 1)) (8 * code + octant) 0 (grid.cell * 2 ^ (height - 1)) (octant % 2) (low_plane grid (grid.depth - height) code 0)
unfolding node_cube
child_planes_x grid height code octant within above below =
    let half : grid.depth - (grid.depth - (height - 1)) ≡ height - 1 = omega arith in
    let bit : octant / 2 ^ 0 % 2 ≡ octant % 2 = omega arith in
    let planes = child_plane grid height code octant 0 (grid.cell * 2 ^ (height - 1)) within above (omega arith) below refl in
    record {
      lower = sym planes ∙ ap (λ n. low_plane grid (grid.depth - height) code 0 +ℤ pos (grid.cell * 2 ^ (height - 1) * n)) bit;
      upper = rw half refl;
    }

child_planes_y : (grid : GridShape) (height code octant : ℕ) → height ≤ grid.depth → 0 < height → octant < 8
    → ChildPlanes grid (grid.depth - (height - 1)) (8 * code + octant) 1 (grid.cell * 2 ^ (height - 1)) (octant / 2 % 2) (low_plane grid (grid.depth - height) code 1)
unfolding node_cube
child_planes_y grid height code octant within above below =
    let half : grid.depth - (grid.depth - (height - 1)) ≡ height - 1 = omega arith in
    let planes = child_plane grid height code octant 1 (grid.cell * 2 ^ (height - 1)) within above (omega arith) below refl in
    record { lower = sym planes; upper = rw half refl }

child_planes_z : (grid : GridShape) (height code octant : ℕ) → height ≤ grid.depth → 0 < height → octant < 8
    → ChildPlanes grid (grid.depth - (height - 1)) (8 * code + octant) 2 (grid.cell * 2 ^ (height - 1)) (octant / 4 % 2) (low_plane grid (grid.depth - height) code 2)
unfolding node_cube
child_planes_z grid height code octant within above below =
    let half : grid.depth - (grid.depth - (height - 1)) ≡ height - 1 = omega arith in
    let planes = child_plane grid height code octant 2 (grid.cell * 2 ^ (height - 1)) within above (omega arith) below refl in
    record { lower = sym planes; upper = rw half refl }

-- along one axis
axis_reached : (grid : GridShape) (e : Extent) (level code last axis side bit : ℕ) (low : ℤ) → bit < 2 → ChildPlanes grid level last axis side 1 low → ChildPlanes grid level code axis side bit low
    → extent_reaches e (node_cube grid level code) axis ≡ true → has_half (halves_of e (node_cube grid level last) axis) bit ≡ true
axis_reached grid e level code last axis side bit low below last_planes planes reached =
    let once : side * 1 ≡ side = omega arith in
    half_reached e (node_cube grid level code) (node_cube grid level last) axis bit side low below
    (subst (λ n. low_of (node_cube grid level last) axis ≡ low +ℤ pos n) once last_planes.lower) planes.lower planes.upper reached

reached_octant : (grid : GridShape) (b : Bounds) (height code octant : ℕ) → height ≤ grid.depth → 0 < height → octant < 8
    → bounds_reach b (node_cube grid (grid.depth - (height - 1)) (8 * code + octant)) ≡ true
    → has_octant (octants_of b (node_cube grid (grid.depth - (height - 1)) (8 * code + 7))) octant ≡ true
unfolding bounds_reach octants_of has_octant
reached_octant grid b height code octant within above below reached =
    let level : ℕ = grid.depth - (height - 1) in
    let cube : Cube = node_cube grid level (8 * code + octant) in
    let parts = and_parts (extent_reaches b.x cube 0 && extent_reaches b.y cube 1) (extent_reaches b.z cube 2) reached in
    let front = and_parts (extent_reaches b.x cube 0) (extent_reaches b.y cube 1) parts.0 in
    let x = axis_reached grid b.x level (8 * code + octant) (8 * code + 7) 0 _ (octant % 2) _ (omega arith)
    (child_planes_x grid height code 7 within above (omega arith)) (child_planes_x grid height code octant within above below) front.0 in
    let y = axis_reached grid b.y level (8 * code + octant) (8 * code + 7) 1 _ (octant / 2 % 2) _ (omega arith)
    (child_planes_y grid height code 7 within above (omega arith)) (child_planes_y grid height code octant within above below) front.1 in
    let z = axis_reached grid b.z level (8 * code + octant) (8 * code + 7) 2 _ (octant / 4 % 2) _ (omega arith)
    (child_planes_z grid height code 7 within above (omega arith)) (child_planes_z grid height code octant within above below) parts.1 in
    rw (x, y, z) refl

-- a child that is not reached is not met
pub unmet_octant : (grid : GridShape) (t : Triangle) (node last : Node) (b : Bounds) (octants : Octants) (octant : ℕ) → IsNode grid node → 0 < node.height → octant < 8
    → b ≡ bounds_of t → IsNode grid last → last.height + 1 ≡ node.height → last.code ≡ 8 * node.code + 7 → octants ≡ octants_of b last.cube → has_octant octants octant ≡ false
    → Meets t (node_cube grid (grid.depth - (node.height - 1)) (8 * node.code + octant)) → ⊥
unmet_octant grid t node last b octants octant is above below is_bounds is_last is_height is_code is_octants fails met =
    let same : last.height ≡ node.height - 1 = omega (arith, is_height) in
    let cube : last.cube ≡ node_cube grid (grid.depth - (node.height - 1)) (8 * node.code + 7) =
    is_last.is_cube ∙ ap (λ h. node_cube grid (grid.depth - h) last.code) same ∙ ap (λ c. node_cube grid (grid.depth - (node.height - 1)) c) is_code in
    let reached : bounds_reach b (node_cube grid (grid.depth - (node.height - 1)) (8 * node.code + octant)) ≡ true =
    subst (λ b. bounds_reach b (node_cube grid (grid.depth - (node.height - 1)) (8 * node.code + octant)) ≡ true) (sym is_bounds)
    (reach_where_met t (node_cube grid (grid.depth - (node.height - 1)) (8 * node.code + octant)) met) in
    let has : has_octant octants octant ≡ true =
    subst (λ o. has_octant o octant ≡ true) (sym (is_octants ∙ ap (λ cube. octants_of b cube) cube)) (reached_octant grid b node.height node.code octant is.within above below reached) in
    both_ways (has_octant octants octant) fails has

-- the octant that alone is reached is alone met
pub only_unmet : (grid : GridShape) (node : Node) (b : Bounds) (octants : Octants) (result : Option ℕ)
    → ((t : Triangle) → b ≡ bounds_of t → (octant : ℕ) → octant < 8 → has_octant octants octant ≡ false → IsChildUnmet grid t node octant)
    → IfSome result (λ octant. (other : ℕ) → other < 8 → other ≢ octant → has_octant octants other ≡ false)
    → IfSome result (λ octant. (t : Triangle) → b ≡ bounds_of t → (other : ℕ) → other < 8 → other ≢ octant → IsChildUnmet grid t node other)
only_unmet grid node b octants None unmet only = only
only_unmet grid node b octants (Some octant) unmet only = λ t is_bounds other below apart. unmet t is_bounds other below (only other below apart)
