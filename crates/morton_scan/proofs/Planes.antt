-- The planes of a child are those of its parent, or lie halfway between them.
use Rattle.std.proofs.Common.{◌≡◌, ℕ, suc, ◌+◌, ◌-◌, ◌*◌, ◌/◌, ◌%◌, ◌^◌, ◌<◌, ◌≤◌, [], ◌∷◌, get_or, ℤ, pos, ◌+ℤ◌, unsigned_abs, arith, refl, sym, subst, ◌∙◌}
use mir.Val.{to_z, of_z}
use Rattle.std.specs.Int.{w64}
use Rattle.std.proofs.Math.Nat.{pow-suc}
use Rattle.std.proofs.lemmas.Int.{ints}
use Rattle.std.proofs.lemmas.List.Elements.{All-get_or}
use Rattle.svo_base.specs.GridShape.{GridShape, IsGrid}
use Rattle.svo_base.specs.declared.shapes.Cube.{Cube}
use Rattle.octree_specs.specs.Meeting.{HasPlanes, low_of}
use Rattle.octree_specs.specs.NodeCube.{code_of, coordinate_of, side_of, low_plane, node_cube}
use Rattle.morton_scan.specs.declared.nodes.Node.{Node}
use Rattle.morton_scan.specs.Nodes.{IsNode}
use Rattle.morton_scan.proofs.Levels.{child_below}
use Rattle.morton_code.proofs.Children.{halves_coordinates}
use Rattle.morton_code.proofs.Coordinates.{code_below, code_of_short, coordinate_in_level, coordinate_of_short, x_of_code, y_of_code, z_of_code}
use Rattle.morton_code.proofs.Sides.{shifted_side, side_within, width_of_level, ends_within, plane_kept, all_of_three, is_shallow}

-- the side of a cube at a height, by a shift
pub side_kept : (z : ℤ) (cell depth height : ℕ) → z ≡ pos cell → height ≤ depth → 1 ≤ cell → cell * 2 ^ depth ≤ 2 ^ 32 → unsigned_abs (to_z w64 (of_z w64 z)) * 2 ^ height % 2 ^ 64 ≡ cell * 2 ^ height
side_kept z cell depth height is within solid narrow =
    let back : depth - (depth - height) ≡ height = omega arith in
    let shifted = shifted_side z cell depth depth (depth - height) is refl (omega arith) solid narrow in
    rw back at shifted

-- which is within the grid
pub side_narrow : (cell depth height : ℕ) → height ≤ depth → cell * 2 ^ depth ≤ 2 ^ 32 → cell * 2 ^ height ≤ 2 ^ 32
side_narrow cell depth height within narrow =
    let back : depth - (depth - height) ≡ height = omega arith in
    let narrow = side_within cell depth (depth - height) (omega arith) narrow in
    rw back at narrow

-- how far the planes of nodes are from 0
record Near (low : ℤ) (side : ℕ) : Type 0 where
  lower : unsigned_abs low ≤ 2 ^ 33
  upper : unsigned_abs (low +ℤ pos side) ≤ 2 ^ 33

planes_near : (grid : GridShape) (level code axis : ℕ) → IsGrid grid → level ≤ grid.depth → code < 8 ^ level → axis < 3 → Near (low_plane grid level code axis) (side_of grid level)
planes_near grid level code axis limits within below real =
    let shallow : level ≤ 20 = is_shallow grid level limits within in
    let origin : unsigned_abs (get_or grid.origin axis (pos 0)) ≤ 2 ^ 30 = All-get_or (λ o. unsigned_abs o ≤ 2 ^ 30) grid.origin axis (pos 0) (omega (arith, real, limits.axes)) limits.near in
    let at : coordinate_of axis level code < 2 ^ level = rw (← coordinate_of_short axis level 20 code shallow below) (coordinate_in_level axis level code shallow below) in
    let narrow : side_of grid level * 2 ^ level ≤ 2 ^ 32 = rw (width_of_level grid.cell grid.depth level within) limits.narrow in
    let ends : side_of grid level * coordinate_of axis level code + side_of grid level ≤ 2 ^ 32 = ends_within (side_of grid level) (2 ^ level) (coordinate_of axis level code) (2 ^ 32) at narrow in
    record { lower = omega (arith, ints, origin, ends); upper = omega (arith, ints, origin, ends) }

-- six planes that are kept in 64 bits make the cube of a node
pub cube_kept : (grid : GridShape) (level code : ℕ) (x y z u v w : ℤ) → IsGrid grid → level ≤ grid.depth → code < 8 ^ level
    → x ≡ low_plane grid level code 0 → y ≡ low_plane grid level code 1 → z ≡ low_plane grid level code 2
    → u ≡ low_plane grid level code 0 +ℤ pos (side_of grid level) → v ≡ low_plane grid level code 1 +ℤ pos (side_of grid level) → w ≡ low_plane grid level code 2 +ℤ pos (side_of grid level)
    → let cube : Cube = record { lo = to_z w64 (of_z w64 x) ∷ to_z w64 (of_z w64 y) ∷ to_z w64 (of_z w64 z) ∷ []; hi = to_z w64 (of_z w64 u) ∷ to_z w64 (of_z w64 v) ∷ to_z w64 (of_z w64 w) ∷ [] } in
    cube ≡ node_cube grid level code
unfolding node_cube
cube_kept grid level code x y z u v w limits within below is_x is_y is_z is_u is_v is_w =
    let near_x = planes_near grid level code 0 limits within below (omega arith) in
    let near_y = planes_near grid level code 1 limits within below (omega arith) in
    let near_z = planes_near grid level code 2 limits within below (omega arith) in
    rw (is_x, is_y, is_z, is_u, is_v, is_w, plane_kept _ near_x.lower, plane_kept _ near_y.lower, plane_kept _ near_z.lower, plane_kept _ near_x.upper, plane_kept _ near_y.upper, plane_kept _ near_z.upper) refl

-- and they are near
pub cube_near : (grid : GridShape) (level code : ℕ) → IsGrid grid → level ≤ grid.depth → code < 8 ^ level → HasPlanes (node_cube grid level code)
unfolding node_cube
cube_near grid level code limits within below =
    let near_x = planes_near grid level code 0 limits within below (omega arith) in
    let near_y = planes_near grid level code 1 limits within below (omega arith) in
    let near_z = planes_near grid level code 2 limits within below (omega arith) in
    record {
      lo = all_of_three (λ plane. unsigned_abs plane ≤ 2 ^ 33) _ _ _ near_x.lower near_y.lower near_z.lower;
      hi = all_of_three (λ plane. unsigned_abs plane ≤ 2 ^ 33) _ _ _ near_x.upper near_y.upper near_z.upper;
    }

-- halves of a side, counted from a node's plane and from the grid's corner
halves : (o : ℤ) (whole half at bit : ℕ) → whole ≡ 2 * half → (o +ℤ pos (whole * at)) +ℤ pos (half * bit) ≡ o +ℤ pos (half * (2 * at + bit))
halves o whole half at bit is =
    let joined : whole * at + half * bit ≡ half * (2 * at + bit) = rw is (omega arith) in
    omega (arith, ints, joined)

-- a child's lower plane, by its place among its siblings
pub child_plane : (grid : GridShape) (height code octant axis side : ℕ) → height ≤ grid.depth → 0 < height → axis < 3 → octant < 8 → side ≡ grid.cell * 2 ^ (height - 1)
    → low_plane grid (grid.depth - height) code axis +ℤ pos (side * (octant / 2 ^ axis % 2)) ≡ low_plane grid (grid.depth - (height - 1)) (8 * code + octant) axis
child_plane grid height code octant axis side within above real below is_side =
    let whole : grid.depth - (grid.depth - height) ≡ suc (height - 1) = omega arith in
    let half : grid.depth - (grid.depth - height + 1) ≡ height - 1 = omega arith in
    let lower : grid.depth - (height - 1) ≡ grid.depth - height + 1 = omega arith in
    let twice : grid.cell * 2 ^ suc (height - 1) ≡ 2 * (grid.cell * 2 ^ (height - 1)) = rw (pow-suc 2 (height - 1)) (omega arith) in
    rw (is_side, lower, whole, half, halves_coordinates.child axis (grid.depth - height) code octant real below)
    (halves (get_or grid.origin axis (pos 0)) (grid.cell * 2 ^ suc (height - 1)) (grid.cell * 2 ^ (height - 1)) (coordinate_of axis (grid.depth - height) code) (octant / 2 ^ axis % 2) twice)

-- the planes of a node's cube
pub low_of_node : (grid : GridShape) (cube : Cube) (level code : ℕ) → cube ≡ node_cube grid level code
    → (low_of cube 0 ≡ low_plane grid level code 0) × (low_of cube 1 ≡ low_plane grid level code 1) × (low_of cube 2 ≡ low_plane grid level code 2)
unfolding node_cube
low_of_node grid cube level code is = rw is (refl, refl, refl)

-- the side of a child
pub child_side : (grid : GridShape) (height side : ℕ) → height ≤ grid.depth → 0 < height → side ≡ grid.cell * 2 ^ (height - 1) → side ≡ side_of grid (grid.depth - (height - 1))
child_side grid height side within above is_side =
    let half : grid.depth - (grid.depth - (height - 1)) ≡ height - 1 = omega arith in
    rw half is_side

-- a child's lower plane, from its parent's as it is kept
lower_of_child : (grid : GridShape) (node : Node) (octant axis side bit : ℕ) (x : ℤ) → IsGrid grid → IsNode grid node → 0 < node.height → octant < 8 → axis < 3
    → side ≡ grid.cell * 2 ^ (node.height - 1) → low_of node.cube axis ≡ low_plane grid (grid.depth - node.height) node.code axis → bit ≡ octant / 2 ^ axis % 2
    → x ≡ to_z w64 (of_z w64 (low_of node.cube axis)) +ℤ pos (side * bit) → x ≡ low_plane grid (grid.depth - (node.height - 1)) (8 * node.code + octant) axis
lower_of_child grid node octant axis side bit x limits is above below real is_side is_low is_bit is_x =
    let near = planes_near grid (grid.depth - node.height) node.code axis limits (omega arith) is.below real in
    let kept : to_z w64 (of_z w64 (low_of node.cube axis)) ≡ low_plane grid (grid.depth - node.height) node.code axis = rw is_low (plane_kept _ near.lower) in
    is_x ∙ (rw (kept, is_bit) (child_plane grid node.height node.code octant axis side is.within above real below is_side))

-- and its upper one, from its own lower one
upper_of_child : (grid : GridShape) (level code axis side : ℕ) (x u : ℤ) → IsGrid grid → level ≤ grid.depth → code < 8 ^ level → axis < 3 → side ≡ side_of grid level
    → x ≡ low_plane grid level code axis → u ≡ to_z w64 (of_z w64 x) +ℤ pos (side * 1) → u ≡ low_plane grid level code axis +ℤ pos (side_of grid level)
upper_of_child grid level code axis side x u limits within below real is_side is_x is_u =
    let near = planes_near grid level code axis limits within below real in
    let kept : to_z w64 (of_z w64 x) ≡ low_plane grid level code axis = rw is_x (plane_kept _ near.lower) in
    let once : side * 1 ≡ side_of grid level = omega (arith, is_side) in
    is_u ∙ (rw (kept, once) refl)

-- the child of a node, whose planes are kept
pub child_is_node : (grid : GridShape) (node : Node) (octant side bit_x bit_y bit_z : ℕ) (x y z u v w : ℤ) → IsGrid grid → IsNode grid node → 0 < node.height → octant < 8
    → side ≡ grid.cell * 2 ^ (node.height - 1) → bit_x ≡ octant % 2 → bit_y ≡ octant / 2 % 2 → bit_z ≡ octant / 4 % 2
    → x ≡ to_z w64 (of_z w64 (low_of node.cube 0)) +ℤ pos (side * bit_x) → y ≡ to_z w64 (of_z w64 (low_of node.cube 1)) +ℤ pos (side * bit_y) → z ≡ to_z w64 (of_z w64 (low_of node.cube 2)) +ℤ pos (side * bit_z)
    → u ≡ to_z w64 (of_z w64 x) +ℤ pos (side * 1) → v ≡ to_z w64 (of_z w64 y) +ℤ pos (side * 1) → w ≡ to_z w64 (of_z w64 z) +ℤ pos (side * 1)
    → IsNode grid (record {
      height = node.height - 1;
      code = 8 * node.code + octant;
      cube = record { lo = to_z w64 (of_z w64 x) ∷ to_z w64 (of_z w64 y) ∷ to_z w64 (of_z w64 z) ∷ []; hi = to_z w64 (of_z w64 u) ∷ to_z w64 (of_z w64 v) ∷ to_z w64 (of_z w64 w) ∷ [] };
    })
child_is_node grid node octant side bit_x bit_y bit_z x y z u v w limits is above octant_below is_side is_bit_x is_bit_y is_bit_z is_x is_y is_z is_u is_v is_w =
    let level : ℕ = grid.depth - (node.height - 1) in
    let code : ℕ = 8 * node.code + octant in
    let within : level ≤ grid.depth = omega arith in
    let below : code < 8 ^ level = child_below grid.depth node.height (node.height - 1) node.code octant is.within (omega (arith, above)) octant_below is.below in
    let low = low_of_node grid node.cube (grid.depth - node.height) node.code is.is_cube in
    let side_is : side ≡ side_of grid level = child_side grid node.height side is.within above is_side in
    let x_is = lower_of_child grid node octant 0 side bit_x x limits is above octant_below (omega arith) is_side low.0 (omega (arith, is_bit_x)) is_x in
    let y_is = lower_of_child grid node octant 1 side bit_y y limits is above octant_below (omega arith) is_side low.1 (omega (arith, is_bit_y)) is_y in
    let z_is = lower_of_child grid node octant 2 side bit_z z limits is above octant_below (omega arith) is_side low.2 (omega (arith, is_bit_z)) is_z in
    let u_is = upper_of_child grid level code 0 side x u limits within below (omega arith) side_is x_is is_u in
    let v_is = upper_of_child grid level code 1 side y v limits within below (omega arith) side_is y_is is_v in
    let w_is = upper_of_child grid level code 2 side z w limits within below (omega arith) side_is z_is is_w in
    let cube = cube_kept grid level code x y z u v w limits within below x_is y_is z_is u_is v_is w_is in
    record {
      shallow = is.shallow;
      within = omega (arith, is.within);
      below = below;
      is_cube = cube;
      planes = subst HasPlanes (sym cube) (cube_near grid level code limits within below);
    }

-- ---- the cube of a cell, by its places along the axes

-- its lower plane along an axis
cell_low : (grid : GridShape) (axis place code : ℕ) (x : ℤ) → coordinate_of axis grid.depth code ≡ place → x ≡ get_or grid.origin axis (pos 0) +ℤ pos (grid.cell * place) → x ≡ low_plane grid grid.depth code axis
cell_low grid axis place code x is_place is_x =
    let none : grid.depth - grid.depth ≡ 0 = omega arith in
    let once : grid.cell * place ≡ grid.cell * 2 ^ 0 * place = omega arith in
    rw (none, is_place, ← once) is_x

pub cell_is_kept : (grid : GridShape) (at_x at_y at_z side : ℕ) (x y z u v w : ℤ) → IsGrid grid → at_x < 2 ^ grid.depth → at_y < 2 ^ grid.depth → at_z < 2 ^ grid.depth → side ≡ grid.cell * 2 ^ 0
    → x ≡ get_or grid.origin 0 (pos 0) +ℤ pos (grid.cell * at_x) → y ≡ get_or grid.origin 1 (pos 0) +ℤ pos (grid.cell * at_y) → z ≡ get_or grid.origin 2 (pos 0) +ℤ pos (grid.cell * at_z)
    → u ≡ to_z w64 (of_z w64 x) +ℤ pos (side * 1) → v ≡ to_z w64 (of_z w64 y) +ℤ pos (side * 1) → w ≡ to_z w64 (of_z w64 z) +ℤ pos (side * 1)
    → let cube : Cube = record { lo = to_z w64 (of_z w64 x) ∷ to_z w64 (of_z w64 y) ∷ to_z w64 (of_z w64 z) ∷ []; hi = to_z w64 (of_z w64 u) ∷ to_z w64 (of_z w64 v) ∷ to_z w64 (of_z w64 w) ∷ [] } in
    cube ≡ node_cube grid grid.depth (code_of 20 at_x at_y at_z)
cell_is_kept grid at_x at_y at_z side x y z u v w limits in_x in_y in_z is_side is_x is_y is_z is_u is_v is_w =
    let level : ℕ = grid.depth in
    let shallow : level ≤ 20 = is_shallow grid level limits (omega arith) in
    let short = code_of_short level 20 at_x at_y at_z shallow in_x in_y in_z in
    let code : ℕ = code_of level at_x at_y at_z in
    let below : code < 8 ^ level = code_below level at_x at_y at_z in
    let none : level - level ≡ 0 = omega arith in
    let side_is : side ≡ side_of grid level = rw none is_side in
    let x_is = cell_low grid 0 at_x code x (x_of_code level at_x at_y at_z in_x) is_x in
    let y_is = cell_low grid 1 at_y code y (y_of_code level at_x at_y at_z in_y) is_y in
    let z_is = cell_low grid 2 at_z code z (z_of_code level at_x at_y at_z in_z) is_z in
    let u_is = upper_of_child grid level code 0 side x u limits (omega arith) below (omega arith) side_is x_is is_u in
    let v_is = upper_of_child grid level code 1 side y v limits (omega arith) below (omega arith) side_is y_is is_v in
    let w_is = upper_of_child grid level code 2 side z w limits (omega arith) below (omega arith) side_is z_is is_w in
    rw short (cube_kept grid level code x y z u v w limits (omega arith) below x_is y_is z_is u_is v_is w_is)

-- and its planes are near
pub cell_near : (grid : GridShape) (at_x at_y at_z : ℕ) (cube : Cube) → IsGrid grid → at_x < 2 ^ grid.depth → at_y < 2 ^ grid.depth → at_z < 2 ^ grid.depth
    → cube ≡ node_cube grid grid.depth (code_of 20 at_x at_y at_z) → HasPlanes cube
cell_near grid at_x at_y at_z cube limits in_x in_y in_z is =
    let shallow : grid.depth ≤ 20 = is_shallow grid grid.depth limits (omega arith) in
    let short = code_of_short grid.depth 20 at_x at_y at_z shallow in_x in_y in_z in
    let below : code_of 20 at_x at_y at_z < 8 ^ grid.depth = rw short (code_below grid.depth at_x at_y at_z) in
    subst HasPlanes (sym is) (cube_near grid grid.depth (code_of 20 at_x at_y at_z) limits (omega arith) below)
