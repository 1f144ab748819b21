-- How far the cubes of a level reach.
use Rattle.std.proofs.Common.{◌%◌, [], ◌∷◌, All, refl, get_or, ◌≡◌, ℕ, ◌+◌, ◌-◌, ◌*◌, ◌^◌, ◌<◌, ◌≤◌, ℤ, pos, ◌+ℤ◌, unsigned_abs, subst, sym, ap, arith}
use Rattle.std.proofs.lemmas.Int.{ints, to_z_pos, to_z-of_z, fits_signed_from_abs}
use Rattle.svo_base.specs.GridShape.{GridShape, IsGrid}
use Rattle.svo_base.specs.declared.shapes.Cube.{Cube}
use Rattle.octree_specs.specs.NodeCube.{coordinate_of, side_of, node_cube}
use Rattle.std.proofs.lemmas.List.Elements.{All-cons, All-nil}
use Rattle.morton_code.specs.Cubes.{plane_at}
use mir.Val.{to_z, of_z}
use Rattle.std.specs.Int.{w64}
use Rattle.std.proofs.Math.Nat.{mul-le-mul_left}
use Rattle.std.proofs.lemmas.Nat.{pow-add, pow_pos}

-- the side of a level times the level's width is the grid's width
pub width_of_level : (cell depth level : ℕ) → level ≤ depth → cell * 2 ^ (depth - level) * 2 ^ level ≡ cell * 2 ^ depth
width_of_level cell depth level h =
    let whole : (depth - level) + level ≡ depth = omega arith in
    let power : 2 ^ ((depth - level) + level) ≡ 2 ^ (depth - level) * 2 ^ level = pow-add 2 (depth - level) level in
    let joined : 2 ^ depth ≡ 2 ^ (depth - level) * 2 ^ level = rw whole at power in
    rw joined (omega arith)

-- a cube that begins at a coordinate ends within the level's width
pub ends_within : (side width at limit : ℕ) → at < width → side * width ≤ limit → side * at + side ≤ limit
ends_within side width at limit below narrow =
    let most : side * (at + 1) ≤ side * width = mul-le-mul_left side (omega arith) in
    omega (arith, most)

-- a side is within the grid's width
pub side_within : (cell depth level : ℕ) → level ≤ depth → cell * 2 ^ depth ≤ 2 ^ 32 → cell * 2 ^ (depth - level) ≤ 2 ^ 32
side_within cell depth level h narrow =
    let whole : cell * 2 ^ (depth - level) * 2 ^ level ≡ cell * 2 ^ depth = width_of_level cell depth level h in
    let grows : cell * 2 ^ (depth - level) * 1 ≤ cell * 2 ^ (depth - level) * 2 ^ level = mul-le-mul_left (cell * 2 ^ (depth - level)) (pow_pos level) in
    omega (arith, whole, grows)

-- the number that a shift of a cell's side gives
pub shifted_side : (z : ℤ) (cell depth halved level : ℕ) → z ≡ pos cell → halved ≡ depth → level ≤ depth → 1 ≤ cell → cell * 2 ^ depth ≤ 2 ^ 32 → unsigned_abs (to_z w64 (of_z w64 z)) * 2 ^ (halved - level) % 2 ^ 64 ≡ cell * 2 ^ (depth - level)
shifted_side z cell depth halved level is_cell is_depth h solid narrow =
    let side : cell * 2 ^ (depth - level) ≤ 2 ^ 32 = side_within cell depth level h narrow in
    let one : cell * 1 ≤ cell * 2 ^ (depth - level) = mul-le-mul_left cell (pow_pos (depth - level)) in
    let short : cell < 2 ^ 63 = omega (arith, one, side) in
    let same : unsigned_abs (to_z w64 (of_z w64 (pos cell))) ≡ cell = ap unsigned_abs (to_z_pos w64 cell short) in
    rw (is_cell, is_depth, same) (omega (arith, side))

-- two steps above a plane are one
pub plane_twice : (o : ℤ) (a b : ℕ) → o +ℤ pos (a + b) ≡ (o +ℤ pos a) +ℤ pos b
plane_twice o a b = omega (arith, ints)

-- a plane is kept in 64 bits
pub plane_kept : (z : ℤ) → unsigned_abs z ≤ 2 ^ 33 → to_z w64 (of_z w64 z) ≡ z
plane_kept z near = to_z-of_z w64 z (fits_signed_from_abs w64 z (omega arith))

-- the cube of a node, from the distances of its lower planes
pub cube_from_offsets : (grid : GridShape) (level code side x y z : ℕ) →
    side ≡ side_of grid level → x ≡ side * coordinate_of 0 level code → y ≡ side * coordinate_of 1 level code → z ≡ side * coordinate_of 2 level code →
    let at : ℕ → ℕ → ℤ = plane_at grid.origin in
    let cube : Cube = record { lo = at 0 x ∷ at 1 y ∷ at 2 z ∷ []; hi = at 0 (x + side) ∷ at 1 (y + side) ∷ at 2 (z + side) ∷ [] } in
    cube ≡ node_cube grid level code
unfolding node_cube
cube_from_offsets grid level code side x y z is_side is_x is_y is_z =
    let twice : (axis : ℕ) → plane_at grid.origin axis (side_of grid level * coordinate_of axis level code + side_of grid level) ≡ plane_at grid.origin axis (side_of grid level * coordinate_of axis level code) +ℤ pos (side_of grid level) =
    λ axis. plane_twice (get_or grid.origin axis (pos 0)) (side_of grid level * coordinate_of axis level code) (side_of grid level) in
    rw (is_x, is_y, is_z, is_side, twice 0, twice 1, twice 2) refl

-- three numbers in a row
pub all_of_three : (P : ℤ → Type 0) (x y z : ℤ) → P x → P y → P z → All P (x ∷ y ∷ z ∷ [])
all_of_three P x y z p q r = All-cons P x (y ∷ z ∷ []) p (All-cons P y (z ∷ []) q (All-cons P z [] r (All-nil P)))

-- three planes that are kept in 64 bits
pub planes_kept : (x y z : ℤ) → unsigned_abs x ≤ 2 ^ 33 → unsigned_abs y ≤ 2 ^ 33 → unsigned_abs z ≤ 2 ^ 33 →
    to_z w64 (of_z w64 x) ∷ to_z w64 (of_z w64 y) ∷ to_z w64 (of_z w64 z) ∷ [] ≡ x ∷ y ∷ z ∷ []
planes_kept x y z p q r = rw (plane_kept x p, plane_kept y q, plane_kept z r) refl

-- and they are near
pub planes_near : (x y z : ℤ) → unsigned_abs x ≤ 2 ^ 33 → unsigned_abs y ≤ 2 ^ 33 → unsigned_abs z ≤ 2 ^ 33 →
    All (λ plane. unsigned_abs plane ≤ 2 ^ 33) (to_z w64 (of_z w64 x) ∷ to_z w64 (of_z w64 y) ∷ to_z w64 (of_z w64 z) ∷ [])
planes_near x y z p q r =
    let near : ℤ → Type 0 = λ plane. unsigned_abs plane ≤ 2 ^ 33 in
    let kept : (plane : ℤ) → near plane → near (to_z w64 (of_z w64 plane)) = λ plane h. subst near (sym (plane_kept plane h)) h in
    all_of_three near (to_z w64 (of_z w64 x)) (to_z w64 (of_z w64 y)) (to_z w64 (of_z w64 z)) (kept x p) (kept y q) (kept z r)

-- a level of a grid is at most 20
pub is_shallow : (grid : GridShape) (level : ℕ) → IsGrid grid → level ≤ grid.depth → level ≤ 20
is_shallow grid level limits within = let shallow = limits.shallow in omega arith
