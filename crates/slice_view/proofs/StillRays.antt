-- The rays of a camera's pixels keep the limits of rays.
use Rattle.std.proofs.Common.{◌≡◌, ℕ, ◌+◌, ◌*◌, ◌^◌, ◌<◌, ◌≤◌, Bool, true, false, List, [], ◌∷◌, length, Ok, Err, arith, refl, ℤ, pos, ◌+ℤ◌, ◌-ℤ◌, ◌*ℤ◌}
use Rattle.std.specs.Prelude.{All, unsigned_abs, if◌then◌else◌}
use Rattle.std.specs.List.{list_all}
use Rattle.std.specs.Result.{IfErr}
use Rattle.std.proofs.lemmas.Bool.{le-leb}
use Rattle.std.proofs.lemmas.Int.{ints}
use Rattle.std.proofs.lemmas.List.Elements.{All-get_or, All-head, All-tail}
use Rattle.octree_specs.proofs.Integers.{product_within, sum_within}
use Rattle.ray_fraction.specs.RayFrom.{ray_from}
use Rattle.ray_fraction.specs.RayLimits.{is_within, is_zero}
use Rattle.ray_fraction.specs.RayShape.{RayShape}
use Rattle.ray_fraction.specs.declared.rays.RayFault.{RayFault}
use Rattle.ray_fraction.specs.declared.rays.RayFault.TheVariants.{Zero}
use Rattle.slice_view.specs.Cameras.{CameraShape, IsCamera, IsRefusedOnlyStill, axis_of, moved, moved_along, ray_by, rightward, upward}
use Rattle.slice_view.specs.declared.cameras.CameraKind.{CameraKind}
use Rattle.slice_view.specs.declared.cameras.CameraKind.TheVariants.{Parallel, Pinhole}

all_near : (limit most : ℕ) (xs : List ℤ) → limit ≤ most → All (λ z. unsigned_abs z ≤ limit) xs → list_all (is_within most) xs ≡ true
all_near limit most [] below near = refl
all_near limit most (x ∷ rest) below near =
    let first : is_within most x ≡ true = le-leb (unsigned_abs x) most (omega (arith, below, All-head (λ z. unsigned_abs z ≤ limit) x rest near)) in
    rw first (all_near limit most rest below (All-tail (λ z. unsigned_abs z ≤ limit) x rest near))

-- a component of a list of three
component : (limit : ℕ) (xs : List ℤ) (axis : ℕ) → length xs ≡ 3 → axis < 3 → All (λ z. unsigned_abs z ≤ limit) xs → unsigned_abs (axis_of xs axis) ≤ limit
component limit xs axis axes inside near = All-get_or (λ z. unsigned_abs z ≤ limit) xs axis (pos 0) (omega (arith, axes, inside)) near

-- one of them moved
moved_near : (camera : CameraShape) (vector : List ℤ) (limit most axis : ℕ) (a b : ℤ) → IsCamera camera → length vector ≡ 3 → axis < 3 → limit + 2 ^ 29 ≤ most → All (λ z. unsigned_abs z ≤ limit) vector
    → unsigned_abs a ≤ 2 ^ 12 → unsigned_abs b ≤ 2 ^ 12 → is_within most (moved_along camera vector axis a b) ≡ true
moved_near camera vector limit most axis a b is axes inside below near across along =
    let r : ℤ = axis_of camera.right axis in
    let u : ℤ = axis_of camera.up axis in
    let right : unsigned_abs (a *ℤ r) ≤ 2 ^ 12 * 2 ^ 16 = product_within a r (2 ^ 12) (2 ^ 16) across (component (2 ^ 16) camera.right axis is.right_axes inside is.aside) in
    let up : unsigned_abs (b *ℤ u) ≤ 2 ^ 12 * 2 ^ 16 = product_within b u (2 ^ 12) (2 ^ 16) along (component (2 ^ 16) camera.up axis is.up_axes inside is.above) in
    let way : unsigned_abs ((a *ℤ r) +ℤ (b *ℤ u)) ≤ 2 ^ 12 * 2 ^ 16 + 2 ^ 12 * 2 ^ 16 = sum_within (a *ℤ r) (b *ℤ u) (2 ^ 12 * 2 ^ 16) (2 ^ 12 * 2 ^ 16) right up in
    let sum : unsigned_abs (axis_of vector axis +ℤ ((a *ℤ r) +ℤ (b *ℤ u))) ≤ limit + (2 ^ 12 * 2 ^ 16 + 2 ^ 12 * 2 ^ 16) =
    sum_within (axis_of vector axis) ((a *ℤ r) +ℤ (b *ℤ u)) limit (2 ^ 12 * 2 ^ 16 + 2 ^ 12 * 2 ^ 16) (component limit vector axis axes inside near) way in
    le-leb (unsigned_abs (moved_along camera vector axis a b)) most (omega (arith, sum, below))

all_moved_near : (camera : CameraShape) (vector : List ℤ) (limit most : ℕ) (a b : ℤ) → IsCamera camera → length vector ≡ 3 → limit + 2 ^ 29 ≤ most → All (λ z. unsigned_abs z ≤ limit) vector
    → unsigned_abs a ≤ 2 ^ 12 → unsigned_abs b ≤ 2 ^ 12 → list_all (is_within most) (moved camera vector a b) ≡ true
all_moved_near camera vector limit most a b is axes below near across along =
    let x : is_within most (moved_along camera vector 0 a b) ≡ true = moved_near camera vector limit most 0 a b is axes (omega arith) below near across along in
    let y : is_within most (moved_along camera vector 1 a b) ≡ true = moved_near camera vector limit most 1 a b is axes (omega arith) below near across along in
    let z : is_within most (moved_along camera vector 2 a b) ≡ true = moved_near camera vector limit most 2 a b is axes (omega arith) below near across along in
    rw (x, y, z) refl

-- a middle lies at most half a picture away from the picture's
side_near : (place size : ℕ) → place < size → size ≤ 4096 → unsigned_abs (pos (2 * place + 1) -ℤ pos size) ≤ 2 ^ 12
side_near place size inside small = omega (arith, ints, inside, small)

side_back : (place size : ℕ) → place < size → size ≤ 4096 → unsigned_abs (pos size -ℤ pos (2 * place + 1)) ≤ 2 ^ 12
side_back place size inside small = omega (arith, ints, inside, small)

-- whichever way the last test goes
still_or_ray : (still : Bool) (ray : RayShape) → IfErr (if still then Err Zero else (Ok ray)) (λ (fault : RayFault). fault ≡ Zero)
still_or_ray true ray = refl
still_or_ray false ray = tt

near_ray : (origin direction : List ℤ) → list_all (is_within (2 ^ 40)) origin ≡ true → list_all (is_within (2 ^ 30)) direction ≡ true → IfErr (ray_from origin direction) (λ fault. fault ≡ Zero)
unfolding ray_from
near_ray origin direction near slow = rw (near, slow) (still_or_ray (list_all is_zero direction) (record { origin = origin; direction = direction }))

by_kind : (kind : CameraKind) (camera : CameraShape) (a b : ℤ) → IsCamera camera → unsigned_abs a ≤ 2 ^ 12 → unsigned_abs b ≤ 2 ^ 12 → IfErr (ray_by kind camera a b) (λ fault. fault ≡ Zero)
unfolding ray_by
by_kind Parallel camera a b is across along =
    near_ray (moved camera camera.eye a b) camera.toward (all_moved_near camera camera.eye (2 ^ 39) (2 ^ 40) a b is is.eye_axes (omega arith) is.near across along) (all_near (2 ^ 16) (2 ^ 30) camera.toward (omega arith) is.ahead)
by_kind Pinhole camera a b is across along =
    near_ray camera.eye (moved camera camera.toward a b) (all_near (2 ^ 39) (2 ^ 40) camera.eye (omega arith) is.near) (all_moved_near camera camera.toward (2 ^ 16) (2 ^ 30) a b is is.toward_axes (omega arith) is.ahead across along)

pub refused_only_still : IsRefusedOnlyStill
refused_only_still camera column row is across along =
    by_kind camera.kind camera (rightward camera column) (upward camera row) is (side_near column camera.width across is.width) (side_back row camera.height along is.height)
