-- Laws of the times at which a ray is in a cube.
use Rattle.std.proofs.Common.{◌≡◌, ℕ, suc, ◌+◌, ◌*◌, ◌≤◌, ◌↔◌, arith, refl, ℤ, pos, negsuc, ◌-ℤ◌, ◌*ℤ◌, neg_ℤ, ◌≤ℤ◌, ◌<◌, length, List, Option, None, Some, IfSome, subst}
use Rattle.std.specs.List.{slice_index_or, All, Any}
use Rattle.std.proofs.Math.Nat.{mul-le-mul_right, le_of_mul-le-mul_right}
use Rattle.std.proofs.lemmas.Int.{ints}
use Rattle.std.proofs.lemmas.List.{get_or_default}
use Rattle.svo_base.specs.declared.shapes.Cube.{Cube}
use Rattle.octree_specs.specs.Meeting.{low_of, high_of}
use Rattle.octree_specs.proofs.Integers.{*ℤ-neg_ℤ, product_not_positive, product_at_most}
use Rattle.ray_fraction.specs.EndTimes.{IsLeastTime}
use Rattle.ray_fraction.specs.Fractions.{IsUpTo}
use Rattle.ray_fraction.specs.InCube.{IsInSlab, IsInAlong, InAt}
use Rattle.ray_fraction.specs.Laws.{HaveNoGaps, LiesAlong, LiesIn, GrowWithCube, InSome, IsNotBefore, BoundedByEntries, LeastOfCubes}
use Rattle.ray_fraction.specs.RayShape.{RayShape}
use Rattle.ray_fraction.specs.Spans.{HasGone}
use Rattle.ray_fraction.specs.declared.times.Time.{Time}
use Rattle.ray_fraction.proofs.Gone.{gone_in_slab}
use Rattle.ray_fraction.proofs.Order.{up_to_trans}

-- ---- no gaps

-- what is past a point at two times is past it between them
past_between : (point speed : ℤ) (n m k l p q : ℕ) → 1 ≤ m → 1 ≤ q → IsUpTo n m k l → IsUpTo k l p q →
    (pos m *ℤ point) ≤ℤ (pos n *ℤ speed) → (pos q *ℤ point) ≤ℤ (pos p *ℤ speed) → (pos l *ℤ point) ≤ℤ (pos k *ℤ speed)
past_between (pos point) (pos speed) n m k l p q first last from until past_first past_last =
    let start : IsUpTo point speed n m = omega (arith, ints, past_first) in
    omega (arith, ints, up_to_trans point speed n m k l first start from)
past_between (negsuc point) (pos speed) n m k l p q first last from until past_first past_last =
    omega (arith, ints, product_not_positive (pos l) (negsuc point) (omega (arith, ints)) (omega (arith, ints)))
past_between (pos point) (negsuc speed) n m k l p q first last from until past_first past_last =
    let ahead = *ℤ-neg_ℤ (pos p) (pos (suc speed)) in
    let whole : q * point + p * suc speed ≤ 0 = omega (arith, ints, past_last, ahead) in
    let end : IsUpTo p q 0 (suc speed) = omega (arith, whole) in
    let there = up_to_trans k l p q 0 (suc speed) last until end in
    let flat : point * q ≤ 0 * q = omega (arith, whole) in
    let over = mul-le-mul_right l (le_of_mul-le-mul_right {m = point} {n = 0} {k = q} flat last) in
    omega (arith, ints, there, over, *ℤ-neg_ℤ (pos k) (pos (suc speed)))
past_between (negsuc point) (negsuc speed) n m k l p q first last from until past_first past_last =
    let over = *ℤ-neg_ℤ (pos q) (pos (suc point)) in
    let ahead = *ℤ-neg_ℤ (pos p) (pos (suc speed)) in
    let end : IsUpTo p q (suc point) (suc speed) = omega (arith, ints, past_last, over, ahead) in
    let there = up_to_trans k l p q (suc point) (suc speed) last until end in
    omega (arith, ints, there, *ℤ-neg_ℤ (pos l) (pos (suc point)), *ℤ-neg_ℤ (pos k) (pos (suc speed)))

-- and short of a point likewise
short_between : (point speed : ℤ) (n m k l p q : ℕ) → 1 ≤ m → 1 ≤ q → IsUpTo n m k l → IsUpTo k l p q →
    (pos n *ℤ speed) ≤ℤ (pos m *ℤ point) → (pos p *ℤ speed) ≤ℤ (pos q *ℤ point) → (pos k *ℤ speed) ≤ℤ (pos l *ℤ point)
short_between point speed n m k l p q first last from until short_first short_last =
    let before : (pos m *ℤ neg_ℤ point) ≤ℤ (pos n *ℤ neg_ℤ speed) = omega (arith, ints, short_first, *ℤ-neg_ℤ (pos m) point, *ℤ-neg_ℤ (pos n) speed) in
    let after : (pos q *ℤ neg_ℤ point) ≤ℤ (pos p *ℤ neg_ℤ speed) = omega (arith, ints, short_last, *ℤ-neg_ℤ (pos q) point, *ℤ-neg_ℤ (pos p) speed) in
    omega (arith, ints, past_between (neg_ℤ point) (neg_ℤ speed) n m k l p q first last from until before after, *ℤ-neg_ℤ (pos l) point, *ℤ-neg_ℤ (pos k) speed)

slab_between : (origin direction low high : ℤ) (n m k l p q : ℕ) → 1 ≤ m → 1 ≤ q → IsUpTo n m k l → IsUpTo k l p q →
    IsInSlab origin direction low high n m → IsInSlab origin direction low high p q → IsInSlab origin direction low high k l
slab_between origin direction low high n m k l p q first last from until in_first in_last =
    let gone : (a b : ℕ) → HasGone (low -ℤ origin) (high -ℤ origin) direction a b ↔ IsInSlab origin direction low high a b = gone_in_slab origin direction low high (low -ℤ origin) (high -ℤ origin) direction refl refl refl in
    let before = (gone n m).1 in_first in
    let after = (gone p q).1 in_last in
    (gone k l).0 (record {
      near_passed = past_between (low -ℤ origin) direction n m k l p q first last from until before.near_passed after.near_passed;
      far_ahead = short_between (high -ℤ origin) direction n m k l p q first last from until before.far_ahead after.far_ahead;
    })

pub have_no_gaps : HaveNoGaps
have_no_gaps ray cube n m k l p q first last some from until =
    let along : (axis : ℕ) → IsInAlong axis ray cube n m → IsInAlong axis ray cube p q → IsInAlong axis ray cube k l = λ axis. slab_between (slice_index_or ray.origin axis (pos 0)) (slice_index_or ray.direction axis (pos 0)) (low_of cube axis) (high_of cube axis) n m k l p q first.some last.some from until in
    record {
      some = some;
      x = along 0 first.x last.x;
      y = along 1 first.y last.y;
      z = along 2 first.z last.z;
    }

-- ---- a cube in another

along_grows : (axis : ℕ) (ray : RayShape) (inner outer : Cube) (n m : ℕ) → LiesAlong axis inner outer → IsInAlong axis ray inner n m → IsInAlong axis ray outer n m
along_grows axis ray inner outer n m lies inside =
    let some : pos 0 ≤ℤ pos m = omega (arith, ints) in
    let low = product_at_most (pos m) (low_of outer axis) (low_of inner axis) some lies.0 in
    let high = product_at_most (pos m) (high_of inner axis) (high_of outer axis) some lies.1 in
    record {
      above = omega (arith, ints, low, inside.above);
      below = omega (arith, ints, high, inside.below);
    }

in_grows : (ray : RayShape) (inner outer : Cube) (n m : ℕ) → LiesIn inner outer → InAt ray inner n m → InAt ray outer n m
in_grows ray inner outer n m lies at = record {
  some = at.some;
  x = along_grows 0 ray inner outer n m lies.x at.x;
  y = along_grows 1 ray inner outer n m lies.y at.y;
  z = along_grows 2 ray inner outer n m lies.z at.z;
}

pub grow_with_cube : GrowWithCube
grow_with_cube = record {
  times = in_grows;
  missed = λ ray inner outer lies never n m at. never n m (in_grows ray inner outer n m lies at);
  entry = λ ray inner outer t u lies inner_entry outer_entry. outer_entry.1 t.n t.m (in_grows ray inner outer t.n t.m lies inner_entry.0);
  exit = λ ray inner outer t u lies inner_exit outer_exit. outer_exit.1 t.n t.m (in_grows ray inner outer t.n t.m lies inner_exit.0);
}

-- ---- the least of several cubes

by_entry : (ray : RayShape) (cube : Cube) (entry : Option Time) (t : Time) → IsLeastTime (InAt ray cube) entry → IfSome entry (λ u. IsUpTo t.n t.m u.n u.m) ↔ IsNotBefore t ray cube
by_entry ray cube None t never = (λ bound n m at. absurd (never n m at), λ bound. tt)
by_entry ray cube (Some u) t least =
    (λ bound n m at. up_to_trans t.n t.m u.n u.m n m u.some bound (least.1 n m at), λ bound. bound u.n u.m least.0)

pub bounded_by_entries : BoundedByEntries
bounded_by_entries = record {
  entry = by_entry;
  around = λ ray inner outer t lies bound n m at. bound n m (in_grows ray inner outer n m lies at);
  earlier = λ ray cube t u order bound n m at. up_to_trans u.n u.m t.n t.m n m t.some order (bound n m at);
}

-- what holds of all cubes of a list holds of the one at a place
at_place : (P : Cube → Type 0) (cubes : List Cube) (k : ℕ) (cube : Cube) → k < length cubes → slice_index_or cubes k cube ≡ cube → All P cubes → P cube
at_place P cubes k cube below is all = subst P is (all k cube below)

-- what holds of the cube at a place holds of some cube
in_place : (P : Cube → Type 0) (cubes : List Cube) (k : ℕ) (cube : Cube) → k < length cubes → P (slice_index_or cubes k cube) → Any P cubes
in_place P cubes k cube below holds = (k, slice_index_or cubes k cube, below, get_or_default cubes k (slice_index_or cubes k cube) cube below, holds)

never_in : (ray : RayShape) (cubes : List Cube) → All (λ cube. IsLeastTime (InAt ray cube) None) cubes → IsLeastTime (InSome ray cubes) None
never_in ray cubes all n m (k, cube, below, is, at) = at_place (λ cube. IsLeastTime (InAt ray cube) None) cubes k cube below is all n m at

not_before_any : (ray : RayShape) (cubes : List Cube) (t : Time) → All (IsNotBefore t ray) cubes → (n m : ℕ) → InSome ray cubes n m → IsUpTo t.n t.m n m
not_before_any ray cubes t all n m (k, cube, below, is, at) = at_place (IsNotBefore t ray) cubes k cube below is all n m at

least_in : (ray : RayShape) (cubes : List Cube) (t : Time) → Any (λ cube. IsLeastTime (InAt ray cube) (Some t)) cubes → All (IsNotBefore t ray) cubes → IsLeastTime (InSome ray cubes) (Some t)
least_in ray cubes t (k, cube, below, is, entry) all = ((k, cube, below, is, entry.0), not_before_any ray cubes t all)

entered_in : (ray : RayShape) (cubes : List Cube) (t : Time) → IsLeastTime (InSome ray cubes) (Some t) → Any (λ cube. IsLeastTime (InAt ray cube) (Some t)) cubes
entered_in ray cubes t ((k, cube, below, is, at), least) = (k, cube, below, is, (at, λ n m there. least n m (k, cube, below, is, there)))

pub least_of_cubes : LeastOfCubes
least_of_cubes = record {
  none = λ ray cubes. (never_in ray cubes, λ never k cube below n m at. never n m (in_place (λ cube. InAt ray cube n m) cubes k cube below at));
  some = λ ray cubes t. (λ both. least_in ray cubes t both.0 both.1, λ least. (entered_in ray cubes t least, λ k cube below n m at. least.1 n m (in_place (λ cube. InAt ray cube n m) cubes k cube below at)));
}
