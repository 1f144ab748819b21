-- What the times at which a ray is in one cube say of its times in others.
use Rattle.std.specs.Prelude.{◌≡◌, ℕ, ◌*◌, IsTrue, ◌≤◌, ◌↔◌, ◌⊎◌, ◌≤ℤ◌, List, All, Any, Option, None, Some, IfSome}
use Rattle.std.specs.Ordering.{nat_cmp, is_le}
use Rattle.svo_base.specs.declared.shapes.Cube.{Cube}
use Rattle.octree_specs.specs.Meeting.{low_of, high_of}
use Rattle.ray_fraction.specs.EndTimes.{IsLeastTime, IsGreatestTime}
use Rattle.ray_fraction.specs.Fractions.{IsUpTo}
use Rattle.ray_fraction.specs.InCube.{InAt}
use Rattle.ray_fraction.specs.RayShape.{RayShape}
use Rattle.ray_fraction.specs.declared.times.Time.{Time}

-- between two times at which a ray is in a cube it is there too
abbrev pub HaveNoGaps : Type 0
HaveNoGaps = (ray : RayShape) (cube : Cube) (n m k l p q : ℕ) → InAt ray cube n m → InAt ray cube p q
    → 1 ≤ l → IsUpTo n m k l → IsUpTo k l p q → InAt ray cube k l

-- along an axis no plane of the inner cube is outside those of the outer one
abbrev pub LiesAlong : ℕ → Cube → Cube → Type 0
LiesAlong axis inner outer = (low_of outer axis ≤ℤ low_of inner axis) × (high_of inner axis ≤ℤ high_of outer axis)

-- the inner cube lies in the outer one
pub record LiesIn (inner outer : Cube) : Type 0 where
  pub x : LiesAlong 0 inner outer
  pub y : LiesAlong 1 inner outer
  pub z : LiesAlong 2 inner outer

-- a ray that is in the inner cube is in the outer one, which it enters no later and leaves no earlier
pub record GrowWithCube : Type 0 where
  pub times : (ray : RayShape) (inner outer : Cube) (n m : ℕ) → LiesIn inner outer → InAt ray inner n m → InAt ray outer n m
  pub missed : (ray : RayShape) (inner outer : Cube) → LiesIn inner outer → IsLeastTime (InAt ray outer) None → IsLeastTime (InAt ray inner) None
  pub entry : (ray : RayShape) (inner outer : Cube) (t u : Time) → LiesIn inner outer
      → IsLeastTime (InAt ray inner) (Some t) → IsLeastTime (InAt ray outer) (Some u) → IsUpTo u.n u.m t.n t.m
  pub exit : (ray : RayShape) (inner outer : Cube) (t u : Time) → LiesIn inner outer
      → IsGreatestTime (InAt ray inner) (Some t) → IsGreatestTime (InAt ray outer) (Some u) → IsUpTo t.n t.m u.n u.m

-- the ray is not in the cube before t
abbrev pub IsNotBefore : Time → RayShape → Cube → Type 0
IsNotBefore t ray cube = (n m : ℕ) → InAt ray cube n m → IsUpTo t.n t.m n m

-- the ray is not in a cube before t exactly where t is at most the entry, or there is none; what holds of a cube around holds of the cube inside; and where t serves, any earlier time does
pub record BoundedByEntries : Type 0 where
  pub entry : (ray : RayShape) (cube : Cube) (entry : Option Time) (t : Time) → IsLeastTime (InAt ray cube) entry
      → IfSome entry (λ u. IsUpTo t.n t.m u.n u.m) ↔ IsNotBefore t ray cube
  pub around : (ray : RayShape) (inner outer : Cube) (t : Time) → LiesIn inner outer → IsNotBefore t ray outer → IsNotBefore t ray inner
  pub earlier : (ray : RayShape) (cube : Cube) (t u : Time) → IsUpTo u.n u.m t.n t.m → IsNotBefore t ray cube → IsNotBefore u ray cube

-- at the time n / m the ray is in some cube of the list
abbrev pub InSome : RayShape → List Cube → ℕ → ℕ → Type 0
InSome ray cubes n m = Any (λ cube. InAt ray cube n m) cubes

-- the least time at which a ray is in some cube of a list is the entry of one of them, before which it is in none
pub record LeastOfCubes : Type 0 where
  pub none : (ray : RayShape) (cubes : List Cube) → All (λ cube. IsLeastTime (InAt ray cube) None) cubes ↔ IsLeastTime (InSome ray cubes) None
  pub some : (ray : RayShape) (cubes : List Cube) (t : Time)
      → (Any (λ cube. IsLeastTime (InAt ray cube) (Some t)) cubes × All (IsNotBefore t ray) cubes) ↔ IsLeastTime (InSome ray cubes) (Some t)

-- `compare` orders times by value, and equal values are equal times; so a ray's first and last time in a cube are one each
pub record AreOrdered : Type 0 where
  pub compared : (t u : Time) → IsUpTo t.n t.m u.n u.m ↔ IsTrue (is_le (nat_cmp (t.n * u.m) (u.n * t.m)))
  pub total : (t u : Time) → IsUpTo t.n t.m u.n u.m ⊎ IsUpTo u.n u.m t.n t.m
  pub transitive : (t u v : Time) → IsUpTo t.n t.m u.n u.m → IsUpTo u.n u.m v.n v.m → IsUpTo t.n t.m v.n v.m
  pub same : (t u : Time) → IsUpTo t.n t.m u.n u.m → IsUpTo u.n u.m t.n t.m → t ≡ u
  pub entry : (ray : RayShape) (cube : Cube) (t u : Option Time) → IsLeastTime (InAt ray cube) t → IsLeastTime (InAt ray cube) u → t ≡ u
  pub exit : (ray : RayShape) (cube : Cube) (t u : Option Time) → IsGreatestTime (InAt ray cube) t → IsGreatestTime (InAt ray cube) u → t ≡ u
