-- A ray, and the limits that every ray meets.
use Rattle.std.specs.Prelude.{◌≡◌, ◌^◌, ◌≤◌, List, length, ℤ, unsigned_abs, All, false}
use Rattle.std.specs.List.{list_all}
use Rattle.ray_fraction.specs.RayLimits.{is_zero}

-- where it is at time 0, and how far it goes in each unit of time
pub record RayShape : Type 0 where
  pub origin : List ℤ
  pub direction : List ℤ

-- the ray meets its limits
pub record IsRay (ray : RayShape) : Type 0 where
  pub origin_axes : length ray.origin ≡ 3
  pub direction_axes : length ray.direction ≡ 3
  pub near : All (λ o. unsigned_abs o ≤ 2 ^ 40) ray.origin
  pub slow : All (λ d. unsigned_abs d ≤ 2 ^ 30) ray.direction
  pub moves : list_all is_zero ray.direction ≡ false
