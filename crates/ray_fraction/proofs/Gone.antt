-- Where a motion along an axis is at a time.
use Rattle.std.proofs.Common.{◌≡◌, ℕ, ◌↔◌, arith, ℤ, pos, negsuc, ◌-ℤ◌, ◌*ℤ◌, neg_ℤ, ◌≤ℤ◌}
use Rattle.std.specs.Prelude.{unsigned_abs}
use Rattle.std.specs.Int.{int_max}
use Rattle.std.proofs.lemmas.Int.{ints, clamps}
use Rattle.octree_specs.proofs.Integers.{*ℤ--ℤ, *ℤ-neg_ℤ, product_not_positive}
use Rattle.ray_fraction.specs.Fractions.{IsUpTo}
use Rattle.ray_fraction.specs.InCube.{IsInSlab}
use Rattle.ray_fraction.specs.Spans.{HasGone}

-- the planes as they are seen from where the ray begins
pub gone_in_slab : (origin direction low high : ℤ) (to_low to_high speed : ℤ) → to_low ≡ low -ℤ origin → to_high ≡ high -ℤ origin → speed ≡ direction →
    (n m : ℕ) → HasGone to_low to_high speed n m ↔ IsInSlab origin direction low high n m
gone_in_slab origin direction low high to_low to_high speed low_is high_is speed_is n m =
    let low_product = *ℤ--ℤ (pos m) low origin in
    let high_product = *ℤ--ℤ (pos m) high origin in
    rw (low_is, high_is, speed_is) (
      λ gone. record {
        above = omega (arith, ints, gone.near_passed, low_product);
        below = omega (arith, ints, gone.far_ahead, high_product);
      },
      λ inside. record {
        near_passed = omega (arith, ints, inside.above, low_product);
        far_ahead = omega (arith, ints, inside.below, high_product);
      },
    )

-- the same motion seen from the other side
pub gone_turned : (near far speed : ℤ) (from until pace : ℤ) → from ≡ neg_ℤ far → until ≡ neg_ℤ near → pace ≡ neg_ℤ speed →
    (n m : ℕ) → HasGone from until pace n m ↔ HasGone near far speed n m
gone_turned near far speed from until pace from_is until_is pace_is n m =
    let near_product = *ℤ-neg_ℤ (pos m) near in
    let far_product = *ℤ-neg_ℤ (pos m) far in
    let way = *ℤ-neg_ℤ (pos n) speed in
    rw (from_is, until_is, pace_is) (
      λ gone. record {
        near_passed = omega (arith, ints, gone.far_ahead, way, near_product);
        far_ahead = omega (arith, ints, gone.near_passed, way, far_product);
      },
      λ gone. record {
        near_passed = omega (arith, ints, gone.far_ahead, way, far_product);
        far_ahead = omega (arith, ints, gone.near_passed, way, near_product);
      },
    )

-- the near point is passed from the time on at which the motion is there, or from 0 on where it lies behind
near_passed : (near : ℤ) (speed n m : ℕ) → IsUpTo (unsigned_abs (int_max near (pos 0))) speed n m ↔ ((pos m *ℤ near) ≤ℤ (pos n *ℤ pos speed))
near_passed (pos near) speed n m =
    let top : unsigned_abs (int_max (pos near) (pos 0)) ≡ near = omega (arith, ints, clamps) in
    rw top (λ up. omega (arith, ints), λ passed. omega (arith, ints))
near_passed (negsuc near) speed n m =
    let top : unsigned_abs (int_max (negsuc near) (pos 0)) ≡ 0 = omega (arith, ints, clamps) in
    let behind = product_not_positive (pos m) (negsuc near) (omega (arith, ints)) (omega (arith, ints)) in
    rw top (λ up. omega (arith, ints, behind), λ passed. omega arith)

far_ahead : (far : ℤ) (speed n m : ℕ) → pos 0 ≤ℤ far → IsUpTo n m (unsigned_abs far) speed ↔ ((pos n *ℤ pos speed) ≤ℤ (pos m *ℤ far))
far_ahead (pos far) speed n m some = (λ up. omega (arith, ints), λ ahead. omega (arith, ints))
far_ahead (negsuc far) speed n m some = absurd (omega (arith, ints, some))

-- a motion that goes on is between the planes from one fraction on until another
pub gone_between : (near far speed : ℤ) (from until pace : ℕ) → from ≡ unsigned_abs (int_max near (pos 0)) → until ≡ unsigned_abs far → pos pace ≡ speed → pos 0 ≤ℤ far →
    (n m : ℕ) → (IsUpTo from pace n m × IsUpTo n m until pace) ↔ HasGone near far speed n m
gone_between near far speed from until pace from_is until_is pace_is some n m =
    let at_near = near_passed near pace n m in
    let at_far = far_ahead far pace n m some in
    rw (from_is, until_is, ← pace_is) (
      λ both. record {
        near_passed = at_near.0 both.0;
        far_ahead = at_far.0 both.1;
      },
      λ gone. (at_near.1 gone.near_passed, at_far.1 gone.far_ahead),
    )
