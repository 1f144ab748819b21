-- A ray is in the earlier of two slabs only up to the plane between them, and in the later one only from there on.
use Rattle.std.proofs.Common.{◌≡◌, ℕ, zero, suc, ◌/◌, ◌%◌, ◌^◌, ◌<◌, ◌≤◌, arith, refl, inl, inr, ℤ, pos, negsuc, ◌-ℤ◌, ◌*ℤ◌, neg_ℤ, ◌≤ℤ◌, ◌<ℤ◌, lit<}
use Rattle.std.proofs.lemmas.Bool.{cases_lt}
use Rattle.std.proofs.lemmas.Int.{ints, by_lt_z}
use Rattle.octree_specs.proofs.Integers.{product_negative, product_positive}
use Rattle.ray_fraction.specs.Fractions.{IsUpTo}
use Rattle.ray_fraction.specs.InCube.{IsInSlab}
use Rattle.ray_fraction.specs.Spans.{HasGone}
use Rattle.ray_fraction.proofs.Gone.{gone_in_slab, gone_turned}
use Rattle.ray_fraction.proofs.Order.{up_to_trans}

-- a motion that has not passed a point at n / m, and has come to it at k / l
pub ordered_by_point : (way : ℤ) (speed n m k l : ℕ) → 1 ≤ speed → 1 ≤ m → (pos n *ℤ pos speed) ≤ℤ (pos m *ℤ way) → (pos l *ℤ way) ≤ℤ (pos k *ℤ pos speed) → IsUpTo n m k l
ordered_by_point (pos way) speed n m k l some later before after =
    let first : IsUpTo n m way speed = omega (arith, ints, before) in
    let second : IsUpTo way speed k l = omega (arith, ints, after) in
    up_to_trans n m way speed k l some first second
ordered_by_point (negsuc way) speed n m k l some later before after =
    absurd (omega (arith, ints, before, product_negative (pos m) (negsuc way) (omega (arith, ints, later)) (omega (arith, ints))))

-- along an axis on which the ray goes up or stands: the lower slab is the earlier one, where it does not stand in the plane
pub ordered_up : (origin direction low plane high : ℤ) (n m k l : ℕ) → (direction ≡ pos 0 → origin ≡ plane → ⊥) → pos 0 ≤ℤ direction → 1 ≤ m → 1 ≤ l
    → IsInSlab origin direction low plane n m → IsInSlab origin direction plane high k l → IsUpTo n m k l
ordered_up origin (negsuc speed) low plane high n m k l off up some_m some_l first second = absurd (omega (arith, ints, up))
ordered_up origin (pos (suc speed)) low plane high n m k l off up some_m some_l first second =
    let before : HasGone (low -ℤ origin) (plane -ℤ origin) (pos (suc speed)) n m = (gone_in_slab origin (pos (suc speed)) low plane (low -ℤ origin) (plane -ℤ origin) (pos (suc speed)) refl refl refl n m).1 first in
    let after : HasGone (plane -ℤ origin) (high -ℤ origin) (pos (suc speed)) k l = (gone_in_slab origin (pos (suc speed)) plane high (plane -ℤ origin) (high -ℤ origin) (pos (suc speed)) refl refl refl k l).1 second in
    ordered_by_point (plane -ℤ origin) (suc speed) n m k l (omega arith) some_m before.far_ahead after.near_passed
ordered_up origin (pos zero) low plane high n m k l off up some_m some_l first second =
    let before : HasGone (low -ℤ origin) (plane -ℤ origin) (pos 0) n m = (gone_in_slab origin (pos 0) low plane (low -ℤ origin) (plane -ℤ origin) (pos 0) refl refl refl n m).1 first in
    let after : HasGone (plane -ℤ origin) (high -ℤ origin) (pos 0) k l = (gone_in_slab origin (pos 0) plane high (plane -ℤ origin) (high -ℤ origin) (pos 0) refl refl refl k l).1 second in
    let there : pos 0 ≤ℤ (plane -ℤ origin) =
    by_lt_z (plane -ℤ origin) (pos 0) (λ under. absurd (omega (arith, ints, before.far_ahead, product_negative (pos m) (plane -ℤ origin) (omega (arith, ints, some_m)) under))) (λ over. over) in
    let back : (plane -ℤ origin) ≤ℤ pos 0 =
    by_lt_z (pos 0) (plane -ℤ origin) (λ over. absurd (omega (arith, ints, after.near_passed, product_positive (pos l) (plane -ℤ origin) (omega (arith, ints, some_l)) over))) (λ under. under) in
    absurd (off refl (omega (arith, ints, there, back)))

-- along an axis on which it goes down the upper slab is the earlier one
pub ordered_down : (origin direction low plane high : ℤ) (n m k l : ℕ) → direction <ℤ pos 0 → 1 ≤ m → 1 ≤ l
    → IsInSlab origin direction plane high n m → IsInSlab origin direction low plane k l → IsUpTo n m k l
ordered_down origin (pos speed) low plane high n m k l down some_m some_l first second = absurd (omega (arith, ints, down))
ordered_down origin (negsuc speed) low plane high n m k l down some_m some_l first second =
    let before : HasGone (plane -ℤ origin) (high -ℤ origin) (negsuc speed) n m = (gone_in_slab origin (negsuc speed) plane high (plane -ℤ origin) (high -ℤ origin) (negsuc speed) refl refl refl n m).1 first in
    let after : HasGone (low -ℤ origin) (plane -ℤ origin) (negsuc speed) k l = (gone_in_slab origin (negsuc speed) low plane (low -ℤ origin) (plane -ℤ origin) (negsuc speed) refl refl refl k l).1 second in
    let speed_is : pos (suc speed) ≡ neg_ℤ (negsuc speed) = omega (arith, ints) in
    let turned : HasGone (neg_ℤ (high -ℤ origin)) (neg_ℤ (plane -ℤ origin)) (pos (suc speed)) n m =
    (gone_turned (plane -ℤ origin) (high -ℤ origin) (negsuc speed) (neg_ℤ (high -ℤ origin)) (neg_ℤ (plane -ℤ origin)) (pos (suc speed)) refl refl speed_is n m).1 before in
    let turned_after : HasGone (neg_ℤ (plane -ℤ origin)) (neg_ℤ (low -ℤ origin)) (pos (suc speed)) k l =
    (gone_turned (low -ℤ origin) (plane -ℤ origin) (negsuc speed) (neg_ℤ (plane -ℤ origin)) (neg_ℤ (low -ℤ origin)) (pos (suc speed)) refl refl speed_is k l).1 after in
    ordered_by_point (neg_ℤ (plane -ℤ origin)) (suc speed) n m k l (omega arith) some_m turned.far_ahead turned_after.near_passed

-- of two places the first has 0 and the second 1 in some bit
pub record AreApart (j k : ℕ) : Type 0 where
  pub axis : ℕ
  pub real : axis < 3
  pub first : j / 2 ^ axis % 2 ≡ 0
  pub second : k / 2 ^ axis % 2 ≡ 1

pub apart : (j k : ℕ) → j < k → k < 8 → AreApart j k
apart j k order below = elim (cases_lt (j / 4) (k / 4)) [
  | inl high ↦ record { axis = 2; real = lit< tt; first = omega (arith, high, below); second = omega (arith, high, below) }
  | inr same ↦ elim (cases_lt (j / 2) (k / 2)) [
    | inl middle ↦ record { axis = 1; real = lit< tt; first = omega (arith, same, middle, order, below); second = omega (arith, same, middle, order, below) }
    | inr alike ↦ record { axis = 0; real = lit< tt; first = omega (arith, alike, order, below); second = omega (arith, alike, order, below) }
  ]
]
