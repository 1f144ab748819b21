-- The parts that an extent reaches along an axis lie from one on to before another.
use Rattle.std.proofs.Common.{◌≡◌, ℕ, suc, ◌+◌, ◌*◌, ◌/◌, ◌%◌, ◌^◌, ◌<◌, ◌≤◌, Bool, true, false, inl, inr, min, lit<, ℤ, pos, ◌+ℤ◌, ◌-ℤ◌, ◌≤ℤ◌, unsigned_abs, refl, arith, sym, ap, subst, ◌∙◌}
use Rattle.std.specs.Prelude.{◌&&◌, nat_le, nat_lt, int_le}
use lib.Signed.{mag}
use mir.Val.{to_z, of_z}
use Rattle.std.specs.Int.{int_max, w32, w64}
use Rattle.std.specs.Cmp.{both_ways}
use Rattle.std.proofs.Math.Nat.{div-lt_iff_lt-mul, mul-le-mul_left, pow-le-pow_right}
use Rattle.std.proofs.lemmas.Bool.{leb-true, le-leb}
use Rattle.std.proofs.lemmas.Bool.Decides.{leb_tells}
use Rattle.std.proofs.lemmas.Nat.{pow_pos}
use Rattle.std.proofs.lemmas.Int.{ints, clamps, to_z-of_z, to_z_pos, fits_signed_from_abs}
use Rattle.octree_specs.specs.NodeCube.{code_of}
use Rattle.morton_code.proofs.Coordinates.{code_of_short}

-- ---- a distance in whole sides

-- the distances that are counted are none where they are negative
abbrev pub counted : ℤ → ℕ
counted z = unsigned_abs (int_max z (pos 0))

counted_below : (z : ℤ) (n : ℕ) → 0 < n → (counted z < n → (z +ℤ pos 1) ≤ℤ pos n) × ((z +ℤ pos 1) ≤ℤ pos n → counted z < n)
counted_below z n some = (λ h. omega (arith, ints, clamps, h, some), λ h. omega (arith, ints, clamps, h, some))

-- fewer whole sides than so many lie in a distance
sides_below : (z : ℤ) (side k parts : ℕ) → 0 < side → k < parts → (min (counted z / side) parts < k + 1 → (z +ℤ pos 1) ≤ℤ pos (side * (k + 1))) × ((z +ℤ pos 1) ≤ℤ pos (side * (k + 1)) → min (counted z / side) parts < k + 1)
sides_below z side k parts some inside =
    let turned : (k + 1) * side ≡ side * (k + 1) = omega arith in
    let grows : side * 1 ≤ side * (k + 1) = mul-le-mul_left side (omega arith) in
    let more : 0 < side * (k + 1) = omega (arith, grows, some) in
    let counts = div-lt_iff_lt-mul {k = side} {x = counted z} {y = k + 1} some in
    let below = counted_below z (side * (k + 1)) more in (
      λ h.
          let d : counted z / side < k + 1 = omega (arith, h, inside) in
          below.0 (subst (λ n. counted z < n) turned (counts.0 d)),
      λ h.
          let d : counted z / side < k + 1 = counts.1 (subst (λ n. counted z < n) (sym turned) (below.1 h)) in
          omega (arith, d, inside),
    )

-- ---- both ends

holds : (test : Bool) → (test ≡ false → ⊥) → test ≡ true
holds true fails = refl
holds false fails = absurd (fails refl)

not_less : (k to : ℕ) → nat_lt k to ≡ false → to < k + 1
not_less k to fails = elim (leb_tells (suc k) to) [ inl has ↦ absurd (both_fail (nat_lt k to) fails has.0) | inr less ↦ omega (arith, less.1) ]
  where
    both_fail : (test : Bool) → test ≡ false → test ≡ true → ⊥
    both_fail test p q = cc

from_is : (o low : ℤ) (side k parts from : ℕ) → 0 < side → k < parts → from ≡ min (counted ((low -ℤ o) -ℤ pos 1) / side) parts
    → nat_le from k ≡ int_le low ((o +ℤ pos (side * k)) +ℤ pos side)
from_is o low side k parts from some inside is =
    let next : side * (k + 1) ≡ side * k + side = omega arith in
    let sides = sides_below ((low -ℤ o) -ℤ pos 1) side k parts some inside in
    both_ways (nat_le from k) (int_le low ((o +ℤ pos (side * k)) +ℤ pos side))
    (λ h. holds (int_le low ((o +ℤ pos (side * k)) +ℤ pos side)) (λ fails.
    let below = sides.0 (omega (arith, leb-true from k h, is)) in
    omega (arith, ints, fails, subst (λ n. (((low -ℤ o) -ℤ pos 1) +ℤ pos 1) ≤ℤ pos n) next below)))
    (λ h. le-leb from k (
    let near : (((low -ℤ o) -ℤ pos 1) +ℤ pos 1) ≤ℤ pos (side * k + side) = omega (arith, ints, h) in
    let below = sides.1 (subst (λ n. (((low -ℤ o) -ℤ pos 1) +ℤ pos 1) ≤ℤ pos n) (sym next) near) in
    omega (arith, below, is)))

to_is : (o high : ℤ) (side k parts to : ℕ) → 0 < side → k < parts → to ≡ min (counted ((high -ℤ o) +ℤ pos side) / side) parts
    → nat_lt k to ≡ int_le (o +ℤ pos (side * k)) high
to_is o high side k parts to some inside is =
    let next : side * (k + 1) ≡ side * k + side = omega arith in
    let sides = sides_below ((high -ℤ o) +ℤ pos side) side k parts some inside in
    both_ways (nat_lt k to) (int_le (o +ℤ pos (side * k)) high)
    (λ h. holds (int_le (o +ℤ pos (side * k)) high) (λ fails.
    let near : (((high -ℤ o) +ℤ pos side) +ℤ pos 1) ≤ℤ pos (side * k + side) = omega (arith, ints, fails) in
    let below = sides.1 (subst (λ n. (((high -ℤ o) +ℤ pos side) +ℤ pos 1) ≤ℤ pos n) (sym next) near) in
    let least : suc k ≤ to = leb-true (suc k) to h in
    omega (arith, below, is, least)))
    (λ h. holds (nat_lt k to) (λ fails.
    let below = sides.0 (omega (arith, not_less k to fails, is)) in
    let near : (((high -ℤ o) +ℤ pos side) +ℤ pos 1) ≤ℤ pos (side * k + side) = subst (λ n. (((high -ℤ o) +ℤ pos side) +ℤ pos 1) ≤ℤ pos n) next below in
    omega (arith, ints, near, h)))

-- ---- codes of few digits

pub short_code : (split x y z result : ℕ) → split ≤ 4 → x < 2 ^ split → y < 2 ^ split → z < 2 ^ split → result ≡ code_of 20 x y z → result ≡ code_of split x y z
short_code split x y z result few a b c is = is ∙ code_of_short split 20 x y z (omega (arith, few)) a b c

pub parts_within : (split most : ℕ) → split ≤ most → 8 ^ split ≤ 8 ^ most
parts_within split most few = pow-le-pow_right {n = 8} (lit< tt) {i = split} {j = most} few

pub few_parts : (split : ℕ) → split ≤ 4 → 8 ^ split ≤ 8 ^ 4
few_parts split few = parts_within split 4 few

pub few_places : (split : ℕ) → split ≤ 20 → 2 ^ split ≤ 2 ^ 20
few_places split few = pow-le-pow_right {n = 2} (lit< tt) {i = split} {j = 20} few

-- ---- the side of a part

pub some_side : (cell halvings : ℕ) → 1 ≤ cell → 0 < cell * 2 ^ halvings
some_side cell halvings solid =
    let one : cell * 1 ≤ cell * 2 ^ halvings = mul-le-mul_left cell (pow_pos halvings) in
    omega (arith, one, solid)

-- the numbers of an extent, as code has them
pub both_ends : (o low high above over : ℤ) (side split from to whole further part : ℕ) → 0 < side → side ≤ 2 ^ 32 → split ≤ 20 → part < 2 ^ split
    → mag low < 2 ^ 31 → mag high < 2 ^ 31 → unsigned_abs above ≤ 2 ^ 32 → unsigned_abs over ≤ 2 ^ 32
    → above ≡ to_z w32 (of_z w32 low) -ℤ o → over ≡ to_z w32 (of_z w32 high) -ℤ o
    → whole ≡ counted (to_z w64 (of_z w64 (to_z w64 (of_z w64 above) -ℤ pos 1))) / side
    → further ≡ counted (to_z w64 (of_z w64 (to_z w64 (of_z w64 over) +ℤ to_z w64 side))) / side
    → from ≡ min whole (1 * 2 ^ split % 2 ^ 64) → to ≡ min further (1 * 2 ^ split % 2 ^ 64)
    → (nat_le from part && nat_lt part to) ≡ (int_le (o +ℤ pos (side * part)) high && int_le low ((o +ℤ pos (side * part)) +ℤ pos side))
both_ends o low high above over side split from to whole further part some narrow few inside fits_low fits_high near near_over is_above is_over is_whole is_further is_from is_to =
    let parts : 1 * 2 ^ split % 2 ^ 64 ≡ 2 ^ split = omega (arith, few_places split few) in
    let low_is : to_z w32 (of_z w32 low) ≡ low = to_z-of_z w32 low (record { sfits = fits_low }) in
    let high_is : to_z w32 (of_z w32 high) ≡ high = to_z-of_z w32 high (record { sfits = fits_high }) in
    let above_is : above ≡ low -ℤ o = is_above ∙ ap (λ z. z -ℤ o) low_is in
    let over_is : over ≡ high -ℤ o = is_over ∙ ap (λ z. z -ℤ o) high_is in
    let above_kept : to_z w64 (of_z w64 above) ≡ above = to_z-of_z w64 above (fits_signed_from_abs w64 above (omega (arith, near))) in
    let over_kept : to_z w64 (of_z w64 over) ≡ over = to_z-of_z w64 over (fits_signed_from_abs w64 over (omega (arith, near_over))) in
    let side_is : to_z w64 side ≡ pos side = to_z_pos w64 side (omega (arith, narrow)) in
    let below_kept : to_z w64 (of_z w64 (above -ℤ pos 1)) ≡ above -ℤ pos 1 = to_z-of_z w64 (above -ℤ pos 1) (fits_signed_from_abs w64 (above -ℤ pos 1) (omega (arith, ints, near))) in
    let further_kept : to_z w64 (of_z w64 (over +ℤ pos side)) ≡ over +ℤ pos side = to_z-of_z w64 (over +ℤ pos side) (fits_signed_from_abs w64 (over +ℤ pos side) (omega (arith, ints, near_over, narrow))) in
    let begins : from ≡ min (counted ((low -ℤ o) -ℤ pos 1) / side) (2 ^ split) =
    rw (is_from, is_whole, above_kept, below_kept, above_is, parts) refl in
    let ends : to ≡ min (counted ((high -ℤ o) +ℤ pos side) / side) (2 ^ split) =
    rw (is_to, is_further, over_kept, side_is, further_kept, over_is, parts) refl in
    rw (from_is o low side part (2 ^ split) from some inside begins, to_is o high side part (2 ^ split) to some inside ends)
    (and_turned (int_le low ((o +ℤ pos (side * part)) +ℤ pos side)) (int_le (o +ℤ pos (side * part)) high))
  where
    and_turned : (a b : Bool) → (a && b) ≡ (b && a)
    and_turned true true = refl
    and_turned true false = refl
    and_turned false true = refl
    and_turned false false = refl
