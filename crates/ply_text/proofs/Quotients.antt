-- Digits divided by tens, and tens above and below a fraction's line.
use Rattle.std.proofs.Common.{mul-pos, zero-mul, zero-lt-suc, ◌≡◌, ℕ, zero, suc, ◌+◌, ◌-◌, ◌*◌, ◌/◌, ◌%◌, lt_of_lt_of_le, mul-div_cancel, mul-lt-mul_of_pos_right, add-mul, ◌^◌, ◌<◌, ◌≤◌, ◌&&◌, ◌==◌, List, [], ◌∷◌, ◌++◌, length, take, drop, sym, ap, ◌∙◌, arith, lit<, ⊎_elim, pow-suc, take-append-drop, length-drop, mul_assoc}
use Rattle.std.specs.List.{list_all}
use Rattle.std.specs.Char.{digit_value}
use Rattle.std.specs.Int.{IsInRange}
use Rattle.std.specs.Str.Parse.{AllDigits, digits_value, digits_value_after}
use Rattle.std.proofs.Math.Nat.{pow-le-pow_right, one-le-pow, mul-div-mul_right, mul-mod_left, div-eq_of_lt, mod-eq_of_lt, mod-lt, div-add-mod'}
use Rattle.std.proofs.Math.Bool.{and_assoc, and-true}
use Rattle.std.proofs.lemmas.Nat.{pow-add, div-mul-add, mod-mul-add}
use Rattle.std.proofs.lemmas.Bool.{cases_lt, ne_eqb}
use Rattle.std.proofs.lemmas.Bool.Decides.{nat_tests}
use Rattle.std.proofs.lemmas.Int.Digits.{digits_value-lt}
use Rattle.std.proofs.lemmas.Str.{digit_value_digit}
use Rattle.std.proofs.lemmas.Str.Parse.{digit_from_value}
use Rattle.ply_text.proofs.DigitRuns.{AllDigits-drop}
use Rattle.ply_text.proofs.CappedSizes.{digits_value_after-append}

-- digits before others count as many tens more
value_before : (n : ℕ) (ds : List ℕ) → digits_value_after 10 n ds ≡ n * 10 ^ length ds + digits_value 10 ds
value_before n [] = omega arith
value_before n (d ∷ ds) =
    omega (arith, value_before (n * 10 + digit_value d) ds, value_before (0 * 10 + digit_value d) ds, ap (λ k. n * k) (pow-suc 10 (length ds)))

-- the digits before the last ones are the quotient by so many tens
quotient_of : (a b : List ℕ) (tens : ℕ) → AllDigits 10 b → length b ≡ tens → (digits_value 10 (a ++ b) / 10 ^ tens ≡ digits_value 10 a) × (digits_value 10 (a ++ b) % 10 ^ tens ≡ digits_value 10 b)
quotient_of a b tens digits size =
    let small : digits_value 10 b < 10 ^ tens = omega (arith, digits_value-lt 10 b digits, ap (λ k. 10 ^ k) size) in
    let both : digits_value 10 (a ++ b) ≡ digits_value 10 a * 10 ^ tens + digits_value 10 b = digits_value_after-append 0 a b ∙ value_before (digits_value 10 a) b ∙ ap (λ k. digits_value 10 a * 10 ^ k + digits_value 10 b) size in (
      ap (λ v. v / 10 ^ tens) both ∙ div-mul-add (digits_value 10 a) (10 ^ tens) (digits_value 10 b) small,
      ap (λ v. v % 10 ^ tens) both ∙ mod-mul-add (digits_value 10 a) (10 ^ tens) (digits_value 10 b) small,
    )

-- the digits but the last ones are the quotient by so many tens, and the last ones the rest
pub cut_digits : (ds : List ℕ) (tens : ℕ) → AllDigits 10 ds → (digits_value 10 (take (length ds - tens) ds) ≡ digits_value 10 ds / 10 ^ tens) × (digits_value 10 (drop (length ds - tens) ds) ≡ digits_value 10 ds % 10 ^ tens)
cut_digits ds tens digits =
    ⊎_elim
    (λ short.
    let none : length ds - tens ≡ 0 = omega arith in
    let small : digits_value 10 ds < 10 ^ tens = lt_of_lt_of_le (digits_value-lt 10 ds digits) (pow-le-pow_right {n = 10} (lit< tt) {i = length ds} {j = tens} (omega arith)) in
    rw none (sym (div-eq_of_lt small), sym (mod-eq_of_lt small)))
    (λ long.
    let size : length (drop (length ds - tens) ds) ≡ tens = omega (arith, length-drop (length ds - tens) ds) in
    let parts = quotient_of (take (length ds - tens) ds) (drop (length ds - tens) ds) tens (AllDigits-drop (length ds - tens) ds digits) size in
    let whole : take (length ds - tens) ds ++ drop (length ds - tens) ds ≡ ds = take-append-drop (length ds - tens) ds in
    (sym parts.0 ∙ ap (λ l. digits_value 10 l / 10 ^ tens) whole, sym parts.1 ∙ ap (λ l. digits_value 10 l % 10 ^ tens) whole))
    (cases_lt (length ds) tens)

-- a number with one more digit is 0 where both are
zero_more : (n c : ℕ) → IsInRange 48 57 c → (n * 10 + digit_value c == 0) ≡ ((n == 0) && (c == 48))
zero_more n c digit = grind (arith, nat_tests, digit_value_digit c digit)

zeros_after : (n : ℕ) (ds : List ℕ) → AllDigits 10 ds → (digits_value_after 10 n ds == 0) ≡ ((n == 0) && list_all (λ digit. digit == 48) ds)
zeros_after n [] digits = sym (and-true (n == 0))
zeros_after n (d ∷ ds) digits =
    zeros_after (n * 10 + digit_value d) ds digits.1
    ∙ ap (λ t. t && list_all (λ digit. digit == 48) ds) (zero_more n d (digit_from_value d digits.0))
    ∙ and_assoc (n == 0) (d == 48) (list_all (λ digit. digit == 48) ds)

-- digits are all 0 exactly where they write 0
pub zeros_value : (ds : List ℕ) → AllDigits 10 ds → list_all (λ digit. digit == 48) ds ≡ (digits_value 10 ds == 0)
zeros_value ds digits = sym (zeros_after 0 ds digits)

-- tens below and above the line cancel
split_tens : (more less : ℕ) → less ≤ more → 10 ^ more ≡ 10 ^ (more - less) * 10 ^ less
split_tens more less few = let both : more ≡ (more - less) + less = omega arith in ap (λ k. 10 ^ k) both ∙ pow-add 10 (more - less) less

tens_some : (tens : ℕ) → 0 < 10 ^ tens
tens_some tens = one-le-pow tens 10 (lit< tt)

-- with no more tens below the line than above, the quotient is whole
pub raised_quotient : (m up down : ℕ) → down ≤ up → (m * 10 ^ up / 10 ^ down ≡ m * 10 ^ (up - down)) × (m * 10 ^ up % 10 ^ down ≡ 0)
raised_quotient m up down few =
    let product : m * 10 ^ up ≡ m * 10 ^ (up - down) * 10 ^ down = ap (λ k. m * k) (split_tens up down few) ∙ sym (mul_assoc m (10 ^ (up - down)) (10 ^ down)) in (
      ap (λ k. k / 10 ^ down) product ∙ mul-div_cancel (m * 10 ^ (up - down)) (tens_some down),
      ap (λ k. k % 10 ^ down) product ∙ mul-mod_left (m * 10 ^ (up - down)) (10 ^ down),
    )

zero_product : (r p : ℕ) → 0 < p → (r * p == 0) ≡ (r == 0)
zero_product zero p some = ap (λ k. k == 0) (zero-mul p)
zero_product (suc r) p some = ne_eqb (suc r * p) 0 (λ none. omega (arith, mul-pos (zero-lt-suc r) some)) ∙ sym (ne_eqb (suc r) 0 (λ none. omega arith))

-- with more tens below the line, those above it cancel
pub lowered_quotient : (m up down : ℕ) → up ≤ down → (m * 10 ^ up / 10 ^ down ≡ m / 10 ^ (down - up)) × ((m * 10 ^ up % 10 ^ down == 0) ≡ (m % 10 ^ (down - up) == 0))
lowered_quotient m up down few =
    let q = 10 ^ (down - up) in
    let p = 10 ^ up in
    let below : 10 ^ down ≡ q * p = split_tens down up few in
    let rest : m % q < q = mod-lt m (tens_some (down - up)) in
    let small : m % q * p < q * p = mul-lt-mul_of_pos_right rest (tens_some up) in
    let product : m * p ≡ m / q * (q * p) + m % q * p = ap (λ k. k * p) (sym (div-add-mod' m q)) ∙ (add-mul (m / q * q) (m % q) p ∙ ap (λ k. k + m % q * p) (mul_assoc (m / q) q p)) in
    let remainder : m * p % (q * p) ≡ m % q * p = ap (λ k. k % (q * p)) product ∙ mod-mul-add (m / q) (q * p) (m % q * p) small in (
      ap (λ k. m * p / k) below ∙ mul-div-mul_right {m = p} m q (tens_some up),
      ap (λ k. m * p % k == 0) below ∙ ap (λ k. k == 0) remainder ∙ zero_product (m % q) p (tens_some up),
    )
