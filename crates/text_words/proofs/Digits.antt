-- Texts of decimal digits, and the numbers that they write.
use Rattle.std.proofs.Common.{◌≡◌, ℕ, zero, suc, ◌+◌, ◌*◌, ◌^◌, ◌<◌, ◌≤◌, Bool, true, false, ◌&&◌, List, [], ◌∷◌, length, take, get_or, arith, refl, lit<}
use Rattle.std.specs.List.{list_all}
use Rattle.std.specs.Char.{is_ascii_digit, digit_value}
use Rattle.std.specs.Str.Parse.{digits_value, AllDigits}
use Rattle.std.proofs.Math.Nat.{pow-le-pow_right}
use Rattle.std.proofs.lemmas.Bool.Decides.{nat_tests}
use Rattle.std.proofs.lemmas.Int.Digits.{digits_value-lt, digits_value_more}
use Rattle.std.proofs.lemmas.Str.{digit_value_digit}
use Rattle.std.proofs.lemmas.Str.Parse.{digit_from_value, digits_value-take-le}

digit_below_ten : (c : ℕ) → is_ascii_digit c ≡ true → digit_value c < 10
digit_below_ten c h = grind (arith, nat_tests)

both_true : (a b : Bool) → (a && b) ≡ true → (a ≡ true) × (b ≡ true)
both_true true b h = (refl, h)
both_true false b h = (h, absurd cc)

pub all_digits : (text : List ℕ) → list_all is_ascii_digit text ≡ true → AllDigits 10 text
all_digits [] h = tt
all_digits (c ∷ rest) h =
    let both = both_true (is_ascii_digit c) (list_all is_ascii_digit rest) h in (digit_below_ten c both.0, all_digits rest both.1)

digit_at : (text : List ℕ) (i : ℕ) → AllDigits 10 text → i < length text → digit_value (get_or text i 0) < 10
digit_at [] i h within = absurd (omega arith)
digit_at (c ∷ rest) zero h within = h.0
digit_at (c ∷ rest) (suc i) h within = digit_at rest i h.1 (omega arith)

-- what a digit adds to the number of those before it
pub digit_is : (text : List ℕ) (i : ℕ) → list_all is_ascii_digit text ≡ true → i < length text
    → digit_value (get_or text i 0) + 48 ≡ get_or text i 0
digit_is text i h within = digit_value_digit (get_or text i 0) (digit_from_value (get_or text i 0) (digit_at text i (all_digits text h) within))

pub value_within : (text : List ℕ) → list_all is_ascii_digit text ≡ true → length text ≤ 18 → digits_value 10 text < 10 ^ 18
value_within text h short =
    let below = digits_value-lt 10 text (all_digits text h) in
    let most : 10 ^ length text ≤ 10 ^ 18 = pow-le-pow_right {n = 10} (lit< tt) {i = length text} {j = 18} short in
    omega arith

-- the number of one digit more fits as well
pub next_within : (text : List ℕ) (i : ℕ) → list_all is_ascii_digit text ≡ true → length text ≤ 18 → i < length text
    → digits_value 10 (take i text) * 10 + digit_value (get_or text i 0) < 10 ^ 18
next_within text i h short within =
    let whole = value_within text h short in
    let more = digits_value_more 10 text i within in
    let part : digits_value 10 (take (i + 1) text) ≤ digits_value 10 text = digits_value-take-le 10 text (i + 1) (omega arith) in
    omega arith
