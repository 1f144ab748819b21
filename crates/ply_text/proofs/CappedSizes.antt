-- What digits write, and sizes told apart only up to 2^30.
use Rattle.std.proofs.Common.{◌≡◌, ℕ, suc, ◌+◌, ◌*◌, ◌^◌, ◌<◌, ◌≤◌, List, [], ◌∷◌, ◌++◌, length, get_or, take, refl, sym, ap, ◌∙◌, arith, lit<, ⊎_elim, mul-le-mul_left, mul-le-mul_right, take-suc}
use Rattle.std.specs.Int.{IsInRange}
use Rattle.std.specs.Char.{digit_value}
use Rattle.std.specs.Str.Parse.{AllDigits, digits_value, digits_value_after}
use Rattle.std.proofs.Math.Nat.{pow-le-pow_right, one-le-pow}
use Rattle.std.proofs.lemmas.Bool.{cases_lt}
use Rattle.std.proofs.lemmas.Str.{digit_value_digit}
use Rattle.std.proofs.lemmas.Str.Parse.{digit_at}
use Rattle.ply_text.specs.NumeralParts.{capped}

-- digits behind others count on from these
pub digits_value_after-append : (n : ℕ) (xs ys : List ℕ) → digits_value_after 10 n (xs ++ ys) ≡ digits_value_after 10 (digits_value_after 10 n xs) ys
digits_value_after-append n [] ys = refl
digits_value_after-append n (x ∷ xs) ys = digits_value_after-append (n * 10 + digit_value x) xs ys

-- one more digit
pub digits_value_after-more : (n : ℕ) (ds : List ℕ) (at : ℕ) → at < length ds → digits_value_after 10 n (take (at + 1) ds) ≡ digits_value_after 10 n (take at ds) * 10 + digit_value (get_or ds at 0)
digits_value_after-more n ds at inside =
    let next : at + 1 ≡ suc at = omega arith in
    ap (λ k. digits_value_after 10 n (take k ds)) next ∙ ap (digits_value_after 10 n) (take-suc ds at 0 inside) ∙ digits_value_after-append n (take at ds) (get_or ds at 0 ∷ [])

-- digits do not make less of what is before them
pub digits_value_after-ge : (n : ℕ) (ds : List ℕ) → n ≤ digits_value_after 10 n ds
digits_value_after-ge n [] = omega arith
digits_value_after-ge n (d ∷ ds) = omega (arith, digits_value_after-ge (n * 10 + digit_value d) ds)

-- what a digit's byte stands for
pub digit_of_byte : (ds : List ℕ) (at : ℕ) → AllDigits 10 ds → at < length ds → IsInRange 48 57 (get_or ds at 0) × (digit_value (get_or ds at 0) + 48 ≡ get_or ds at 0)
digit_of_byte ds at digits inside =
    let digit : IsInRange 48 57 (get_or ds at 0) = digit_at ds at digits inside in
    (digit, digit_value_digit (get_or ds at 0) digit)

-- a step of counting on may be capped at once
pub capped_more : (size digit : ℕ) → capped (capped size * 10 + digit) ≡ capped (size * 10 + digit)
capped_more size digit = omega arith

-- digits may be counted on from a capped size
pub capped_after : (n : ℕ) (ds : List ℕ) → capped (digits_value_after 10 (capped n) ds) ≡ capped (digits_value_after 10 n ds)
capped_after n ds =
    ⊎_elim
    (λ small. let same : capped n ≡ n = omega arith in ap (λ k. capped (digits_value_after 10 k ds)) same)
    (λ large. omega (arith, digits_value_after-ge (capped n) ds, digits_value_after-ge n ds))
    (cases_lt n (2 ^ 30 + 1))

-- the digits of two parts, counted one part after the other
pub capped_parts : (xs ys : List ℕ) → capped (digits_value_after 10 (capped (digits_value 10 xs)) ys) ≡ capped (digits_value 10 (xs ++ ys))
capped_parts xs ys = capped_after (digits_value 10 xs) ys ∙ ap capped (sym (digits_value_after-append 0 xs ys))

tens_at_least_one : (tens : ℕ) → 1 ≤ 10 ^ tens
tens_at_least_one tens = one-le-pow tens 10 (lit< tt)

-- a size may be capped before it is multiplied
pub capped_times : (size tens : ℕ) → capped (capped size * 10 ^ tens) ≡ capped (size * 10 ^ tens)
capped_times size tens =
    ⊎_elim
    (λ small. let same : capped size ≡ size = omega arith in ap (λ k. capped (k * 10 ^ tens)) same)
    (λ large.
    let one : 1 ≤ 10 ^ tens = tens_at_least_one tens in
    omega (arith, mul-le-mul_left (capped size) one, mul-le-mul_left size one))
    (cases_lt size (2 ^ 30 + 1))

-- ten tens and more make any size too large but 0
pub too_many_tens : (size tens : ℕ) → 0 < size → 9 < tens → 2 ^ 30 + 1 ≡ capped (size * 10 ^ tens)
too_many_tens size tens some many =
    let large : 10 ^ 10 ≤ 10 ^ tens = pow-le-pow_right {n = 10} (lit< tt) {i = 10} {j = tens} many in
    let least : 1 * 10 ^ tens ≤ size * 10 ^ tens = mul-le-mul_right (10 ^ tens) some in
    omega arith
