-- Numbers as plain texts write them are tokens, and are read as themselves.
use Rattle.std.proofs.Common.{◌≡◌, ℕ, suc, ◌+◌, ◌*◌, ◌/◌, ◌%◌, ◌^◌, ◌<◌, ◌≤◌, Bool, true, false, not, nat_lt, List, [], ◌∷◌, ◌++◌, length, ℤ, pos, negsuc, unsigned_abs, Option, None, Some, Result, Ok, Err, refl, sym, ap, ◌∙◌, arith, append-nil}
use Rattle.std.specs.Prelude.{◌==◌, decimal}
use Rattle.std.specs.Fmt.{signed_decimal}
use Rattle.std.specs.Int.{IsInRange}
use Rattle.std.specs.List.{list_all}
use Rattle.std.specs.Str.Parse.{AllDigits, digits_value}
use Rattle.std.proofs.lemmas.Bool.{and_from}
use Rattle.std.proofs.lemmas.Bool.Decides.{nat_tests}
use Rattle.std.proofs.lemmas.Fmt.{decimal_is_IsNumeral, decimal_nonempty, length-decimal-le}
use Rattle.ply_text.specs.declared.run.Run.TheVariants.{Token}
use Rattle.ply_text.specs.Fixed.{fixed_of, sign_at}
use Rattle.ply_text.specs.Numerals.{Numeral, IsNumeral, spelled}
use Rattle.ply_text.specs.Pieces.{belongs}
use Rattle.ply_text.specs.Scaled.{number_of, signed, settled}
use Rattle.ply_text.specs.Wholes.{whole_of}
use Rattle.ply_text.proofs.CappedSizes.{digit_of_byte}
use Rattle.ply_text.proofs.FixedNumbers.{fixed_reads}
use Rattle.ply_text.proofs.WholeTokens.{granted}
use Rattle.mesh_laws.proofs.NextTokens.{IsPlainToken}

-- what each digit passes, digits pass
pub digits_pass : (p : ℕ → Bool) → ((c : ℕ) → IsInRange 48 57 c → p c ≡ true) → (ds : List ℕ) → AllDigits 10 ds → list_all p ds ≡ true
digits_pass p passes [] all = refl
digits_pass p passes (c ∷ cs) all =
    and_from (p c) (list_all p cs) (passes c (digit_of_byte (c ∷ []) 0 (all.0, tt) (omega arith)).0) (digits_pass p passes cs all.1)

digit_in_token : (c : ℕ) → IsInRange 48 57 c → belongs Token c ≡ true
unfolding belongs
digit_in_token c digit = grind (arith, nat_tests, digit)

pub digits_of : (n : ℕ) → n < 2 ^ 64 → AllDigits 10 (decimal n)
digits_of n small = (decimal_is_IsNumeral n small).0.1

pub few_digits : (n : ℕ) → n < 2 ^ 64 → length (decimal n) ≤ 20
few_digits n small = length-decimal-le 20 n (omega arith) (omega (arith, small)) small

pub decimal_token : (n : ℕ) → n < 2 ^ 64 → IsPlainToken (decimal n)
decimal_token n small = record {
  some = decimal_nonempty n small;
  few = omega (arith, few_digits n small);
  whole = digits_pass (belongs Token) digit_in_token (decimal n) (digits_of n small);
}

pub whole_of_decimal : (n limit : ℕ) → n < 2 ^ 64 → n ≤ limit → whole_of (decimal n) limit ≡ Some n
whole_of_decimal n limit small within =
    let value : digits_value 10 (decimal n) ≡ n = (decimal_is_IsNumeral n small).1 in
    sym (granted (decimal n) limit (record { some = decimal_nonempty n small; few = few_digits n small; digits = digits_of n small }) (omega (arith, value, within)))
    ∙ ap (λ (m : ℕ). Some m) value

pub signed_token : (z : ℤ) → unsigned_abs z ≤ 2 ^ 30 → IsPlainToken (signed_decimal z)
unfolding belongs
signed_token (pos n) near = decimal_token n (omega (arith, near))
signed_token (negsuc n) near =
    let size : IsPlainToken (decimal (suc n)) = decimal_token (suc n) (omega (arith, near)) in
    record { some = omega arith; few = omega (arith, few_digits (suc n) (omega (arith, near))); whole = size.whole }

-- the number of digits alone, with the sign that a text begins with
whole_numeral : List ℕ → ℕ → Numeral
whole_numeral front n = record { sign = sign_at front; whole = decimal n; fraction = None; exponent = None }

is_numeral : (front : List ℕ) (n : ℕ) → n < 2 ^ 64 → IsNumeral (whole_numeral front n)
unfolding whole_numeral
is_numeral front n small = record { whole = digits_of n small; fraction = tt; some = omega (arith, decimal_nonempty n small); exponent = tt }

settled_is : (front : List ℕ) (n : ℕ) (cut : Bool) → n ≤ 2 ^ 30 → settled (sign_at front) n true cut ≡ Ok (signed (sign_at front) n)
settled_is front n cut near = let small : nat_lt (2 ^ 30) n ≡ false = grind (arith, nat_tests, near) in rw small refl

value_is : (front : List ℕ) (n : ℕ) (cut : Bool) → n ≤ 2 ^ 30 → number_of (whole_numeral front n) 0 cut ≡ Ok (signed (sign_at front) n)
unfolding number_of whole_numeral
value_is front n cut near =
    let value : digits_value 10 (decimal n ++ []) ≡ n = ap (digits_value 10) (append-nil (decimal n)) ∙ (decimal_is_IsNumeral n (omega (arith, near))).1 in
    let times : n * 1 / 1 ≡ n = omega arith in
    let rest : n * 1 % 1 ≡ 0 = omega arith in
    rw (value, times, rest) (settled_is front n cut near)

fixed_from : (cut : Bool) (token front : List ℕ) (n : ℕ) → n ≤ 2 ^ 30 → token ≡ spelled (whole_numeral front n) → fixed_of 0 cut token ≡ Ok (signed (sign_at front) n)
fixed_from cut token front n near spells =
    sym (fixed_reads token 0 cut (Ok (signed (sign_at front) n)) (record {
      found = λ _. (whole_numeral front n, is_numeral front n (omega (arith, near)), spells, sym (value_is front n cut near));
      missing = λ e. absurd cc;
    }))

pub fixed_signed : (cut : Bool) (z : ℤ) → unsigned_abs z ≤ 2 ^ 30 → fixed_of 0 cut (signed_decimal z) ≡ Ok z
unfolding spelled whole_numeral
fixed_signed cut (pos n) near = fixed_from cut (decimal n) [] n near (sym (append-nil (decimal n ++ []) ∙ append-nil (decimal n)))
fixed_signed cut (negsuc n) near =
    fixed_from cut (45 ∷ decimal (suc n)) (45 ∷ []) (suc n) near (ap (λ ds. 45 ∷ ds) (sym (append-nil (decimal (suc n) ++ []) ∙ append-nil (decimal (suc n)))))
