-- What was read of a token, part by part, and the number that it spells.
use Rattle.std.proofs.Common.{◌≡◌, ℕ, ◌+◌, ◌*◌, ◌/◌, ◌%◌, ◌^◌, ◌<◌, ◌≤◌, Bool, true, false, ◌==◌, List, [], ◌++◌, length, refl, sym, ap, ◌∙◌, subst, arith, lit<, ⊎_elim, lt_of_lt_of_le, Option, None, Some, IfSome, Result, Err, Ok, ℤ, unwrap_or, option_copied, Bor, length-append, append-nil, nat_lt, if◌then◌else◌}
use Rattle.std.specs.Str.Parse.{AllDigits, digits_value}
use Rattle.std.proofs.Math.Nat.{pow-le-pow_right}
use Rattle.std.proofs.lemmas.Bool.{cases_lt, lt-ltb, cond-true}
use Rattle.std.proofs.lemmas.Int.Digits.{digits_value-lt}
use Rattle.ply_text.specs.declared.numbers.NumberFault.{NumberFault}
use Rattle.ply_text.specs.declared.numbers.NumberFault.TheVariants.{BadNumber, OutOfRange}
use Rattle.ply_text.specs.declared.numerals.Parts.{Parts}
use Rattle.ply_text.specs.declared.numerals.Sign.{Sign}
use Rattle.ply_text.specs.declared.numerals.Sign.TheVariants.{Unsigned, Plus, Minus}
use Rattle.ply_text.specs.Numerals.{Exponent, Numeral, IsNumeral, IsExponentDigits, IsExponent, sign_text, fraction_text, exponent_text, spelled, fraction_digits}
use Rattle.ply_text.specs.NumeralParts.{HasNoSign, SpellsNoCount, SpellsTens, SpellsNoTens, SpellsParts, SpellsNoNumeral, IsWithinBounds, parts_top, parts_bottom, capped}
use Rattle.ply_text.specs.Scaled.{unless_minus, if_minus, tens_up, tens_down, top_of, bottom_of, signed, settled, number_of, ReadsNumber}
use Rattle.ply_text.proofs.DigitRuns.{AllDigits-append}
use Rattle.ply_text.proofs.NumeralLaws.{signs_agree, digits_no_sign, in_order, IsSplit, parts_agree}
use Rattle.ply_text.proofs.WholeTokens.{IsWhole, IsRead}

-- the digits of an exponent are a whole number of at most 9999
pub power_is_whole : (ds : List ℕ) → IsExponentDigits ds → IsWhole ds × (digits_value 10 ds ≤ 9999)
power_is_whole ds good =
    let small : digits_value 10 ds < 10 ^ 4 = lt_of_lt_of_le (digits_value-lt 10 ds good.all) (pow-le-pow_right {n = 10} (lit< tt) {i = length ds} {j = 4} good.few) in
    (record { some = good.some; few = omega (arith, good.few); digits = good.all }, omega (arith, small))

-- behind its sign a text has no digits of an exponent
pub no_count : (text digits : List ℕ) (sign : Sign) → text ≡ sign_text sign ++ digits → (sign ≡ Unsigned → HasNoSign digits) → (IsExponentDigits digits → ⊥) → SpellsNoCount text
no_count text digits sign text_is no_sign never other ds good other_is =
    let both = signs_agree sign other digits ds no_sign (digits_no_sign ds good.all) (sym text_is ∙ other_is) in
    never (subst IsExponentDigits (sym both.1) good)

-- a token that was taken apart and whose rest is no exponent is no number
pub no_exponent : (token whole rest : List ℕ) (sign : Sign) (fraction : Option (List ℕ)) → IsSplit token sign whole fraction rest → SpellsNoTens rest → SpellsNoNumeral token
no_exponent token whole rest sign fraction split none n good text =
    none n.exponent good.exponent (parts_agree token sign whole fraction rest split n good text).same_rest

-- nor is one with no digit
pub no_digit : (token whole rest : List ℕ) (sign : Sign) (fraction : Option (List ℕ)) → IsSplit token sign whole fraction rest → length whole + length (unwrap_or fraction []) ≡ 0 → SpellsNoNumeral token
no_digit token whole rest sign fraction split none n good text =
    let parts = parts_agree token sign whole fraction rest split n good text in
    omega (arith, good.some, none, ap length parts.same_whole, ap (λ f. length (unwrap_or f [])) parts.same_fraction)

-- the digits after a point are some of a fraction's bytes
short_fraction : (f : Option (List ℕ)) → length (unwrap_or f []) ≤ length (fraction_text f)
short_fraction None = omega arith
short_fraction (Some ds) = omega arith

-- and of a number's
short_decimals : (n : Numeral) → length (fraction_digits n) ≤ length (spelled n)
short_decimals n =
    omega (
      arith,
      short_fraction n.fraction,
      ap length (in_order n),
      length-append (sign_text n.sign) (n.whole ++ (fraction_text n.fraction ++ exponent_text n.exponent)),
      length-append n.whole (fraction_text n.fraction ++ exponent_text n.exponent),
      length-append (fraction_text n.fraction) (exponent_text n.exponent),
    )

few_tens : (sign : Sign) (n : ℕ) → n ≤ 9999 → (unless_minus sign n ≤ 9999) × (if_minus sign n ≤ 9999)
few_tens Unsigned n few = (few, omega arith)
few_tens Plus n few = (few, omega arith)
few_tens Minus n few = (omega arith, few)

few_exponent_tens : (e : Option Exponent) → IfSome e IsExponent → (tens_up e ≤ 9999) × (tens_down e ≤ 9999)
few_exponent_tens None good = (omega arith, omega arith)
few_exponent_tens (Some e) good = few_tens e.sign (digits_value 10 e.digits) (power_is_whole e.digits good.power).1

-- the parts of a short token are within their bounds
pub bounds_read : (token : List ℕ) (parts : Parts) → length token ≤ 255 → SpellsParts token parts → IsWithinBounds parts
bounds_read token parts short s =
    let tens = few_exponent_tens s.numeral.exponent s.good.exponent in
    record {
      digits = rw (s.whole, s.fraction) (AllDigits-append s.numeral.whole (fraction_digits s.numeral) s.good.whole s.good.fraction);
      short = omega (arith, short, ap length s.fraction, ap length s.spelled, short_decimals s.numeral);
      up = omega (arith, s.up, tens.0);
      down = omega (arith, s.down, tens.1);
    }

-- the number of a size that is not refused as not whole
ranged : Sign → ℕ → Result ℤ NumberFault
ranged sign size = if nat_lt (2 ^ 30) size then Err OutOfRange else Ok (signed sign size)

ranged_capped : (sign : Sign) (size : ℕ) → ranged sign (capped size) ≡ ranged sign size
unfolding ranged
ranged_capped sign size =
    ⊎_elim
    (λ small. let same : capped size ≡ size = omega arith in ap (ranged sign) same)
    (λ large.
    cond-true (nat_lt (2 ^ 30) (capped size)) (Err OutOfRange) (Ok (signed sign (capped size))) (lt-ltb (2 ^ 30) (capped size) (omega arith))
    ∙ sym (cond-true (nat_lt (2 ^ 30) size) (Err OutOfRange) (Ok (signed sign size)) (lt-ltb (2 ^ 30) size (omega arith))))
    (cases_lt size (2 ^ 30 + 1))

-- sizes above 2^30 are told apart from no other ones
settled_capped : (sign : Sign) (size : ℕ) (is_whole cut : Bool) → settled sign (capped size) is_whole cut ≡ settled sign size is_whole cut
unfolding ranged
settled_capped sign size false false = refl
settled_capped sign size false true = ranged_capped sign size
settled_capped sign size true false = ranged_capped sign size
settled_capped sign size true true = ranged_capped sign size

-- nor is it refused as no number
ranged_number : (large : Bool) (z : ℤ) → (if large then Err OutOfRange else Ok z) ≡ Err BadNumber → ⊥
ranged_number true z bad = absurd (cc bad)
ranged_number false z bad = absurd (cc bad)

-- a number is not refused as none
settled_number : (sign : Sign) (size : ℕ) (is_whole cut : Bool) → settled sign size is_whole cut ≡ Err BadNumber → ⊥
settled_number sign size false false bad = absurd (cc bad)
settled_number sign size false true bad = ranged_number (nat_lt (2 ^ 30) size) (signed sign size) bad
settled_number sign size true false bad = ranged_number (nat_lt (2 ^ 30) size) (signed sign size) bad
settled_number sign size true true bad = ranged_number (nat_lt (2 ^ 30) size) (signed sign size) bad

-- what was read of a token is its number
pub number_read : (token : List ℕ) (parts : Parts) (decimals size : ℕ) (is_whole cut : Bool) (result : Result ℤ NumberFault) → SpellsParts token parts
    → size ≡ capped (parts_top parts decimals / parts_bottom parts) → is_whole ≡ (parts_top parts decimals % parts_bottom parts == 0)
    → result ≡ settled parts.sign size is_whole cut → ReadsNumber token decimals cut result
unfolding number_of
number_read token parts decimals size is_whole cut result s size_is whole_is result_is =
    let n = s.numeral in
    let top : parts_top parts decimals ≡ top_of n decimals = rw (s.whole, s.fraction, s.up) refl in
    let bottom : parts_bottom parts ≡ bottom_of n = rw (s.fraction, s.down) refl in
    let sizes : size ≡ capped (top_of n decimals / bottom_of n) = size_is ∙ rw (top, bottom) refl in
    let wholes : is_whole ≡ (top_of n decimals % bottom_of n == 0) = whole_is ∙ rw (top, bottom) refl in
    let number : result ≡ number_of n decimals cut =
    result_is ∙ rw (s.sign, sizes, wholes) (settled_capped n.sign (top_of n decimals / bottom_of n) (top_of n decimals % bottom_of n == 0) cut) in
    record {
      found = λ _. (n, s.good, s.spelled, number);
      missing = λ bad. absurd (settled_number parts.sign size is_whole cut (sym result_is ∙ bad));
    }

-- digits behind a sign are a whole number
pub whole_read : (token text : List ℕ) (sign : Sign) (decimals size scaled : ℕ) (cut : Bool) (result : Result ℤ NumberFault) → token ≡ sign_text sign ++ text
    → IsRead text (2 ^ 30) size → scaled ≡ capped (size * 10 ^ decimals) → result ≡ settled sign scaled true cut → ReadsNumber token decimals cut result
unfolding number_of spelled
whole_read token text sign decimals size scaled cut result token_is read scaled_is result_is =
    let n : Numeral = record { sign = sign; whole = text; fraction = None; exponent = None } in
    let text_is : token ≡ spelled n = token_is ∙ sym (append-nil (sign_text sign ++ text)) ∙ sym (append-nil ((sign_text sign ++ text) ++ [])) in
    let good : IsNumeral n = record { whole = read.whole.digits; fraction = tt; some = omega (arith, read.whole.some); exponent = tt } in
    let digits : digits_value 10 (text ++ []) ≡ size = ap (digits_value 10) (append-nil text) ∙ sym read.number in
    let tens : decimals + 0 ≡ decimals = omega arith in
    let top : top_of n decimals ≡ size * 10 ^ decimals = rw (digits, tens) refl in
    let all : top_of n decimals / bottom_of n ≡ size * 10 ^ decimals = omega (arith, top) in
    let whole : top_of n decimals % bottom_of n ≡ 0 = omega arith in
    let tests : (top_of n decimals % bottom_of n == 0) ≡ true = ap (λ k. k == 0) whole in
    let number : result ≡ number_of n decimals cut =
    result_is ∙ ap (λ k. settled sign k true cut) scaled_is ∙ settled_capped sign (size * 10 ^ decimals) true cut
    ∙ ap (λ k. settled sign k true cut) (sym all) ∙ ap (λ b. settled sign (top_of n decimals / bottom_of n) b cut) (sym tests) in
    record {
      found = λ _. (n, good, text_is, number);
      missing = λ bad. absurd (settled_number sign scaled true cut (sym result_is ∙ bad));
    }

-- the digits of a fraction, or none
pub unwrap_digits : (fraction : Option (Bor (List ℕ))) (none : Bor (List ℕ)) → none.now ≡ [] → (unwrap_or fraction none).now ≡ unwrap_or (option_copied fraction) []
unwrap_digits None none empty = empty
unwrap_digits (Some digits) none empty = refl

pub digits_unwrapped : (fraction : Option (List ℕ)) → IfSome fraction (AllDigits 10) → AllDigits 10 (unwrap_or fraction [])
digits_unwrapped None digits = tt
digits_unwrapped (Some ds) digits = digits

-- a token that was taken apart and whose rest is an exponent is a number, where it has a digit
pub parts_read : (token rest : List ℕ) (parts : Parts) (fraction : Option (List ℕ)) → IsSplit token parts.sign parts.whole.now fraction rest → SpellsTens rest parts.tens
    → parts.fraction.now ≡ unwrap_or fraction [] → (length parts.whole.now + length parts.fraction.now ≡ 0 → ⊥) → SpellsParts token parts
parts_read token rest parts fraction split tens digits_are some =
    let numeral : Numeral = record { sign = parts.sign; whole = parts.whole.now; fraction = fraction; exponent = tens.exponent } in
    let body : token ≡ sign_text parts.sign ++ (parts.whole.now ++ (fraction_text fraction ++ exponent_text tens.exponent)) =
    split.spelled ∙ ap (λ l. sign_text parts.sign ++ (parts.whole.now ++ (fraction_text fraction ++ l))) tens.spelled in
    record {
      numeral = numeral;
      good = record {
        whole = split.whole_digits;
        fraction = digits_unwrapped fraction split.fraction_is_digits;
        some = omega (arith, some, ap length digits_are);
        exponent = tens.good;
      };
      spelled = body ∙ sym (in_order numeral);
      sign = refl;
      whole = refl;
      fraction = digits_are;
      up = tens.up;
      down = tens.down;
    }
