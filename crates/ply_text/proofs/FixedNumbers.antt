-- A token that is taken apart from its front gives the number that it spells.
use Rattle.std.proofs.Common.{◌⊎◌, ◌≡◌, ◌≢◌, ℕ, suc, ◌+◌, Bool, true, false, cond, ◌&&◌, ◌||◌, ◌==◌, List, [], ◌∷◌, ◌++◌, length, get_or, take, drop, refl, sym, ap, ◌∙◌, subst, arith, ⊎_elim, Option, None, Some, IfSome, Result, Ok, Err, ℤ, unwrap_or, nat_le, inl, inr}
use Rattle.std.specs.List.{prefix_len}
use Rattle.std.specs.Char.{IsNotAsciiDigit, is_ascii_digit}
use Rattle.std.specs.Int.{IsInRange}
use Rattle.std.specs.Str.{all_ascii_digits}
use Rattle.std.specs.Str.Parse.{AllDigits}
use Rattle.std.proofs.lemmas.Bool.{and_parts, and_from, leb-true, le-leb, eqb-true}
use Rattle.std.proofs.lemmas.Bool.Decides.{nat_tests}
use Rattle.std.proofs.lemmas.List.{take-append-drop}
use Rattle.std.proofs.lemmas.List.Folds.{length-prefix_len}
use Rattle.std.proofs.lemmas.Str.{digit_value_digit}
use Rattle.ply_text.specs.declared.numbers.NumberFault.{NumberFault}
use Rattle.ply_text.specs.declared.numbers.NumberFault.TheVariants.{BadNumber, NotWhole, OutOfRange}
use Rattle.ply_text.specs.declared.numerals.Sign.{Sign}
use Rattle.ply_text.specs.declared.numerals.Sign.TheVariants.{Unsigned, Plus, Minus}
use Rattle.ply_text.specs.Numerals.{Exponent, Numeral, IsExponentDigits, IsExponent, IsNumeral, sign_text, fraction_text, exponent_text, spelled}
use Rattle.ply_text.specs.NumeralParts.{HasNoSign, EndsFraction, SpellsNoTens, SpellsNoNumeral}
use Rattle.ply_text.specs.Scaled.{number_of, ReadsNumber}
use Rattle.ply_text.specs.Fixed.{sign_at, behind_sign, digits_at, behind_digits, fraction_at, behind_fraction, are_exponent_digits, exponent_at, with_exponent, numeral_of, fixed_number, fixed_of}
use Rattle.ply_text.proofs.NumeralLaws.{signs_agree, digits_no_sign, IsSplit, split_from, in_order, one_numeral}
use Rattle.ply_text.proofs.ReadNumbers.{no_exponent, no_digit, digits_unwrapped}
use Rattle.ply_text.proofs.WholeTokens.{digits_test}

-- the sign at the front of a text, and what follows it
record SignFront (text : List ℕ) : Type 0 where
  pub spelled : text ≡ sign_text (sign_at text) ++ behind_sign text
  pub none : sign_at text ≡ Unsigned → HasNoSign (behind_sign text)

sign_front_at : (plus minus : Bool) (byte : ℕ) (rest : List ℕ) → (byte == 43) ≡ plus → (byte == 45) ≡ minus → SignFront (byte ∷ rest)
sign_front_at true minus byte rest p m =
    let is : byte ≡ 43 = eqb-true byte 43 p in
    let sign : sign_at (byte ∷ rest) ≡ Plus = ap (λ b. cond b Plus (cond (byte == 45) Minus Unsigned)) p in
    record {
      spelled = rw sign (ap (λ b. b ∷ rest) is);
      none = λ unsigned. absurd (cc (sign, unsigned));
    }
sign_front_at false true byte rest p m =
    let is : byte ≡ 45 = eqb-true byte 45 m in
    let sign : sign_at (byte ∷ rest) ≡ Minus = ap (λ b. cond b Plus (cond (byte == 45) Minus Unsigned)) p ∙ ap (λ b. cond b Minus Unsigned) m in
    record {
      spelled = rw sign (ap (λ b. b ∷ rest) is);
      none = λ unsigned. absurd (cc (sign, unsigned));
    }
sign_front_at false false byte rest p m =
    let sign : sign_at (byte ∷ rest) ≡ Unsigned = ap (λ b. cond b Plus (cond (byte == 45) Minus Unsigned)) p ∙ ap (λ b. cond b Minus Unsigned) m in
    let no : HasNoSign (byte ∷ rest) = (λ plus. grind (arith, nat_tests, p, plus), λ minus. grind (arith, nat_tests, m, minus)) in
    record {
      spelled = rw sign refl;
      none = λ _. subst (λ s. HasNoSign (drop (length (sign_text s)) (byte ∷ rest))) (sym sign) no;
    }

sign_front : (text : List ℕ) → SignFront text
sign_front [] = record { spelled = refl; none = λ _. (λ plus. omega arith, λ minus. omega arith) }
sign_front (byte ∷ rest) = sign_front_at (byte == 43) (byte == 45) byte rest refl refl

-- a byte that is a digit, and one that is none
digit_byte : (byte : ℕ) → is_ascii_digit byte ≡ true → IsInRange 48 57 byte
digit_byte byte is = let parts = and_parts (nat_le 48 byte) (nat_le byte 57) is in (leb-true 48 byte parts.0, leb-true byte 57 parts.1)

no_digit_byte : (byte : ℕ) → is_ascii_digit byte ≡ false → IsNotAsciiDigit byte
no_digit_byte byte is = grind (arith, nat_tests, is)

digits_are_at : (byte : ℕ) (rest : List ℕ) (b : Bool) → is_ascii_digit byte ≡ b → AllDigits 10 (digits_at rest) → AllDigits 10 (take (cond b (1 + prefix_len is_ascii_digit rest) 0) (byte ∷ rest))
digits_are_at byte rest true is behind =
    let digit : IsInRange 48 57 byte = digit_byte byte is in
    let value = digit_value_digit byte digit in
    let next : suc (prefix_len is_ascii_digit rest) ≡ 1 + prefix_len is_ascii_digit rest = omega arith in
    subst (λ n. AllDigits 10 (take n (byte ∷ rest))) next (omega (arith, value, digit), behind)
digits_are_at byte rest false is behind = tt

digits_are : (text : List ℕ) → AllDigits 10 (digits_at text)
digits_are [] = tt
digits_are (byte ∷ rest) = digits_are_at byte rest (is_ascii_digit byte) refl (digits_are rest)

digits_end_at : (byte : ℕ) (rest : List ℕ) (b : Bool) → is_ascii_digit byte ≡ b → IsNotAsciiDigit (get_or (behind_digits rest) 0 0) → IsNotAsciiDigit (get_or (drop (cond b (1 + prefix_len is_ascii_digit rest) 0) (byte ∷ rest)) 0 0)
digits_end_at byte rest true is behind =
    let next : suc (prefix_len is_ascii_digit rest) ≡ 1 + prefix_len is_ascii_digit rest = omega arith in
    subst (λ n. IsNotAsciiDigit (get_or (drop n (byte ∷ rest)) 0 0)) next behind
digits_end_at byte rest false is behind = no_digit_byte byte is

digits_end : (text : List ℕ) → IsNotAsciiDigit (get_or (behind_digits text) 0 0)
digits_end [] = inl (omega arith)
digits_end (byte ∷ rest) = digits_end_at byte rest (is_ascii_digit byte) refl (digits_end rest)

digits_front : (text : List ℕ) → text ≡ digits_at text ++ behind_digits text
digits_front text = sym (take-append-drop (prefix_len is_ascii_digit text) text)

-- a fraction at the front of a text, and what follows it
record FractionFront (text : List ℕ) : Type 0 where
  pub spelled : text ≡ fraction_text (fraction_at text) ++ behind_fraction text
  pub digits : IfSome (fraction_at text) (AllDigits 10)
  pub end : EndsFraction (fraction_at text) (behind_fraction text)

fraction_front_at : (point : Bool) (byte : ℕ) (rest : List ℕ) → (byte == 46) ≡ point → FractionFront (byte ∷ rest)
fraction_front_at true byte rest p =
    let is : byte ≡ 46 = eqb-true byte 46 p in
    let found : fraction_at (byte ∷ rest) ≡ Some (digits_at rest) = ap (λ b. cond b (Some (digits_at rest)) None) p in
    let behind : drop (length (digits_at rest)) rest ≡ behind_digits rest = ap (λ n. drop n rest) (length-prefix_len is_ascii_digit rest) in
    let front : (byte ∷ rest) ≡ fraction_text (Some (digits_at rest)) ++ drop (length (fraction_text (Some (digits_at rest)))) (byte ∷ rest) =
    ap (λ b. b ∷ rest) is ∙ ap (λ r. 46 ∷ r) (digits_front rest ∙ ap (λ r. digits_at rest ++ r) (sym behind)) in
    let end : EndsFraction (Some (digits_at rest)) (drop (length (fraction_text (Some (digits_at rest)))) (byte ∷ rest)) =
    subst (λ r. IsNotAsciiDigit (get_or r 0 0)) (sym behind) (digits_end rest) in
    record {
      spelled = subst (λ f. (byte ∷ rest) ≡ fraction_text f ++ drop (length (fraction_text f)) (byte ∷ rest)) (sym found) front;
      digits = subst (λ f. IfSome f (AllDigits 10)) (sym found) (digits_are rest);
      end = subst (λ f. EndsFraction f (drop (length (fraction_text f)) (byte ∷ rest))) (sym found) end;
    }
fraction_front_at false byte rest p =
    let found : fraction_at (byte ∷ rest) ≡ None = ap (λ b. cond b (Some (digits_at rest)) None) p in
    record {
      spelled = rw found refl;
      digits = subst (λ f. IfSome f (AllDigits 10)) (sym found) tt;
      end = rw found (λ point. grind (arith, nat_tests, p, point));
    }

fraction_front : (text : List ℕ) → FractionFront text
fraction_front [] = record { spelled = refl; digits = tt; end = λ point. omega arith }
fraction_front (byte ∷ rest) = fraction_front_at (byte == 46) byte rest refl

-- a token is taken apart
split_at : (token : List ℕ) → IsSplit token (sign_at token) (digits_at (behind_sign token)) (fraction_at (behind_digits (behind_sign token))) (behind_fraction (behind_digits (behind_sign token)))
split_at token =
    let sign = sign_front token in
    let text = behind_sign token in
    let fraction = fraction_front (behind_digits text) in
    split_from token text (behind_digits text) (behind_fraction (behind_digits text)) (digits_at text) (sign_at token) (fraction_at (behind_digits text))
    sign.spelled sign.none (digits_front text) (digits_are text) (digits_end text) fraction.spelled fraction.digits fraction.end

-- 1 to 4 digits, as facts
exponent_digits_tell : (text : List ℕ) → are_exponent_digits text ≡ true → IsExponentDigits text
exponent_digits_tell text is =
    let parts = and_parts (nat_le 1 (length text) && nat_le (length text) 4) (all_ascii_digits text) is in
    let sizes = and_parts (nat_le 1 (length text)) (nat_le (length text) 4) parts.0 in
    record { all = digits_test.to text parts.1; some = leb-true 1 (length text) sizes.0; few = leb-true (length text) 4 sizes.1 }

exponent_digits_from : (text : List ℕ) → IsExponentDigits text → are_exponent_digits text ≡ true
exponent_digits_from text good =
    and_from (nat_le 1 (length text) && nat_le (length text) 4) (all_ascii_digits text)
    (and_from (nat_le 1 (length text)) (nat_le (length text) 4) (le-leb 1 (length text) good.some) (le-leb (length text) 4 good.few))
    (digits_test.from text good.all)

-- what an exponent's text is, or that the text is none
abbrev IsExponentText : List ℕ → Option (Option Exponent) → Type 0
IsExponentText text None = SpellsNoTens text
IsExponentText text (Some e) = IfSome e IsExponent × (text ≡ exponent_text e)

letter_tells : (e capital : Bool) (letter : ℕ) → (letter == 101) ≡ e → (letter == 69) ≡ capital → (e || capital) ≡ true → (letter ≡ 101) ⊎ (letter ≡ 69)
letter_tells true capital letter is _ _ = inl (eqb-true letter 101 is)
letter_tells false true letter _ is _ = inr (eqb-true letter 69 is)
letter_tells false false letter _ _ never = absurd (cc never)

letter_from : (letter : ℕ) → (letter ≡ 101) ⊎ (letter ≡ 69) → ((letter == 101) || (letter == 69)) ≡ true
letter_from letter = ⊎_elim (λ is. rw is refl) (λ is. rw is refl)

exponent_is : (text : List ℕ) → IsExponentText text (exponent_at text)
exponent_is [] = (tt, refl)
exponent_is (letter ∷ rest) = of ((letter == 101 || letter == 69) && are_exponent_digits (behind_sign rest)) refl
  where
    of : (b : Bool) → ((letter == 101 || letter == 69) && are_exponent_digits (behind_sign rest)) ≡ b
        → IsExponentText (letter ∷ rest) (cond b (Some (Some (record { letter = letter; sign = sign_at rest; digits = behind_sign rest }))) None)
    of true is =
        let parts = and_parts (letter == 101 || letter == 69) (are_exponent_digits (behind_sign rest)) is in (
          record { letter = letter_tells (letter == 101) (letter == 69) letter refl refl parts.0; power = exponent_digits_tell (behind_sign rest) parts.1 },
          ap (λ r. letter ∷ r) (sign_front rest).spelled,
        )
    of false is = no
      where
        no : SpellsNoTens (letter ∷ rest)
        no None good same = let none : suc (length rest) ≡ 0 = ap length same in omega (arith, none)
        no (Some e) good same =
            let front = sign_front rest in
            let tail : rest ≡ sign_text e.sign ++ e.digits = ap (drop 1) same in
            let both = signs_agree (sign_at rest) e.sign (behind_sign rest) e.digits front.none (digits_no_sign e.digits good.power.all) (sym front.spelled ∙ tail) in
            let first : letter ≡ e.letter = ap (λ l. get_or l 0 0) same in
            let mark : (letter == 101 || letter == 69) ≡ true = letter_from letter (subst (λ l. (l ≡ 101) ⊎ (l ≡ 69)) (sym first) good.letter) in
            let digits : are_exponent_digits (behind_sign rest) ≡ true = ap are_exponent_digits both.1 ∙ exponent_digits_from e.digits good.power in
            let all = and_from (letter == 101 || letter == 69) (are_exponent_digits (behind_sign rest)) mark digits in
            cc (all, is)

-- what a token spells, or that it spells no number
abbrev IsNumeralText : List ℕ → Option Numeral → Type 0
IsNumeralText token None = SpellsNoNumeral token
IsNumeralText token (Some n) = IsNumeral n × (token ≡ spelled n)

numeral_from : (token whole rest : List ℕ) (sign : Sign) (fraction : Option (List ℕ)) (exponent : Option (Option Exponent)) → IsSplit token sign whole fraction rest
    → IsExponentText rest exponent → IsNumeralText token (with_exponent sign whole fraction exponent)
numeral_from token whole rest sign fraction None split none = no_exponent token whole rest sign fraction split none
numeral_from token whole rest sign fraction (Some exponent) split is = of (length whole + length (unwrap_or fraction []) == 0) refl
  where
    n : Numeral
    n = record { sign = sign; whole = whole; fraction = fraction; exponent = exponent }

    of : (b : Bool) → (length whole + length (unwrap_or fraction []) == 0) ≡ b → IsNumeralText token (cond b None (Some n))
    of true empty = no_digit token whole rest sign fraction split (eqb-true (length whole + length (unwrap_or fraction [])) 0 empty)
    of false some = (
      record {
        whole = split.whole_digits;
        fraction = digits_unwrapped fraction split.fraction_is_digits;
        some = grind (arith, nat_tests, some);
        exponent = is.0;
      },
      split.spelled ∙ ap (λ r. sign_text sign ++ (whole ++ (fraction_text fraction ++ r))) is.1 ∙ sym (in_order n),
    )

numeral_is : (token : List ℕ) → IsNumeralText token (numeral_of token)
numeral_is token =
    let rest = behind_digits (behind_sign token) in
    numeral_from token (digits_at (behind_sign token)) (behind_fraction rest) (sign_at token) (fraction_at rest) (exponent_at (behind_fraction rest))
    (split_at token) (exponent_is (behind_fraction rest))

-- a number or a refusal: whether it is the refusal of a token that is no number
by_fault : (P : Result ℤ NumberFault → Type 0) → ((r : Result ℤ NumberFault) → r ≢ Err BadNumber → P r) → P (Err BadNumber) → (r : Result ℤ NumberFault) → P r
by_fault P other bad (Ok z) = other (Ok z) (λ e. cc e)
by_fault P other bad (Err BadNumber) = bad
by_fault P other bad (Err NotWhole) = other (Err NotWhole) (λ e. cc e)
by_fault P other bad (Err OutOfRange) = other (Err OutOfRange) (λ e. cc e)

fixed_from : (token : List ℕ) (decimals : ℕ) (cut : Bool) (found : Option Numeral) → IsNumeralText token found → (result : Result ℤ NumberFault) → ReadsNumber token decimals cut result
    → result ≡ fixed_number decimals cut found
fixed_from token decimals cut None none =
    by_fault (λ r. ReadsNumber token decimals cut r → r ≡ Err BadNumber)
    (λ r other reads. let f = reads.found other in absurd (none f.0 f.1 f.2))
    (λ _. refl)
fixed_from token decimals cut (Some n) is =
    by_fault (λ r. ReadsNumber token decimals cut r → r ≡ number_of n decimals cut)
    (λ r other reads.
    let f = reads.found other in
    let same : f.0 ≡ n = one_numeral f.0 n f.1 is.0 (sym f.2 ∙ is.1) in
    f.3 ∙ ap (λ m. number_of m decimals cut) same)
    (λ reads. absurd (reads.missing refl n is.0 is.1))

-- what reads a token's number is its computed number
pub fixed_reads : (token : List ℕ) (decimals : ℕ) (cut : Bool) (result : Result ℤ NumberFault) → ReadsNumber token decimals cut result → result ≡ fixed_of decimals cut token
unfolding fixed_of
fixed_reads token decimals cut result = fixed_from token decimals cut (numeral_of token) (numeral_is token) result
