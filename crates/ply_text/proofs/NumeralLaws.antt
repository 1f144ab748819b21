-- A token is read in one way: what its parts are, when they are told apart by what follows them.
use Rattle.std.proofs.Common.{◌≡◌, ◌≢◌, ℕ, suc, ◌+◌, ◌≤◌, List, [], ◌∷◌, ◌++◌, length, get_or, drop, refl, sym, ap, ◌∙◌, subst, arith, ⊎_elim, Option, None, Some, IfSome, unwrap_or, append_assoc, inl, inr, lit<}
use Rattle.std.specs.Char.{IsNotAsciiDigit}
use Rattle.std.specs.Int.{IsInRange}
use Rattle.std.specs.Str.Parse.{AllDigits}
use Rattle.std.proofs.lemmas.Str.Parse.{digit_from_value}
use Rattle.ply_text.specs.declared.numerals.Sign.{Sign}
use Rattle.ply_text.specs.declared.numerals.Sign.TheVariants.{Unsigned, Plus, Minus}
use Rattle.ply_text.specs.Numerals.{Exponent, Numeral, IsExponent, IsNumeral, sign_text, fraction_text, exponent_text, spelled}
use Rattle.ply_text.specs.NumeralParts.{HasNoSign, EndsFraction}
use Rattle.ply_text.proofs.DigitRuns.{runs_agree}

-- digits begin with no sign
pub digits_no_sign : (ds : List ℕ) → AllDigits 10 ds → HasNoSign ds
digits_no_sign [] digits = (λ plus. omega arith, λ minus. omega arith)
digits_no_sign (d ∷ ds) digits = let digit : IsInRange 48 57 d = digit_from_value d digits.0 in (λ plus. omega arith, λ minus. omega arith)

marks_differ : (mark : ℕ) → mark ≡ 43 → mark ≡ 45 → ⊥
marks_differ mark plus minus = omega arith

-- a sign, and what begins with none
pub signs_agree : (a b : Sign) (r s : List ℕ) → (a ≡ Unsigned → HasNoSign r) → HasNoSign s → sign_text a ++ r ≡ sign_text b ++ s → (a ≡ b) × (r ≡ s)
signs_agree Unsigned Unsigned r s p q e = (refl, e)
signs_agree Unsigned Plus r s p q e = absurd ((p refl).0 (ap (λ l. get_or l 0 0) e))
signs_agree Unsigned Minus r s p q e = absurd ((p refl).1 (ap (λ l. get_or l 0 0) e))
signs_agree Plus Unsigned r s p q e = absurd (q.0 (sym (ap (λ l. get_or l 0 0) e)))
signs_agree Plus Plus r s p q e = (refl, ap (drop 1) e)
signs_agree Plus Minus r s p q e = absurd (marks_differ 43 refl (ap (λ l. get_or l 0 0) e))
signs_agree Minus Unsigned r s p q e = absurd (q.1 (sym (ap (λ l. get_or l 0 0) e)))
signs_agree Minus Plus r s p q e = absurd (marks_differ 43 refl (sym (ap (λ l. get_or l 0 0) e)))
signs_agree Minus Minus r s p q e = (refl, ap (drop 1) e)

-- what may follow the digits of a number: neither a digit nor a point
pub record IsTail (text : List ℕ) : Type 0 where
  pub digit : IsNotAsciiDigit (get_or text 0 0)
  pub point : get_or text 0 0 ≢ 46

pub exponent_is_tail : (e : Option Exponent) → IfSome e IsExponent → IsTail (exponent_text e)
exponent_is_tail None good = record { digit = inl (lit< tt); point = λ point. omega arith }
exponent_is_tail (Some e) good =
    ⊎_elim
    (λ small. record { digit = inr (omega arith); point = λ point. omega arith })
    (λ capital. record { digit = inr (omega arith); point = λ point. omega arith })
    good.letter

-- a fraction, and what ends it
pub fractions_agree : (a b : Option (List ℕ)) (r s : List ℕ) → IfSome a (AllDigits 10) → IfSome b (AllDigits 10) → EndsFraction a r → IsTail s → fraction_text a ++ r ≡ fraction_text b ++ s → (a ≡ b) × (r ≡ s)
fractions_agree None None r s x y p q e = (refl, e)
fractions_agree None (Some b) r s x y p q e = absurd (p (ap (λ l. get_or l 0 0) e))
fractions_agree (Some a) None r s x y p q e = absurd (q.point (sym (ap (λ l. get_or l 0 0) e)))
fractions_agree (Some a) (Some b) r s x y p q e =
    let both = runs_agree a b r s x y p q.digit (ap (drop 1) e) in
    (ap Some both.0, both.1)

-- exponents with one text are one
pub exponents_agree : (a b : Option Exponent) → IfSome a IsExponent → IfSome b IsExponent → exponent_text a ≡ exponent_text b → a ≡ b
exponents_agree None None x y e = refl
exponents_agree None (Some b) x y e = let none : 0 ≡ suc (length (sign_text b.sign ++ b.digits)) = ap length e in absurd (omega arith)
exponents_agree (Some a) None x y e = let none : suc (length (sign_text a.sign ++ a.digits)) ≡ 0 = ap length e in absurd (omega arith)
exponents_agree (Some a) (Some b) x y e =
    let letter : a.letter ≡ b.letter = ap (λ l. get_or l 0 0) e in
    let both = signs_agree a.sign b.sign a.digits b.digits (λ _. digits_no_sign a.digits x.power.all) (digits_no_sign b.digits y.power.all) (ap (drop 1) e) in
    λ i. Some (record { letter = letter i; sign = both.0 i; digits = both.1 i })

-- the digits of a number's fraction
fraction_is_digits : (n : Numeral) → IsNumeral n → IfSome n.fraction (AllDigits 10)
fraction_is_digits n good = of n.fraction good.fraction
  where
    of : (f : Option (List ℕ)) → AllDigits 10 (unwrap_or f []) → IfSome f (AllDigits 10)
    of None digits = tt
    of (Some ds) digits = digits

-- behind a number's first digits stands no digit
behind_whole : (f : Option (List ℕ)) (rest : List ℕ) → IsTail rest → IsNotAsciiDigit (get_or (fraction_text f ++ rest) 0 0)
behind_whole None rest tail = tail.digit
behind_whole (Some ds) rest tail = inl (lit< tt)

-- behind a number's sign stands no other
behind_sign : (whole : List ℕ) (f : Option (List ℕ)) (rest : List ℕ) → AllDigits 10 whole → 1 ≤ length whole + length (unwrap_or f []) → HasNoSign (whole ++ (fraction_text f ++ rest))
behind_sign [] None rest digits some = absurd (omega arith)
behind_sign [] (Some ds) rest digits some = (λ plus. omega arith, λ minus. omega arith)
behind_sign (d ∷ ds) f rest digits some = let digit : IsInRange 48 57 d = digit_from_value d digits.0 in (λ plus. omega arith, λ minus. omega arith)

-- a number's text, part by part
pub in_order : (n : Numeral) → spelled n ≡ sign_text n.sign ++ (n.whole ++ (fraction_text n.fraction ++ exponent_text n.exponent))
unfolding spelled
in_order n =
    append_assoc (sign_text n.sign ++ n.whole) (fraction_text n.fraction) (exponent_text n.exponent)
    ∙ append_assoc (sign_text n.sign) n.whole (fraction_text n.fraction ++ exponent_text n.exponent)

-- a token taken apart: a sign, digits, a fraction, and the rest, each as long as it can be
pub record IsSplit (token : List ℕ) (sign : Sign) (whole : List ℕ) (fraction : Option (List ℕ)) (rest : List ℕ) : Type 0 where
  pub spelled : token ≡ sign_text sign ++ (whole ++ (fraction_text fraction ++ rest))
  pub no_sign : sign ≡ Unsigned → HasNoSign (whole ++ (fraction_text fraction ++ rest))
  pub whole_digits : AllDigits 10 whole
  pub whole_end : IsNotAsciiDigit (get_or (fraction_text fraction ++ rest) 0 0)
  pub fraction_is_digits : IfSome fraction (AllDigits 10)
  pub fraction_end : EndsFraction fraction rest

-- these are the parts of each number that the token spells
pub record AreParts (n : Numeral) (sign : Sign) (whole : List ℕ) (fraction : Option (List ℕ)) (rest : List ℕ) : Type 0 where
  pub same_sign : sign ≡ n.sign
  pub same_whole : whole ≡ n.whole
  pub same_fraction : fraction ≡ n.fraction
  pub same_rest : rest ≡ exponent_text n.exponent

pub parts_agree : (token : List ℕ) (sign : Sign) (whole : List ℕ) (fraction : Option (List ℕ)) (rest : List ℕ) → IsSplit token sign whole fraction rest → (n : Numeral) → IsNumeral n → token ≡ spelled n → AreParts n sign whole fraction rest
parts_agree token sign whole fraction rest split n good text =
    let tail : IsTail (exponent_text n.exponent) = exponent_is_tail n.exponent good.exponent in
    let signs = signs_agree sign n.sign (whole ++ (fraction_text fraction ++ rest)) (n.whole ++ (fraction_text n.fraction ++ exponent_text n.exponent)) split.no_sign (behind_sign n.whole n.fraction (exponent_text n.exponent) good.whole good.some) (sym split.spelled ∙ (text ∙ in_order n)) in
    let wholes = runs_agree whole n.whole (fraction_text fraction ++ rest) (fraction_text n.fraction ++ exponent_text n.exponent) split.whole_digits good.whole split.whole_end (behind_whole n.fraction (exponent_text n.exponent) tail) signs.1 in
    let fractions = fractions_agree fraction n.fraction rest (exponent_text n.exponent) split.fraction_is_digits (fraction_is_digits n good) split.fraction_end tail wholes.1 in
    record { same_sign = signs.0; same_whole = wholes.0; same_fraction = fractions.0; same_rest = fractions.1 }

-- a number's text is taken apart into its parts
ends_fraction : (f : Option (List ℕ)) (rest : List ℕ) → IsTail rest → EndsFraction f rest
ends_fraction None rest tail = tail.point
ends_fraction (Some ds) rest tail = tail.digit

numeral_split : (n : Numeral) → IsNumeral n → IsSplit (spelled n) n.sign n.whole n.fraction (exponent_text n.exponent)
numeral_split n good =
    let tail : IsTail (exponent_text n.exponent) = exponent_is_tail n.exponent good.exponent in
    record {
      spelled = in_order n;
      no_sign = λ _. behind_sign n.whole n.fraction (exponent_text n.exponent) good.whole good.some;
      whole_digits = good.whole;
      whole_end = behind_whole n.fraction (exponent_text n.exponent) tail;
      fraction_is_digits = fraction_is_digits n good;
      fraction_end = ends_fraction n.fraction (exponent_text n.exponent) tail;
    }

-- a token is the text of one number at most
pub one_numeral : (a b : Numeral) → IsNumeral a → IsNumeral b → spelled a ≡ spelled b → a ≡ b
one_numeral a b these those same =
    let parts = parts_agree (spelled a) a.sign a.whole a.fraction (exponent_text a.exponent) (numeral_split a these) b those same in
    let exponent = exponents_agree a.exponent b.exponent these.exponent those.exponent parts.same_rest in
    λ i. record { sign = parts.same_sign i; whole = parts.same_whole i; fraction = parts.same_fraction i; exponent = exponent i }

-- a token that is taken apart step by step
pub split_from : (token text behind rest whole : List ℕ) (sign : Sign) (fraction : Option (List ℕ)) → token ≡ sign_text sign ++ text → (sign ≡ Unsigned → HasNoSign text)
    → text ≡ whole ++ behind → AllDigits 10 whole → IsNotAsciiDigit (get_or behind 0 0)
    → behind ≡ fraction_text fraction ++ rest → IfSome fraction (AllDigits 10) → EndsFraction fraction rest → IsSplit token sign whole fraction rest
split_from token text behind rest whole sign fraction signed no_sign wholes digits end fractions decimals tail =
    let body : text ≡ whole ++ (fraction_text fraction ++ rest) = wholes ∙ ap (λ l. whole ++ l) fractions in
    record {
      spelled = signed ∙ ap (λ l. sign_text sign ++ l) body;
      no_sign = λ unsigned. subst HasNoSign body (no_sign unsigned);
      whole_digits = digits;
      whole_end = subst (λ l. IsNotAsciiDigit (get_or l 0 0)) fractions end;
      fraction_is_digits = decimals;
      fraction_end = tail;
    }
