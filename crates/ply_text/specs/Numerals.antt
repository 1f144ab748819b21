-- Decimal numbers as a text spells them: a sign or none, digits with at most one point, an exponent or none.
use Rattle.std.specs.Prelude.{◌≡◌, ℕ, ◌+◌, ◌≤◌, ◌⊎◌, List, [], ◌∷◌, ◌++◌, length, Option, None, Some, IfSome, unwrap_or, codes}
use Rattle.std.specs.Str.Parse.{AllDigits}
use Rattle.ply_text.specs.declared.numerals.Sign.{Sign}
use Rattle.ply_text.specs.declared.numerals.Sign.TheVariants.{Unsigned, Plus, Minus}

-- the power of ten that a number is multiplied by: a letter, a sign and digits
pub record Exponent : Type 0 where
  pub letter : ℕ
  pub sign : Sign
  pub digits : List ℕ

-- a decimal number; its fraction is what follows its point, and `None` where it has no point
pub record Numeral : Type 0 where
  pub sign : Sign
  pub whole : List ℕ
  pub fraction : Option (List ℕ)
  pub exponent : Option Exponent

-- the text of a sign
abbrev pub sign_text : Sign → List ℕ
sign_text Unsigned = []
sign_text Plus = codes "+"
sign_text Minus = codes "-"

-- the text of a fraction: a point and the digits
abbrev pub fraction_text : Option (List ℕ) → List ℕ
fraction_text None = []
fraction_text (Some digits) = codes "." ++ digits

-- the text of an exponent
abbrev pub exponent_text : Option Exponent → List ℕ
exponent_text None = []
exponent_text (Some e) = e.letter ∷ sign_text e.sign ++ e.digits

-- the text of a decimal number
unfoldable pub spelled : Numeral → List ℕ
spelled n = sign_text n.sign ++ n.whole ++ fraction_text n.fraction ++ exponent_text n.exponent

-- the digits after the point
abbrev pub fraction_digits : Numeral → List ℕ
fraction_digits n = unwrap_or n.fraction []

-- 1 to 4 digits
pub record IsExponentDigits (digits : List ℕ) : Type 0 where
  pub all : AllDigits 10 digits
  pub some : 1 ≤ length digits
  pub few : length digits ≤ 4

-- an exponent has the letter `e`, which is 101, or `E`, which is 69
pub record IsExponent (e : Exponent) : Type 0 where
  pub letter : (e.letter ≡ 101) ⊎ (e.letter ≡ 69)
  pub power : IsExponentDigits e.digits

-- a decimal number has a digit before or after its point
pub record IsNumeral (n : Numeral) : Type 0 where
  pub whole : AllDigits 10 n.whole
  pub fraction : AllDigits 10 (fraction_digits n)
  pub some : 1 ≤ length n.whole + length (fraction_digits n)
  pub exponent : IfSome n.exponent IsExponent
