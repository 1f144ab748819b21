-- What the parts that are read from a token say of the number that it spells.
use Rattle.std.specs.Prelude.{min, ◌+◌, ◌*◌, ◌^◌, ◌≡◌, ◌≢◌, ℕ, ◌≤◌, ◌++◌, List, length, slice_index, Option, None, Some, IfSome}
use Rattle.std.specs.Char.{IsNotAsciiDigit}
use Rattle.std.specs.Str.Parse.{AllDigits, digits_value}
use Rattle.ply_text.specs.declared.numerals.Sign.{Sign}
use Rattle.ply_text.specs.declared.numerals.Tens.{Tens}
use Rattle.ply_text.specs.declared.numerals.Parts.{Parts}
use Rattle.ply_text.specs.Numerals.{Exponent, Numeral, IsExponentDigits, IsExponent, IsNumeral, sign_text, exponent_text, spelled, fraction_digits}
use Rattle.ply_text.specs.Scaled.{tens_up, tens_down}

-- the text begins with no sign
abbrev pub HasNoSign : List ℕ → Type 0
HasNoSign text = (slice_index text 0 ≢ 43) × (slice_index text 0 ≢ 45)

-- what follows a fraction that is as long as it can be: no point where there is none, else no digit
abbrev pub EndsFraction : Option (List ℕ) → List ℕ → Type 0
EndsFraction None rest = slice_index rest 0 ≢ 46
EndsFraction (Some digits) rest = IsNotAsciiDigit (slice_index rest 0)

-- the text is a sign and 1 to 4 digits of this number
pub record SpellsCount (text : List ℕ) (sign : Sign) (count : ℕ) : Type 0 where
  pub digits : List ℕ
  pub good : IsExponentDigits digits
  pub spelled : text ≡ sign_text sign ++ digits
  pub number : count ≡ digits_value 10 digits

-- the text is no sign and 1 to 4 digits
abbrev pub SpellsNoCount : List ℕ → Type 0
SpellsNoCount text = (sign : Sign) (digits : List ℕ) → IsExponentDigits digits → text ≢ sign_text sign ++ digits

-- the text is an exponent of so many tens
pub record SpellsTens (text : List ℕ) (tens : Tens) : Type 0 where
  pub exponent : Option Exponent
  pub good : IfSome exponent IsExponent
  pub spelled : text ≡ exponent_text exponent
  pub up : tens.up ≡ tens_up exponent
  pub down : tens.down ≡ tens_down exponent

-- the text is no exponent
abbrev pub SpellsNoTens : List ℕ → Type 0
SpellsNoTens text = (e : Option Exponent) → IfSome e IsExponent → text ≢ exponent_text e

-- the token is a number of these parts
pub record SpellsParts (token : List ℕ) (parts : Parts) : Type 0 where
  pub numeral : Numeral
  pub good : IsNumeral numeral
  pub spelled : token ≡ spelled numeral
  pub sign : parts.sign ≡ numeral.sign
  pub whole : parts.whole.now ≡ numeral.whole
  pub fraction : parts.fraction.now ≡ fraction_digits numeral
  pub up : parts.tens.up ≡ tens_up numeral.exponent
  pub down : parts.tens.down ≡ tens_down numeral.exponent

-- the token is no number
abbrev pub SpellsNoNumeral : List ℕ → Type 0
SpellsNoNumeral token = (n : Numeral) → IsNumeral n → token ≢ spelled n

-- the parts are those of a short token
pub record IsWithinBounds (parts : Parts) : Type 0 where
  pub digits : AllDigits 10 (parts.whole.now ++ parts.fraction.now)
  pub short : length parts.fraction.now ≤ 255
  pub up : parts.tens.up ≤ 9999
  pub down : parts.tens.down ≤ 9999

-- what the parts say of the two sides of the number's quotient
abbrev pub parts_top : Parts → ℕ → ℕ
parts_top parts decimals = digits_value 10 (parts.whole.now ++ parts.fraction.now) * 10 ^ (decimals + parts.tens.up)

abbrev pub parts_bottom : Parts → ℕ
parts_bottom parts = 10 ^ (length parts.fraction.now + parts.tens.down)

-- a size as the steps of reading keep it: all above 2^30 count as one more than that
abbrev pub capped : ℕ → ℕ
capped size = min (2 ^ 30 + 1) size
