-- The whole number that a decimal number is when it is multiplied by a power of ten.
use Rattle.std.specs.Prelude.{◌≡◌, ◌≢◌, ℕ, ◌+◌, ◌*◌, ◌/◌, ◌%◌, ◌^◌, Bool, not, ◌||◌, List, ◌++◌, length, ℤ, pos, neg_ℤ, Option, None, Some, Result, Ok, Err, nat_lt, ◌==◌, if◌then◌else◌}
use Rattle.std.specs.Str.Parse.{digits_value}
use Rattle.ply_text.specs.declared.numbers.NumberFault.{NumberFault}
use Rattle.ply_text.specs.declared.numbers.NumberFault.TheVariants.{BadNumber, NotWhole, OutOfRange}
use Rattle.ply_text.specs.declared.numerals.Sign.{Sign}
use Rattle.ply_text.specs.declared.numerals.Sign.TheVariants.{Unsigned, Plus, Minus}
use Rattle.ply_text.specs.Numerals.{Exponent, Numeral, IsNumeral, spelled, fraction_digits}

-- a number that counts where a sign is no minus, and one that counts where it is
abbrev pub unless_minus : Sign → ℕ → ℕ
unless_minus Minus n = 0
unless_minus Plus n = n
unless_minus Unsigned n = n

abbrev pub if_minus : Sign → ℕ → ℕ
if_minus Minus n = n
if_minus Plus n = 0
if_minus Unsigned n = 0

-- how many tens an exponent multiplies by
abbrev pub tens_up : Option Exponent → ℕ
tens_up None = 0
tens_up (Some e) = unless_minus e.sign (digits_value 10 e.digits)

-- how many tens an exponent divides by
abbrev pub tens_down : Option Exponent → ℕ
tens_down None = 0
tens_down (Some e) = if_minus e.sign (digits_value 10 e.digits)

-- the size of a number times so many tens is top / bottom: its digits without the point, times the tens, over ten for each digit after the point
abbrev pub top_of : Numeral → ℕ → ℕ
top_of n decimals = digits_value 10 (n.whole ++ fraction_digits n) * 10 ^ (decimals + tens_up n.exponent)

abbrev pub bottom_of : Numeral → ℕ
bottom_of n = 10 ^ (length (fraction_digits n) + tens_down n.exponent)

-- a size with its sign
abbrev pub signed : Sign → ℕ → ℤ
signed Minus size = neg_ℤ (pos size)
signed Plus size = pos size
signed Unsigned size = pos size

-- the number of this size, cut toward zero, or why it is refused
abbrev pub settled : Sign → ℕ → Bool → Bool → Result ℤ NumberFault
settled sign size is_whole cut =
    if not (is_whole || cut) then Err NotWhole else
    if nat_lt (2 ^ 30) size then Err OutOfRange else
    Ok (signed sign size)

-- the number times so many tens
unfoldable pub number_of : Numeral → ℕ → Bool → Result ℤ NumberFault
number_of n decimals cut = settled n.sign (top_of n decimals / bottom_of n) (top_of n decimals % bottom_of n == 0) cut

-- the result is the number that the token spells, and `BadNumber` where it spells none
pub record ReadsNumber (token : List ℕ) (decimals : ℕ) (cut : Bool) (result : Result ℤ NumberFault) : Type 0 where
  pub found : result ≢ Err BadNumber → (n : Numeral) × IsNumeral n × (token ≡ spelled n) × (result ≡ number_of n decimals cut)
  pub missing : result ≡ Err BadNumber → (n : Numeral) → IsNumeral n → token ≢ spelled n
