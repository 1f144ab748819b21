-- The whole number of a token, computed: the token is taken apart from its front, each part as far as it goes.
use Rattle.std.specs.Prelude.{ℕ, ◌+◌, Bool, ◌&&◌, ◌||◌, ◌==◌, if◌then◌else◌, List, [], ◌∷◌, length, take, drop, Option, None, Some, Result, Err, ℤ, nat_le, unwrap_or}
use Rattle.std.specs.List.{prefix_len}
use Rattle.std.specs.Char.{is_ascii_digit}
use Rattle.std.specs.Str.{all_ascii_digits}
use Rattle.ply_text.specs.declared.numbers.NumberFault.{NumberFault}
use Rattle.ply_text.specs.declared.numbers.NumberFault.TheVariants.{BadNumber}
use Rattle.ply_text.specs.declared.numerals.Sign.{Sign}
use Rattle.ply_text.specs.declared.numerals.Sign.TheVariants.{Unsigned, Plus, Minus}
use Rattle.ply_text.specs.Numerals.{Exponent, Numeral, sign_text, fraction_text}
use Rattle.ply_text.specs.Scaled.{number_of}

-- the sign at the front of a text
abbrev pub sign_at : List ℕ → Sign
sign_at [] = Unsigned
sign_at (byte ∷ _) = if byte == 43 then Plus else if byte == 45 then Minus else Unsigned

-- what follows it
abbrev pub behind_sign : List ℕ → List ℕ
behind_sign text = drop (length (sign_text (sign_at text))) text

-- the digits at the front of a text
abbrev pub digits_at : List ℕ → List ℕ
digits_at text = take (prefix_len is_ascii_digit text) text

abbrev pub behind_digits : List ℕ → List ℕ
behind_digits text = drop (prefix_len is_ascii_digit text) text

-- the digits behind a point at the front of a text
abbrev pub fraction_at : List ℕ → Option (List ℕ)
fraction_at [] = None
fraction_at (byte ∷ rest) = if byte == 46 then Some (digits_at rest) else None

abbrev pub behind_fraction : List ℕ → List ℕ
behind_fraction text = drop (length (fraction_text (fraction_at text))) text

-- 1 to 4 digits
abbrev pub are_exponent_digits : List ℕ → Bool
are_exponent_digits text = (nat_le 1 (length text) && nat_le (length text) 4) && all_ascii_digits text

-- the exponent that a text is, none where it is empty
abbrev pub exponent_at : List ℕ → Option (Option Exponent)
exponent_at [] = Some None
exponent_at (letter ∷ rest) =
    if (letter == 101 || letter == 69) && are_exponent_digits (behind_sign rest)
    then Some (Some (record { letter = letter; sign = sign_at rest; digits = behind_sign rest }))
    else None

-- the number of these parts, where it has a digit
abbrev pub with_exponent : Sign → List ℕ → Option (List ℕ) → Option (Option Exponent) → Option Numeral
with_exponent sign whole fraction None = None
with_exponent sign whole fraction (Some exponent) =
    if length whole + length (unwrap_or fraction []) == 0 then None
    else Some (record { sign = sign; whole = whole; fraction = fraction; exponent = exponent })

-- the number that a token spells
abbrev pub numeral_of : List ℕ → Option Numeral
numeral_of token =
    let text = behind_sign token in
    let rest = behind_digits text in
    with_exponent (sign_at token) (digits_at text) (fraction_at rest) (exponent_at (behind_fraction rest))

-- its value at a scale, or why there is none
abbrev pub fixed_number : ℕ → Bool → Option Numeral → Result ℤ NumberFault
fixed_number decimals cut None = Err BadNumber
fixed_number decimals cut (Some n) = number_of n decimals cut

unfoldable pub fixed_of : ℕ → Bool → List ℕ → Result ℤ NumberFault
fixed_of decimals cut token = fixed_number decimals cut (numeral_of token)
