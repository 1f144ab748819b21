-- Whole numbers among words.
use Rattle.std.specs.Prelude.{ℕ, ◌+◌, ◌==◌, nat_lt, nat_le, ◌&&◌, if◌then◌else◌, List, [], ◌∷◌, length, ℤ, pos, neg_ℤ, Option, None, Some}
use Rattle.std.specs.List.{list_all, slice_index_or}
use Rattle.std.specs.Option.{option_map, option_and_then}
use Rattle.std.specs.Str.Parse.{digits_value}
use Rattle.std.specs.Char.{is_ascii_digit}

infixl 10 ◌>>=◌
-- goes on with the value, if there is one
abbrev pub ◌>>=◌ : {A B : Type 0} → Option A → (A → Option B) → Option B
o >>= f = option_and_then f o

-- a number is an optional `-` and 1 to 18 digits
abbrev pub digits_of : List ℕ → Option ℕ
digits_of text = if nat_lt 0 (length text) && nat_le (length text) 18 && list_all is_ascii_digit text then Some (digits_value 10 text) else None

unfoldable pub number_of : List ℕ → Option ℤ
number_of [] = None
number_of (c ∷ rest) = if c == 45 then option_map (λ n. neg_ℤ (pos n)) (digits_of rest) else option_map pos (digits_of (c ∷ rest))

-- the number of the word at a place
abbrev pub number_at : List (List ℕ) → ℕ → Option ℤ
number_at words place = number_of (slice_index_or words place [])

-- the numbers of three words in a row
abbrev pub three_from : List (List ℕ) → ℕ → Option (List ℤ)
three_from words place = do
  x ← number_at words place
  y ← number_at words (place + 1)
  z ← number_at words (place + 2)
  Some (x ∷ y ∷ z ∷ [])
