-- What a list of words of 64 bits says of a place.
use Rattle.std.specs.Prelude.{◌≡◌, ℕ, ◌/◌, ◌%◌, ◌^◌, ◌<◌, ◌≤◌, ◌==◌, Bool, true, false, List, slice_index}
use Rattle.std.specs.Int.{bit_at}

-- whether a place is set: bit `place % 64` of word `place / 64` is 1. No place past the last word is
unfoldable pub is_set_at : List ℕ → ℕ → Bool
is_set_at words place = bit_at (slice_index words (place / 64)) (place % 64) == 1

-- from here on no place is set, of those that 64 bits can name
abbrev pub HasNoneFrom : List ℕ → ℕ → Type 0
HasNoneFrom words from = (place : ℕ) → from ≤ place → place < 2 ^ 64 → is_set_at words place ≡ false

-- the place is the least one from here on that is set
pub record IsNextSet (words : List ℕ) (from place : ℕ) : Type 0 where
  pub later : from ≤ place
  pub found : is_set_at words place ≡ true
  pub least : (other : ℕ) → from ≤ other → other < place → is_set_at words other ≡ false

-- the place is that of the lowest 1 of the word of this number
pub record IsLowestBit (number word place : ℕ) : Type 0 where
  pub within : place / 64 ≡ number
  pub one : bit_at word (place % 64) ≡ 1
  pub lowest : (k : ℕ) → k < place % 64 → bit_at word k ≡ 0
