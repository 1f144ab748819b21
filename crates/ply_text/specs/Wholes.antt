-- Whole numbers of a text.
use Rattle.std.specs.Prelude.{ℕ, Bool, ◌&&◌, List, length, Option, None, Some, nat_le, if◌then◌else◌}
use Rattle.std.specs.Str.{all_ascii_digits}
use Rattle.std.specs.Str.Parse.{digits_value}

-- 1 to 20 digits, and nothing else
abbrev pub is_whole : List ℕ → Bool
is_whole token = (nat_le 1 (length token) && nat_le (length token) 20) && all_ascii_digits token

-- the number that the digits write, where it is at most the limit
unfoldable pub whole_of : List ℕ → ℕ → Option ℕ
whole_of token limit = if is_whole token && nat_le (digits_value 10 token) limit then Some (digits_value 10 token) else None
