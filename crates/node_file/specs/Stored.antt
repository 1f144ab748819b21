-- The words of a file whose bytes are told.
use Rattle.std.specs.Prelude.{ℕ, ◌+◌, ◌*◌, ◌<◌, List, take, drop, map, All, Option, None, Some}
use Rattle.std.specs.Int.{w64, from_le_bytes}
use Rattle.std.specs.List.{range_with_len}

-- the word whose eight bytes stand at a number's place, behind the header
abbrev pub word_in : List ℕ → ℕ → ℕ
word_in bytes number = from_le_bytes w64 (take 8 (drop (48 + 8 * number) bytes))

-- so many words of a file, where its bytes are told
unfoldable pub words_in : Option (List ℕ) → ℕ → Option (List ℕ)
words_in None records = None
words_in (Some bytes) records = Some (map (word_in bytes) (range_with_len 0 records))

-- each is a byte
abbrev pub AreBytes : List ℕ → Type 0
AreBytes bytes = All (λ byte. byte < 256) bytes
