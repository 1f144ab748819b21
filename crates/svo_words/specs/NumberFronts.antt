-- The first of several numbers in a text.
use Rattle.std.specs.Prelude.{ℕ, ◌+◌, List, take, drop, ℤ, Option, Some}
use Rattle.std.specs.List.{position}
use Rattle.text_words.specs.Numbers.{number_of, ◌>>=◌}
use Rattle.svo_words.specs.Numbers.{is_comma}

-- the number before the first comma, and the text after that comma
unfoldable pub number_before : List ℕ → Option (ℤ × List ℕ)
number_before text = do
  at ← position is_comma text
  number ← number_of (take at text)
  Some (number, drop (at + 1) text)
