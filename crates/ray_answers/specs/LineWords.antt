-- The words of a line of a text of rays or points.
use Rattle.std.specs.Prelude.{ℕ, List}
use Rattle.text_words.specs.LineWords.{words_of}

-- the words of a line as far as they tell a query: a ray has six, a point three, and a line with seven is neither
unfoldable pub line_words : List ℕ → List (List ℕ)
line_words line = words_of 7 line
