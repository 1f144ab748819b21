-- The words of a header line.
use Rattle.std.specs.Prelude.{ℕ, List}
use Rattle.text_words.specs.LineWords.{words_of}

-- the words of a line as far as the rules ask for them: no accepted line has more than five, but for those that are passed over
unfoldable pub line_words : List ℕ → List (List ℕ)
line_words line = words_of 6 line
