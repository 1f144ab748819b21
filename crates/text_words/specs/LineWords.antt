-- The words of a line: its longest runs of bytes other than space and tab.
use Rattle.std.specs.Prelude.{ℕ, zero, suc, Bool, ◌||◌, not, ◌==◌, List, [], ◌∷◌, take, drop, Option, None, Some, map}
use Rattle.std.specs.Borrow.{Bor}
use Rattle.std.specs.List.{prefix_len}

abbrev pub is_blank : ℕ → Bool
is_blank byte = byte == 32 || byte == 9

-- how many bytes at the front are no blanks
abbrev pub word_size : List ℕ → ℕ
word_size line = prefix_len (λ byte. not (is_blank byte)) line

-- the line without the blanks at its front
abbrev pub behind_blanks : List ℕ → List ℕ
behind_blanks line = drop (prefix_len is_blank line) line

-- the word that a text begins with, and what stands behind it
abbrev pub cut_word : List ℕ → Option (List ℕ × List ℕ)
cut_word [] = None
cut_word (byte ∷ rest) = Some (take (word_size (byte ∷ rest)) (byte ∷ rest), drop (word_size (byte ∷ rest)) (byte ∷ rest))

-- the first word of a text, and what stands behind it
abbrev pub next_word : List ℕ → Option (List ℕ × List ℕ)
next_word text = cut_word (behind_blanks text)

-- a word, and words of what stands behind it
abbrev pub with_word : Option (List ℕ × List ℕ) → (List ℕ → List (List ℕ)) → List (List ℕ)
with_word None more = []
with_word (Some found) more = found.0 ∷ more found.1

-- the first words of a line, at most so many
abbrev pub words_of : ℕ → List ℕ → List (List ℕ)
words_of zero line = []
words_of (suc n) line = with_word (next_word line) (words_of n)

-- lent words, as lists
abbrev pub texts : List (Bor (List ℕ)) → List (List ℕ)
texts words = map (λ word. word.now) words
