-- The words of a line, one after the other.
use Rattle.std.proofs.Common.{◌≡◌, ℕ, suc, List, [], ◌∷◌, ◌++◌, ap, ◌∙◌, sym, Some, None, append_assoc, append-nil}
use Rattle.text_words.specs.LineWords.{next_word, with_word, words_of}

-- one word more
pub word_more : (n : ℕ) (front : List (List ℕ)) (rest word behind : List ℕ) → next_word rest ≡ Some (word, behind) → front ++ words_of (suc n) rest ≡ (front ++ word ∷ []) ++ words_of n behind
word_more n front rest word behind found =
    ap (λ w. front ++ with_word w (words_of n)) found ∙ sym (append_assoc front (word ∷ []) (words_of n behind))

-- no word more
pub no_word_more : (n : ℕ) (front : List (List ℕ)) (rest : List ℕ) → next_word rest ≡ None → front ++ words_of (suc n) rest ≡ front
no_word_more n front rest none = ap (λ w. front ++ with_word w (words_of n)) none ∙ append-nil front
