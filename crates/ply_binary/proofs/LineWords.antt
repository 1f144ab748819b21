-- The words of a line, and text that is given in parts.
use Rattle.std.proofs.Common.{◌≡◌, ℕ, ◌+◌, ◌-◌, ◌≤◌, Bool, true, false, List, [], ◌∷◌, ◌++◌, length, take, drop, None, Some, refl, sym, ap, ◌∙◌, arith, length-drop, length-take-le, take_at, min, not}
use Rattle.std.proofs.lemmas.List.{drop-drop, take_all, take-append-drop}
use Rattle.std.proofs.lemmas.Slice.Eq.{bytes_eq-Decides}
use Rattle.std.specs.Str.{bytes_eq}
use Rattle.std.proofs.lemmas.Grind.{common_steps}
use Rattle.ply_reader.specs.LineWords.{line_words}
use Rattle.text_words.specs.LineWords.{is_blank, word_size, cut_word, next_word, with_word, words_of}
use Rattle.std.specs.List.{prefix_len}

-- a front of a text is copied, and the rest of it is left
pub gave_front : (items into copied : List ℕ) (at n m : ℕ) → at ≤ length items → n ≡ min (length (take (length items - at) (drop at items))) m → copied ≡ take n (take (length items - at) (drop at items))
    → drop at items ≡ take n (copied ++ drop n into) ++ drop (at + n) items
gave_front items into copied at n m within count is =
    let whole : take (length items - at) (drop at items) ≡ drop at items = take_all (length items - at) (drop at items) (omega (arith, length-drop at items)) in
    let front : copied ≡ take n (drop at items) = is ∙ ap (take n) whole in
    let few : n ≤ length (drop at items) = omega (arith, count, ap length whole) in
    let long : length copied ≡ n = ap length front ∙ length-take-le n (drop at items) few in
    sym (ap (λ l. l ++ drop (at + n) items) (take_at copied (drop n into) n long ∙ front)
    ∙ ap (λ l. take n (drop at items) ++ l) (sym (drop-drop n at items)) ∙ take-append-drop n (drop at items))

-- two words and no more
pub two_words : (text f t v b : List ℕ) → next_word text ≡ Some (f, t) → next_word t ≡ Some (v, b) → next_word b ≡ None → words_of 5 text ≡ f ∷ v ∷ []
two_words text f t v b first second third =
    ap (λ r. with_word r (words_of 4)) first ∙ ap (λ r. f ∷ with_word r (words_of 3)) second ∙ ap (λ r. f ∷ v ∷ with_word r (words_of 2)) third

cut_sizes : (xs : List ℕ) (found : List ℕ × List ℕ) → cut_word xs ≡ Some found → length found.0 + length found.1 ≤ length xs
cut_sizes [] found is = absurd (cc is)
cut_sizes (x ∷ xs) found is =
    let n : ℕ = word_size (x ∷ xs) in
    let same : (take n (x ∷ xs), drop n (x ∷ xs)) ≡ found = cc is in
    let first : take n (x ∷ xs) ≡ found.0 = ap (λ p. p.0) same in
    let second : drop n (x ∷ xs) ≡ found.1 = ap (λ p. p.1) same in
    let whole : length (take n (x ∷ xs)) + length (drop n (x ∷ xs)) ≡ length (x ∷ xs) = grind (arith, common_steps) in
    omega (arith, ap length first, ap length second, whole)

-- a word and what stands behind it are no longer than the text
pub word_sizes : (text f t : List ℕ) → next_word text ≡ Some (f, t) → length f + length t ≤ length text
word_sizes text f t is = omega (arith, cut_sizes (drop (prefix_len is_blank text) text) (f, t) is, length-drop (prefix_len is_blank text) text)

-- equal bytes, as a test tells
pub tested_equal : (xs ys : List ℕ) → false ≡ not (bytes_eq xs ys) → xs ≡ ys
tested_equal xs ys tested =
    let same : bytes_eq xs ys ≡ true = was_true (bytes_eq xs ys) tested in
    (bytes_eq-Decides xs ys).0 same
  where
    was_true : (b : Bool) → false ≡ not b → b ≡ true
    was_true true h = refl
    was_true false h = absurd (cc h)

-- the words of a format line
pub first_word : (line f t : List ℕ) → next_word line ≡ Some (f, t) → line_words line ≡ f ∷ words_of 5 t
unfolding line_words
first_word line f t is = ap (λ r. with_word r (words_of 5)) is
