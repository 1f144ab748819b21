-- Numbers with commas between them, taken off the front one at a time.
use Rattle.std.proofs.Common.{◌≡◌, ℕ, suc, ◌+◌, ◌<◌, ◌≤◌, Bool, true, false, ◌&&◌, List, [], ◌∷◌, ◌++◌, length, map, set, take, drop, Option, None, Some, ℤ, arith, refl, sym, ap, ◌∙◌, cond}
use Rattle.std.specs.Option.{option_map}
use Rattle.std.specs.List.{list_all, slice_split, position_or_len}
use Rattle.std.specs.Char.{is_ascii_digit}
use Rattle.std.specs.Prelude.{◌==◌, if◌then◌else◌, nat_lt, nat_le}
use Rattle.std.proofs.Common.{inl, inr}
use Rattle.std.proofs.lemmas.Bool.{cases_Bool, ltb-true, ltb-false}
use Rattle.std.proofs.lemmas.List.{append_assoc, drop_all, set_split}
use Rattle.std.proofs.lemmas.List.Splits.{slice_split_first, length-slice_split}
use Rattle.std.proofs.lemmas.Bool.Decides.{nat_tests}
use Rattle.text_words.specs.Numbers.{number_of, digits_of, ◌>>=◌}
use Rattle.svo_words.specs.Numbers.{is_comma, numbers_of, all_some}
use Rattle.svo_words.specs.NumberFronts.{number_before}

-- the numbers of the parts, if there are so many parts
abbrev counted : ℕ → List (List ℕ) → Option (List ℤ)
counted count parts = if length parts == count then all_some (map number_of parts) else None

chosen : (b : Bool) (o : Option ℤ) (os : Option (List ℤ))
    → cond b (o >>= λ x. os >>= λ xs. Some (x ∷ xs)) None ≡ (o >>= λ x. option_map (λ xs. x ∷ xs) (cond b os None))
chosen true None os = refl
chosen true (Some x) None = refl
chosen true (Some x) (Some xs) = refl
chosen false None os = refl
chosen false (Some x) os = refl

counted_more : (m : ℕ) (part : List ℕ) (parts : List (List ℕ))
    → counted (suc m) (part ∷ parts) ≡ (number_of part >>= λ x. option_map (λ xs. x ∷ xs) (counted m parts))
counted_more m part parts =
    let same : (length (part ∷ parts) == suc m) ≡ (length parts == m) = grind (arith, nat_tests) in
    rw same (chosen (length parts == m) (number_of part) (all_some (map number_of parts)))

-- with no comma there is one part
one_part : (text : List ℕ) → length text ≤ position_or_len is_comma text → slice_split is_comma text ≡ text ∷ []
one_part [] none = refl
one_part (c ∷ rest) none =
    elim (cases_Bool (is_comma c)) [
      | inl found ↦ absurd (omega (arith, rw found at none))
      | inr none_found ↦ rw (none_found, one_part rest (omega (arith, rw none_found at none))) refl
    ]

bound : (o : Option ℤ) (rest : List ℕ) (f : ℤ × List ℕ → Option (List ℤ)) → ((o >>= λ n. Some (n, rest)) >>= f) ≡ (o >>= λ n. f (n, rest))
bound None rest f = refl
bound (Some n) rest f = refl

-- the number before the first comma comes first, and the others from the text after that comma
pub numbers_more : (k : ℕ) (text : List ℕ)
    → numbers_of (suc (suc k)) text ≡ (number_before text >>= λ p. option_map (λ xs. p.0 ∷ xs) (numbers_of (suc k) p.1))
unfolding numbers_of number_before
numbers_more k text =
    let at : ℕ = position_or_len is_comma text in
    elim (cases_Bool (nat_lt (position_or_len is_comma text) (length text))) [
      | inl found ↦
          ap (λ parts. counted (suc (suc k)) parts) (slice_split_first is_comma text 0 (ltb-true (position_or_len is_comma text) (length text) found))
          ∙ counted_more (suc k) (take at text) (slice_split is_comma (drop (at + 1) text))
          ∙ sym (rw found (bound (number_of (take at text)) (drop (at + 1) text) (λ p. option_map (λ xs. p.0 ∷ xs) (numbers_of (suc k) p.1))))
      | inr none_found ↦
          let single : (1 == suc (suc k)) ≡ false = grind (arith, nat_tests) in
          ap (λ parts. counted (suc (suc k)) parts) (one_part text (ltb-false (position_or_len is_comma text) (length text) none_found))
          ∙ rw (single, none_found) refl
    ]

no_number : (o : Option ℤ) → option_map (λ x. x ∷ []) o ≡ (o >>= λ x. Some (x ∷ []))
no_number None = refl
no_number (Some x) = refl

nothing : (o : Option ℤ) → (o >>= λ x. option_map (λ xs. x ∷ xs) None) ≡ None
nothing None = refl
nothing (Some x) = refl

and_false : (b : Bool) → (b && false) ≡ false
and_false true = refl
and_false false = refl

-- a byte that is a comma is no digit
comma_in_digits : (text : List ℕ) → position_or_len is_comma text < length text → list_all is_ascii_digit text ≡ false
comma_in_digits [] found = absurd (omega arith)
comma_in_digits (c ∷ rest) found =
    elim (cases_Bool (is_comma c)) [
      | inl here ↦ let digit : is_ascii_digit c ≡ false = grind (arith, nat_tests) in rw digit refl
      | inr later ↦ rw (comma_in_digits rest (omega (arith, rw later at found))) (and_false (is_ascii_digit c))
    ]

no_digits : (text : List ℕ) → list_all is_ascii_digit text ≡ false → digits_of text ≡ None
no_digits text h = rw (h, and_false (nat_lt 0 (length text) && nat_le (length text) 18)) refl

comma_in_number : (text : List ℕ) → position_or_len is_comma text < length text → number_of text ≡ None
unfolding number_of
comma_in_number [] found = absurd (omega arith)
comma_in_number (c ∷ rest) found =
    elim (cases_Bool (c == 45)) [
      | inl minus ↦
          let later : is_comma c ≡ false = grind (arith, nat_tests) in
          rw (minus, no_digits rest (comma_in_digits rest (omega (arith, rw later at found)))) refl
      | inr digit ↦ rw (digit, no_digits (c ∷ rest) (comma_in_digits (c ∷ rest) found)) refl
    ]

-- a single number has no comma in it
pub numbers_one : (text : List ℕ) → numbers_of 1 text ≡ option_map (λ x. x ∷ []) (number_of text)
unfolding numbers_of
numbers_one text =
    elim (cases_Bool (nat_lt (position_or_len is_comma text) (length text))) [
      | inl found ↦
          let at : ℕ = position_or_len is_comma text in
          let before : at < length text = ltb-true (position_or_len is_comma text) (length text) found in
          let more : (length (take at text ∷ slice_split is_comma (drop (at + 1) text)) == 1) ≡ false =
          let counts = length-slice_split is_comma (drop (at + 1) text) in grind (arith, nat_tests) in
          ap (λ parts. counted 1 parts) (slice_split_first is_comma text 0 before)
          ∙ rw (more, comma_in_number text before) refl
      | inr none_found ↦
          ap (λ parts. counted 1 parts) (one_part text (ltb-false (position_or_len is_comma text) (length text) none_found))
          ∙ sym (no_number (number_of text))
    ]

-- ---- a list that is read from the front

-- so many numbers of the rest are left, behind those that were read
abbrev pub IsLeft : ℕ → List ℕ → List ℤ → ℕ → List ℕ → Type 0
IsLeft count whole front left rest = numbers_of count whole ≡ option_map (λ xs. front ++ xs) (numbers_of left rest)

joined-nil : (o : Option (List ℤ)) → o ≡ option_map (λ xs. [] ++ xs) o
joined-nil None = refl
joined-nil (Some xs) = refl

joined-more : (front : List ℤ) (x : ℤ) (o : Option (List ℤ)) → option_map (λ xs. front ++ xs) (option_map (λ xs. x ∷ xs) o) ≡ option_map (λ xs. (front ++ x ∷ []) ++ xs) o
joined-more front x None = refl
joined-more front x (Some xs) = ap Some (sym (append_assoc front (x ∷ []) xs))

pub all_left : (count : ℕ) (whole : List ℕ) → IsLeft count whole [] count whole
all_left count whole = joined-nil (numbers_of count whole)

joined : List ℤ → Option (List ℤ) → Option (List ℤ)
joined front o = option_map (λ xs. front ++ xs) o

pub one_less : (count k : ℕ) (whole : List ℕ) (front : List ℤ) (rest behind : List ℕ) (x : ℤ) → IsLeft count whole front (suc (suc k)) rest
    → number_before rest ≡ Some (x, behind) → IsLeft count whole (front ++ x ∷ []) (suc k) behind
unfolding joined
one_less count k whole front rest behind x left found =
    let first : numbers_of (suc (suc k)) rest ≡ option_map (λ xs. x ∷ xs) (numbers_of (suc k) behind) = numbers_more k rest ∙ rw found refl in
    left ∙ ap (joined front) first ∙ joined-more front x (numbers_of (suc k) behind)

missing : (count : ℕ) (whole : List ℕ) (front : List ℤ) (left : ℕ) (rest : List ℕ) → IsLeft count whole front left rest → numbers_of left rest ≡ None → None ≡ numbers_of count whole
unfolding joined
missing count whole front left rest is none = let e : numbers_of count whole ≡ None = is ∙ ap (joined front) none in sym e

pub none_before : (count k : ℕ) (whole : List ℕ) (front : List ℤ) (rest : List ℕ) → IsLeft count whole front (suc (suc k)) rest
    → number_before rest ≡ None → None ≡ numbers_of count whole
none_before count k whole front rest left none = missing count whole front (suc (suc k)) rest left (numbers_more k rest ∙ rw none refl)

pub none_last : (count : ℕ) (whole : List ℕ) (front : List ℤ) (rest : List ℕ) → IsLeft count whole front 1 rest → number_of rest ≡ None → None ≡ numbers_of count whole
none_last count whole front rest left none = missing count whole front 1 rest left (numbers_one rest ∙ rw none refl)

pub all_read : (count : ℕ) (whole : List ℕ) (front : List ℤ) (rest : List ℕ) (x : ℤ) → IsLeft count whole front 1 rest → number_of rest ≡ Some x
    → Some (front ++ x ∷ []) ≡ numbers_of count whole
unfolding joined
all_read count whole front rest x left found =
    let last : numbers_of 1 rest ≡ Some (x ∷ []) = numbers_one rest ∙ rw found refl in
    let e : numbers_of count whole ≡ Some (front ++ x ∷ []) = left ∙ ap (joined front) last in sym e

-- the last of a list is set
pub last_set : (xs : List ℤ) (i : ℕ) (x : ℤ) → length xs ≡ suc i → set xs i x ≡ take i xs ++ x ∷ []
last_set xs i x whole =
    set_split xs i x (omega (arith, whole)) ∙ ap (λ (back : List ℤ). take i xs ++ x ∷ back) (drop_all (suc i) xs (omega (arith, whole)))
