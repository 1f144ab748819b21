-- Laws of `is_set_at`, and of the bits that a word's mask keeps.
use Rattle.std.proofs.Common.{◌≡◌, ◌≢◌, ℕ, ◌+◌, ◌-◌, ◌*◌, ◌/◌, ◌%◌, ◌^◌, ◌<◌, ◌≤◌, ◌==◌, true, false, List, Option, Some, None, MatchOption, length, get_or, take, drop, lit<, min, refl, sym, ap, ◌∙◌, arith, bit_and, bit_or, w64, get_or-set_same, get_or-set_other, set, ⊎_elim}
use Rattle.std.specs.Int.{bit_at, trailing_zeros}
use Rattle.std.proofs.lemmas.Nat.Bits.{bit_at-trailing_zeros, bit_at-zero, bit_at-lt, bit_at_and, bit_at_above, bit_at_mask_inside, bit_at_mask_below, bit_at_set_same, bit_at_set_other, ones_shl, shr_and_one}
use Rattle.std.proofs.lemmas.List.{get_or_past, get_or-replicate, length-replicate}
use Rattle.std.specs.Prelude.{replicate}
use Rattle.std.proofs.lemmas.Grind.{common_steps}
use Rattle.std.proofs.lemmas.Bool.{cases_eq, cases_lt}
use Rattle.bit_grid.specs.Places.{is_set_at, HasNoneFrom, IsNextSet, IsLowestBit}

-- a place by the bit of its word
pub set_from_bit : (words : List ℕ) (place : ℕ) → bit_at (get_or words (place / 64) 0) (place % 64) ≡ 1 → is_set_at words place ≡ true
unfolding is_set_at
set_from_bit words place one = ap (λ bit. bit == 1) one

pub unset_from_bit : (words : List ℕ) (place : ℕ) → bit_at (get_or words (place / 64) 0) (place % 64) ≡ 0 → is_set_at words place ≡ false
unfolding is_set_at
unset_from_bit words place none = ap (λ bit. bit == 1) none

-- a word of zeros has no place that is set
pub unset_in_zero : (words : List ℕ) (place : ℕ) → get_or words (place / 64) 0 ≡ 0 → is_set_at words place ≡ false
unset_in_zero words place zeros =
    unset_from_bit words place (ap (λ word. bit_at word (place % 64)) zeros ∙ bit_at-zero (place % 64))

-- nor is a place past the words
pub unset_past : (words : List ℕ) (place : ℕ) → 64 * length words ≤ place → is_set_at words place ≡ false
unset_past words place past =
    let outside : length words ≤ place / 64 = omega arith in
    unset_in_zero words place (get_or_past words (place / 64) 0 outside)

-- the test of a place
pub test_is : (words : List ℕ) (place : ℕ) → (bit_and (get_or words (place / 64) 0 / 2 ^ (place % 64)) 1 == 1) ≡ is_set_at words place
unfolding is_set_at
test_is words place = ap (λ bit. bit == 1) (shr_and_one (get_or words (place / 64) 0) (place % 64))

-- after a bit of a word is set
pub set_this : (words : List ℕ) (place : ℕ) → place < 64 * length words →
    is_set_at (set words (place / 64) (bit_or (get_or words (place / 64) 0) (1 * 2 ^ (place % 64) % 2 ^ 64))) place ≡ true
set_this words place within =
    let inside : place / 64 < length words = omega arith in
    let short : place % 64 < 64 = omega arith in
    set_from_bit (set words (place / 64) (bit_or (get_or words (place / 64) 0) (1 * 2 ^ (place % 64) % 2 ^ 64))) place
    (rw get_or-set_same (bit_at_set_same w64 (get_or words (place / 64) 0) (place % 64) short))

-- the others stay
pub set_others : (words : List ℕ) (place : ℕ) → place < 64 * length words → (other : ℕ) → other ≢ place →
    is_set_at (set words (place / 64) (bit_or (get_or words (place / 64) 0) (1 * 2 ^ (place % 64) % 2 ^ 64))) other ≡ is_set_at words other
unfolding is_set_at
set_others words place within other apart =
    let inside : place / 64 < length words = omega arith in
    let short : place % 64 < 64 = omega arith in
    let after : List ℕ = set words (place / 64) (bit_or (get_or words (place / 64) 0) (1 * 2 ^ (place % 64) % 2 ^ 64)) in
    let same_word : other / 64 ≡ place / 64 → is_set_at after other ≡ is_set_at words other = λ same.
    let other_bit : other % 64 ≢ place % 64 = omega arith in
    rw same (rw get_or-set_same (ap (λ bit. bit == 1) (bit_at_set_other w64 (get_or words (place / 64) 0) (place % 64) short (other % 64) other_bit))) in
    let other_word : other / 64 ≢ place / 64 → is_set_at after other ≡ is_set_at words other = λ differs. rw get_or-set_other refl in
    ⊎_elim same_word other_word (cases_eq (other / 64) (place / 64))

-- the bits that `& (MAX << bit)` keeps, and those that it clears
pub kept_from : (word bit k : ℕ) → word < 2 ^ 64 → bit < 64 → bit ≤ k → bit_at (bit_and word ((2 ^ 64 - 1) * 2 ^ bit % 2 ^ 64)) k ≡ bit_at word k
kept_from word bit k fits short from =
    let mask : (2 ^ 64 - 1) * 2 ^ bit % 2 ^ 64 ≡ 2 ^ 64 - 2 ^ bit = ones_shl 64 bit (omega arith) in
    let inside : k < 64 → min (bit_at word k) (bit_at (2 ^ 64 - 2 ^ bit) k) ≡ bit_at word k = λ low.
    let one : bit_at (2 ^ 64 - 2 ^ bit) k ≡ 1 = bit_at_mask_inside bit 64 k from low in omega (arith, one, bit_at-lt word k) in
    let above : 64 ≤ k → min (bit_at word k) (bit_at (2 ^ 64 - 2 ^ bit) k) ≡ bit_at word k = λ high.
    let none : bit_at word k ≡ 0 = bit_at_above word 64 k fits high in omega (arith, none) in
    rw mask (rw (bit_at_and word (2 ^ 64 - 2 ^ bit) k) (⊎_elim inside above (cases_lt k 64)))

pub cleared_below : (word bit k : ℕ) → bit < 64 → k < bit → bit_at (bit_and word ((2 ^ 64 - 1) * 2 ^ bit % 2 ^ 64)) k ≡ 0
cleared_below word bit k short below =
    let mask : (2 ^ 64 - 1) * 2 ^ bit % 2 ^ 64 ≡ 2 ^ 64 - 2 ^ bit = ones_shl 64 bit (omega arith) in
    rw mask (rw (bit_at_and word (2 ^ 64 - 2 ^ bit) k) (rw (bit_at_mask_below bit 64 k below) (omega arith)))

-- the lowest 1 of a word, as a place
pub lowest_bit : (word number base count : ℕ) → 0 < word → word < 2 ^ 64 → base ≡ number * 64 → count ≡ trailing_zeros w64 word → IsLowestBit number word (base + count)
lowest_bit word number base count some fits is_base is_count =
    let lowest = bit_at-trailing_zeros w64 word some fits in
    let rest : (base + count) % 64 ≡ trailing_zeros w64 word = omega (arith, lowest.0) in
    record {
      within = omega (arith, lowest.0);
      one = rw rest lowest.1;
      lowest = λ k below. lowest.2 k (omega (arith, rest));
    }

-- in words of zeros no place is set
pub unset_in_zeros : (words : List ℕ) (count : ℕ) → words ≡ replicate count 0 → (place : ℕ) → is_set_at words place ≡ false
unset_in_zeros words count zeros place =
    let inside : place / 64 < count → get_or words (place / 64) 0 ≡ 0 = λ low. rw zeros (get_or-replicate count (place / 64) 0 0 low) in
    let outside : count ≤ place / 64 → get_or words (place / 64) 0 ≡ 0 = λ high.
    let past : length (replicate count 0) ≤ place / 64 = rw (length-replicate {A = ℕ} count 0) high in
    rw zeros (get_or_past (replicate count 0) (place / 64) 0 past) in
    unset_in_zero words place (⊎_elim inside outside (cases_lt (place / 64) count))

-- the lowest 1 of what is left of a word is the next place that is set
pub next_in_word : (words : List ℕ) (number bit first from place : ℕ) → from ≡ 64 * number + bit → bit < 64 →
    ((k : ℕ) → k < bit → bit_at first k ≡ 0) → ((k : ℕ) → bit ≤ k → bit_at first k ≡ bit_at (get_or words number 0) k) →
    IsLowestBit number first place → IsNextSet words from place
next_in_word words number bit first from place is_from short cleared kept lowest =
    let one = lowest.one in
    let within = lowest.within in
    let later : bit ≤ place % 64 = ⊎_elim (λ low. absurd (omega (arith, cleared (place % 64) low, one))) (λ high. high) (cases_lt (place % 64) bit) in
    record {
      later = omega arith;
      found = set_from_bit words place (rw within (sym (kept (place % 64) later) ∙ one));
      least = λ other after before.
          let same : other / 64 ≡ number = omega arith in
          let low : other % 64 < place % 64 = omega arith in
          let from_bit : bit ≤ other % 64 = omega arith in
          unset_from_bit words other (rw same (sym (kept (other % 64) from_bit) ∙ lowest.lowest (other % 64) low));
    }

-- where a whole stretch of words is passed over, the next place that is set comes after it
pub next_later : (words : List ℕ) (from later place : ℕ) → from ≤ later → ((other : ℕ) → from ≤ other → other < later → is_set_at words other ≡ false) →
    IsNextSet words later place → IsNextSet words from place
next_later words from later place skip none next =
    let next_later = next.later in
    record {
      later = omega arith;
      found = next.found;
      least = λ other after before. ⊎_elim (λ low. none other after low) (λ high. next.least other high before) (cases_lt other later);
    }

-- the same of an answer that may be `None`: within a word, and past a stretch with no place that is set
pub answer_in_word : (words : List ℕ) (number bit first from : ℕ) → from ≡ 64 * number + bit → bit < 64 →
    ((k : ℕ) → k < bit → bit_at first k ≡ 0) → ((k : ℕ) → bit ≤ k → bit_at first k ≡ bit_at (get_or words number 0) k) →
    (answer : Option ℕ) → MatchOption answer (2 ^ 64 ≤ 64 * number) (IsLowestBit number first) → MatchOption answer (HasNoneFrom words from) (IsNextSet words from)
answer_in_word words number bit first from is_from short cleared kept None huge = λ place after fits. absurd (omega arith)
answer_in_word words number bit first from is_from short cleared kept (Some place) lowest = next_in_word words number bit first from place is_from short cleared kept lowest

pub answer_later : (words : List ℕ) (from later : ℕ) → from ≤ later → ((place : ℕ) → from ≤ place → place < later → is_set_at words place ≡ false) →
    (answer : Option ℕ) → MatchOption answer (HasNoneFrom words later) (IsNextSet words later) → MatchOption answer (HasNoneFrom words from) (IsNextSet words from)
answer_later words from later skip none None none_later = λ place after fits. ⊎_elim (λ low. none place after low) (λ high. none_later place high fits) (cases_lt place later)
answer_later words from later skip none (Some place) next = next_later words from later place skip none next

-- words of zeros from one number on, up to another
pub none_in_words : (words : List ℕ) (start number : ℕ) → ((k : ℕ) → start ≤ k → k < number → get_or words k 0 ≡ 0) →
    (place : ℕ) → 64 * start ≤ place → place < 64 * number → is_set_at words place ≡ false
none_in_words words start number zeros place after before = unset_in_zero words place (zeros (place / 64) (omega arith) (omega arith))

-- a word of the words from one number on
pub word_of_rest : (words : List ℕ) (start k : ℕ) → get_or (take (length words - start) (drop start words)) k 0 ≡ get_or words (start + k) 0
word_of_rest words start k = grind (arith, common_steps)

-- in words of zeros from one number on no place is set
pub none_in_rest : (words : List ℕ) (start : ℕ) → ((k : ℕ) → get_or (take (length words - start) (drop start words)) k 0 ≡ 0) → HasNoneFrom words (64 * start)
none_in_rest words start zeros = λ place after fits.
    let at : start + (place / 64 - start) ≡ place / 64 = omega arith in
    unset_in_zero words place (rw at at (sym (word_of_rest words start (place / 64 - start)) ∙ zeros (place / 64 - start)))

-- the answer from the first word of them that is not 0
pub answer_in_rest : (words : List ℕ) (start skipped : ℕ) → ((k : ℕ) → k < skipped → get_or (take (length words - start) (drop start words)) k 0 ≡ 0) →
    (answer : Option ℕ) → MatchOption answer (2 ^ 64 ≤ 64 * (start + skipped)) (IsLowestBit (start + skipped) (get_or words (start + skipped) 0)) →
    MatchOption answer (HasNoneFrom words (64 * start)) (IsNextSet words (64 * start))
answer_in_rest words start skipped zeros answer lowest =
    let zero_between : (k : ℕ) → start ≤ k → k < start + skipped → get_or words k 0 ≡ 0 = λ k after before.
    let at : start + (k - start) ≡ k = omega arith in
    rw at at (sym (word_of_rest words start (k - start)) ∙ zeros (k - start) (omega arith)) in
    let in_word : MatchOption answer (HasNoneFrom words (64 * (start + skipped))) (IsNextSet words (64 * (start + skipped))) =
    answer_in_word words (start + skipped) 0 (get_or words (start + skipped) 0) (64 * (start + skipped)) (omega arith) (lit< tt) (λ k low. absurd (omega arith)) (λ k high. refl) answer lowest in
    answer_later words (64 * start) (64 * (start + skipped)) (omega arith) (none_in_words words start (start + skipped) zero_between) answer in_word

-- the answer from the words behind one whose rest is 0
pub answer_behind : (words : List ℕ) (from rest : ℕ) → rest ≡ 0 → ((k : ℕ) → from % 64 ≤ k → bit_at rest k ≡ bit_at (get_or words (from / 64) 0) k) →
    (answer : Option ℕ) → MatchOption answer (HasNoneFrom words (64 * (from / 64 + 1))) (IsNextSet words (64 * (from / 64 + 1))) → MatchOption answer (HasNoneFrom words from) (IsNextSet words from)
answer_behind words from rest zero kept answer behind =
    answer_later words from (64 * (from / 64 + 1)) (omega arith)
    (λ place after before.
    let same : place / 64 ≡ from / 64 = omega arith in
    let high : from % 64 ≤ place % 64 = omega arith in
    unset_from_bit words place (rw same (sym (kept (place % 64) high) ∙ (ap (λ word. bit_at word (place % 64)) zero ∙ bit_at-zero (place % 64)))))
    answer behind
