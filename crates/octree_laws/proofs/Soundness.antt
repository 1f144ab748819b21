-- Words that fit have masks that are not 0, children below their parents, and lawful leaves.
use Rattle.std.proofs.Common.{◌≡◌, ℕ, zero, suc, ◌+◌, ◌-◌, ◌*◌, ◌/◌, ◌%◌, ◌^◌, ◌<◌, true, List, Result, sym, ap, subst, ◌∙◌, inl, inr, arith, add-zero}
use Rattle.std.specs.Prelude.{slice_index, count_ones}
use Rattle.std.proofs.lemmas.Bool.{cases_Bool, eqb-true, eqb-false}
use Rattle.std.proofs.lemmas.Nat.{mod-pow-add, ones_cat, zero_from_ones, mod_below, pow_pos}
use Rattle.octree_specs.specs.Checking.{LeafRule, Fitted, ones_in, base_in, fit_each, fit}
use Rattle.octree_specs.specs.Walking.{child_number}
use Rattle.octree_laws.proofs.Fitting.{good}
use Rattle.octree_laws.proofs.Reading.{has_bit}
use Rattle.octree_laws.proofs.Inversions.{HasFirst, each_first, leaf_fitted, HasFitted, parent_fitted}

-- ---- bits of a word

pub some_bit : (word count : ℕ) → (word % 2 ^ count ≡ 0 → ⊥) → (place : ℕ) × (place < count) × (has_bit word place ≡ true)
some_bit word zero some = absurd (some (let one : word % 1 ≡ 0 = omega arith in one))
some_bit word (suc count) some = elim (cases_Bool (has_bit word count)) [
  | inl last ↦ (count, omega arith, last)
  | inr none ↦
      let split : word % 2 ^ (1 + count) ≡ (word / 2 ^ count % 2 ^ 1) * 2 ^ count + word % 2 ^ count = mod-pow-add word 1 count in
      let other : word / 2 ^ count % 2 ≡ 1 → ⊥ = eqb-false (word / 2 ^ count % 2) 1 none in
      let bit : word / 2 ^ count % 2 ≡ 0 = omega (arith, other) in
      let e : 1 + count ≡ suc count = omega arith in
      let whole : word % 2 ^ suc count ≡ word % 2 ^ count = ap (λ n. word % 2 ^ n) (sym e) ∙ (split ∙ (ap (λ b. b * 2 ^ count + word % 2 ^ count) bit ∙ omega arith)) in
      let lower : (place : ℕ) × (place < count) × (has_bit word place ≡ true) = some_bit word count (λ none_lower. some (whole ∙ none_lower)) in
      (lower.0, omega (arith, lower.1), lower.2)
]

-- a bit that is set is one of the mask's
pub rank_below : (word place : ℕ) → place < 8 → has_bit word place ≡ true → count_ones (word % 2 ^ place) < count_ones (word % 256)
rank_below word place octant bit =
    let rest : (rest : ℕ) × (rest + 1 + place ≡ 8) = (7 - place, omega arith) in
    let quotient : ℕ = word / 2 ^ place in
    let high : ℕ = quotient % 2 ^ (rest.0 + 1) in
    let split : word % 2 ^ (rest.0 + 1 + place) ≡ high * 2 ^ place + word % 2 ^ place = mod-pow-add word (rest.0 + 1) place in
    let whole : word % 256 ≡ high * 2 ^ place + word % 2 ^ place = ap (λ n. word % 2 ^ n) (sym rest.1) ∙ split in
    let ones : count_ones (word % 256) ≡ count_ones high + count_ones (word % 2 ^ place) =
    ap count_ones whole ∙ ones_cat place high (word % 2 ^ place) (mod_below word (2 ^ place) (pow_pos place)) in
    let last : high ≡ (quotient / 2 ^ 1 % 2 ^ rest.0) * 2 ^ 1 + quotient % 2 ^ 1 = mod-pow-add quotient rest.0 1 in
    let odd : quotient % 2 ≡ 1 = eqb-true (quotient % 2) 1 bit in
    let some : count_ones high ≡ 0 → ⊥ = λ none. omega (arith, odd, last, zero_from_ones high none) in
    omega (arith, ones, some)

-- ---- what fits is sound

unfoldable pub IsSound : LeafRule → List ℕ → ℕ → ℕ → Type 0
IsSound rule words zero number = rule.allows (slice_index words number) ≡ true
IsSound rule words (suc height) number =
    (slice_index words number % 256 ≡ 0 → ⊥)
    × ((place : ℕ) → place < 8 → has_bit (slice_index words number) place ≡ true
    → (child_number (slice_index words number) place < number) × IsSound rule words height (child_number (slice_index words number) place))

-- each of some siblings fits
record FitsSome (fit : ℕ → ℕ → Result Fitted ℕ) (number : ℕ) : Type 0 where
  at : ℕ
  all : Fitted
  is : fit number at ≡ good all

each_fits : (fit : ℕ → ℕ → Result Fitted ℕ) (count number at : ℕ) (all : Fitted) → fit_each fit count number at ≡ good all → (k : ℕ) → k < count → FitsSome fit (number + k)
each_fits fit zero number at all is k below = absurd (omega arith)
each_fits fit (suc count) number at all is zero below =
    let h : HasFirst fit count number at all = each_first fit count number at all is in
    subst (FitsSome fit) (sym (add-zero number)) (record { at = at; all = h.first; is = h.first_is })
each_fits fit (suc count) number at all is (suc k) below =
    let h : HasFirst fit count number at all = each_first fit count number at all is in
    let e : number + 1 + k ≡ number + suc k = omega arith in
    subst (FitsSome fit) e (each_fits fit count (number + 1) h.first.next h.rest h.rest_is k (omega arith))

pub sound : (rule : LeafRule) (words : List ℕ) (height number at : ℕ) (all : Fitted) → fit rule words height number at ≡ good all → IsSound rule words height number
unfolding IsSound
sound rule words zero number at all is = (leaf_fitted rule words number at all is).lawful
sound rule words (suc height) number at all is =
    let word : ℕ = slice_index words number in
    let parent : HasFitted rule words height number at all = parent_fitted rule words height number at all is in (
      parent.some,
      λ place octant bit.
          let rank : count_ones (word % 2 ^ place) < ones_in word = rank_below word place octant bit in
          let child : FitsSome (fit rule words height) (base_in word + count_ones (word % 2 ^ place)) =
          each_fits (fit rule words height) (ones_in word) (base_in word) at parent.below parent.below_is (count_ones (word % 2 ^ place)) rank in
          (omega (arith, rank, parent.room), sound rule words height (child_number word place) child.at child.all child.is),
    )
