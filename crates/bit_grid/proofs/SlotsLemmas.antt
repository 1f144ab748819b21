-- The next slot that is not 0, sought from a place on.
use Rattle.std.proofs.Common.{◌≡◌, ℕ, ◌+◌, ◌-◌, ◌<◌, ◌≤◌, List, length, get_or, take, drop, arith, sym, subst, ◌∙◌}
use Rattle.bit_grid.proofs.PlacesLemmas.{word_of_rest}
use Rattle.bit_grid.specs.Slots.{HasNoSlotFrom, IsNextSlot}

-- the slots from one place on, at a place that is not before it
at_later : (slots : List ℕ) (from place : ℕ) → from ≤ place → get_or (take (length slots - from) (drop from slots)) (place - from) 0 ≡ get_or slots place 0
at_later slots from place later =
    let whole : from + (place - from) ≡ place = omega arith in
    subst (λ p. get_or (take (length slots - from) (drop from slots)) (place - from) 0 ≡ get_or slots p 0) whole (word_of_rest slots from (place - from))

pub none_after : (slots : List ℕ) (from : ℕ) → ((k : ℕ) → get_or (take (length slots - from) (drop from slots)) k 0 ≡ 0) → HasNoSlotFrom slots from
none_after slots from zeros place later = sym (at_later slots from place later) ∙ zeros (place - from)

pub next_after : (slots : List ℕ) (from step : ℕ) → from < length slots → step < length slots - from
    → 0 < get_or (take (length slots - from) (drop from slots)) step 0
    → ((k : ℕ) → k < step → get_or (take (length slots - from) (drop from slots)) k 0 ≡ 0) → IsNextSlot slots from (from + step)
next_after slots from step start within filled before = record {
  later = omega arith;
  within = omega arith;
  filled = subst (λ n. 0 < n) (word_of_rest slots from step) filled;
  least = λ other later below. sym (at_later slots from other later) ∙ before (other - from) (omega arith);
}
