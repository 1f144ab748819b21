-- First hits of what is met in turn.
use Rattle.std.proofs.Common.{ℕ, ◌≤◌, ◌⊎◌, Option, None, Some, IfSome, arith, refl, sym, subst, inl, inr, ⊎_elim}
use Rattle.ray_fraction.specs.Fractions.{IsUpTo}
use Rattle.ray_fraction.specs.Hits.{Precedes}
use Rattle.ray_fraction.proofs.Order.{up_to_trans}
use Rattle.ray_walk.specs.Steps.{IsBeaten}
use Rattle.ray_walk.specs.Walks.{IsBest, IsKnown, WithKnown}
use Rattle.ray_walk.specs.declared.hits.Candidate.{Candidate}

pub precedes_itself : (n m a : ℕ) → Precedes n m a n m a
precedes_itself n m a = record { sooner = omega arith; tie = λ late. omega arith }

pub precedes_trans : (n m a k l b p q c : ℕ) → 1 ≤ m → 1 ≤ l → 1 ≤ q → Precedes n m a k l b → Precedes k l b p q c → Precedes n m a p q c
precedes_trans n m a k l b p q c some_m some_l some_q first second = record {
  sooner = up_to_trans n m k l p q some_l first.sooner second.sooner;
  tie = λ late.
      let back : IsUpTo k l n m = up_to_trans k l p q n m some_q second.sooner late in
      let forth : IsUpTo p q k l = up_to_trans p q n m k l some_m late first.sooner in
      omega (arith, first.tie back, second.tie forth);
}

-- what is strictly sooner precedes any code
pub strictly_precedes : (n m a k l b : ℕ) → (IsUpTo k l n m → ⊥) → Precedes n m a k l b
strictly_precedes n m a k l b strict = record {
  sooner = omega (arith, strict);
  tie = λ late. absurd (strict late);
}

module _ (scale : ℕ) where
  itself_first : (Met : ℕ → ℕ → ℕ → Type 0) (best : Candidate) → ((code n m : ℕ) → Met code n m → ⊥) → (code n m : ℕ) → WithKnown scale (Some best) Met code n m → Precedes best.ticks scale best.code n m code
  itself_first Met best none code n m (inl is) =
      subst (λ c. Precedes best.ticks scale best.code n m c) (sym is.0) (subst (λ t. Precedes best.ticks scale best.code t m best.code) (sym is.1) (subst (λ s. Precedes best.ticks scale best.code best.ticks s best.code) (sym is.2) (precedes_itself best.ticks scale best.code)))
  itself_first Met best none code n m (inr met) = absurd (none code n m met)

  -- the hit that is known is the best at first
  pub best_at_first : (Met : ℕ → ℕ → ℕ → Type 0) (known : Option Candidate) → ((code n m : ℕ) → Met code n m → ⊥) → IsBest (WithKnown scale known Met) scale known
  best_at_first Met None none = λ code n m met. ⊎_elim (λ (is : IsKnown scale None code n m). is) (λ (there : Met code n m). none code n m there) met
  best_at_first Met (Some best) none = record {
    met = inl (refl, refl, refl);
    first = itself_first Met best none;
  }

  -- the best hit stays where more is met that it precedes
  pub best_stays : (M N : ℕ → ℕ → ℕ → Type 0) (best : Option Candidate) → ((code n m : ℕ) → M code n m → N code n m) → ((code n m : ℕ) → N code n m → M code n m ⊎ IsBeaten scale best n m code)
      → IsBest M scale best → IsBest N scale best
  best_stays M N None into back none = λ code n m met. ⊎_elim (λ old. none code n m old) (λ never. never) (back code n m met)
  best_stays M N (Some best) into back first = record {
    met = into best.code best.ticks scale first.met;
    first = λ code n m met. ⊎_elim (λ old. first.first code n m old) (λ beaten. beaten) (back code n m met);
  }

  before_old : (M : ℕ → ℕ → ℕ → Type 0) (best : Option Candidate) (cell : Candidate) (code n m : ℕ) → 1 ≤ scale → 1 ≤ m → M code n m
      → IfSome best (λ b. Precedes cell.ticks scale cell.code b.ticks scale b.code) → IsBest M scale best → Precedes cell.ticks scale cell.code n m code
  before_old M None cell code n m some sized old before none = absurd (none code n m old)
  before_old M (Some best) cell code n m some sized old before first =
      precedes_trans cell.ticks scale cell.code best.ticks scale best.code n m code some some sized before (first.first code n m old)

  -- a new one is the best where it precedes the one before
  pub best_taken : (M N : ℕ → ℕ → ℕ → Type 0) (best : Option Candidate) (cell : Candidate) → 1 ≤ scale → ((code n m : ℕ) → M code n m → 1 ≤ m)
      → N cell.code cell.ticks scale → ((code n m : ℕ) → N code n m → M code n m ⊎ Precedes cell.ticks scale cell.code n m code)
      → IfSome best (λ b. Precedes cell.ticks scale cell.code b.ticks scale b.code) → IsBest M scale best → IsBest N scale (Some cell)
  best_taken M N best cell some sized met back before first = record {
    met = met;
    first = λ code n m there. ⊎_elim (λ old. before_old M best cell code n m some (sized code n m old) old before first) (λ after. after) (back code n m there);
  }

  from_known : (N : ℕ → ℕ → ℕ → Type 0) (best after : Candidate) → IsKnown scale (Some best) after.code after.ticks scale → N best.code best.ticks scale → N after.code after.ticks scale
  from_known N best after is met = subst (λ c. N c after.ticks scale) (sym is.0) (subst (λ t. N best.code t scale) (sym is.1) met)

  -- the best of what was met, and then of that hit and of more, is the best of all
  pub best_of_both : (M U N : ℕ → ℕ → ℕ → Type 0) (best after : Option Candidate) → 1 ≤ scale → ((code n m : ℕ) → M code n m → 1 ≤ m)
      → ((code n m : ℕ) → M code n m → N code n m) → ((code n m : ℕ) → U code n m → N code n m) → ((code n m : ℕ) → N code n m → M code n m ⊎ U code n m)
      → IsBest M scale best → IsBest (WithKnown scale best U) scale after → IsBest N scale after
  best_of_both M U N None None some sized into more back none never = λ code n m met. ⊎_elim (λ old. none code n m old) (λ new. never code n m (inr new)) (back code n m met)
  best_of_both M U N (Some best) None some sized into more back first never = absurd (never best.code best.ticks scale (inl (refl, refl, refl)))
  best_of_both M U N None (Some after) some sized into more back none first = record {
    met = ⊎_elim (λ never. absurd never) (λ new. more after.code after.ticks scale new) first.met;
    first = λ code n m met. ⊎_elim (λ old. absurd (none code n m old)) (λ new. first.first code n m (inr new)) (back code n m met);
  }
  best_of_both M U N (Some best) (Some after) some sized into more back before first = record {
    met = ⊎_elim (λ is. from_known N best after is (into best.code best.ticks scale before.met)) (λ new. more after.code after.ticks scale new) first.met;
    first = λ code n m met. ⊎_elim
        (λ old. precedes_trans after.ticks scale after.code best.ticks scale best.code n m code some some (sized code n m old) (first.first best.code best.ticks scale (inl (refl, refl, refl))) (before.first code n m old))
        (λ new. first.first code n m (inr new)) (back code n m met);
  }
