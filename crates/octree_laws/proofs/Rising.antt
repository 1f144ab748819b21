-- Ascending lists, by recursion.
use Rattle.std.proofs.Common.{◌≡◌, ℕ, zero, suc, ◌+◌, ◌<◌, ◌≤◌, List, [], ◌∷◌, length, get_or, refl, subst, inl, inr, arith}
use Rattle.std.specs.Prelude.{◌⊎◌}
use Rattle.std.specs.List.{Contains}
use Rattle.std.specs.List.Sorted.{IsStrictlyIncreasing}

-- from a least number on, each number is greater than those before
unfoldable pub Ascends : ℕ → List ℕ → Type 0
Ascends low [] = Unit {0}
Ascends low (n ∷ rest) = (low ≤ n) × Ascends (n + 1) rest

pub ascends : (low : ℕ) (numbers : List ℕ) → IsStrictlyIncreasing numbers → (0 < length numbers → low ≤ get_or numbers 0 0) → Ascends low numbers
unfolding Ascends
ascends low [] increasing least = tt
ascends low (n ∷ rest) increasing least = (
  least (omega arith),
  ascends (n + 1) rest
      (λ k within.
      let e : suc k + 1 ≡ suc (k + 1) = omega arith in
      subst (λ j. get_or (n ∷ rest) (suc k) 0 < get_or (n ∷ rest) j 0) e (increasing (suc k) (omega (arith, within))))
      (λ some. omega (arith, increasing 0 (omega (arith, some)))),
)

-- by a member
pub in_cases : (n : ℕ) (rest : List ℕ) (m : ℕ) → Contains (n ∷ rest) m → (n ≡ m) ⊎ Contains rest m
in_cases n rest m (zero, within, is) = inl is
in_cases n rest m (suc k, within, is) = inr (k, omega (arith, within), is)

pub in_rest : (n : ℕ) (rest : List ℕ) (m : ℕ) → Contains rest m → Contains (n ∷ rest) m
in_rest n rest m (k, within, is) = (suc k, omega (arith, within), is)

pub in_first : (n : ℕ) (rest : List ℕ) → Contains (n ∷ rest) n
in_first n rest = (0, omega arith, refl)

pub above_low : (low : ℕ) (numbers : List ℕ) → Ascends low numbers → (m : ℕ) → Contains numbers m → low ≤ m
unfolding Ascends
above_low low [] ascending m has = absurd (omega (arith, has.1))
above_low low (n ∷ rest) ascending m has = elim (in_cases n rest m has) [
  | inl here ↦ omega (arith, here, ascending.0)
  | inr later ↦ omega (arith, ascending.0, above_low (n + 1) rest ascending.1 m later)
]

-- back to neighbours
pub increasing : (low : ℕ) (numbers : List ℕ) → Ascends low numbers → IsStrictlyIncreasing numbers
unfolding Ascends
increasing low [] ascending k within = absurd (omega (arith, within))
increasing low (a ∷ []) ascending k within = absurd (omega (arith, within))
increasing low (a ∷ b ∷ rest) ascending zero within = omega (arith, ascending.1.0)
increasing low (a ∷ b ∷ rest) ascending (suc k) within =
    let e : suc (k + 1) ≡ suc k + 1 = omega arith in
    subst (λ j. get_or (a ∷ b ∷ rest) (suc k) 0 < get_or (a ∷ b ∷ rest) j 0) e (increasing (a + 1) (b ∷ rest) ascending.1 k (omega (arith, within)))
