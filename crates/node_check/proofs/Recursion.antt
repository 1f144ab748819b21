-- Siblings that fit, one after another.
use Rattle.std.proofs.Common.{◌≡◌, ℕ, zero, suc, ◌+◌, ◌<◌, Result, Ok, Err, refl, sym, ap, ◌∙◌, arith, add-zero, zero-add}
use Rattle.octree_specs.specs.Checking.{Fitted, and_then, fit_each}

abbrev pub Answer : Type 0
Answer = Result Fitted ℕ

abbrev pub fitted : ℕ → ℕ → Answer
fitted next cells = Ok (record { next = next; cells = cells })

-- with so many cells before
abbrev pub with_more : ℕ → Answer → Answer
with_more cells answer = and_then answer (λ rest. Ok (record { next = rest.next; cells = cells + rest.cells }))

-- of so many siblings from a number on these fitted, and the rest says what all of them come to
abbrev pub IsLeft : (ℕ → ℕ → Answer) → (base count at place next cells : ℕ) → Type 0
IsLeft f base count at place next cells = (rest : ℕ) × (place + rest ≡ count) × (fit_each f count base at ≡ with_more cells (fit_each f rest (base + place) next))

none_more : (answer : Answer) → answer ≡ with_more 0 answer
none_more (Ok all) = ap (λ n. fitted all.next n) (let e : all.cells ≡ 0 + all.cells = omega arith in e)
none_more (Err number) = refl

pub left_first : (f : ℕ → ℕ → Answer) (base count at : ℕ) → IsLeft f base count at 0 at 0
left_first f base count at = (count, zero-add count, ap (λ n. fit_each f count n at) (sym (add-zero base)) ∙ none_more (fit_each f count (base + 0) at))

more_twice : (a b : ℕ) (answer : Answer) → with_more a (and_then answer (λ rest. Ok (record { next = rest.next; cells = b + rest.cells }))) ≡ with_more (a + b) answer
more_twice a b (Ok rest) = ap (λ n. fitted rest.next n) (let e : a + (b + rest.cells) ≡ a + b + rest.cells = omega arith in e)
more_twice a b (Err number) = refl

step_on : (f : ℕ → ℕ → Answer) (number rest next cells more count : ℕ) → f number next ≡ fitted more count
    → with_more cells (fit_each f (suc rest) number next) ≡ with_more (cells + count) (fit_each f rest (number + 1) more)
step_on f number rest next cells more count fits =
    ap (λ a. with_more cells (and_then a (λ first. and_then (fit_each f rest (number + 1) first.next) (λ rest. Ok (record { next = rest.next; cells = first.cells + rest.cells }))))) fits
    ∙ more_twice cells count (fit_each f rest (number + 1) more)

pub left_step : (f : ℕ → ℕ → Answer) (base count at place next cells more many : ℕ) → IsLeft f base count at place next cells → place < count → f (base + place) next ≡ fitted more many
    → IsLeft f base count at (place + 1) more (cells + many)
left_step f base count at place next cells more many (zero, whole, is) within fits = absurd (omega (arith, whole, within))
left_step f base count at place next cells more many (suc rest, whole, is) within fits =
    let e : base + place + 1 ≡ base + (place + 1) = omega arith in
    (rest, omega (arith, whole), is ∙ (step_on f (base + place) rest next cells more many fits ∙ ap (λ n. with_more (cells + many) (fit_each f rest n more)) e))

-- a sibling that is refused
pub left_refused : (f : ℕ → ℕ → Answer) (base count at place next cells number : ℕ) → IsLeft f base count at place next cells → place < count → f (base + place) next ≡ Err number
    → fit_each f count base at ≡ Err number
left_refused f base count at place next cells number (zero, whole, is) within refused = absurd (omega (arith, whole, within))
left_refused f base count at place next cells number (suc rest, whole, is) within refused =
    is
    ∙ ap (λ a. with_more cells (and_then a (λ first. and_then (fit_each f rest (base + place + 1) first.next) (λ rest. Ok (record { next = rest.next; cells = first.cells + rest.cells }))))) refused

-- all of them
pub left_none : (f : ℕ → ℕ → Answer) (base count at next cells : ℕ) → IsLeft f base count at count next cells → fit_each f count base at ≡ fitted next cells
left_none f base count at next cells (zero, whole, is) = is ∙ ap (λ n. fitted next n) (add-zero cells)
left_none f base count at next cells (suc rest, whole, is) = absurd (omega (arith, whole))
