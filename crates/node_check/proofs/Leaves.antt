-- A node whose children are leaves, by the words of these.
use Rattle.std.proofs.Common.{◌≡◌, ℕ, zero, suc, ◌+◌, ◌-◌, ◌*◌, ◌/◌, ◌%◌, ◌<◌, ◌≤◌, Bool, true, false, cond, List, Option, None, Some, Result, Ok, Err, refl, sym, ap, subst, ◌∙◌, arith}
use Rattle.std.specs.Prelude.{◌==◌, ◌||◌, nat_lt, slice_index, count_ones, IfSome, IfOk}
use Rattle.octree_specs.specs.Checking.{LeafRule, and_then, fit_each, fit_parent, fit}
use Rattle.node_check.specs.Verdicts.{Agrees, leaf_among, leaf_fit}
use Rattle.node_check.specs.declared.checking.CheckFault.{CheckFault}
use Rattle.node_check.specs.declared.checking.CheckFault.TheVariants.{Refused}
use Rattle.node_check.specs.declared.checking.Subtree.{Subtree}
use Rattle.node_check.proofs.Recursion.{Answer, IsLeft, fitted, left_none, left_refused, left_step}
use Rattle.node_check.proofs.Parents.{by_children}

-- ---- one leaf after another

module _ (rule : LeafRule) (siblings : List ℕ) (base count at : ℕ) where
  among_is : (place : ℕ) → leaf_among rule siblings base (base + place) at ≡ leaf_fit rule (slice_index siblings place) (base + place) at
  among_is place = ap (λ p. leaf_fit rule (slice_index siblings p) (base + place) at) (let e : base + place - base ≡ place = omega arith in e)

  -- one more is lawful
  pub leaf_next : (place cells word many : ℕ) → IsLeft (leaf_among rule siblings base) base count at place at cells → place < count → word ≡ slice_index siblings place → rule.allows word ≡ true → many ≡ rule.cells word
      → IsLeft (leaf_among rule siblings base) base count at (place + 1) at (cells + many)
  leaf_next place cells word many left within is lawful cells_are =
      let one : leaf_among rule siblings base (base + place) at ≡ fitted at many =
      among_is place
      ∙ (ap (λ w. leaf_fit rule w (base + place) at) (sym is)
      ∙ (ap (λ b. cond b (fitted at (rule.cells word)) (Err (base + place))) lawful ∙ ap (λ n. fitted at n) (sym cells_are))) in
      left_step (leaf_among rule siblings base) base count at place at cells at many left within one

  -- one is not
  pub leaf_refused : (number word place cells leaf refused : ℕ) → IsLeft (leaf_among rule siblings base) base count at place at cells → place < count → leaf ≡ slice_index siblings place → rule.allows leaf ≡ false
      → refused ≡ base + place → Agrees (and_then (fit_each (leaf_among rule siblings base) count base at) (fit_parent number word)) (Err (Refused refused))
  leaf_refused number word place cells leaf refused left within is lawless here =
      let one : leaf_among rule siblings base (base + place) at ≡ Err refused =
      among_is place
      ∙ (ap (λ w. leaf_fit rule w (base + place) at) (sym is)
      ∙ (ap (λ b. cond b (fitted at (rule.cells leaf)) (Err (base + place))) lawless ∙ ap (λ n. Err n) (sym here))) in
      ap (λ a. and_then a (fit_parent number word)) (left_refused (leaf_among rule siblings base) base count at place at cells refused left within one)

  -- all are
  pub leaves_agree : (number word cells : ℕ) (result : Result Subtree CheckFault) → IsLeft (leaf_among rule siblings base) base count at count at cells
      → Agrees (fit_parent number word (record { next = at; cells = cells })) result → Agrees (and_then (fit_each (leaf_among rule siblings base) count base at) (fit_parent number word)) result
  leaves_agree number word cells result left agrees =
      subst (λ a. Agrees a result) (sym (ap (λ a. and_then a (fit_parent number word)) (left_none (leaf_among rule siblings base) base count at at cells left))) agrees

-- ---- their words are the file's

each_alike : (f g : ℕ → ℕ → Answer) (count number at : ℕ) → ((place next : ℕ) → place < count → f (number + place) next ≡ g (number + place) next) → fit_each f count number at ≡ fit_each g count number at
each_alike f g zero number at alike = refl
each_alike f g (suc count) number at alike =
    let zeroth : number + 0 ≡ number = omega arith in
    let first : f number at ≡ g number at = subst (λ n. f n at ≡ g n at) zeroth (alike 0 at (omega arith)) in
    let rest : (next : ℕ) → fit_each f count (number + 1) next ≡ fit_each g count (number + 1) next =
    λ next. each_alike f g count (number + 1) next (λ place then within.
    let e : number + (place + 1) ≡ number + 1 + place = omega arith in
    subst (λ n. f n then ≡ g n then) e (alike (place + 1) then (omega (arith, within)))) in
    ap (λ a. and_then a (λ first. and_then (fit_each f count (number + 1) first.next) (λ rest. Ok (record { next = rest.next; cells = first.cells + rest.cells })))) first
    ∙ ap (λ (h : ℕ → Answer). and_then (g number at) (λ first. and_then (h first.next) (λ rest. Ok (record { next = rest.next; cells = first.cells + rest.cells })))) (λ i. λ next. rest next i)

leaf_is : (rule : LeafRule) (words : List ℕ) (number at : ℕ) → fit rule words 0 number at ≡ leaf_fit rule (slice_index words number) number at
unfolding fit
leaf_is rule words number at = refl

siblings_fit : (rule : LeafRule) (words siblings : List ℕ) (base count at : ℕ) → ((place : ℕ) → place < count → slice_index siblings place ≡ slice_index words (base + place))
    → fit_each (leaf_among rule siblings base) count base at ≡ fit_each (fit rule words 0) count base at
siblings_fit rule words siblings base count at own =
    each_alike (leaf_among rule siblings base) (fit rule words 0) count base at (λ place next within.
    among_is rule siblings base count next place ∙ (ap (λ w. leaf_fit rule w (base + place) next) (own place within) ∙ sym (leaf_is rule words (base + place) next)))

module _ (rule : LeafRule) (height word number at count : ℕ) (misplaced : Bool) (high : height ≡ 0 → ⊥) (ones : count ≡ count_ones (word % 256))
    (test : misplaced ≡ ((word % 256 == 0) || nat_lt number (word / 256 + count))) where
  pub siblings_agree : (told : Option (List ℕ)) (siblings : List ℕ) (result : Result Subtree CheckFault) → IfSome told (λ words. word ≡ slice_index words number) → misplaced ≡ false → height ≡ 1
      → IfSome told (λ words. (place : ℕ) → place < count → slice_index siblings place ≡ slice_index words (word / 256 + place))
      → Agrees (and_then (fit_each (leaf_among rule siblings (word / 256)) count (word / 256) at) (fit_parent number word)) result → IfSome told (λ words. Agrees (fit rule words height number at) result)
  siblings_agree None siblings result own placed one same agrees = tt
  siblings_agree (Some words) siblings result own placed one same agrees =
      let down : 0 ≡ height - 1 = omega (arith, one) in
      let whole : fit rule words height number at ≡ and_then (fit_each (leaf_among rule siblings (word / 256)) count (word / 256) at) (fit_parent number word) =
      by_children rule height word number at count misplaced high ones test words own placed
      ∙ ap (λ a. and_then a (fit_parent number word)) (sym (siblings_fit rule words siblings (word / 256) count at same ∙ ap (λ h. fit_each (fit rule words h) count (word / 256) at) down)) in
      subst (λ a. Agrees a result) (sym whole) agrees

-- ---- how many cells

pub leaves_few : (result : Result Subtree CheckFault) (cells count : ℕ) → IfOk result (λ span. span.cells ≡ cells) → cells ≤ 8 * count → IfOk result (λ span. span.cells ≤ 8 * count)
leaves_few (Ok span) cells count are few = omega (arith, are, few)
leaves_few (Err fault) cells count are few = tt
