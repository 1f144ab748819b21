-- A node by its children, and a leaf.
use Rattle.std.proofs.Common.{◌≡◌, ℕ, zero, suc, ◌+◌, ◌-◌, ◌*◌, ◌/◌, ◌%◌, ◌^◌, ◌<◌, ◌≤◌, Bool, true, false, cond, List, Option, None, Some, Result, Ok, Err, refl, sym, ap, subst, ◌∙◌, arith, lit<}
use Rattle.std.specs.Prelude.{◌==◌, ◌||◌, nat_lt, slice_index, count_ones, IfSome, IfOk}
use Rattle.std.proofs.Math.Nat.{pow-suc, pow-le-pow_right, mul-le-mul_right}
use Rattle.std.proofs.lemmas.Bool.{or_parts, ltb-false}
use Rattle.std.specs.Result.{IsErr, IsErrAnd}
use Rattle.svo_base.specs.declared.grids.TheConstants.{MAX_DEPTH}
use Rattle.octree_specs.specs.Checking.{LeafRule, and_then, fit_each, fit_parent, fit}
use Rattle.node_check.specs.Verdicts.{Agrees, leaf_fit, IsBounded}
use Rattle.node_check.specs.declared.checking.CheckFault.{CheckFault}
use Rattle.node_check.specs.declared.checking.CheckFault.TheVariants.{Failed, Refused}
use Rattle.node_check.specs.declared.checking.Subtree.{Subtree}
use Rattle.node_check.proofs.Recursion.{IsLeft, left_step, left_refused, left_none}

leaf_of : (rule : LeafRule) (words : List ℕ) (number at : ℕ) (result : Result Subtree CheckFault) → Agrees (leaf_fit rule (slice_index words number) number at) result → Agrees (fit rule words 0 number at) result
unfolding fit
leaf_of rule words number at result agrees = agrees

pub leaf_agrees : (rule : LeafRule) (told : Option (List ℕ)) (word number at height : ℕ) (result : Result Subtree CheckFault) → height ≡ 0 → IfSome told (λ words. word ≡ slice_index words number)
    → Agrees (leaf_fit rule word number at) result → IfSome told (λ words. Agrees (fit rule words height number at) result)
leaf_agrees rule None word number at height result low own agrees = tt
leaf_agrees rule (Some words) word number at height result low own agrees =
    subst (λ h. Agrees (fit rule words h number at) result) (sym low) (leaf_of rule words number at result (subst (λ w. Agrees (leaf_fit rule w number at) result) own agrees))

-- a node above the leaves, by its word
by_word : (rule : LeafRule) (words : List ℕ) (lower word number at : ℕ) → word ≡ slice_index words number
    → fit rule words (suc lower) number at
    ≡ cond ((word % 256 == 0) || nat_lt number (word / 256 + count_ones (word % 256))) (Err number) (and_then (fit_each (fit rule words lower) (count_ones (word % 256)) (word / 256) at) (fit_parent number word))
unfolding fit
by_word rule words lower word number at own =
    subst
    (λ w. fit rule words (suc lower) number at
    ≡ cond ((w % 256 == 0) || nat_lt number (w / 256 + count_ones (w % 256))) (Err number) (and_then (fit_each (fit rule words lower) (count_ones (w % 256)) (w / 256) at) (fit_parent number w)))
    (sym own) refl

lower_of : (height : ℕ) → (height ≡ 0 → ⊥) → (lower : ℕ) × (height ≡ suc lower)
lower_of zero high = absurd (high refl)
lower_of (suc lower) high = (lower, refl)

-- whether it has no child or one that does not stand before it
by_test : (rule : LeafRule) (words : List ℕ) (height word number at count : ℕ) (misplaced : Bool) → (height ≡ 0 → ⊥) → word ≡ slice_index words number → count ≡ count_ones (word % 256)
    → misplaced ≡ ((word % 256 == 0) || nat_lt number (word / 256 + count))
    → fit rule words height number at ≡ cond misplaced (Err number) (and_then (fit_each (fit rule words (height - 1)) count (word / 256) at) (fit_parent number word))
by_test rule words height word number at count misplaced high own ones test =
    let lower : (lower : ℕ) × (height ≡ suc lower) = lower_of height high in
    let down : height - 1 ≡ lower.0 = omega (arith, lower.1) in
    let whole : fit rule words (suc lower.0) number at
    ≡ cond ((word % 256 == 0) || nat_lt number (word / 256 + count)) (Err number) (and_then (fit_each (fit rule words lower.0) count (word / 256) at) (fit_parent number word)) =
    by_word rule words lower.0 word number at own
    ∙ ap (λ n. cond ((word % 256 == 0) || nat_lt number (word / 256 + n)) (Err number) (and_then (fit_each (fit rule words lower.0) n (word / 256) at) (fit_parent number word))) (sym ones) in
    ap (λ h. fit rule words h number at) lower.1
    ∙ (whole
    ∙ (ap (λ b. cond b (Err number) (and_then (fit_each (fit rule words lower.0) count (word / 256) at) (fit_parent number word))) (sym test)
    ∙ ap (λ h. cond misplaced (Err number) (and_then (fit_each (fit rule words h) count (word / 256) at) (fit_parent number word))) (sym down)))

module _ (rule : LeafRule) (height word number at count : ℕ) (misplaced : Bool) (high : height ≡ 0 → ⊥) (ones : count ≡ count_ones (word % 256))
    (test : misplaced ≡ ((word % 256 == 0) || nat_lt number (word / 256 + count))) where
  pub misplaced_agrees : (told : Option (List ℕ)) → IfSome told (λ words. word ≡ slice_index words number) → misplaced ≡ true
      → IfSome told (λ words. Agrees (fit rule words height number at) (Err (Refused number)))
  misplaced_agrees None own refused = tt
  misplaced_agrees (Some words) own refused =
      by_test rule words height word number at count misplaced high own ones test
      ∙ ap (λ b. cond b (Err number) (and_then (fit_each (fit rule words (height - 1)) count (word / 256) at) (fit_parent number word))) refused

  pub by_children : (words : List ℕ) → word ≡ slice_index words number → misplaced ≡ false
      → fit rule words height number at ≡ and_then (fit_each (fit rule words (height - 1)) count (word / 256) at) (fit_parent number word)
  by_children words own placed =
      by_test rule words height word number at count misplaced high own ones test
      ∙ ap (λ b. cond b (Err number) (and_then (fit_each (fit rule words (height - 1)) count (word / 256) at) (fit_parent number word))) placed

  -- a child is refused
  pub child_agrees : (told : Option (List ℕ)) (fault : CheckFault) (child place next cells : ℕ) → IfSome told (λ words. word ≡ slice_index words number) → misplaced ≡ false
      → IfSome told (λ words. IsLeft (fit rule words (height - 1)) (word / 256) count at place next cells) → place < count → child ≡ word / 256 + place
      → IfSome told (λ words. Agrees (fit rule words (height - 1) child next) (Err fault)) → IfSome told (λ words. Agrees (fit rule words height number at) (Err fault))
  child_agrees None fault child place next cells own placed left within here agrees = tt
  child_agrees (Some words) Failed child place next cells own placed left within here agrees = tt
  child_agrees (Some words) (Refused n) child place next cells own placed left within here agrees =
      by_children words own placed
      ∙ ap (λ a. and_then a (fit_parent number word))
      (left_refused (fit rule words (height - 1)) (word / 256) count at place next cells n left within (subst (λ c. fit rule words (height - 1) c next ≡ Err n) here agrees))

  -- all fit
  pub parent_agrees : (told : Option (List ℕ)) (result : Result Subtree CheckFault) (next cells : ℕ) → IfSome told (λ words. word ≡ slice_index words number) → misplaced ≡ false
      → IfSome told (λ words. IsLeft (fit rule words (height - 1)) (word / 256) count at count next cells)
      → Agrees (fit_parent number word (record { next = next; cells = cells })) result → IfSome told (λ words. Agrees (fit rule words height number at) result)
  parent_agrees None result next cells own placed left agrees = tt
  parent_agrees (Some words) result next cells own placed left agrees =
      let whole : fit rule words height number at ≡ fit_parent number word (record { next = next; cells = cells }) =
      by_children words own placed ∙ ap (λ a. and_then a (fit_parent number word)) (left_none (fit rule words (height - 1)) (word / 256) count at next cells left) in
      subst (λ a. Agrees a result) (sym whole) agrees

  -- its children stand before it
  pub children_before : misplaced ≡ false → word / 256 + count ≤ number
  children_before placed = ltb-false number (word / 256 + count) (or_parts (word % 256 == 0) (nat_lt number (word / 256 + count)) (sym test ∙ placed)).1

-- one more child fits
pub next_left : (rule : LeafRule) (told : Option (List ℕ)) (height base count at place next cells child : ℕ) (span : Subtree) → IfSome told (λ words. IsLeft (fit rule words height) base count at place next cells)
    → place < count → child ≡ base + place → IfSome told (λ words. Agrees (fit rule words height child next) (Ok span))
    → IfSome told (λ words. IsLeft (fit rule words height) base count at (place + 1) span.next (cells + span.cells))
next_left rule None height base count at place next cells child span left within here agrees = tt
next_left rule (Some words) height base count at place next cells child span left within here agrees =
    left_step (fit rule words height) base count at place next cells span.next span.cells left within (subst (λ c. fit rule words height c next ≡ Ok (record { next = span.next; cells = span.cells })) here agrees)

-- ---- how many cells

pub more_cells : (height place cells more : ℕ) → (height ≡ 0 → ⊥) → cells ≤ place * 8 ^ height → more ≤ 8 ^ (height - 1 + 1) → cells + more ≤ (place + 1) * 8 ^ height
more_cells height place cells more high few some =
    let level : height - 1 + 1 ≡ height = omega (arith, high) in
    let one : more ≤ 8 ^ height = subst (λ h. more ≤ 8 ^ h) level some in
    omega (arith, few, one)

power_small : (height : ℕ) → height ≤ MAX_DEPTH → 8 ^ height ≤ 68719476736
power_small height shallow = pow-le-pow_right {n = 8} (lit< tt) {i = height} {j = MAX_DEPTH} shallow

pub cells_small : (height place cells : ℕ) → height ≤ MAX_DEPTH → place ≤ 8 → cells ≤ place * 8 ^ height → cells < 2 ^ 64
cells_small height place cells shallow octants few =
    let power : 8 ^ height ≤ 68719476736 = power_small height shallow in
    let times : place * 8 ^ height ≤ 8 * 8 ^ height = mul-le-mul_right (8 ^ height) octants in
    omega (arith, power, times, few)

pub all_cells : (height count cells : ℕ) → count ≤ 8 → cells ≤ count * 8 ^ height → cells ≤ 8 ^ (height + 1)
all_cells height count cells octants few =
    let times : count * 8 ^ height ≤ 8 * 8 ^ height = mul-le-mul_right (8 ^ height) octants in
    let e : height + 1 ≡ suc height = omega arith in
    let power : 8 ^ (height + 1) ≡ 8 ^ height * 8 = ap (λ n. 8 ^ n) e ∙ pow-suc 8 height in
    omega (arith, times, power, few)

pub bounded : (records height at before after next cells base count number : ℕ) (result : Result Subtree CheckFault)
    → IfOk result (λ span. (next ≡ base) × (span.next ≡ base + count)) → IfOk result (λ span. span.cells ≡ cells) → base + count ≤ number → number < records → count ≤ 8
    → cells ≤ count * 8 ^ height → after + at ≡ before + count + next → IfOk result (IsBounded records height at before after)
bounded records height at before after next cells base count number (Ok span) ends count_is above within octants few once = record {
  inside = omega (arith, ends.1, above, within);
  few = subst (λ n. n ≤ 8 ^ (height + 1)) (sym count_is) (all_cells height count cells octants few);
  once = omega (arith, once, ends.0, ends.1);
}
bounded records height at before after next cells base count number (Err fault) ends count_is above within octants few once = tt

pub err_is : {A : Type 0} (result : Result A CheckFault) (fault : CheckFault) → IsErr result × IsErrAnd result (λ e. e ≡ fault) → result ≡ Err fault
err_is (Ok x) fault h = absurd (let e = h.0 in cc)
err_is (Err e) fault h = ap Err h.1
