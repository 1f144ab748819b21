-- What an answer of the checker's recursion says of the steps before it.
use Rattle.std.proofs.Common.{◌≡◌, ℕ, suc, ◌+◌, ◌≤◌, Bool, true, false, cond, List, Result, Ok, Err, refl, sym, ap}
use Rattle.std.specs.Prelude.{◌==◌, ◌||◌, nat_lt, slice_index}
use Rattle.std.proofs.lemmas.Bool.{eqb-true, eqb-false, ltb-false, or_parts}
use Rattle.octree_specs.specs.Checking.{LeafRule, Fitted, mask_in, ones_in, base_in, and_then, fit_each, fit_parent, fit}
use Rattle.octree_laws.proofs.Fitting.{good}

abbrev pub Answer : Type 0
Answer = Result Fitted ℕ

refused : ℕ → Answer
refused n = Err n

pub same_answer : (a b : Fitted) → good a ≡ good b → a ≡ b
unfolding good
same_answer a b same = cc

not_refused : (n : ℕ) (a : Fitted) → refused n ≡ good a → ⊥
unfolding good refused
not_refused n a same = cc

record HasStep (answer : Answer) (step : Fitted → Answer) (all : Fitted) : Type 0 where
  first : Fitted
  first_is : answer ≡ good first
  all_is : step first ≡ good all

step_of : (answer : Answer) (step : Fitted → Answer) (all : Fitted) → and_then answer step ≡ good all → HasStep answer step all
unfolding good refused
step_of (Ok first) step all is = record { first = first; first_is = refl; all_is = is }
step_of (Err n) step all is = absurd (not_refused n all is)

passed : (b : Bool) (n : ℕ) (answer : Answer) (all : Fitted) → cond b (Err n) answer ≡ good all → (b ≡ false) × (answer ≡ good all)
unfolding refused
passed true n answer all is = absurd (not_refused n all is)
passed false n answer all is = (refl, is)

allowed : (b : Bool) (n : ℕ) (answer : Answer) (all : Fitted) → cond b answer (Err n) ≡ good all → (b ≡ true) × (answer ≡ good all)
unfolding refused
allowed true n answer all is = (refl, is)
allowed false n answer all is = absurd (not_refused n all is)

-- of siblings one after another
pub record HasFirst (fit : ℕ → ℕ → Answer) (count number at : ℕ) (all : Fitted) : Type 0 where
  pub first : Fitted
  pub rest : Fitted
  pub first_is : fit number at ≡ good first
  pub rest_is : fit_each fit count (number + 1) first.next ≡ good rest
  pub next : all.next ≡ rest.next
  pub cells : all.cells ≡ first.cells + rest.cells

joined : Fitted → Fitted → Fitted
joined first rest = record { next = rest.next; cells = first.cells + rest.cells }

pub each_first : (fit : ℕ → ℕ → Answer) (count number at : ℕ) (all : Fitted) → fit_each fit (suc count) number at ≡ good all → HasFirst fit count number at all
unfolding good joined
each_first fit count number at all is =
    let one : HasStep (fit number at) (λ first. and_then (fit_each fit count (number + 1) first.next) (λ rest. good (joined first rest))) all =
    step_of (fit number at) (λ first. and_then (fit_each fit count (number + 1) first.next) (λ rest. good (joined first rest))) all is in
    let two : HasStep (fit_each fit count (number + 1) one.first.next) (λ rest. good (joined one.first rest)) all =
    step_of (fit_each fit count (number + 1) one.first.next) (λ rest. good (joined one.first rest)) all one.all_is in
    let same : joined one.first two.first ≡ all = same_answer (joined one.first two.first) all two.all_is in
    record {
      first = one.first;
      rest = two.first;
      first_is = one.first_is;
      rest_is = two.first_is;
      next = ap (λ (f : Fitted). f.next) (sym same);
      cells = ap (λ (f : Fitted). f.cells) (sym same);
    }

-- of a leaf
pub record HasLeaf (rule : LeafRule) (words : List ℕ) (number at : ℕ) (all : Fitted) : Type 0 where
  pub lawful : rule.allows (slice_index words number) ≡ true
  pub next : all.next ≡ at
  pub cells : all.cells ≡ rule.cells (slice_index words number)

pub leaf_fitted : (rule : LeafRule) (words : List ℕ) (number at : ℕ) (all : Fitted) → fit rule words 0 number at ≡ good all → HasLeaf rule words number at all
unfolding fit good
leaf_fitted rule words number at all is =
    let leaf : Fitted = record { next = at; cells = rule.cells (slice_index words number) } in
    let parts : (rule.allows (slice_index words number) ≡ true) × (good leaf ≡ good all) = allowed (rule.allows (slice_index words number)) number (good leaf) all is in
    let same : leaf ≡ all = same_answer leaf all parts.1 in
    record { lawful = parts.0; next = ap (λ (f : Fitted). f.next) (sym same); cells = ap (λ (f : Fitted). f.cells) (sym same) }

-- of a parent
pub record HasFitted (rule : LeafRule) (words : List ℕ) (height number at : ℕ) (all : Fitted) : Type 0 where
  pub below : Fitted
  pub below_is : fit_each (fit rule words height) (ones_in (slice_index words number)) (base_in (slice_index words number)) at ≡ good below
  pub some : mask_in (slice_index words number) ≡ 0 → ⊥
  pub room : base_in (slice_index words number) + ones_in (slice_index words number) ≤ number
  pub based : below.next ≡ base_in (slice_index words number)
  pub next : all.next ≡ base_in (slice_index words number) + ones_in (slice_index words number)
  pub cells : all.cells ≡ below.cells

pub parent_fitted : (rule : LeafRule) (words : List ℕ) (height number at : ℕ) (all : Fitted) → fit rule words (suc height) number at ≡ good all → HasFitted rule words height number at all
unfolding fit good
parent_fitted rule words height number at all is =
    let word : ℕ = slice_index words number in
    let each : Answer = fit_each (fit rule words height) (ones_in word) (base_in word) at in
    let test : Bool = (mask_in word == 0) || nat_lt number (base_in word + ones_in word) in
    let parts : (test ≡ false) × (and_then each (fit_parent number word) ≡ good all) = passed test number (and_then each (fit_parent number word)) all is in
    let tests : ((mask_in word == 0) ≡ false) × (nat_lt number (base_in word + ones_in word) ≡ false) = or_parts (mask_in word == 0) (nat_lt number (base_in word + ones_in word)) parts.0 in
    let step : HasStep each (fit_parent number word) all = step_of each (fit_parent number word) all parts.1 in
    let whole : Fitted = record { next = base_in word + ones_in word; cells = step.first.cells } in
    let based : ((step.first.next == base_in word) ≡ true) × (good whole ≡ good all) = allowed (step.first.next == base_in word) number (good whole) all step.all_is in
    let same : whole ≡ all = same_answer whole all based.1 in
    record {
      below = step.first;
      below_is = step.first_is;
      some = eqb-false (mask_in word) 0 tests.0;
      room = ltb-false number (base_in word + ones_in word) tests.1;
      based = eqb-true step.first.next (base_in word) based.0;
      next = ap (λ (f : Fitted). f.next) (sym same);
      cells = ap (λ (f : Fitted). f.cells) (sym same);
    }
