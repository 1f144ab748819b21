-- The words of an octree fit: the checker's recursion accepts them.
use Rattle.std.proofs.Common.{◌≡◌, ℕ, zero, suc, ◌+◌, true, false, List, [], ◌∷◌, ◌++◌, length, Result, Ok, refl, sym, ap, subst, ◌∙◌, arith, add-zero}
use Rattle.std.specs.Prelude.{◌==◌, ◌||◌, nat_lt, slice_index}
use Rattle.std.specs.List.{sum_by, Contains}
use Rattle.std.proofs.lemmas.Bool.{eq-eqb, ne_eqb, le-ltb, or_from}
use Rattle.std.proofs.lemmas.List.{append_assoc, length-append}
use Rattle.std.proofs.lemmas.List.Elements.{All-contains, Contains-append_right}
use Rattle.std.proofs.lemmas.List.Sums.{sum_by-cons, sum_by-append}
use Rattle.octree_specs.specs.Checking.{LeafRule, Fitted, mask_in, ones_in, base_in, fit_each, fit}
use Rattle.octree_specs.specs.Octree.{Leaf, is_nonempty, leaf_word, children_of, size_of, word_of}
use Rattle.octree_laws.proofs.Marks.{all_nonempty, some_mask}
use Rattle.octree_laws.proofs.Masks.{HasOctants}
use Rattle.octree_laws.proofs.Sizes.{size-suc}
use Rattle.octree_laws.proofs.Standing.{base_of, Stands, ChildStands, child_stands}
use Rattle.octree_laws.proofs.Trees.{parent_word}

-- how many cells the leaves under a node have
unfoldable pub weigh : LeafRule → List Leaf → ℕ → ℕ → ℕ
weigh rule leaves zero node = rule.cells (leaf_word leaves node)
weigh rule leaves (suc height) node = sum_by (weigh rule leaves height) (children_of leaves height node)

-- each leaf's word is allowed
unfoldable pub AreLawful : LeafRule → List Leaf → Type 0
AreLawful rule leaves = (node : ℕ) → is_nonempty leaves 0 node ≡ true → rule.allows (leaf_word leaves node) ≡ true

unfoldable pub fitted : (next cells : ℕ) → Fitted
fitted next cells = record { next = next; cells = cells }

-- an answer that is no refusal
unfoldable pub good : Fitted → Result Fitted ℕ
good f = Ok f

same_fit : (next cells m n : ℕ) → next ≡ m → cells ≡ n → good (fitted next cells) ≡ good (fitted m n)
unfolding good fitted
same_fit next cells m n nexts counts = rw (nexts, counts) refl

-- a node that stands comes to the number behind what lies below it, and to its cells
unfoldable pub Passes : LeafRule → List ℕ → List Leaf → ℕ → ℕ → ℕ → ℕ → Type 0
Passes rule words leaves height node at number = fit rule words height number at ≡ good (fitted (at + size_of leaves height node) (weigh rule leaves height node))

module _ (rule : LeafRule) (words : List ℕ) (leaves : List Leaf) (height node at number : ℕ) (parent : Stands words leaves (suc height) node at number)
    (one : (child from n : ℕ) → Stands words leaves height child from n → is_nonempty leaves height child ≡ true → Passes rule words leaves height child from n) where
  -- a child among its siblings is nonempty
  nonempty_child : (front : List ℕ) (child : ℕ) (back : List ℕ) → children_of leaves height node ≡ front ++ child ∷ back → is_nonempty leaves height child ≡ true
  nonempty_child front child back split =
      All-contains (λ c. is_nonempty leaves height c ≡ true) (children_of leaves height node) child (all_nonempty leaves height node 8)
      (subst (λ all. Contains all child) (sym split) (Contains-append_right front (child ∷ back) child (0, omega arith, refl)))

  -- so do its children, one after another
  pass_each : (front back : List ℕ) → children_of leaves height node ≡ front ++ back
      → fit_each (fit rule words height) (length back) (base_of leaves height node at + length front) (at + sum_by (size_of leaves height) front)
      ≡ good (fitted (at + sum_by (size_of leaves height) front + sum_by (size_of leaves height) back) (sum_by (weigh rule leaves height) back))
  unfolding good fitted Passes
  pass_each front [] split = ap (λ n. good (fitted n 0)) (sym (add-zero (at + sum_by (size_of leaves height) front)))
  pass_each front (child ∷ back) split =
      let size : ℕ → ℕ = size_of leaves height in
      let weight : ℕ → ℕ = weigh rule leaves height in
      let base : ℕ = base_of leaves height node at in
      let from : ℕ = at + sum_by size front in
      let stands : ChildStands words leaves height child from number base (length front) = child_stands words leaves height node at number parent front child back split in
      let first : fit rule words height (base + length front) from ≡ good (fitted (from + size child) (weight child)) =
      one child from (base + length front) stands.stands (nonempty_child front child back split) in
      let next_split : children_of leaves height node ≡ (front ++ child ∷ []) ++ back = split ∙ sym (append_assoc front (child ∷ []) back) in
      let next_number : base + length (front ++ child ∷ []) ≡ base + length front + 1 = omega (arith, length-append front (child ∷ [])) in
      let next_from : at + sum_by size (front ++ child ∷ []) ≡ from + size child = omega (arith, sum_by-append size front (child ∷ []), sum_by-cons size child []) in
      let rest : fit_each (fit rule words height) (length back) (base + length front + 1) (from + size child) ≡ good (fitted (from + size child + sum_by size back) (sum_by weight back)) =
      subst (λ n. fit_each (fit rule words height) (length back) n (from + size child) ≡ good (fitted (from + size child + sum_by size back) (sum_by weight back))) next_number
      (subst (λ n. fit_each (fit rule words height) (length back) (base + length (front ++ child ∷ [])) n ≡ good (fitted (n + sum_by size back) (sum_by weight back))) next_from
      (pass_each (front ++ child ∷ []) back next_split)) in
      rw (first, rest)
      (same_fit (from + size child + sum_by size back) (weight child + sum_by weight back) (from + sum_by size (child ∷ back)) (sum_by weight (child ∷ back))
      (rw (sum_by-cons size child back) (omega arith)) (sym (sum_by-cons weight child back)))

pub size-zero : (leaves : List Leaf) (node : ℕ) → size_of leaves 0 node ≡ 0
unfolding size_of
size-zero leaves node = refl

pub passes : (rule : LeafRule) (words : List ℕ) (leaves : List Leaf) → AreLawful rule leaves → (height node at number : ℕ) → Stands words leaves height node at number
    → is_nonempty leaves height node ≡ true → Passes rule words leaves height node at number
unfolding Passes good fitted fit weigh word_of base_of AreLawful
passes rule words leaves lawful zero node at number stands nonempty =
    let word : slice_index words number ≡ leaf_word leaves node = stands.own in
    rw (word, lawful node nonempty) (same_fit at (rule.cells (leaf_word leaves node)) (at + size_of leaves 0 node) (rule.cells (leaf_word leaves node)) (sym (ap (λ n. at + n) (size-zero leaves node) ∙ add-zero at)) refl)
passes rule words leaves lawful (suc height) node at number stands nonempty =
    let word : ℕ = slice_index words number in
    let children : List ℕ = children_of leaves height node in
    let base : ℕ = base_of leaves height node at in
    let octants : HasOctants leaves height node base word = parent_word words leaves height node at number stands in
    let some : (mask_in word == 0) ≡ false = ne_eqb (mask_in word) 0 (λ none. some_mask leaves height node nonempty (sym octants.mask ∙ none)) in
    let based : base_in word ≡ base = octants.based in
    let many : ones_in word ≡ length children = octants.ones in
    let sizes : ℕ = sum_by (size_of leaves height) children in
    let weights : ℕ = sum_by (weigh rule leaves height) children in
    let total : base ≡ at + sizes = refl in
    let room : (nat_lt number (base_in word + ones_in word)) ≡ false = le-ltb number (base_in word + ones_in word) (omega (arith, based, many, stands.room, size-suc leaves height node)) in
    let test : ((mask_in word == 0) || nat_lt number (base_in word + ones_in word)) ≡ false = or_from (mask_in word == 0) (nat_lt number (base_in word + ones_in word)) some room in
    let each : fit_each (fit rule words height) (ones_in word) (base_in word) at ≡ good (fitted (at + sizes) weights) =
    ap (λ n. fit_each (fit rule words height) n (base_in word) at) many
    ∙ (ap (λ n. fit_each (fit rule words height) (length children) n at) (based ∙ sym (add-zero base))
    ∙ (ap (fit_each (fit rule words height) (length children) (base + 0)) (sym (add-zero at))
    ∙ (pass_each rule words leaves height node at number stands (λ child from n. passes rule words leaves lawful height child from n) [] children refl
    ∙ ap (λ n. good (fitted (n + sizes) weights)) (add-zero at)))) in
    rw (test, each, eq-eqb (at + sizes) (base_in word) (sym (based ∙ total)))
    (same_fit (base_in word + ones_in word) weights (at + size_of leaves (suc height) node) weights (omega (arith, based, many, size-suc leaves height node)) refl)
