-- Words that fit, and that have the tree of some leaves, are the words of that octree.
use Rattle.std.proofs.Common.{◌≡◌, ℕ, zero, suc, ◌+◌, ◌*◌, ◌/◌, ◌%◌, ◌^◌, ◌<◌, ◌≤◌, Bool, true, false, cond, List, [], ◌∷◌, ◌++◌, length, refl, sym, ap, subst, ◌∙◌, inl, inr, arith, add-zero, add-one, lit≤}
use Rattle.std.specs.Prelude.{◌==◌, slice_index}
use Rattle.std.specs.List.{sum_by}
use Rattle.std.proofs.lemmas.Bool.{cases_Bool, eqb-true, eqb-false}
use Rattle.std.proofs.lemmas.List.{length_push}
use Rattle.std.proofs.lemmas.List.Sums.{sum_by-cons}
use Rattle.std.proofs.lemmas.Nat.{mod-pow-add}
use Rattle.octree_specs.specs.Checking.{LeafRule, Fitted, ones_in, base_in, fit_each, fit}
use Rattle.octree_specs.specs.Octree.{Leaf, is_nonempty, first_children, children_of, size_of, word_of, below_of}
use Rattle.octree_specs.specs.Walking.{HasMask, HasTree, child_number}
use Rattle.octree_laws.proofs.FirstChildren.{first_children-zero, first_children-add, one_in, one_out, later_children, later_children-suc}
use Rattle.octree_laws.proofs.Fitting.{good, weigh, size-zero}
use Rattle.octree_laws.proofs.Masks.{bit_of, mask_front, mask_front-zero, mask_front_more, HasOctants, has_octants}
use Rattle.octree_laws.proofs.Sizes.{words_below, words_at, length-words_below, length-below_of, size-suc}
use Rattle.octree_laws.proofs.Standing.{Holds}
use Rattle.octree_laws.proofs.Inversions.{same_answer, HasFirst, each_first, HasLeaf, leaf_fitted, HasFitted, parent_fitted}

-- ---- the mask by its bits

test_bit : (b : Bool) (n : ℕ) → n < 2 → b ≡ (n == 1) → n ≡ cond b 1 0
test_bit true n small is = eqb-true n 1 (sym is)
test_bit false n small is = let other : n ≡ 1 → ⊥ = eqb-false n 1 (sym is) in omega (arith, other)

pub mask_bits : (leaves : List Leaf) (height node word : ℕ) → HasMask leaves height node word → (count : ℕ) → count ≤ 8 → word % 2 ^ count ≡ mask_front leaves height node count
unfolding bit_of
mask_bits leaves height node word mask zero few = let one : word % 1 ≡ 0 = omega arith in one ∙ sym (mask_front-zero leaves height node)
mask_bits leaves height node word mask (suc count) few =
    let before : word % 2 ^ count ≡ mask_front leaves height node count = mask_bits leaves height node word mask count (omega arith) in
    let bit : word / 2 ^ count % 2 ≡ bit_of leaves height (8 * node + count) =
    test_bit (is_nonempty leaves height (8 * node + count)) (word / 2 ^ count % 2) (omega arith) (mask count (omega arith)) in
    let split : word % 2 ^ (1 + count) ≡ (word / 2 ^ count % 2 ^ 1) * 2 ^ count + word % 2 ^ count = mod-pow-add word 1 count in
    let e : 1 + count ≡ suc count = omega arith in
    ap (λ n. word % 2 ^ n) (sym e) ∙ (split ∙ (rw (bit, before) refl ∙ (sym (mask_front_more leaves height node count (omega arith)) ∙ ap (mask_front leaves height node) (add-one count))))

pub octants_by_bits : (leaves : List Leaf) (height node word : ℕ) → HasMask leaves height node word → HasOctants leaves height node (word / 256) word
octants_by_bits leaves height node word mask =
    let low : word % 256 ≡ mask_front leaves height node 8 = mask_bits leaves height node word mask 8 (lit≤ tt) in
    let whole : mask_front leaves height node 8 + 256 * (word / 256) ≡ word = omega (arith, low) in
    subst (HasOctants leaves height node (word / 256)) whole (has_octants leaves height node (word / 256))

-- ---- words that fit

pub holds-append : (words : List ℕ) (at : ℕ) (xs ys : List ℕ) → Holds words at xs → Holds words (at + length xs) ys → Holds words at (xs ++ ys)
unfolding Holds
holds-append words at [] ys left right = subst (λ n. Holds words n ys) (add-zero at) right
holds-append words at (x ∷ xs) ys left right =
    let e : at + suc (length xs) ≡ at + 1 + length xs = omega arith in
    (left.0, holds-append words (at + 1) xs ys left.1 (subst (λ n. Holds words n ys) e right))

-- a node whose words fit, where it was placed from `at` on
pub record IsFitted (rule : LeafRule) (words : List ℕ) (leaves : List Leaf) (height node at number : ℕ) (all : Fitted) : Type 0 where
  pub next : all.next ≡ at + size_of leaves height node
  pub cells : all.cells ≡ weigh rule leaves height node
  pub own : slice_index words number ≡ word_of leaves height node at
  pub below : Holds words at (below_of leaves height node at)

-- siblings
record AreFitted (rule : LeafRule) (words : List ℕ) (leaves : List Leaf) (height from number : ℕ) (nodes : List ℕ) (all : Fitted) : Type 0 where
  next : all.next ≡ from + sum_by (size_of leaves height) nodes
  cells : all.cells ≡ sum_by (weigh rule leaves height) nodes
  below : Holds words from (words_below leaves height from nodes)
  own : Holds words number (words_at leaves height from nodes)

module _ (rule : LeafRule) (words : List ℕ) (leaves : List Leaf) (height node number : ℕ) (octants : HasOctants leaves height node (slice_index words number / 256) (slice_index words number))
    (down : (place : ℕ) → place < 8 → is_nonempty leaves height (8 * node + place) ≡ true
    → (child_number (slice_index words number) place < number) × HasTree words leaves height (8 * node + place) (child_number (slice_index words number) place))
    (one : (child from n : ℕ) (all : Fitted) → HasTree words leaves height child n → fit rule words height n from ≡ good all → IsFitted rule words leaves height child from n all) where
  -- a child, and those behind it
  cons_fitted : (child from n : ℕ) (nodes : List ℕ) (all : Fitted) (h : HasFirst (fit rule words height) (length nodes) n from all) → IsFitted rule words leaves height child from n h.first
      → AreFitted rule words leaves height h.first.next (n + 1) nodes h.rest → AreFitted rule words leaves height from n (child ∷ nodes) all
  unfolding words_below words_at Holds
  cons_fitted child from n nodes all h first rest =
      let size : ℕ → ℕ = size_of leaves height in
      let weight : ℕ → ℕ = weigh rule leaves height in
      let long : length (below_of leaves height child from) ≡ size child = length-below_of leaves height child from in
      let behind : h.first.next ≡ from + size child = first.next in
      record {
        next = omega (arith, h.next, rest.next, behind, sum_by-cons size child nodes);
        cells = omega (arith, h.cells, rest.cells, first.cells, sum_by-cons weight child nodes);
        below =
            holds-append words from (below_of leaves height child from) (words_below leaves height (from + size child) nodes) first.below
            (subst (λ k. Holds words k (words_below leaves height (from + size child) nodes)) (ap (λ k. from + k) (sym long)) (subst (λ k. Holds words k (words_below leaves height k nodes)) behind rest.below));
        own = (first.own, subst (λ k. Holds words (n + 1) (words_at leaves height k nodes)) behind rest.own);
      }

  later_fitted : (rest place from n : ℕ) (all : Fitted) → place + rest ≡ 8 → n ≡ slice_index words number / 256 + length (first_children leaves height node place)
      → fit_each (fit rule words height) (length (later_children leaves height node place rest)) n from ≡ good all
      → AreFitted rule words leaves height from n (later_children leaves height node place rest) all
  unfolding later_children words_below words_at Holds good
  later_fitted zero place from n all eight at_n is =
      let same : record { next = from; cells = 0 } ≡ all = same_answer (record { next = from; cells = 0 }) all is in
      record {
        next = ap (λ (f : Fitted). f.next) (sym same) ∙ sym (add-zero from);
        cells = ap (λ (f : Fitted). f.cells) (sym same);
        below = tt;
        own = tt;
      }
  later_fitted (suc rest) place from n all eight at_n is =
      let word : ℕ = slice_index words number in
      let child : ℕ = 8 * node + place in
      let nodes : List ℕ = later_children leaves height node (place + 1) rest in
      let octant : place < 8 = omega arith in
      let parts : later_children leaves height node place (suc rest) ≡ cond (is_nonempty leaves height child) (child ∷ []) [] ++ nodes = later_children-suc leaves height node place rest in
      elim (cases_Bool (is_nonempty leaves height child)) [
        | inl nonempty ↦
            let here : later_children leaves height node place (suc rest) ≡ child ∷ nodes = parts ∙ rw nonempty refl in
            let h : HasFirst (fit rule words height) (length nodes) n from all =
            each_first (fit rule words height) (length nodes) n from all (subst (λ xs. fit_each (fit rule words height) (length xs) n from ≡ good all) here is) in
            let number_is : child_number word place ≡ n = ap (λ k. word / 256 + k) (octants.before place octant) ∙ sym at_n in
            let first : IsFitted rule words leaves height child from n h.first =
            one child from n h.first (subst (HasTree words leaves height child) number_is (down place octant nonempty).1) h.first_is in
            let more : AreFitted rule words leaves height h.first.next (n + 1) nodes h.rest =
            later_fitted rest (place + 1) h.first.next (n + 1) h.rest (omega arith)
            (omega (arith, at_n, ap length (one_in leaves height node place nonempty), length_push (first_children leaves height node place) child)) h.rest_is in
            subst (λ xs. AreFitted rule words leaves height from n xs all) (sym here) (cons_fitted child from n nodes all h first more)
        | inr empty ↦
            let here : later_children leaves height node place (suc rest) ≡ nodes = parts ∙ rw empty refl in
            subst (λ xs. AreFitted rule words leaves height from n xs all) (sym here)
            (later_fitted rest (place + 1) from n all (omega arith) (at_n ∙ ap (λ xs. word / 256 + length xs) (sym (one_out leaves height node place empty)))
            (subst (λ xs. fit_each (fit rule words height) (length xs) n from ≡ good all) here is))
      ]

-- all eight children are those from the first on
all_later : (leaves : List Leaf) (height node : ℕ) → later_children leaves height node 0 8 ≡ children_of leaves height node
all_later leaves height node = sym (first_children-add leaves height node 0 8 ∙ ap (λ xs. xs ++ later_children leaves height node 0 8) (first_children-zero leaves height node))

word_is : (leaves : List Leaf) (height node at word : ℕ) → HasOctants leaves height node (word / 256) word → word / 256 ≡ at + sum_by (size_of leaves height) (children_of leaves height node)
    → word ≡ word_of leaves (suc height) node at
unfolding word_of mask_front
word_is leaves height node at word octants base = omega (arith, octants.mask, base)

pub is_fitted : (rule : LeafRule) (words : List ℕ) (leaves : List Leaf) (height node at number : ℕ) (all : Fitted) → HasTree words leaves height node number → fit rule words height number at ≡ good all
    → IsFitted rule words leaves height node at number all
unfolding Holds word_of below_of words_below words_at weigh
is_fitted rule words leaves zero node at number all tree is =
    let leaf : HasLeaf rule words number at all = leaf_fitted rule words number at all is in
    record {
      next = leaf.next ∙ (sym (add-zero at) ∙ ap (λ n. at + n) (sym (size-zero leaves node)));
      cells = leaf.cells ∙ ap rule.cells tree;
      own = tree;
      below = tt;
    }
is_fitted rule words leaves (suc height) node at number all tree is =
    let word : ℕ = slice_index words number in
    let children : List ℕ = children_of leaves height node in
    let sizes : ℕ = sum_by (size_of leaves height) children in
    let octants : HasOctants leaves height node (word / 256) word = octants_by_bits leaves height node word tree.0 in
    let parent : HasFitted rule words height number at all = parent_fitted rule words height number at all is in
    let many : ones_in word ≡ length (later_children leaves height node 0 8) = octants.ones ∙ ap length (sym (all_later leaves height node)) in
    let start : base_in word ≡ word / 256 + length (first_children leaves height node 0) = sym (add-zero (word / 256)) ∙ ap (λ xs. word / 256 + length xs) (sym (first_children-zero leaves height node)) in
    let later : AreFitted rule words leaves height at (base_in word) (later_children leaves height node 0 8) parent.below =
    later_fitted rule words leaves height node number octants tree.1 (is_fitted rule words leaves height) 8 0 at (base_in word) parent.below refl start
    (subst (λ n. fit_each (fit rule words height) n (base_in word) at ≡ good parent.below) many parent.below_is) in
    let siblings : AreFitted rule words leaves height at (base_in word) children parent.below =
    subst (λ xs. AreFitted rule words leaves height at (base_in word) xs parent.below) (all_later leaves height node) later in
    let base : base_in word ≡ at + sizes = sym parent.based ∙ siblings.next in
    record {
      next = omega (arith, parent.next, base, octants.ones, size-suc leaves height node);
      cells = parent.cells ∙ siblings.cells;
      own = word_is leaves height node at word octants base;
      below =
          holds-append words at (words_below leaves height at children) (words_at leaves height at children) siblings.below
          (subst (λ n. Holds words n (words_at leaves height at children)) (base ∙ ap (λ n. at + n) (sym (length-words_below leaves height at children))) siblings.own);
    }
