-- The leaves of format 1 are the nodes just above the cells, so their octree is that of the cells, one level less.
use Rattle.std.proofs.Common.{◌≡◌, ℕ, zero, suc, ◌+◌, ◌*◌, ◌/◌, ◌^◌, ◌<◌, ◌≤◌, Bool, true, false, List, [], ◌∷◌, map, refl, sym, ap, subst, ◌∙◌, inl, inr, arith, lit≤, add-one}
use Rattle.std.specs.Prelude.{◌==◌, slice_index, All}
use Rattle.std.specs.List.{filter, range_with_len}
use Rattle.std.proofs.Math.Nat.{mul_comm, pow-suc, div-div-eq-div-mul}
use Rattle.std.proofs.lemmas.Bool.{cases_Bool, cases_eq, both_ways, eqb-true, eq-eqb, ne_eqb, or_cases, or_left, or_right, cond-true, cond-false, false_from_ne_true}
use Rattle.std.proofs.lemmas.List.Elements.{All-head, All-tail}
use Rattle.octree_specs.specs.Cells.{Cell}
use Rattle.octree_specs.specs.Formats.{face_leaves, mask_leaves}
use Rattle.octree_specs.specs.Octree.{Leaf, is_nonempty, leaf_word, first_children, children_of, mask_of}
use Rattle.octree_specs.specs.Walking.{HasTree, HasMasks, child_number}
use Rattle.octree_laws.proofs.FirstChildren.{first_children-zero, one_out}
use Rattle.octree_laws.proofs.Masks.{mask_front, HasOctants, has_octants}
use Rattle.octree_laws.proofs.Under.{empty_below, nonempty_above, div-leaf}

-- two tests of which each implies the other
pub same_test : (a b : Bool) → (a ≡ true → b ≡ true) → (b ≡ true → a ≡ true) → a ≡ b
same_test true b there back = sym (there refl)
same_test false true there back = back refl
same_test false false there back = refl

-- a nonempty leaf makes each node above it nonempty
pub nonempty_up : (leaves : List Leaf) (height code : ℕ) → is_nonempty leaves 0 code ≡ true → is_nonempty leaves height (code / 8 ^ height) ≡ true
nonempty_up leaves height code filled = elim (cases_Bool (is_nonempty leaves height (code / 8 ^ height))) [
  | inl nonempty ↦ nonempty
  | inr empty ↦ absurd (both_ways (is_nonempty leaves 0 code) (empty_below leaves height code empty) filled)
]

-- a filled cell under a node
pub record HasCell (cells : List Cell) (height node limit : ℕ) : Type 0 where
  pub code : ℕ
  pub inside : code < limit
  pub up : code / 8 ^ height ≡ node
  pub filled : is_nonempty (face_leaves cells) 0 code ≡ true

pub some_cell : (cells : List Cell) (height node limit : ℕ) → All (λ cell. cell.code < limit) cells → is_nonempty (face_leaves cells) height node ≡ true → HasCell cells height node limit
some_cell [] height node limit inside nonempty = cc
some_cell (cell ∷ rest) height node limit inside nonempty = elim (or_cases (cell.code / 8 ^ height == node) (is_nonempty (face_leaves rest) height node) nonempty) [
  | inl here ↦ record {
    code = cell.code;
    inside = All-head (λ (c : Cell). c.code < limit) cell rest inside;
    up = eqb-true (cell.code / 8 ^ height) node here;
    filled = or_left (cell.code / 8 ^ 0 == cell.code) (is_nonempty (face_leaves rest) 0 cell.code) (eq-eqb (cell.code / 8 ^ 0) cell.code (div-leaf cell.code));
  }
  | inr later ↦
      let there : HasCell rest height node limit = some_cell rest height node limit (All-tail (λ (c : Cell). c.code < limit) cell rest inside) later in
      record {
        code = there.code;
        inside = there.inside;
        up = there.up;
        filled = or_right (cell.code / 8 ^ 0 == there.code) (is_nonempty (face_leaves rest) 0 there.code) there.filled;
      }
]

-- ---- leaves made of the nodes that pass a test

module _ (f : ℕ → ℕ) (test : ℕ → Bool) where
  pub made : List ℕ → List Leaf
  made nodes = map (λ node. record { node = node; word = f node }) (filter test nodes)

  made-yes : (n : ℕ) (rest : List ℕ) → test n ≡ true → made (n ∷ rest) ≡ record { node = n; word = f n } ∷ made rest
  unfolding made
  made-yes n rest passes = rw passes refl

  made-no : (n : ℕ) (rest : List ℕ) → test n ≡ false → made (n ∷ rest) ≡ made rest
  unfolding made
  made-no n rest fails = rw fails refl

  made_from : (height node : ℕ) (nodes : List ℕ) → is_nonempty (made nodes) height node ≡ true → (n : ℕ) × (test n ≡ true) × (n / 8 ^ height ≡ node)
  unfolding made
  made_from height node [] nonempty = cc
  made_from height node (n ∷ rest) nonempty = elim (cases_Bool (test n)) [
    | inl passes ↦ elim (or_cases (n / 8 ^ height == node) (is_nonempty (made rest) height node) (rw (made-yes n rest passes) at nonempty)) [
      | inl here ↦ (n, passes, eqb-true (n / 8 ^ height) node here)
      | inr later ↦ made_from height node rest later
    ]
    | inr fails ↦ made_from height node rest (rw (made-no n rest fails) at nonempty)
  ]

  made_has : (height from count n : ℕ) → test n ≡ true → from ≤ n → n < from + count → is_nonempty (made (range_with_len from count)) height (n / 8 ^ height) ≡ true
  unfolding made
  made_has height from zero n passes above below = absurd (omega arith)
  made_has height from (suc count) n passes above below = elim (cases_eq from n) [
    | inl same ↦
        rw (made-yes from (range_with_len (from + 1) count) (subst (λ m. test m ≡ true) (sym same) passes))
        (or_left (from / 8 ^ height == n / 8 ^ height) (is_nonempty (made (range_with_len (from + 1) count)) height (n / 8 ^ height))
        (eq-eqb (from / 8 ^ height) (n / 8 ^ height) (ap (λ m. m / 8 ^ height) same)))
    | inr apart ↦
        let later : is_nonempty (made (range_with_len (from + 1) count)) height (n / 8 ^ height) ≡ true = made_has height (from + 1) count n passes (omega (arith, apart)) (omega arith) in
        elim (cases_Bool (test from)) [
          | inl first ↦
              rw (made-yes from (range_with_len (from + 1) count) first)
              (or_right (from / 8 ^ height == n / 8 ^ height) (is_nonempty (made (range_with_len (from + 1) count)) height (n / 8 ^ height)) later)
          | inr fails ↦ rw (made-no from (range_with_len (from + 1) count) fails) later
        ]
  ]

  made_word : (from count n : ℕ) → test n ≡ true → from ≤ n → n < from + count → leaf_word (made (range_with_len from count)) n ≡ f n
  unfolding made
  made_word from zero n passes above below = absurd (omega arith)
  made_word from (suc count) n passes above below = elim (cases_eq from n) [
    | inl same ↦
        rw (made-yes from (range_with_len (from + 1) count) (subst (λ m. test m ≡ true) (sym same) passes))
        (cond-true (from == n) (f from) (leaf_word (made (range_with_len (from + 1) count)) n) (eq-eqb from n same) ∙ ap f same)
    | inr apart ↦
        let later : leaf_word (made (range_with_len (from + 1) count)) n ≡ f n = made_word (from + 1) count n passes (omega (arith, apart)) (omega arith) in
        elim (cases_Bool (test from)) [
          | inl first ↦
              rw (made-yes from (range_with_len (from + 1) count) first)
              (cond-false (from == n) (f from) (leaf_word (made (range_with_len (from + 1) count)) n) (ne_eqb from n apart) ∙ later)
          | inr fails ↦ rw (made-no from (range_with_len (from + 1) count) fails) later
        ]
  ]

  made_none : (nodes : List ℕ) (n : ℕ) → test n ≡ false → leaf_word (made nodes) n ≡ 0
  unfolding made
  made_none [] n fails = refl
  made_none (m ∷ rest) n fails = elim (cases_Bool (test m)) [
    | inl passes ↦
        rw (made-yes m rest passes)
        (cond-false (m == n) (f m) (leaf_word (made rest) n) (ne_eqb m n (λ same. both_ways (test n) fails (subst (λ k. test k ≡ true) same passes))) ∙ made_none rest n fails)
    | inr out ↦ rw (made-no m rest out) (made_none rest n fails)
  ]

-- an empty node has no children
pub no_children : (leaves : List Leaf) (height node : ℕ) → is_nonempty leaves (suc height) node ≡ false → (count : ℕ) → count ≤ 8 → first_children leaves height node count ≡ []
no_children leaves height node empty zero few = first_children-zero leaves height node
no_children leaves height node empty (suc count) few =
    let up : (8 * node + count) / 8 ≡ node = omega arith in
    let child : is_nonempty leaves height (8 * node + count) ≡ false =
    false_from_ne_true (is_nonempty leaves height (8 * node + count)) (λ nonempty.
    both_ways (is_nonempty leaves (suc height) node) empty (subst (λ n. is_nonempty leaves (suc height) n ≡ true) up (nonempty_above leaves height (8 * node + count) nonempty))) in
    rw (← add-one count) (one_out leaves height node count child ∙ no_children leaves height node empty count (omega arith))

-- ---- the leaves of format 1

module _ (levels : ℕ) (cells : List Cell) (inside : All (λ cell. cell.code < 8 ^ suc levels) cells) where
  -- a cell below the limit, by its node just above
  parent_inside : (code : ℕ) → code < 8 ^ suc levels → code / 8 ^ 1 < 8 ^ levels
  parent_inside code below = let power : 8 ^ suc levels ≡ 8 ^ levels * 8 = pow-suc 8 levels in omega arith

  -- nodes of the leaves' octree are those of the cells', one level up
  pub nonempty_same : (height node : ℕ) → is_nonempty (mask_leaves levels cells) height node ≡ is_nonempty (face_leaves cells) (suc height) node
  unfolding mask_leaves made
  nonempty_same height node =
      same_test (is_nonempty (mask_leaves levels cells) height node) (is_nonempty (face_leaves cells) (suc height) node)
      (λ nonempty.
      let leaf : (n : ℕ) × (is_nonempty (face_leaves cells) 1 n ≡ true) × (n / 8 ^ height ≡ node) =
      made_from (λ n. mask_of (children_of (face_leaves cells) 0 n)) (is_nonempty (face_leaves cells) 1) height node (range_with_len 0 (8 ^ levels)) nonempty in
      let cell : HasCell cells 1 leaf.0 (8 ^ suc levels) = some_cell cells 1 leaf.0 (8 ^ suc levels) inside leaf.1 in
      subst (λ n. is_nonempty (face_leaves cells) (suc height) n ≡ true) (two_steps height cell.code ∙ (ap (λ n. n / 8 ^ height) cell.up ∙ leaf.2))
      (nonempty_up (face_leaves cells) (suc height) cell.code cell.filled))
      (λ nonempty.
      let cell : HasCell cells (suc height) node (8 ^ suc levels) = some_cell cells (suc height) node (8 ^ suc levels) inside nonempty in
      subst (λ n. is_nonempty (mask_leaves levels cells) height n ≡ true) (sym (two_steps height cell.code) ∙ cell.up)
      (made_has (λ n. mask_of (children_of (face_leaves cells) 0 n)) (is_nonempty (face_leaves cells) 1) height 0 (8 ^ levels) (cell.code / 8 ^ 1)
      (nonempty_up (face_leaves cells) 1 cell.code cell.filled) (omega arith) (omega (arith, parent_inside cell.code cell.inside))))
    where
      two_steps : (height code : ℕ) → code / 8 ^ suc height ≡ code / 8 ^ 1 / 8 ^ height
      two_steps height code = ap (λ n. code / n) (pow-suc 8 height ∙ mul_comm (8 ^ height) 8) ∙ sym (div-div-eq-div-mul code 8 (8 ^ height))

  -- the word of such a leaf is the mask of its children among the cells
  pub leaf_mask : (node : ℕ) → leaf_word (mask_leaves levels cells) node ≡ mask_front (face_leaves cells) 0 node 8
  unfolding mask_leaves made mask_front
  leaf_mask node =
      let f : ℕ → ℕ = λ n. mask_of (children_of (face_leaves cells) 0 n) in
      let test : ℕ → Bool = is_nonempty (face_leaves cells) 1 in
      elim (cases_Bool (test node)) [
        | inl nonempty ↦
            let cell : HasCell cells 1 node (8 ^ suc levels) = some_cell cells 1 node (8 ^ suc levels) inside nonempty in
            made_word f test 0 (8 ^ levels) node nonempty (omega arith) (omega (arith, parent_inside cell.code cell.inside, cell.up))
        | inr empty ↦ made_none f test (range_with_len 0 (8 ^ levels)) node empty ∙ sym (ap mask_of (no_children (face_leaves cells) 0 node empty 8 (lit≤ tt)))
      ]

  -- so masks lead from each of its nodes to the cells
  pub masks_from_leaves : (words : List ℕ) (height node number : ℕ) → HasTree words (mask_leaves levels cells) height node number → HasMasks words cells (suc height) node number
  masks_from_leaves words zero node number tree =
      let word : slice_index words number ≡ mask_front (face_leaves cells) 0 node 8 + 256 * 0 = tree ∙ (leaf_mask node ∙ omega arith) in
      let octants : HasOctants (face_leaves cells) 0 node 0 (slice_index words number) = subst (HasOctants (face_leaves cells) 0 node 0) (sym word) (has_octants (face_leaves cells) 0 node 0) in
      octants.bits
  masks_from_leaves words (suc height) node number tree = (
    (λ place octant. sym (nonempty_same height (8 * node + place)) ∙ tree.0 place octant),
    λ place octant nonempty.
        let child : (child_number (slice_index words number) place < number) × HasTree words (mask_leaves levels cells) height (8 * node + place) (child_number (slice_index words number) place) =
        tree.1 place octant (nonempty_same height (8 * node + place) ∙ nonempty) in
        (child.0, masks_from_leaves words height (8 * node + place) (child_number (slice_index words number) place) child.1),
  )
