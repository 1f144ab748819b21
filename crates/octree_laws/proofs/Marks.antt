-- No word of an octree with leaves has the lowest byte 0, where no leaf's word has.
use Rattle.std.proofs.Common.{◌≡◌, ℕ, zero, suc, ◌+◌, ◌-◌, ◌*◌, ◌/◌, ◌%◌, ◌^◌, ◌<◌, Bool, true, List, [], ◌∷◌, length, sym, ap, subst, ◌∙◌, inl, inr, arith, lit≤}
use Rattle.std.specs.Prelude.{◌==◌, count_ones, All}
use Rattle.std.specs.List.{filter, sum_by, range_with_len}
use Rattle.std.proofs.lemmas.Bool.{cases_Bool, eqb-true, eq-eqb, or_cases, or_left, or_right}
use Rattle.std.proofs.lemmas.List.{length-append}
use Rattle.std.proofs.lemmas.List.Elements.{All-nil, All-cons, All-head, All-tail, All-append, All-push}
use lib.Count.{ones}
use Rattle.octree_specs.specs.Octree.{Leaf, is_nonempty, leaf_word, first_children, children_of, size_of, word_of, in_turn, below_of, words_of}
use Rattle.octree_laws.proofs.FirstChildren.{children_at, later_children}
use Rattle.octree_laws.proofs.MaskLeaves.{no_children}
use Rattle.octree_laws.proofs.Masks.{mask_front, HasOctants, has_octants}
use Rattle.octree_laws.proofs.Sizes.{length-words_of}
use Rattle.octree_laws.proofs.Standing.{base_of}
use Rattle.octree_laws.proofs.Under.{div-up}

abbrev pub IsMarked : ℕ → Type 0
IsMarked word = word % 256 ≡ 0 → ⊥

unfoldable pub HasMarks : List Leaf → Type 0
HasMarks leaves = (node : ℕ) → is_nonempty leaves 0 node ≡ true → IsMarked (leaf_word leaves node)

-- a nonempty node above the leaves has a nonempty child
pub record HasNonemptyChild (leaves : List Leaf) (height node : ℕ) : Type 0 where
  pub place : ℕ
  pub octant : place < 8
  pub nonempty : is_nonempty leaves height (8 * node + place) ≡ true

pub some_child : (leaves : List Leaf) (height node : ℕ) → is_nonempty leaves (suc height) node ≡ true → HasNonemptyChild leaves height node
some_child [] height node nonempty = cc
some_child (leaf ∷ rest) height node nonempty = elim (or_cases (leaf.node / 8 ^ suc height == node) (is_nonempty rest (suc height) node) nonempty) [
  | inl here ↦
      let up : leaf.node / 8 ^ height / 8 ≡ node = sym (div-up leaf.node height) ∙ eqb-true (leaf.node / 8 ^ suc height) node here in
      let place : ℕ = leaf.node / 8 ^ height % 8 in
      record {
        place = place;
        octant = omega arith;
        nonempty = or_left (leaf.node / 8 ^ height == 8 * node + place) (is_nonempty rest height (8 * node + place)) (eq-eqb (leaf.node / 8 ^ height) (8 * node + place) (omega (arith, up)));
      }
  | inr later ↦
      let child : HasNonemptyChild rest height node = some_child rest height node later in
      record {
        place = child.place;
        octant = child.octant;
        nonempty = or_right (leaf.node / 8 ^ height == 8 * node + child.place) (is_nonempty rest height (8 * node + child.place)) child.nonempty;
      }
]

-- so its mask is not 0
pub some_mask : (leaves : List Leaf) (height node : ℕ) → is_nonempty leaves (suc height) node ≡ true → mask_front leaves height node 8 ≡ 0 → ⊥
unfolding ones
some_mask leaves height node nonempty none =
    let child : HasNonemptyChild leaves height node = some_child leaves height node nonempty in
    let octants : HasOctants leaves height node 0 (mask_front leaves height node 8 + 256 * 0) = has_octants leaves height node 0 in
    let word : mask_front leaves height node 8 + 256 * 0 ≡ 0 = omega (arith, none) in
    let no_ones : count_ones (0 % 256) ≡ length (first_children leaves height node 8) = subst (λ w. count_ones (w % 256) ≡ length (first_children leaves height node 8)) word octants.ones in
    let split : length (first_children leaves height node 8)
    ≡ length (first_children leaves height node child.place) + suc (length (later_children leaves height node (child.place + 1) (7 - child.place))) =
    ap length (children_at leaves height node child.place (7 - child.place) (omega (arith, child.octant)) child.nonempty)
    ∙ length-append (first_children leaves height node child.place) ((8 * node + child.place) ∷ later_children leaves height node (child.place + 1) (7 - child.place)) in
    omega (arith, no_ones, split)

pub word_marked : (leaves : List Leaf) → HasMarks leaves → (height node at : ℕ) → is_nonempty leaves height node ≡ true → IsMarked (word_of leaves height node at)
unfolding word_of HasMarks mask_front base_of
word_marked leaves marks zero node at nonempty = marks node nonempty
word_marked leaves marks (suc height) node at nonempty =
    λ unmarked. some_mask leaves height node nonempty (sym (has_octants leaves height node (base_of leaves height node at)).mask ∙ unmarked)

-- ---- all words

pub All-in_turn : {A : Type 0} (P : A → Type 0) (Q : ℕ → Type 0) (size : ℕ → ℕ) (each : ℕ → ℕ → List A) → ((node at : ℕ) → Q node → All P (each node at))
    → (at : ℕ) (nodes : List ℕ) → All Q nodes → All P (in_turn size each at nodes)
All-in_turn P Q size each one at [] all = All-nil P
All-in_turn P Q size each one at (node ∷ rest) all =
    All-append P (each node at) (in_turn size each (at + size node) rest) (one node at (All-head Q node rest all)) (All-in_turn P Q size each one (at + size node) rest (All-tail Q node rest all))

all_pass : (p : ℕ → Bool) (xs : List ℕ) → All (λ x. p x ≡ true) (filter p xs)
all_pass p [] = All-nil (λ x. p x ≡ true)
all_pass p (x ∷ xs) = elim (cases_Bool (p x)) [
  | inl passes ↦ rw passes (All-cons (λ y. p y ≡ true) x (filter p xs) passes (all_pass p xs))
  | inr fails ↦ rw fails (all_pass p xs)
]

pub all_nonempty : (leaves : List Leaf) (height node count : ℕ) → All (λ child. is_nonempty leaves height child ≡ true) (first_children leaves height node count)
unfolding first_children
all_nonempty leaves height node count = all_pass (is_nonempty leaves height) (range_with_len (8 * node) count)

below_marked : (leaves : List Leaf) → HasMarks leaves → (height node at : ℕ) → All IsMarked (below_of leaves height node at)
unfolding below_of
below_marked leaves marks zero node at = All-nil IsMarked
below_marked leaves marks (suc height) node at =
    let children : List ℕ = children_of leaves height node in
    All-append IsMarked (in_turn (size_of leaves height) (below_of leaves height) at children) (in_turn (size_of leaves height) (λ child from. word_of leaves height child from ∷ []) at children)
    (All-in_turn IsMarked (λ child. is_nonempty leaves height child ≡ true) (size_of leaves height) (below_of leaves height) (λ child from nonempty. below_marked leaves marks height child from) at children (all_nonempty leaves height node 8))
    (All-in_turn IsMarked (λ child. is_nonempty leaves height child ≡ true) (size_of leaves height) (λ child from. word_of leaves height child from ∷ [])
    (λ child from nonempty. All-cons IsMarked (word_of leaves height child from) [] (word_marked leaves marks height child from nonempty) (All-nil IsMarked)) at children (all_nonempty leaves height node 8))

-- more than one word: the root is nonempty
root_nonempty : (leaves : List Leaf) (levels : ℕ) → 0 < size_of leaves levels 0 → is_nonempty leaves levels 0 ≡ true
unfolding size_of
root_nonempty leaves zero some = absurd (omega arith)
root_nonempty leaves (suc levels) some = elim (cases_Bool (is_nonempty leaves (suc levels) 0)) [
  | inl nonempty ↦ nonempty
  | inr empty ↦
      let none : sum_by (λ child. 1 + size_of leaves levels child) (children_of leaves levels 0) ≡ 0 = ap (sum_by (λ child. 1 + size_of leaves levels child)) (no_children leaves levels 0 empty 8 (lit≤ tt)) in
      absurd (omega (arith, none, some))
]

pub words_marked : (leaves : List Leaf) → HasMarks leaves → (levels : ℕ) → 1 < length (words_of leaves levels) → All IsMarked (words_of leaves levels)
unfolding words_of
words_marked leaves marks levels several =
    let nonempty : is_nonempty leaves levels 0 ≡ true = root_nonempty leaves levels (omega (arith, length-words_of leaves levels)) in
    All-push IsMarked (below_of leaves levels 0 0) (word_of leaves levels 0 0) (below_marked leaves marks levels 0 0) (word_marked leaves marks levels 0 0 nonempty)
