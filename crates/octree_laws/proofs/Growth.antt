-- What lies below a node depends on the leaves under it alone; so a leaf that is added changes nothing elsewhere.
use Rattle.std.proofs.Common.{◌≡◌, ℕ, zero, suc, ◌+◌, ◌*◌, ◌/◌, ◌^◌, ◌<◌, ◌≤◌, ◌≢◌, true, false, cond, List, [], ◌∷◌, ◌++◌, refl, sym, ap, subst, ◌∙◌, inl, inr, arith, add-one, lit≤}
use Rattle.std.specs.Prelude.{◌==◌, ◌||◌}
use Rattle.std.specs.List.{sum_by}
use Rattle.std.proofs.Math.Bool.{or-false, or_assoc}
use Rattle.std.proofs.lemmas.Bool.{cases_Bool, eqb-true, eq-eqb, ne_eqb, or_cases, or_left, or_right, or_parts, cond-true, cond-false}
use Rattle.std.proofs.lemmas.List.Sums.{sum_by-cons}
use Rattle.octree_specs.specs.Octree.{Leaf, is_nonempty, leaf_word, first_children, children_of, size_of, word_of, in_turn, below_of}
use Rattle.octree_laws.proofs.FirstChildren.{first_children-zero, one_in, one_out}
use Rattle.octree_laws.proofs.MaskLeaves.{same_test, nonempty_up}
use Rattle.octree_laws.proofs.Under.{div-up, div-leaf}

-- two octrees say the same of a leaf, and of all leaves under a node
pub record AreAlike (xs ys : List Leaf) (code : ℕ) : Type 0 where
  pub same : is_nonempty xs 0 code ≡ is_nonempty ys 0 code
  pub word : leaf_word xs code ≡ leaf_word ys code

unfoldable pub AreAlikeUnder : List Leaf → List Leaf → ℕ → ℕ → Type 0
AreAlikeUnder xs ys height node = (code : ℕ) → code / 8 ^ height ≡ node → AreAlike xs ys code

-- a leaf under a nonempty node
record HasLeafUnder (leaves : List Leaf) (height node : ℕ) : Type 0 where
  code : ℕ
  up : code / 8 ^ height ≡ node
  filled : is_nonempty leaves 0 code ≡ true

some_leaf : (leaves : List Leaf) (height node : ℕ) → is_nonempty leaves height node ≡ true → HasLeafUnder leaves height node
some_leaf [] height node nonempty = cc
some_leaf (leaf ∷ rest) height node nonempty = elim (or_cases (leaf.node / 8 ^ height == node) (is_nonempty rest height node) nonempty) [
  | inl here ↦ record {
    code = leaf.node;
    up = eqb-true (leaf.node / 8 ^ height) node here;
    filled = or_left (leaf.node / 8 ^ 0 == leaf.node) (is_nonempty rest 0 leaf.node) (eq-eqb (leaf.node / 8 ^ 0) leaf.node (div-leaf leaf.node));
  }
  | inr later ↦
      let there : HasLeafUnder rest height node = some_leaf rest height node later in
      record { code = there.code; up = there.up; filled = or_right (leaf.node / 8 ^ 0 == there.code) (is_nonempty rest 0 there.code) there.filled }
]

nonempty_if : (xs ys : List Leaf) (height node : ℕ) → AreAlikeUnder xs ys height node → is_nonempty xs height node ≡ true → is_nonempty ys height node ≡ true
unfolding AreAlikeUnder
nonempty_if xs ys height node alike nonempty =
    let leaf : HasLeafUnder xs height node = some_leaf xs height node nonempty in
    subst (λ n. is_nonempty ys height n ≡ true) leaf.up (nonempty_up ys height leaf.code (sym (alike leaf.code leaf.up).same ∙ leaf.filled))

turned : (xs ys : List Leaf) (height node : ℕ) → AreAlikeUnder xs ys height node → AreAlikeUnder ys xs height node
unfolding AreAlikeUnder
turned xs ys height node alike code up = record { same = sym (alike code up).same; word = sym (alike code up).word }

pub nonempty_alike : (xs ys : List Leaf) (height node : ℕ) → AreAlikeUnder xs ys height node → is_nonempty xs height node ≡ is_nonempty ys height node
nonempty_alike xs ys height node alike =
    same_test (is_nonempty xs height node) (is_nonempty ys height node) (nonempty_if xs ys height node alike) (nonempty_if ys xs height node (turned xs ys height node alike))

pub alike_child : (xs ys : List Leaf) (height node place : ℕ) → place < 8 → AreAlikeUnder xs ys (suc height) node → AreAlikeUnder xs ys height (8 * node + place)
unfolding AreAlikeUnder
alike_child xs ys height node place octant alike code up = alike code (omega (arith, div-up code height, up, octant))

-- ---- nodes that two octrees have alike

pub record IsSameAt (xs ys : List Leaf) (height node : ℕ) : Type 0 where
  pub size : size_of xs height node ≡ size_of ys height node
  pub word : (at : ℕ) → word_of xs height node at ≡ word_of ys height node at
  pub below : (at : ℕ) → below_of xs height node at ≡ below_of ys height node at

-- each node of a list, by recursion
unfoldable pub Each : (ℕ → Type 0) → List ℕ → Type 0
Each P [] = Unit {0}
Each P (n ∷ rest) = P n × Each P rest

pub each-append : (P : ℕ → Type 0) (xs ys : List ℕ) → Each P xs → Each P ys → Each P (xs ++ ys)
unfolding Each
each-append P [] ys left right = right
each-append P (x ∷ xs) ys left right = (left.0, each-append P xs ys left.1 right)

-- what both octrees have of the first children: the same ones, and each alike
record AreSameFirst (xs ys : List Leaf) (height node count : ℕ) : Type 0 where
  children : first_children xs height node count ≡ first_children ys height node count
  each : Each (IsSameAt xs ys height) (first_children ys height node count)

same_first : (xs ys : List Leaf) (height node : ℕ) → AreAlikeUnder xs ys (suc height) node → ((place : ℕ) → place < 8 → IsSameAt xs ys height (8 * node + place)) → (count : ℕ) → count ≤ 8 → AreSameFirst xs ys height node count
unfolding Each
same_first xs ys height node alike one zero few = record {
  children = first_children-zero xs height node ∙ sym (first_children-zero ys height node);
  each = subst (Each (IsSameAt xs ys height)) (sym (first_children-zero ys height node)) tt;
}
same_first xs ys height node alike one (suc count) few =
    let before : AreSameFirst xs ys height node count = same_first xs ys height node alike one count (omega arith) in
    let child : ℕ = 8 * node + count in
    let same : is_nonempty xs height child ≡ is_nonempty ys height child = nonempty_alike xs ys height child (alike_child xs ys height node count (omega arith) alike) in
    subst (AreSameFirst xs ys height node) (add-one count)
    (elim (cases_Bool (is_nonempty ys height child)) [
      | inl nonempty ↦ record {
        children = one_in xs height node count (same ∙ nonempty) ∙ (ap (λ nodes. nodes ++ child ∷ []) before.children ∙ sym (one_in ys height node count nonempty));
        each =
            subst (Each (IsSameAt xs ys height)) (sym (one_in ys height node count nonempty))
            (each-append (IsSameAt xs ys height) (first_children ys height node count) (child ∷ []) before.each (one count (omega arith), tt));
      }
      | inr empty ↦ record {
        children = one_out xs height node count (same ∙ empty) ∙ (before.children ∙ sym (one_out ys height node count empty));
        each = subst (Each (IsSameAt xs ys height)) (sym (one_out ys height node count empty)) before.each;
      }
    ])

-- sums and lists in turn over nodes that are alike
pub sum_by-same : (f g : ℕ → ℕ) (nodes : List ℕ) → Each (λ n. f n ≡ g n) nodes → sum_by f nodes ≡ sum_by g nodes
unfolding Each
sum_by-same f g [] each = refl
sum_by-same f g (n ∷ rest) each = sum_by-cons f n rest ∙ (rw (each.0, sum_by-same f g rest each.1) (sym (sum_by-cons g n rest)))

pub in_turn-same : {A : Type 0} (s t : ℕ → ℕ) (f g : ℕ → ℕ → List A) (at : ℕ) (nodes : List ℕ) → Each (λ n. (s n ≡ t n) × ((from : ℕ) → f n from ≡ g n from)) nodes → in_turn s f at nodes ≡ in_turn t g at nodes
unfolding Each
in_turn-same s t f g at [] each = refl
in_turn-same s t f g at (n ∷ rest) each = rw (each.0.1 at, each.0.0, in_turn-same s t f g (at + t n) rest each.1) refl

each-weaker : (P Q : ℕ → Type 0) → ((n : ℕ) → P n → Q n) → (nodes : List ℕ) → Each P nodes → Each Q nodes
unfolding Each
each-weaker P Q to [] each = tt
each-weaker P Q to (n ∷ rest) each = (to n each.0, each-weaker P Q to rest each.1)

pub same_under : (xs ys : List Leaf) (height node : ℕ) → AreAlikeUnder xs ys height node → IsSameAt xs ys height node
unfolding size_of word_of below_of AreAlikeUnder
same_under xs ys zero node alike = record { size = refl; word = λ at. (alike node (div-leaf node)).word; below = λ at. refl }
same_under xs ys (suc height) node alike =
    let first : AreSameFirst xs ys height node 8 =
    same_first xs ys height node alike (λ place octant. same_under xs ys height (8 * node + place) (alike_child xs ys height node place octant alike)) 8 (lit≤ tt) in
    let nodes : List ℕ = children_of ys height node in
    let sizes : (nodes : List ℕ) → Each (IsSameAt xs ys height) nodes → sum_by (size_of xs height) nodes ≡ sum_by (size_of ys height) nodes =
    λ ns each. sum_by-same (size_of xs height) (size_of ys height) ns (each-weaker (IsSameAt xs ys height) (λ n. size_of xs height n ≡ size_of ys height n) (λ n is. is.size) ns each) in
    record {
      size =
          ap (sum_by (λ child. 1 + size_of xs height child)) first.children
          ∙ sum_by-same (λ child. 1 + size_of xs height child) (λ child. 1 + size_of ys height child) nodes
          (each-weaker (IsSameAt xs ys height) (λ n. 1 + size_of xs height n ≡ 1 + size_of ys height n) (λ n is. ap (λ s. 1 + s) is.size) nodes first.each);
      word = λ at. rw (first.children, sizes nodes first.each) refl;
      below = λ at.
          rw (
            first.children,
            in_turn-same (size_of xs height) (size_of ys height) (below_of xs height) (below_of ys height) at nodes
                (each-weaker (IsSameAt xs ys height) (λ n. (size_of xs height n ≡ size_of ys height n) × ((from : ℕ) → below_of xs height n from ≡ below_of ys height n from)) (λ n is. (is.size, is.below)) nodes first.each),
            in_turn-same (size_of xs height) (size_of ys height) (λ child from. word_of xs height child from ∷ []) (λ child from. word_of ys height child from ∷ []) at nodes
                (each-weaker (IsSameAt xs ys height) (λ n. (size_of xs height n ≡ size_of ys height n) × ((from : ℕ) → word_of xs height n from ∷ [] ≡ word_of ys height n from ∷ [])) (λ n is. (is.size, λ from. ap (λ w. w ∷ []) (is.word from))) nodes first.each),
          ) refl;
    }

-- ---- one more leaf

pub nonempty_push : (leaves : List Leaf) (leaf : Leaf) (height node : ℕ) → is_nonempty (leaves ++ leaf ∷ []) height node ≡ (is_nonempty leaves height node || (leaf.node / 8 ^ height == node))
nonempty_push [] leaf height node = or-false (leaf.node / 8 ^ height == node)
nonempty_push (first ∷ rest) leaf height node =
    ap (λ b. (first.node / 8 ^ height == node) || b) (nonempty_push rest leaf height node) ∙ sym (or_assoc (first.node / 8 ^ height == node) (is_nonempty rest height node) (leaf.node / 8 ^ height == node))

-- the leaf's own nodes are nonempty
pub nonempty_here : (leaves : List Leaf) (leaf : Leaf) (height node : ℕ) → leaf.node / 8 ^ height ≡ node → is_nonempty (leaves ++ leaf ∷ []) height node ≡ true
nonempty_here leaves leaf height node under =
    nonempty_push leaves leaf height node ∙ or_right (is_nonempty leaves height node) (leaf.node / 8 ^ height == node) (eq-eqb (leaf.node / 8 ^ height) node under)

-- others are as before
pub nonempty_elsewhere : (leaves : List Leaf) (leaf : Leaf) (height node : ℕ) → leaf.node / 8 ^ height ≢ node → is_nonempty (leaves ++ leaf ∷ []) height node ≡ is_nonempty leaves height node
nonempty_elsewhere leaves leaf height node apart =
    nonempty_push leaves leaf height node ∙ (ap (λ b. is_nonempty leaves height node || b) (ne_eqb (leaf.node / 8 ^ height) node apart) ∙ or-false (is_nonempty leaves height node))

pub leaf_word-elsewhere : (leaves : List Leaf) (leaf : Leaf) (code : ℕ) → leaf.node ≢ code → leaf_word (leaves ++ leaf ∷ []) code ≡ leaf_word leaves code
leaf_word-elsewhere [] leaf code apart = cond-false (leaf.node == code) leaf.word 0 (ne_eqb leaf.node code apart)
leaf_word-elsewhere (first ∷ rest) leaf code apart = ap (λ w. cond (first.node == code) first.word w) (leaf_word-elsewhere rest leaf code apart)

pub leaf_word-here : (leaves : List Leaf) (leaf : Leaf) → is_nonempty leaves 0 leaf.node ≡ false → leaf_word (leaves ++ leaf ∷ []) leaf.node ≡ leaf.word
leaf_word-here [] leaf fresh = cond-true (leaf.node == leaf.node) leaf.word 0 (eq-eqb leaf.node leaf.node refl)
leaf_word-here (first ∷ rest) leaf fresh =
    let parts : ((first.node / 8 ^ 0 == leaf.node) ≡ false) × (is_nonempty rest 0 leaf.node ≡ false) = or_parts (first.node / 8 ^ 0 == leaf.node) (is_nonempty rest 0 leaf.node) fresh in
    let other : (first.node == leaf.node) ≡ false = ap (λ n. n == leaf.node) (sym (div-leaf first.node)) ∙ parts.0 in
    cond-false (first.node == leaf.node) first.word (leaf_word (rest ++ leaf ∷ []) leaf.node) other ∙ leaf_word-here rest leaf parts.1

-- a leaf that is added changes nothing below nodes that it does not lie under
pub same_elsewhere : (leaves : List Leaf) (leaf : Leaf) (height node : ℕ) → leaf.node / 8 ^ height ≢ node → IsSameAt (leaves ++ leaf ∷ []) leaves height node
unfolding AreAlikeUnder
same_elsewhere leaves leaf height node apart =
    same_under (leaves ++ leaf ∷ []) leaves height node
    (λ code up.
    let other : leaf.node ≢ code = λ same. apart (ap (λ n. n / 8 ^ height) same ∙ up) in
    record {
      same = nonempty_elsewhere leaves leaf 0 code (λ here. other (sym (div-leaf leaf.node) ∙ here));
      word = leaf_word-elsewhere leaves leaf code other;
    })
