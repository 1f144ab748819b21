-- Where the words of an octree's nodes stand among all words.
use Rattle.std.proofs.Common.{◌≡◌, ℕ, suc, ◌+◌, ◌<◌, ◌≤◌, List, [], ◌∷◌, ◌++◌, length, refl, subst, ◌∙◌, arith, add-zero}
use Rattle.std.specs.Prelude.{slice_index}
use Rattle.std.specs.List.{sum_by}
use Rattle.std.proofs.lemmas.List.{append_assoc, length-append, get_or_at}
use Rattle.std.proofs.lemmas.List.Sums.{sum_by-append, sum_by-cons}
use Rattle.octree_specs.specs.Octree.{Leaf, children_of, size_of, word_of, below_of, words_of}
use Rattle.octree_laws.proofs.InTurn.{in_turn-append}
use Rattle.octree_laws.proofs.Sizes.{words_below, words_at, length-words_below, length-words_at, length-below_of, size-suc}

-- from a number on the words are these
unfoldable pub Holds : List ℕ → ℕ → List ℕ → Type 0
Holds words at [] = Unit {0}
Holds words at (word ∷ rest) = (slice_index words at ≡ word) × Holds words (at + 1) rest

pub holds-left : (words : List ℕ) (at : ℕ) (xs ys : List ℕ) → Holds words at (xs ++ ys) → Holds words at xs
unfolding Holds
holds-left words at [] ys holds = tt
holds-left words at (x ∷ xs) ys holds = (holds.0, holds-left words (at + 1) xs ys holds.1)

pub holds-right : (words : List ℕ) (at : ℕ) (xs ys : List ℕ) → Holds words at (xs ++ ys) → Holds words (at + length xs) ys
unfolding Holds
holds-right words at [] ys holds = rw (add-zero at) holds
holds-right words at (x ∷ xs) ys holds =
    let e : at + 1 + length xs ≡ at + suc (length xs) = omega arith in
    rw (← e) (holds-right words (at + 1) xs ys holds.1)

pub holds-first : (words : List ℕ) (at x : ℕ) (xs : List ℕ) → Holds words at (x ∷ xs) → slice_index words at ≡ x
unfolding Holds
holds-first words at x xs holds = holds.0

-- all words, from 0 on
pub holds-all : (front rest : List ℕ) → Holds (front ++ rest) (length front) rest
unfolding Holds
holds-all front [] = tt
holds-all front (x ∷ xs) =
    let e : length (front ++ x ∷ []) ≡ length front + 1 = length-append front (x ∷ []) in
    (get_or_at front x xs 0 (length front) refl, subst (λ n. Holds (front ++ x ∷ xs) n xs) e (rw (append_assoc front (x ∷ []) xs) at (holds-all (front ++ x ∷ []) xs)))

-- the number of the first child's word, where the words below the node are placed from `at` on
unfoldable pub base_of : List Leaf → ℕ → ℕ → ℕ → ℕ
base_of leaves height node at = at + sum_by (size_of leaves height) (children_of leaves height node)

-- the word of this number is that of the node, and the words below it stand before, from `at` on
pub record Stands (words : List ℕ) (leaves : List Leaf) (height node at number : ℕ) : Type 0 where
  pub own : slice_index words number ≡ word_of leaves height node at
  pub below : Holds words at (below_of leaves height node at)
  pub room : at + size_of leaves height node ≤ number

-- the root's word stands last, after all below it
pub root_stands : (leaves : List Leaf) (levels number : ℕ) → length (words_of leaves levels) ≡ number + 1 → Stands (words_of leaves levels) leaves levels 0 0 number
unfolding words_of
root_stands leaves levels number long =
    let below : List ℕ = below_of leaves levels 0 0 in
    let word : ℕ = word_of leaves levels 0 0 in
    let size : length below ≡ size_of leaves levels 0 = length-below_of leaves levels 0 0 in
    let last : length below ≡ number = omega (arith, length-append below (word ∷ [])) in
    record {
      own = get_or_at below word [] 0 number last;
      below = holds-left (below ++ word ∷ []) 0 below (word ∷ []) (holds-all [] (below ++ word ∷ []));
      room = omega arith;
    }

-- the words of a child: those below it from a number on, and its own behind those of so many siblings
pub record ChildStands (words : List ℕ) (leaves : List Leaf) (height child from number base siblings : ℕ) : Type 0 where
  pub stands : Stands words leaves height child from (base + siblings)
  pub before : base + siblings < number

module _ (words : List ℕ) (leaves : List Leaf) (height node at number : ℕ) (parent : Stands words leaves (suc height) node at number) where
  below_children : Holds words at (words_below leaves height at (children_of leaves height node) ++ words_at leaves height at (children_of leaves height node))
  unfolding below_of words_below words_at
  below_children = parent.below

  -- what lies below the children, in turn, and then the children's own words
  pub children_below : Holds words at (words_below leaves height at (children_of leaves height node))
  children_below = holds-left words at (words_below leaves height at (children_of leaves height node)) (words_at leaves height at (children_of leaves height node)) below_children

  pub children_own : Holds words (base_of leaves height node at) (words_at leaves height at (children_of leaves height node))
  unfolding base_of
  children_own =
      rw (← length-words_below leaves height at (children_of leaves height node))
      (holds-right words at (words_below leaves height at (children_of leaves height node)) (words_at leaves height at (children_of leaves height node)) below_children)

  -- the words of each child: those below it behind those below its elder siblings, and its own behind theirs
  pub child_stands : (front : List ℕ) (child : ℕ) (back : List ℕ) → children_of leaves height node ≡ front ++ child ∷ back
      → ChildStands words leaves height child (at + sum_by (size_of leaves height) front) number (base_of leaves height node at) (length front)
  unfolding base_of words_below words_at
  child_stands front child back split =
      let size : ℕ → ℕ = size_of leaves height in
      let from : ℕ = at + sum_by size front in
      let own_word : ℕ → ℕ → List ℕ = λ node at. word_of leaves height node at ∷ [] in
      let below_all : Holds words at (words_below leaves height at front ++ words_below leaves height from (child ∷ back)) =
      rw (split, in_turn-append size (below_of leaves height) at front (child ∷ back)) at children_below in
      let below_rest : Holds words from (words_below leaves height from (child ∷ back)) =
      rw (length-words_below leaves height at front) at (holds-right words at (words_below leaves height at front) (words_below leaves height from (child ∷ back)) below_all) in
      let total : sum_by size (front ++ child ∷ back) ≡ sum_by size front + (size child + sum_by size back) =
      sum_by-append size front (child ∷ back) ∙ rw (sum_by-cons size child back) refl in
      let base : ℕ = at + sum_by size (front ++ child ∷ back) in
      let own_all : Holds words base (words_at leaves height at front ++ words_at leaves height from (child ∷ back)) =
      rw (split, in_turn-append size own_word at front (child ∷ back)) at children_own in
      let own_rest : Holds words (base + length front) (words_at leaves height from (child ∷ back)) =
      rw (length-words_at leaves height at front) at (holds-right words base (words_at leaves height at front) (words_at leaves height from (child ∷ back)) own_all) in
      let few : size_of leaves (suc height) node ≡ sum_by size (front ++ child ∷ back) + length (front ++ child ∷ back) =
      size-suc leaves height node ∙ rw split refl in
      rw split
      (record {
        stands = record {
          own = holds-first words (base + length front) (word_of leaves height child from) (words_at leaves height (from + size child) back) own_rest;
          below = holds-left words from (below_of leaves height child from) (words_below leaves height (from + size child) back) below_rest;
          room = omega (arith, total);
        };
        before = omega (arith, few, parent.room, length-append front (child ∷ back));
      })
