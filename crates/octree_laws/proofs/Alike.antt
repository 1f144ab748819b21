-- Words lead to one list of leaves: two octrees to which the same words lead have the same leaves.
use Rattle.std.proofs.Common.{◌≡◌, ℕ, zero, suc, ◌+◌, ◌*◌, ◌/◌, ◌%◌, ◌^◌, ◌<◌, true, false, List, sym, subst, ◌∙◌, inl, inr, arith}
use Rattle.std.specs.Prelude.{slice_index}
use Rattle.std.proofs.lemmas.Bool.{cases_Bool}
use Rattle.octree_specs.specs.Cells.{Cell}
use Rattle.octree_specs.specs.Formats.{face_leaves}
use Rattle.octree_specs.specs.Octree.{Leaf, is_nonempty, leaf_word}
use Rattle.octree_specs.specs.Walking.{HasTree, HasMasks, child_number}
use Rattle.octree_laws.proofs.Under.{div-up, div-leaf, empty_below}

-- both have this leaf, with one word, or neither has it
pub record AreAlikeAt (xs ys : List Leaf) (code : ℕ) : Type 0 where
  pub same : is_nonempty xs 0 code ≡ is_nonempty ys 0 code
  pub word : is_nonempty xs 0 code ≡ true → leaf_word xs code ≡ leaf_word ys code

-- a code's node is a child of its node one level higher
record IsChild (code height node : ℕ) : Type 0 where
  place : ℕ
  octant : place < 8
  is : 8 * node + place ≡ code / 8 ^ height

child_of : (code height node : ℕ) → code / 8 ^ suc height ≡ node → IsChild code height node
child_of code height node up = record { place = code / 8 ^ height % 8; octant = omega arith; is = omega (arith, div-up code height) }

pub alike : (words : List ℕ) (xs ys : List Leaf) (height node number : ℕ) → HasTree words xs height node number → HasTree words ys height node number
    → is_nonempty xs height node ≡ is_nonempty ys height node → (code : ℕ) → code / 8 ^ height ≡ node → AreAlikeAt xs ys code
alike words xs ys zero node number x y same code up =
    let here : node ≡ code = sym up ∙ div-leaf code in
    subst (AreAlikeAt xs ys) here (record { same = same; word = λ nonempty. sym x ∙ y })
alike words xs ys (suc height) node number x y same code up =
    let child : IsChild code height node = child_of code height node up in
    let masks : is_nonempty xs height (8 * node + child.place) ≡ is_nonempty ys height (8 * node + child.place) = x.0 child.place child.octant ∙ sym (y.0 child.place child.octant) in
    elim (cases_Bool (is_nonempty xs height (8 * node + child.place))) [
      | inl nonempty ↦
          alike words xs ys height (8 * node + child.place) (child_number (slice_index words number) child.place)
          (x.1 child.place child.octant nonempty).1 (y.1 child.place child.octant (sym masks ∙ nonempty)).1 masks code (sym child.is)
      | inr empty ↦
          let no_x : is_nonempty xs 0 code ≡ false = empty_below xs height code (rw child.is at empty) in
          let no_y : is_nonempty ys 0 code ≡ false = empty_below ys height code (rw child.is at (sym masks ∙ empty)) in
          record { same = no_x ∙ sym no_y; word = λ nonempty. cc }
    ]

-- the same of cells, by masks alone
pub alike_cells : (words : List ℕ) (xs ys : List Cell) (height node number : ℕ) → HasMasks words xs (suc height) node number → HasMasks words ys (suc height) node number
    → (code : ℕ) → code / 8 ^ suc height ≡ node → is_nonempty (face_leaves xs) 0 code ≡ is_nonempty (face_leaves ys) 0 code
alike_cells words xs ys zero node number x y code up =
    let child : IsChild code 0 node = child_of code 0 node up in
    let here : 8 * node + child.place ≡ code = child.is ∙ div-leaf code in
    subst (λ n. is_nonempty (face_leaves xs) 0 n ≡ is_nonempty (face_leaves ys) 0 n) here (x child.place child.octant ∙ sym (y child.place child.octant))
alike_cells words xs ys (suc height) node number x y code up =
    let child : IsChild code (suc height) node = child_of code (suc height) node up in
    let masks : is_nonempty (face_leaves xs) (suc height) (8 * node + child.place) ≡ is_nonempty (face_leaves ys) (suc height) (8 * node + child.place) =
    x.0 child.place child.octant ∙ sym (y.0 child.place child.octant) in
    elim (cases_Bool (is_nonempty (face_leaves xs) (suc height) (8 * node + child.place))) [
      | inl nonempty ↦
          alike_cells words xs ys height (8 * node + child.place) (child_number (slice_index words number) child.place)
          (x.1 child.place child.octant nonempty).1 (y.1 child.place child.octant (sym masks ∙ nonempty)).1 code (sym child.is)
      | inr empty ↦
          empty_below (face_leaves xs) (suc height) code (rw child.is at empty) ∙ sym (empty_below (face_leaves ys) (suc height) code (rw child.is at (sym masks ∙ empty)))
    ]

-- masks lead on where a whole tree does, with cells as leaves
pub masks_from_tree : (words : List ℕ) (cells : List Cell) (height node number : ℕ) → HasTree words (face_leaves cells) (suc height) node number → HasMasks words cells (suc height) node number
masks_from_tree words cells zero node number tree = tree.0
masks_from_tree words cells (suc height) node number tree = (
  tree.0,
  λ place octant nonempty.
      let child : (child_number (slice_index words number) place < number) × HasTree words (face_leaves cells) (suc height) (8 * node + place) (child_number (slice_index words number) place) =
      tree.1 place octant nonempty in
      (child.0, masks_from_tree words cells height (8 * node + place) (child_number (slice_index words number) place) child.1),
)
