-- The words of an octree lead from each node to its children: the law, and that words lead to one list of leaves.
use Rattle.std.proofs.Common.{◌≡◌, ℕ, zero, suc, ◌+◌, ◌-◌, ◌*◌, ◌<◌, true, List, length, refl, sym, subst, arith}
use Rattle.std.specs.Prelude.{slice_index}
use Rattle.std.specs.List.{sum_by}
use Rattle.octree_specs.specs.Octree.{Leaf, is_nonempty, first_children, size_of, word_of, words_of}
use Rattle.octree_specs.specs.Walking.{HasTree, child_number}
use Rattle.octree_laws.proofs.FirstChildren.{children_at, later_children}
use Rattle.octree_laws.proofs.Masks.{mask_front, HasOctants, has_octants}
use Rattle.octree_laws.proofs.Standing.{base_of, Stands, ChildStands, child_stands, root_stands}

-- a parent's word, by its octants
pub parent_word : (words : List ℕ) (leaves : List Leaf) (height node at number : ℕ) → Stands words leaves (suc height) node at number
    → HasOctants leaves height node (base_of leaves height node at) (slice_index words number)
unfolding word_of mask_front base_of
parent_word words leaves height node at number stands =
    subst (HasOctants leaves height node (base_of leaves height node at)) (sym stands.own) (has_octants leaves height node (base_of leaves height node at))

-- the child at a place
pub child_at : (words : List ℕ) (leaves : List Leaf) (height node at number : ℕ) → Stands words leaves (suc height) node at number
    → (place : ℕ) → place < 8 → is_nonempty leaves height (8 * node + place) ≡ true
    → ChildStands words leaves height (8 * node + place) (at + sum_by (size_of leaves height) (first_children leaves height node place)) number (base_of leaves height node at) (length (first_children leaves height node place))
child_at words leaves height node at number stands place octant nonempty =
    child_stands words leaves height node at number stands (first_children leaves height node place) (8 * node + place) (later_children leaves height node (place + 1) (7 - place))
    (children_at leaves height node place (7 - place) (omega (arith, octant)) nonempty)

pub child_number_is : (words : List ℕ) (leaves : List Leaf) (height node at number : ℕ) → Stands words leaves (suc height) node at number
    → (place : ℕ) → place < 8 → child_number (slice_index words number) place ≡ base_of leaves height node at + length (first_children leaves height node place)
child_number_is words leaves height node at number stands place octant =
    let octants : HasOctants leaves height node (base_of leaves height node at) (slice_index words number) = parent_word words leaves height node at number stands in
    rw (octants.based, octants.before place octant) refl

pub has_tree : (words : List ℕ) (leaves : List Leaf) (height node at number : ℕ) → Stands words leaves height node at number → HasTree words leaves height node number
unfolding word_of
has_tree words leaves zero node at number stands = stands.own
has_tree words leaves (suc height) node at number stands = (
  (parent_word words leaves height node at number stands).bits,
  λ place octant nonempty.
      let child : ChildStands words leaves height (8 * node + place) (at + sum_by (size_of leaves height) (first_children leaves height node place)) number (base_of leaves height node at) (length (first_children leaves height node place)) =
      child_at words leaves height node at number stands place octant nonempty in
      let is : child_number (slice_index words number) place ≡ base_of leaves height node at + length (first_children leaves height node place) =
      child_number_is words leaves height node at number stands place octant in
      subst (λ n. (n < number) × HasTree words leaves height (8 * node + place) n) (sym is)
      (child.before, has_tree words leaves height (8 * node + place) (at + sum_by (size_of leaves height) (first_children leaves height node place)) (base_of leaves height node at + length (first_children leaves height node place)) child.stands),
)

-- the words of an octree lead from its root, whose word is the last, to all its leaves
pub words_have_tree : (leaves : List Leaf) (levels number : ℕ) → length (words_of leaves levels) ≡ number + 1 → HasTree (words_of leaves levels) leaves levels 0 number
words_have_tree leaves levels number long = has_tree (words_of leaves levels) leaves levels 0 0 number (root_stands leaves levels number long)
