-- How the words of an octree lead from the root down to each nonempty node.
use Rattle.std.specs.Prelude.{◌≡◌, ℕ, zero, suc, ◌+◌, ◌*◌, ◌/◌, ◌%◌, ◌^◌, ◌<◌, ◌==◌, true, List, slice_index, count_ones}
use Rattle.octree_specs.specs.Cells.{Cell}
use Rattle.octree_specs.specs.Formats.{face_leaves}
use Rattle.octree_specs.specs.Octree.{Leaf, is_nonempty, leaf_word}

-- the word has a bit for each nonempty child; `height` is that of the children
abbrev pub HasMask : List Leaf → ℕ → ℕ → ℕ → Type 0
HasMask leaves height node word = (place : ℕ) → place < 8 → is_nonempty leaves height (8 * node + place) ≡ (word / 2 ^ place % 2 == 1)

-- the number of the word of the child at this place: the base, and one more for each bit before
abbrev pub child_number : ℕ → ℕ → ℕ
child_number word place = word / 256 + count_ones (word % 2 ^ place)

-- the word of this number is that of the node, and each nonempty child has its word where the node's word says, before the node's own, and so on down to the leaves
abbrev pub HasTree : List ℕ → List Leaf → ℕ → ℕ → ℕ → Type 0
HasTree words leaves zero node number = slice_index words number ≡ leaf_word leaves node
HasTree words leaves (suc height) node number =
    let word = slice_index words number in
    HasMask leaves height node word
    × ((place : ℕ) → place < 8 → is_nonempty leaves height (8 * node + place) ≡ true
    → (child_number word place < number) × HasTree words leaves height (8 * node + place) (child_number word place))

-- the same down to the nodes just above the cells, whose words say no more than which cells are filled; so it is in files of both formats. `height` counts from the cells
abbrev pub HasMasks : List ℕ → List Cell → ℕ → ℕ → ℕ → Type 0
HasMasks words cells zero node number = ⊥
HasMasks words cells (suc zero) node number = HasMask (face_leaves cells) 0 node (slice_index words number)
HasMasks words cells (suc (suc height)) node number =
    let word = slice_index words number in
    HasMask (face_leaves cells) (suc height) node word
    × ((place : ℕ) → place < 8 → is_nonempty (face_leaves cells) (suc height) (8 * node + place) ≡ true
    → (child_number word place < number) × HasMasks words cells (suc height) (8 * node + place) (child_number word place))
