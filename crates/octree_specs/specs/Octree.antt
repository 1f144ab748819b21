-- The words of an octree over given leaves, in the order in which Baert, Lagae and Dutré (2013) put out nodes: children before their parent, siblings together. All leaves are nodes of one level, each with a word of its own. A node is named by its height, which is the number of levels from it down to the leaves, and its code; the root has the code 0.
use Rattle.std.specs.Prelude.{ℕ, zero, suc, ◌+◌, ◌*◌, ◌/◌, ◌%◌, ◌^◌, ◌==◌, Bool, cond, List, [], ◌∷◌, ◌++◌, filter}
use Rattle.std.specs.List.{list_any, sum_by, range_with_len}

pub record Leaf : Type 0 where
  pub node : ℕ
  pub word : ℕ

-- a leaf lies under the node, or is it
abbrev pub is_nonempty : List Leaf → ℕ → ℕ → Bool
is_nonempty leaves height node = list_any (λ leaf. leaf.node / 8 ^ height == node) leaves

-- the nonempty ones of so many first children of a node, in order; `height` is theirs
unfoldable pub first_children : List Leaf → ℕ → ℕ → ℕ → List ℕ
first_children leaves height node count = filter (is_nonempty leaves height) (range_with_len (8 * node) count)

-- the nonempty ones of all eight
abbrev pub children_of : List Leaf → ℕ → ℕ → List ℕ
children_of leaves height node = first_children leaves height node 8

-- a bit for each child
abbrev pub mask_of : List ℕ → ℕ
mask_of children = sum_by (λ child. 2 ^ (child % 8)) children

-- the nonempty nodes below a node, the leaves among them
unfoldable pub size_of : List Leaf → ℕ → ℕ → ℕ
size_of leaves zero node = 0
size_of leaves (suc height) node = sum_by (λ child. 1 + size_of leaves height child) (children_of leaves height node)

-- the word of this leaf, 0 where there is none
abbrev pub leaf_word : List Leaf → ℕ → ℕ
leaf_word [] node = 0
leaf_word (leaf ∷ rest) node = cond (leaf.node == node) leaf.word (leaf_word rest node)

-- the word of a node, where the words below it are placed from `at` on: its mask, and as base the number of the first child's word, which stands behind all words below the children
unfoldable pub word_of : List Leaf → ℕ → ℕ → ℕ → ℕ
word_of leaves zero node at = leaf_word leaves node
word_of leaves (suc height) node at = mask_of (children_of leaves height node) + 256 * (at + sum_by (size_of leaves height) (children_of leaves height node))

-- what each node has, node after node, each placed after as many words as lie below the nodes before it
abbrev pub in_turn : {A : Type 0} → (ℕ → ℕ) → (ℕ → ℕ → List A) → ℕ → List ℕ → List A
in_turn size each at [] = []
in_turn size each at (node ∷ rest) = each node at ++ in_turn size each (at + size node) rest

-- the words below a node, placed from `at` on: those below its children, child by child, and then the children's own
unfoldable pub below_of : List Leaf → ℕ → ℕ → ℕ → List ℕ
below_of leaves zero node at = []
below_of leaves (suc height) node at =
    in_turn (size_of leaves height) (below_of leaves height) at (children_of leaves height node)
    ++ in_turn (size_of leaves height) (λ child from. word_of leaves height child from ∷ []) at (children_of leaves height node)

-- all words, the root's last; `levels` is the root's height
unfoldable pub words_of : List Leaf → ℕ → List ℕ
words_of leaves levels = below_of leaves levels 0 0 ++ word_of leaves levels 0 0 ∷ []
