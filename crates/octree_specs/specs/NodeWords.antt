-- The record words of a set of cells, in the order in which Baert, Lagae and Dutré (2013) put out nodes: children before their parent, siblings together. A set is the ascending list of its codes. A node is named by its height, which is the number of levels from it down to the cells, and its code.
use Rattle.std.specs.Prelude.{ℕ, zero, suc, ◌+◌, ◌*◌, ◌/◌, ◌%◌, ◌^◌, ◌<◌, ◌==◌, Bool, List, [], ◌∷◌, ◌++◌, map, filter, All}
use Rattle.std.specs.List.{list_any, flat_map, sum_by, range_with_len}
use Rattle.std.specs.List.Sorted.{IsStrictlyIncreasing}

-- the codes are a set of cells of an octree of this depth
pub record AreCells (depth : ℕ) (codes : List ℕ) : Type 0 where
  pub ascending : IsStrictlyIncreasing codes
  pub inside : All (λ code. code < 8 ^ depth) codes

-- a cell of the set lies under the node
abbrev pub is_nonempty : List ℕ → ℕ → ℕ → Bool
is_nonempty codes height node = list_any (λ code. code / 8 ^ height == node) codes

-- the nonempty children of a node, in order; `height` is theirs
unfoldable pub children_of : List ℕ → ℕ → ℕ → List ℕ
children_of codes height node = filter (is_nonempty codes height) (range_with_len (8 * node) 8)

-- the nonempty nodes below a node that are above the cells
unfoldable pub size_of : List ℕ → ℕ → ℕ → ℕ
size_of codes zero node = 0
size_of codes (suc zero) node = 0
size_of codes (suc (suc height)) node = sum_by (λ child. 1 + size_of codes (suc height) child) (children_of codes (suc height) node)

-- a bit for each nonempty child
unfoldable pub mask_of : List ℕ → ℕ → ℕ → ℕ
mask_of codes zero node = 0
mask_of codes (suc height) node = sum_by (λ child. 2 ^ (child % 8)) (children_of codes height node)

-- the number of the first child's record, where the records below the node are placed from `at` on; 0 just above the cells
unfoldable pub base_of : List ℕ → ℕ → ℕ → ℕ → ℕ
base_of codes zero node at = 0
base_of codes (suc zero) node at = 0
base_of codes (suc (suc height)) node at = at + sum_by (size_of codes (suc height)) (children_of codes (suc height) node)

abbrev pub word_of : List ℕ → ℕ → ℕ → ℕ → ℕ
word_of codes height node at = mask_of codes height node + 256 * base_of codes height node at

-- a node, and the number from which on the records below it are placed
pub record Placed : Type 0 where
  pub node : ℕ
  pub at : ℕ

-- nodes one after another, the records below each placed after those below the nodes before it
abbrev pub placed : (ℕ → ℕ) → ℕ → List ℕ → List Placed
placed size at [] = []
placed size at (node ∷ rest) = record { node = node; at = at } ∷ placed size (at + size node) rest

-- the words below a node: those below its children, child by child, and then the children's own
unfoldable pub below_of : List ℕ → ℕ → ℕ → ℕ → List ℕ
below_of codes zero node at = []
below_of codes (suc zero) node at = []
below_of codes (suc (suc height)) node at =
    flat_map (λ child. below_of codes (suc height) child.node child.at) (placed (size_of codes (suc height)) at (children_of codes (suc height) node))
    ++ map (λ child. word_of codes (suc height) child.node child.at) (placed (size_of codes (suc height)) at (children_of codes (suc height) node))

-- all words of an octree of this depth, the root's last
unfoldable pub words_of : List ℕ → ℕ → List ℕ
words_of codes depth = below_of codes depth 0 0 ++ word_of codes depth 0 0 ∷ []
