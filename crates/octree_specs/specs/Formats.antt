-- The two formats of node files as octrees over leaves. Format 2 keeps a face for each filled cell; format 1 keeps none.
use Rattle.std.specs.Prelude.{◌≡◌, ℕ, ◌+◌, ◌-◌, ◌*◌, ◌^◌, ◌==◌, ◌⊎◌, cond, List, map, filter, All}
use Rattle.std.specs.List.{range_with_len}
use Rattle.octree_specs.specs.Cells.{Cell, AreFacedCells}
use Rattle.octree_specs.specs.Octree.{Leaf, is_nonempty, children_of, mask_of, words_of}

abbrev pub IsFormat : ℕ → Type 0
IsFormat format = (format ≡ 1) ⊎ (format ≡ 2)

-- in format 2 the leaves are the filled cells, each with its face
abbrev pub face_leaves : List Cell → List Leaf
face_leaves cells = map (λ cell. record { node = cell.code; word = 1 + 256 * cell.face }) cells

-- in format 1 they are the nonempty nodes just above the cells, each with a bit for each filled cell; `levels` is how many levels these nodes are below the root
unfoldable pub mask_leaves : ℕ → List Cell → List Leaf
mask_leaves levels cells =
    map (λ node. record { node = node; word = mask_of (children_of (face_leaves cells) 0 node) })
    (filter (is_nonempty (face_leaves cells) 1) (range_with_len 0 (8 ^ levels)))

abbrev pub levels_of : ℕ → ℕ → ℕ
levels_of format depth = cond (format == 1) (depth - 1) depth

abbrev pub leaves_of : ℕ → ℕ → List Cell → List Leaf
leaves_of format depth cells = cond (format == 1) (mask_leaves (depth - 1) cells) (face_leaves cells)

-- the words of these cells in a file of this format and depth
unfoldable pub file_words : ℕ → ℕ → List Cell → List ℕ
file_words format depth cells = words_of (leaves_of format depth cells) (levels_of format depth)

-- cells that a file of this format and depth can stand for; format 1 keeps no faces, and there each cell has the face 0
pub record AreCellsIn (format depth : ℕ) (cells : List Cell) : Type 0 where
  pub known : IsFormat format
  pub map : AreFacedCells depth cells
  pub faceless : format ≡ 1 → All (λ cell. cell.face ≡ 0) cells

-- the words, in a file of this format and depth, stand for these cells
pub record StandFor (format depth : ℕ) (words : List ℕ) (cells : List Cell) : Type 0 where
  pub cells_are : AreCellsIn format depth cells
  pub words_are : words ≡ file_words format depth cells
