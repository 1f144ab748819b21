-- The words of a set of codes, as the plain program in memory writes them, are those of format 1.
use Rattle.std.proofs.Common.{◌≡◌, ℕ, zero, suc, ◌+◌, ◌*◌, ◌/◌, ◌^◌, ◌<◌, List, [], ◌∷◌, map, refl, sym, ap, subst, ◌∙◌, arith}
use Rattle.std.specs.Prelude.{◌==◌, ◌||◌, All}
use Rattle.std.specs.List.{filter, flat_map, sum_by, range_with_len}
use Rattle.std.proofs.lemmas.List.{length-map}
use Rattle.std.proofs.lemmas.List.Concat.{flat_map-cons}
use Rattle.svo_base.specs.GridShape.{GridShape}
use Rattle.octree_specs.specs.Cells.{Cell, codes_of}
use Rattle.octree_specs.specs.Formats.{face_leaves, mask_leaves, file_words}
use Rattle.octree_specs.specs.NodeFile as plain_file
use Rattle.octree_specs.specs.NodeWords as plain
use Rattle.octree_specs.specs.Octree.{is_nonempty, first_children, children_of, mask_of, size_of, word_of, in_turn, below_of, words_of}
use Rattle.octree_specs.specs.OctreeFile.{header_of, trailer_of, frame_of, image_of}
use Rattle.octree_laws.proofs.Maps.{words_one}
use Rattle.octree_laws.proofs.MaskLeaves.{nonempty_same, leaf_mask}
use Rattle.octree_laws.proofs.Masks.{mask_front}

-- a set's nodes are those of its cells
set_nonempty : (cells : List Cell) (height node : ℕ) → plain.is_nonempty (codes_of cells) height node ≡ is_nonempty (face_leaves cells) height node
set_nonempty [] height node = refl
set_nonempty (cell ∷ rest) height node = ap (λ b. (cell.code / 8 ^ height == node) || b) (set_nonempty rest height node)

cell_children : (cells : List Cell) (node : ℕ) → plain.children_of (codes_of cells) 0 node ≡ children_of (face_leaves cells) 0 node
unfolding plain.children_of first_children
cell_children cells node = ap (λ p. filter p (range_with_len (8 * node) 8)) (λ i n. set_nonempty cells 0 n i)

-- a list of nodes with what each has
placed_turn : {A : Type 0} (s t : ℕ → ℕ) (f g : ℕ → ℕ → List A) → ((n : ℕ) → s n ≡ t n) → ((n at : ℕ) → f n at ≡ g n at)
    → (at : ℕ) (nodes : List ℕ) → flat_map (λ (c : plain.Placed). f c.node c.at) (plain.placed s at nodes) ≡ in_turn t g at nodes
placed_turn s t f g sizes lists at [] = refl
placed_turn s t f g sizes lists at (n ∷ rest) =
    flat_map-cons (λ (c : plain.Placed). f c.node c.at) (record { node = n; at = at }) (plain.placed s (at + s n) rest)
    ∙ rw (lists n at, placed_turn s t f g sizes lists (at + s n) rest, sizes n) refl

placed_map : (s t : ℕ → ℕ) (f g : ℕ → ℕ → ℕ) → ((n : ℕ) → s n ≡ t n) → ((n at : ℕ) → f n at ≡ g n at)
    → (at : ℕ) (nodes : List ℕ) → map (λ (c : plain.Placed). f c.node c.at) (plain.placed s at nodes) ≡ in_turn t (λ n from. g n from ∷ []) at nodes
placed_map s t f g sizes words at [] = refl
placed_map s t f g sizes words at (n ∷ rest) = rw (words n at, placed_map s t f g sizes words (at + s n) rest, sizes n) refl

module _ (levels : ℕ) (cells : List Cell) (inside : All (λ cell. cell.code < 8 ^ suc levels) cells) where
  set_children : (height node : ℕ) → plain.children_of (codes_of cells) (suc height) node ≡ children_of (mask_leaves levels cells) height node
  unfolding plain.children_of first_children
  set_children height node =
      ap (λ p. filter p (range_with_len (8 * node) 8)) (λ i n. (set_nonempty cells (suc height) n ∙ sym (nonempty_same levels cells inside height n)) i)

  set_size : (height node : ℕ) → plain.size_of (codes_of cells) (suc height) node ≡ size_of (mask_leaves levels cells) height node
  unfolding plain.size_of size_of
  set_size zero node = refl
  set_size (suc height) node =
      ap (λ (f : ℕ → ℕ). sum_by f (plain.children_of (codes_of cells) (suc height) node)) (λ i n. 1 + set_size height n i)
      ∙ ap (sum_by (λ child. 1 + size_of (mask_leaves levels cells) height child)) (set_children height node)

  set_word : (height node at : ℕ) → plain.word_of (codes_of cells) (suc height) node at ≡ word_of (mask_leaves levels cells) height node at
  unfolding plain.mask_of plain.base_of word_of mask_front
  set_word zero node at = ap (λ children. mask_of children + 256 * 0) (cell_children cells node) ∙ (omega arith ∙ sym (leaf_mask levels cells inside node))
  set_word (suc height) node at =
      ap (λ (f : ℕ → ℕ). mask_of (plain.children_of (codes_of cells) (suc height) node) + 256 * (at + sum_by f (plain.children_of (codes_of cells) (suc height) node))) (λ i n. set_size height n i)
      ∙ ap (λ children. mask_of children + 256 * (at + sum_by (size_of (mask_leaves levels cells) height) children)) (set_children height node)

  set_below : (height node at : ℕ) → plain.below_of (codes_of cells) (suc height) node at ≡ below_of (mask_leaves levels cells) height node at
  unfolding plain.below_of below_of
  set_below zero node at = refl
  set_below (suc height) node at =
      rw (
        set_children height node,
        placed_turn (plain.size_of (codes_of cells) (suc height)) (size_of (mask_leaves levels cells) height) (plain.below_of (codes_of cells) (suc height)) (below_of (mask_leaves levels cells) height)
            (set_size height) (set_below height) at (children_of (mask_leaves levels cells) height node),
        placed_map (plain.size_of (codes_of cells) (suc height)) (size_of (mask_leaves levels cells) height) (plain.word_of (codes_of cells) (suc height)) (word_of (mask_leaves levels cells) height)
            (set_size height) (set_word height) at (children_of (mask_leaves levels cells) height node),
      ) refl

  pub set_words : plain.words_of (codes_of cells) (suc levels) ≡ file_words 1 (suc levels) cells
  unfolding plain.words_of words_of
  set_words = rw (set_below levels 0 0, set_word levels 0 0) (sym (words_one levels cells))

-- so the files are one, too
pub set_image : (grid : GridShape) (levels : ℕ) (cells : List Cell) → grid.depth ≡ suc levels → All (λ cell. cell.code < 8 ^ grid.depth) cells
    → plain_file.image_of grid (codes_of cells) ≡ image_of 1 grid cells
unfolding plain_file.image_of plain_file.header_of plain_file.trailer_of image_of frame_of header_of trailer_of
set_image grid levels cells deep inside =
    let words : plain.words_of (codes_of cells) grid.depth ≡ file_words 1 grid.depth cells =
    ap (plain.words_of (codes_of cells)) deep ∙ (set_words levels cells (subst (λ d. All (λ (cell : Cell). cell.code < 8 ^ d) cells) deep inside) ∙ ap (λ d. file_words 1 d cells) (sym deep)) in
    rw (words, length-map cells (λ (cell : Cell). cell.code)) refl
