-- The words of small octrees and the bytes of small files, computed from the definitions alone.
use Rattle.std.proofs.Common.{◌≡◌, ℕ, List, [], ◌∷◌, ◌++◌, ◌+◌, ◌*◌, map, pos, None, Some, refl}
use Rattle.std.specs.Prelude.{codes}
use Rattle.svo_base.specs.GridShape.{GridShape}
use Rattle.octree_specs.specs.Cells.{Cell}
use Rattle.octree_specs.specs.Checking.{fit, refused_in}
use Rattle.octree_specs.specs.Formats.{mask_leaves, file_words}
use Rattle.octree_specs.specs.Octree.{first_children, size_of, word_of, below_of, words_of}
use Rattle.octree_specs.specs.OctreeFile.{header_of, trailer_of, frame_of, image_of}
use lib.Count.{ones}

-- cells with one face
of_face : ℕ → List ℕ → List Cell
of_face face cells = map (λ code. record { code = code; face = face }) cells

-- the grid from 0 with cells of side 1
unit_grid : ℕ → GridShape
unit_grid depth = record { depth = depth; origin = pos 0 ∷ pos 0 ∷ pos 0 ∷ []; cell = 1 }

-- the cells of a triangle in the plane z = 0, and those around the point (2, 2, 2)
flat : List ℕ
flat = 0 ∷ 1 ∷ 2 ∷ []

around : List ℕ
around = 7 ∷ 14 ∷ 21 ∷ 28 ∷ 35 ∷ 42 ∷ 49 ∷ 56 ∷ []

-- ---- words of format 2

-- three cells below the root, whose base is 0
flat_words : file_words 2 1 (of_face 0 flat) ≡ 1 ∷ 1 ∷ 1 ∷ 7 ∷ []
unfolding flat of_face file_words words_of below_of word_of size_of first_children
flat_words = refl

-- no cell: the root's word alone
no_words : file_words 2 1 [] ≡ 0 ∷ []
unfolding file_words words_of below_of word_of size_of first_children
no_words = refl

-- all eight cells
full_words : file_words 2 1 (of_face 0 (0 ∷ 1 ∷ 2 ∷ 3 ∷ 4 ∷ 5 ∷ 6 ∷ 7 ∷ [])) ≡ 1 ∷ 1 ∷ 1 ∷ 1 ∷ 1 ∷ 1 ∷ 1 ∷ 1 ∷ 255 ∷ []
unfolding of_face file_words words_of below_of word_of size_of first_children
full_words = refl

-- one cell in each octant: the cells' words, those of their parents with the bases 0 to 7, and the root's with base 8
around_words : file_words 2 2 (of_face 0 around) ≡ 1 ∷ 1 ∷ 1 ∷ 1 ∷ 1 ∷ 1 ∷ 1 ∷ 1 ∷ 128 ∷ 320 ∷ 544 ∷ 784 ∷ 1032 ∷ 1284 ∷ 1538 ∷ 1793 ∷ 2303 ∷ []
unfolding around of_face file_words words_of below_of word_of size_of first_children
around_words = refl

-- one level more above them: the only child of the root has the number 16
deeper_words : file_words 2 3 (of_face 0 around) ≡ 1 ∷ 1 ∷ 1 ∷ 1 ∷ 1 ∷ 1 ∷ 1 ∷ 1 ∷ 128 ∷ 320 ∷ 544 ∷ 784 ∷ 1032 ∷ 1284 ∷ 1538 ∷ 1793 ∷ 2303 ∷ 4097 ∷ []
unfolding around of_face file_words words_of below_of word_of size_of first_children
deeper_words = refl

-- the last cell alone: empty siblings have no word
last_words : file_words 2 2 (of_face 0 (63 ∷ [])) ≡ 1 ∷ 128 ∷ 384 ∷ []
unfolding of_face file_words words_of below_of word_of size_of first_children
last_words = refl

-- face 1 fills the first three cells, face 0 the last
faces_words : file_words 2 1 (of_face 1 flat ++ of_face 0 (7 ∷ [])) ≡ 257 ∷ 257 ∷ 257 ∷ 1 ∷ 135 ∷ []
unfolding flat of_face file_words words_of below_of word_of size_of first_children
faces_words = refl

-- ---- words of format 1

flat_masks : file_words 1 1 (of_face 0 flat) ≡ 7 ∷ []
unfolding flat of_face file_words mask_leaves words_of below_of word_of size_of first_children
flat_masks = refl

no_masks : file_words 1 2 [] ≡ 0 ∷ []
unfolding file_words mask_leaves words_of below_of word_of size_of first_children
no_masks = refl

around_masks : file_words 1 2 (of_face 0 around) ≡ 128 ∷ 64 ∷ 32 ∷ 16 ∷ 8 ∷ 4 ∷ 2 ∷ 1 ∷ 255 ∷ []
unfolding around of_face file_words mask_leaves words_of below_of word_of size_of first_children
around_masks = refl

-- the root's only child has the number 8
deeper_masks : file_words 1 3 (of_face 0 around) ≡ 128 ∷ 64 ∷ 32 ∷ 16 ∷ 8 ∷ 4 ∷ 2 ∷ 1 ∷ 255 ∷ 2049 ∷ []
unfolding around of_face file_words mask_leaves words_of below_of word_of size_of first_children
deeper_masks = refl

last_masks : file_words 1 2 (of_face 0 (63 ∷ [])) ≡ 128 ∷ 128 ∷ []
unfolding of_face file_words mask_leaves words_of below_of word_of size_of first_children
last_masks = refl

-- ---- bytes

-- a number of one byte in eight
in_eight : ℕ → List ℕ
in_eight n = n ∷ 0 ∷ 0 ∷ 0 ∷ 0 ∷ 0 ∷ 0 ∷ 0 ∷ []

-- 88 bytes: name, depth and zero, origin, cell; the word 7; zero, one word, three cells, name of the end
flat_file : image_of 1 (unit_grid 1) (of_face 0 flat) ≡
    codes "SVOCUBE1" ++ in_eight 1 ++ in_eight 0 ++ in_eight 0 ++ in_eight 0 ++ in_eight 1
    ++ in_eight 7
    ++ in_eight 0 ++ in_eight 1 ++ in_eight 3 ++ codes "SVOCEND1"
unfolding in_eight unit_grid flat of_face image_of frame_of header_of trailer_of file_words mask_leaves words_of below_of word_of size_of first_children
flat_file = refl

-- 152 bytes: nine words, eight cells
around_file : image_of 1 (unit_grid 2) (of_face 0 around) ≡
    codes "SVOCUBE1" ++ in_eight 2 ++ in_eight 0 ++ in_eight 0 ++ in_eight 0 ++ in_eight 1
    ++ in_eight 128 ++ in_eight 64 ++ in_eight 32 ++ in_eight 16 ++ in_eight 8 ++ in_eight 4 ++ in_eight 2 ++ in_eight 1 ++ in_eight 255
    ++ in_eight 0 ++ in_eight 9 ++ in_eight 8 ++ codes "SVOCEND1"
unfolding in_eight unit_grid around of_face image_of frame_of header_of trailer_of file_words mask_leaves words_of below_of word_of size_of first_children
around_file = refl

-- 120 bytes of format 2; 257 is the bytes 1 and 1
faces_file : image_of 2 (unit_grid 1) (of_face 1 flat ++ of_face 0 (7 ∷ [])) ≡
    codes "SVOCUBE2" ++ in_eight 1 ++ in_eight 0 ++ in_eight 0 ++ in_eight 0 ++ in_eight 1
    ++ (1 ∷ 1 ∷ 0 ∷ 0 ∷ 0 ∷ 0 ∷ 0 ∷ 0 ∷ []) ++ (1 ∷ 1 ∷ 0 ∷ 0 ∷ 0 ∷ 0 ∷ 0 ∷ 0 ∷ []) ++ (1 ∷ 1 ∷ 0 ∷ 0 ∷ 0 ∷ 0 ∷ 0 ∷ 0 ∷ []) ++ in_eight 1 ++ in_eight 135
    ++ in_eight 0 ++ in_eight 5 ++ in_eight 4 ++ codes "SVOCEND2"
unfolding in_eight unit_grid flat of_face image_of frame_of header_of trailer_of file_words words_of below_of word_of size_of first_children
faces_file = refl

-- ---- what the checker refuses

-- the words of those files with their number of cells are accepted
around_accepted : refused_in 1 2 (128 ∷ 64 ∷ 32 ∷ 16 ∷ 8 ∷ 4 ∷ 2 ∷ 1 ∷ 255 ∷ []) 8 ≡ None
unfolding refused_in fit ones
around_accepted = refl

deeper_accepted : refused_in 1 3 (128 ∷ 64 ∷ 32 ∷ 16 ∷ 8 ∷ 4 ∷ 2 ∷ 1 ∷ 255 ∷ 2049 ∷ []) 8 ≡ None
unfolding refused_in fit ones
deeper_accepted = refl

faces_accepted : refused_in 2 1 (257 ∷ 257 ∷ 257 ∷ 1 ∷ 135 ∷ []) 4 ≡ None
unfolding refused_in fit ones
faces_accepted = refl

empty_accepted : refused_in 2 1 (0 ∷ []) 0 ≡ None
unfolding refused_in fit
empty_accepted = refl

-- a node just above the cells with a base
based_leaf_refused : refused_in 1 2 (384 ∷ 64 ∷ 32 ∷ 16 ∷ 8 ∷ 4 ∷ 2 ∷ 1 ∷ 255 ∷ []) 8 ≡ Some 0
unfolding refused_in fit ones
based_leaf_refused = refl

-- a root whose eighth child would be the root itself
late_base_refused : refused_in 1 2 (128 ∷ 64 ∷ 32 ∷ 16 ∷ 8 ∷ 4 ∷ 2 ∷ 1 ∷ 511 ∷ []) 8 ≡ Some 8
unfolding refused_in fit ones
late_base_refused = refl

-- a wrong number of cells: the trailer, which has the number after the last word
wrong_count_refused : refused_in 1 2 (128 ∷ 64 ∷ 32 ∷ 16 ∷ 8 ∷ 4 ∷ 2 ∷ 1 ∷ 255 ∷ []) 9 ≡ Some 9
unfolding refused_in fit ones
wrong_count_refused = refl

empty_count_refused : refused_in 1 1 (0 ∷ []) 1 ≡ Some 1
unfolding refused_in fit
empty_count_refused = refl

-- two parents that share a child: the second one begins before what the first one left behind
shared_child_refused : refused_in 1 3 (1 ∷ 1 ∷ 1 ∷ 259 ∷ []) 2 ≡ Some 2
unfolding refused_in fit ones
shared_child_refused = refl

-- a cell's word that does not begin with 1, and a parent that leaves its child's word out
wrong_cell_refused : refused_in 2 2 (2 ∷ 1 ∷ 1 ∷ 1 ∷ 1 ∷ 1 ∷ 1 ∷ 1 ∷ 128 ∷ 320 ∷ 544 ∷ 784 ∷ 1032 ∷ 1284 ∷ 1538 ∷ 1793 ∷ 2303 ∷ []) 8 ≡ Some 0
unfolding refused_in fit ones
wrong_cell_refused = refl

skipped_child_refused : refused_in 2 2 (1 ∷ 1 ∷ 1 ∷ 1 ∷ 1 ∷ 1 ∷ 1 ∷ 1 ∷ 128 ∷ 64 ∷ 544 ∷ 784 ∷ 1032 ∷ 1284 ∷ 1538 ∷ 1793 ∷ 2303 ∷ []) 8 ≡ Some 9
unfolding refused_in fit ones
skipped_child_refused = refl

-- the greatest face, and one above it
last_face_accepted : refused_in 2 1 ((1 + 256 * 4294967294) ∷ 1 ∷ []) 1 ≡ None
unfolding refused_in fit ones
last_face_accepted = refl

late_face_refused : refused_in 2 1 ((1 + 256 * 4294967295) ∷ 1 ∷ []) 1 ≡ Some 0
unfolding refused_in fit ones
late_face_refused = refl
