-- Words stand for one list of cells at most.
use Rattle.std.proofs.Common.{◌≡◌, ℕ, zero, suc, ◌+◌, ◌-◌, ◌*◌, ◌/◌, ◌^◌, ◌<◌, true, List, [], ◌∷◌, length, refl, sym, ap, subst, ◌∙◌, inl, inr, arith}
use Rattle.std.specs.Prelude.{◌==◌, All}
use Rattle.std.specs.List.{Contains}
use Rattle.std.proofs.Math.Nat.{div-eq_of_lt}
use Rattle.std.proofs.lemmas.Bool.{eqb-true, eq-eqb, ne_eqb, cond-true, cond-false, or_cases, or_left, or_right}
use Rattle.std.proofs.lemmas.List.Elements.{All-map, All-head, All-tail, All-weaker, All-contains_itself, All-contains}
use Rattle.octree_specs.specs.Cells.{Cell, codes_of, AreFacedCells}
use Rattle.octree_specs.specs.Formats.{AreCellsIn, StandFor, face_leaves, mask_leaves, leaves_of, levels_of, file_words}
use Rattle.octree_specs.specs.Octree.{is_nonempty, leaf_word, size_of, words_of}
use Rattle.octree_specs.specs.Walking.{HasTree, HasMasks}
use Rattle.octree_specs.proofs.CodeSets.{AreAllBelow, one_set}
use Rattle.octree_laws.proofs.Alike.{alike, alike_cells, masks_from_tree}
use Rattle.octree_laws.proofs.MaskLeaves.{masks_from_leaves}
use Rattle.octree_laws.proofs.Rising.{Ascends, ascends, above_low, in_cases, in_first, in_rest}
use Rattle.octree_laws.proofs.Sizes.{length-words_of}
use Rattle.octree_laws.proofs.Trees.{words_have_tree}
use Rattle.octree_laws.proofs.Under.{div-leaf}

-- a cell is nonempty exactly where its code is in the list
pub filled_in : (cells : List Cell) (code : ℕ) → is_nonempty (face_leaves cells) 0 code ≡ true → Contains (codes_of cells) code
filled_in [] code filled = cc
filled_in (cell ∷ rest) code filled = elim (or_cases (cell.code / 8 ^ 0 == code) (is_nonempty (face_leaves rest) 0 code) filled) [
  | inl here ↦ subst (λ c. Contains (codes_of (cell ∷ rest)) c) (sym (div-leaf cell.code) ∙ eqb-true (cell.code / 8 ^ 0) code here) (in_first cell.code (codes_of rest))
  | inr later ↦ in_rest cell.code (codes_of rest) code (filled_in rest code later)
]

pub in_filled : (cells : List Cell) (code : ℕ) → Contains (codes_of cells) code → is_nonempty (face_leaves cells) 0 code ≡ true
in_filled [] code has = absurd (omega (arith, has.1))
in_filled (cell ∷ rest) code has = elim (in_cases cell.code (codes_of rest) code has) [
  | inl here ↦ or_left (cell.code / 8 ^ 0 == code) (is_nonempty (face_leaves rest) 0 code) (eq-eqb (cell.code / 8 ^ 0) code (div-leaf cell.code ∙ here))
  | inr later ↦ or_right (cell.code / 8 ^ 0 == code) (is_nonempty (face_leaves rest) 0 code) (in_filled rest code later)
]

-- the codes of a map are the filled cells below the limit
pub codes_are : (depth : ℕ) (cells : List Cell) → AreFacedCells depth cells → AreAllBelow (λ code. is_nonempty (face_leaves cells) 0 code ≡ true) (8 ^ depth) (codes_of cells)
codes_are depth cells are = record {
  ascending = are.ascending;
  inside = All-map (λ n. n < 8 ^ depth) (λ (cell : Cell). cell.code) cells are.inside;
  right = All-weaker (Contains (codes_of cells)) (λ code. is_nonempty (face_leaves cells) 0 code ≡ true) (in_filled cells) (codes_of cells) (All-contains_itself (codes_of cells));
  complete = λ code below filled. filled_in cells code filled;
}

-- ---- masks and faces

pub words_one : (levels : ℕ) (cells : List Cell) → file_words 1 (suc levels) cells ≡ words_of (mask_leaves levels cells) levels
unfolding file_words
words_one levels cells = let e : suc levels - 1 ≡ levels = omega arith in ap (λ n. words_of (mask_leaves n cells) n) e

pub words_two : (depth : ℕ) (cells : List Cell) → file_words 2 depth cells ≡ words_of (face_leaves cells) depth
unfolding file_words
words_two depth cells = refl

masks_one : (levels number : ℕ) (cells : List Cell) → AreFacedCells (suc levels) cells → length (file_words 1 (suc levels) cells) ≡ number + 1
    → HasMasks (file_words 1 (suc levels) cells) cells (suc levels) 0 number
masks_one levels number cells are long =
    subst (λ words. HasMasks words cells (suc levels) 0 number) (sym (words_one levels cells))
    (masks_from_leaves levels cells are.inside (words_of (mask_leaves levels cells) levels) levels 0 number
    (words_have_tree (mask_leaves levels cells) levels number (sym (ap length (words_one levels cells)) ∙ long)))

-- in format 2 the words lead to each cell's own
pub words_have_faces : (depth number : ℕ) (cells : List Cell) → length (file_words 2 depth cells) ≡ number + 1 → HasTree (file_words 2 depth cells) (face_leaves cells) depth 0 number
words_have_faces depth number cells long =
    subst (λ words. HasTree words (face_leaves cells) depth 0 number) (sym (words_two depth cells))
    (words_have_tree (face_leaves cells) depth number (sym (ap length (words_two depth cells)) ∙ long))

masks_two : (levels number : ℕ) (cells : List Cell) → length (file_words 2 (suc levels) cells) ≡ number + 1 → HasMasks (file_words 2 (suc levels) cells) cells (suc levels) 0 number
masks_two levels number cells long = masks_from_tree (file_words 2 (suc levels) cells) cells levels 0 number (words_have_faces (suc levels) number cells long)

-- in either format the words lead by masks from the root to the cells
pub words_have_masks : (format levels number : ℕ) (cells : List Cell) → AreCellsIn format (suc levels) cells → length (file_words format (suc levels) cells) ≡ number + 1
    → HasMasks (file_words format (suc levels) cells) cells (suc levels) 0 number
words_have_masks format levels number cells are long = elim are.known [
  | inl one ↦
      subst (λ f. HasMasks (file_words f (suc levels) cells) cells (suc levels) 0 number) (sym one)
      (masks_one levels number cells are.map (subst (λ f. length (file_words f (suc levels) cells) ≡ number + 1) one long))
  | inr two ↦
      subst (λ f. HasMasks (file_words f (suc levels) cells) cells (suc levels) 0 number) (sym two)
      (masks_two levels number cells (subst (λ f. length (file_words f (suc levels) cells) ≡ number + 1) two long))
]

-- there is at least one word
pub some_words : (format depth : ℕ) (cells : List Cell) → (number : ℕ) × (length (file_words format depth cells) ≡ number + 1)
unfolding file_words
some_words format depth cells = (size_of (leaves_of format depth cells) (levels_of format depth) 0, length-words_of (leaves_of format depth cells) (levels_of format depth))

-- ---- one map

all_under_root : (depth code : ℕ) → code < 8 ^ depth → code / 8 ^ depth ≡ 0
all_under_root depth code below = div-eq_of_lt below

-- the same codes
same_codes : (levels number : ℕ) (words : List ℕ) (xs ys : List Cell) → HasMasks words xs (suc levels) 0 number → HasMasks words ys (suc levels) 0 number
    → AreFacedCells (suc levels) xs → AreFacedCells (suc levels) ys → codes_of xs ≡ codes_of ys
same_codes levels number words xs ys x y are_x are_y =
    let depth : ℕ = suc levels in
    let same : (code : ℕ) → code < 8 ^ depth → is_nonempty (face_leaves xs) 0 code ≡ is_nonempty (face_leaves ys) 0 code =
    λ code below. alike_cells words xs ys levels 0 number x y code (all_under_root depth code below) in
    let set_x : AreAllBelow (λ code. is_nonempty (face_leaves xs) 0 code ≡ true) (8 ^ depth) (codes_of xs) = codes_are depth xs are_x in
    let set_y : AreAllBelow (λ code. is_nonempty (face_leaves ys) 0 code ≡ true) (8 ^ depth) (codes_of ys) = codes_are depth ys are_y in
    one_set (λ code. is_nonempty (face_leaves xs) 0 code ≡ true) (8 ^ depth) (codes_of xs) (codes_of ys) set_x
    (record {
      ascending = set_y.ascending;
      inside = set_y.inside;
      right =
          All-weaker (Contains (codes_of ys)) (λ code. is_nonempty (face_leaves xs) 0 code ≡ true)
          (λ code has. same code (All-contains (λ n. n < 8 ^ depth) (codes_of ys) code set_y.inside has) ∙ in_filled ys code has)
          (codes_of ys) (All-contains_itself (codes_of ys));
      complete = λ code below filled. set_y.complete code below (sym (same code below) ∙ filled);
    })

cell_is : (x y : Cell) → x.code ≡ y.code → x.face ≡ y.face → x ≡ y
cell_is x y code face = λ i. record { code = code i; face = face i }

-- the same codes with the same faces
face_at : (cell : Cell) (rest : List Cell) → leaf_word (face_leaves (cell ∷ rest)) cell.code ≡ 1 + 256 * cell.face
face_at cell rest = cond-true (cell.code == cell.code) (1 + 256 * cell.face) (leaf_word (face_leaves rest) cell.code) (eq-eqb cell.code cell.code refl)

face_past : (cell : Cell) (rest : List Cell) (code : ℕ) → cell.code < code → leaf_word (face_leaves (cell ∷ rest)) code ≡ leaf_word (face_leaves rest) code
face_past cell rest code above = cond-false (cell.code == code) (1 + 256 * cell.face) (leaf_word (face_leaves rest) code) (ne_eqb cell.code code (λ same. omega arith))

same_cells : (low : ℕ) (xs ys : List Cell) → codes_of xs ≡ codes_of ys → Ascends low (codes_of xs)
    → ((code : ℕ) → Contains (codes_of xs) code → leaf_word (face_leaves xs) code ≡ leaf_word (face_leaves ys) code) → xs ≡ ys
unfolding Ascends
same_cells low [] [] codes ascending words = refl
same_cells low [] (y ∷ ys) codes ascending words = cc
same_cells low (x ∷ xs) [] codes ascending words = cc
same_cells low (x ∷ xs) (y ∷ ys) codes ascending words =
    let first : x.code ≡ y.code = cc in
    let rest : codes_of xs ≡ codes_of ys = cc in
    let word : 1 + 256 * x.face ≡ 1 + 256 * y.face =
    sym (face_at x xs) ∙ (words x.code (in_first x.code (codes_of xs)) ∙ (ap (leaf_word (face_leaves (y ∷ ys))) first ∙ face_at y ys)) in
    let face : x.face ≡ y.face = omega arith in
    let tail : xs ≡ ys =
    same_cells (x.code + 1) xs ys rest ascending.1
    (λ code has.
    let above : x.code < code = omega (arith, above_low (x.code + 1) (codes_of xs) ascending.1 code has) in
    sym (face_past x xs code above) ∙ (words code (in_rest x.code (codes_of xs) code has) ∙ face_past y ys code (omega (arith, above, first)))) in
    let cell : x ≡ y = cell_is x y first face in
    rw (cell, tail) refl

faceless_same : (xs ys : List Cell) → codes_of xs ≡ codes_of ys → All (λ cell. cell.face ≡ 0) xs → All (λ cell. cell.face ≡ 0) ys → xs ≡ ys
faceless_same [] [] codes none_x none_y = refl
faceless_same [] (y ∷ ys) codes none_x none_y = cc
faceless_same (x ∷ xs) [] codes none_x none_y = cc
faceless_same (x ∷ xs) (y ∷ ys) codes none_x none_y =
    let first : x.code ≡ y.code = cc in
    let rest : codes_of xs ≡ codes_of ys = cc in
    let face : x.face ≡ y.face = All-head (λ (c : Cell). c.face ≡ 0) x xs none_x ∙ sym (All-head (λ (c : Cell). c.face ≡ 0) y ys none_y) in
    let cell : x ≡ y = cell_is x y first face in
    let tail : xs ≡ ys = faceless_same xs ys rest (All-tail (λ (c : Cell). c.face ≡ 0) x xs none_x) (All-tail (λ (c : Cell). c.face ≡ 0) y ys none_y) in
    rw (cell, tail) refl

-- nodes of equal codes
nodes_same : (xs ys : List Cell) → codes_of xs ≡ codes_of ys → (height node : ℕ) → is_nonempty (face_leaves xs) height node ≡ is_nonempty (face_leaves ys) height node
nodes_same [] [] codes height node = refl
nodes_same [] (y ∷ ys) codes height node = cc
nodes_same (x ∷ xs) [] codes height node = cc
nodes_same (x ∷ xs) (y ∷ ys) codes height node =
    let first : x.code ≡ y.code = cc in
    let rest : codes_of xs ≡ codes_of ys = cc in
    rw (first, nodes_same xs ys rest height node) refl

-- in either format masks lead from the root, whose word is the last, to the cells
pub map_has_masks : (format levels number : ℕ) (words : List ℕ) (cells : List Cell) → StandFor format (suc levels) words cells → length words ≡ number + 1 → HasMasks words cells (suc levels) 0 number
map_has_masks format levels number words cells stand long =
    subst (λ ws. HasMasks ws cells (suc levels) 0 number) (sym stand.words_are) (words_have_masks format levels number cells stand.cells_are (sym (ap length stand.words_are) ∙ long))

-- in format 2 words lead to the cells with their faces
pub map_has_faces : (levels number : ℕ) (words : List ℕ) (cells : List Cell) → StandFor 2 (suc levels) words cells → length words ≡ number + 1 → HasTree words (face_leaves cells) (suc levels) 0 number
map_has_faces levels number words cells stand long =
    subst (λ ws. HasTree ws (face_leaves cells) (suc levels) 0 number) (sym stand.words_are) (words_have_faces (suc levels) number cells (sym (ap length stand.words_are) ∙ long))

-- at most one map has these words in a file of this format and depth
pub one_map : (format levels : ℕ) (words : List ℕ) (xs ys : List Cell) → StandFor format (suc levels) words xs → StandFor format (suc levels) words ys → xs ≡ ys
one_map format levels words xs ys x y =
    let some : (number : ℕ) × (length (file_words format (suc levels) xs) ≡ number + 1) = some_words format (suc levels) xs in
    let number : ℕ = some.0 in
    let long : length words ≡ number + 1 = ap length x.words_are ∙ some.1 in
    let codes : codes_of xs ≡ codes_of ys =
    same_codes levels number words xs ys (map_has_masks format levels number words xs x long) (map_has_masks format levels number words ys y long) x.cells_are.map y.cells_are.map in
    elim x.cells_are.known [
      | inl one ↦ faceless_same xs ys codes (x.cells_are.faceless one) (y.cells_are.faceless one)
      | inr two ↦
          let x_two : StandFor 2 (suc levels) words xs = subst (λ f. StandFor f (suc levels) words xs) two x in
          let y_two : StandFor 2 (suc levels) words ys = subst (λ f. StandFor f (suc levels) words ys) two y in
          let tree_x : HasTree words (face_leaves xs) (suc levels) 0 number = map_has_faces levels number words xs x_two long in
          let tree_y : HasTree words (face_leaves ys) (suc levels) 0 number = map_has_faces levels number words ys y_two long in
          same_cells 0 xs ys codes (ascends 0 (codes_of xs) x.cells_are.map.ascending (λ some. omega arith))
          (λ code has.
          (alike words (face_leaves xs) (face_leaves ys) (suc levels) 0 number tree_x tree_y
          (nodes_same xs ys codes (suc levels) 0)
          code (all_under_root (suc levels) code (All-contains (λ n. n < 8 ^ suc levels) (codes_of xs) code (codes_are (suc levels) xs x.cells_are.map).inside has))).word
          (in_filled xs code has))
    ]

code_in : (cells : List Cell) (cell : Cell) → Contains cells cell → Contains (codes_of cells) cell.code
code_in [] cell has = absurd (omega (arith, has.1))
code_in (first ∷ rest) cell (zero, within, is) = subst (λ (c : Cell). Contains (codes_of (first ∷ rest)) c.code) is (in_first first.code (codes_of rest))
code_in (first ∷ rest) cell (suc k, within, is) = in_rest first.code (codes_of rest) cell.code (code_in rest cell (k, omega (arith, within), is))

-- the word of a cell is that of its face
face_of_cell : (low : ℕ) (cells : List Cell) → Ascends low (codes_of cells) → (cell : Cell) → Contains cells cell → leaf_word (face_leaves cells) cell.code ≡ 1 + 256 * cell.face
unfolding Ascends
face_of_cell low [] ascending cell has = absurd (omega (arith, has.1))
face_of_cell low (first ∷ rest) ascending cell (zero, within, is) = subst (λ (c : Cell). leaf_word (face_leaves (first ∷ rest)) c.code ≡ 1 + 256 * c.face) is (face_at first rest)
face_of_cell low (first ∷ rest) ascending cell (suc k, within, is) =
    let later : Contains rest cell = (k, omega (arith, within), is) in
    let above : first.code < cell.code = omega (arith, above_low (first.code + 1) (codes_of rest) ascending.1 cell.code (code_in rest cell later)) in
    face_past first rest cell.code above ∙ face_of_cell (first.code + 1) rest ascending.1 cell later

pub map_face : (depth : ℕ) (cells : List Cell) → AreFacedCells depth cells → (cell : Cell) → Contains cells cell → leaf_word (face_leaves cells) cell.code ≡ 1 + 256 * cell.face
map_face depth cells are cell has = face_of_cell 0 cells (ascends 0 (codes_of cells) are.ascending (λ some. omega arith)) cell has
