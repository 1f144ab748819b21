-- Node files are framed, each is the file of one list of cells, and none is a proper front of another.
use Rattle.std.proofs.Common.{◌≡◌, ℕ, zero, suc, ◌+◌, ◌-◌, ◌*◌, ◌/◌, ◌%◌, ◌^◌, ◌<◌, ◌≤◌, true, false, cond, List, [], ◌∷◌, ◌++◌, length, get_or, refl, sym, ap, subst, ◌∙◌, inl, inr, arith, lit≤, lit<}
use Rattle.std.specs.Prelude.{◌==◌, All}
use Rattle.std.specs.List.{sum_by}
use Rattle.std.proofs.Math.Nat.{pow-le-pow_right}
use Rattle.std.proofs.lemmas.Bool.{cases_Bool, cases_eq, or_cases}
use Rattle.std.proofs.lemmas.List.{append_assoc, length-append, length-map, get_or-append-add, nil_from_length}
use Rattle.std.proofs.lemmas.List.Elements.{All-nil, All-cons, All-head, All-tail, All-append, All-push, All-map, All-get_or}
use Rattle.std.proofs.lemmas.List.Sums.{sum_by-cons}
use Rattle.svo_base.specs.declared.grids.TheConstants.{MAX_DEPTH}
use Rattle.svo_base.specs.GridShape.{GridShape, IsGrid}
use Rattle.octree_specs.specs.Cells.{Cell, codes_of, AreFacedCells}
use Rattle.octree_specs.specs.Formats.{AreCellsIn, face_leaves, mask_leaves, leaves_of, levels_of, file_words}
use Rattle.octree_specs.specs.Octree.{Leaf, is_nonempty, leaf_word, children_of, size_of, word_of, in_turn, below_of, words_of}
use Rattle.octree_specs.specs.OctreeFile.{header_of, trailer_of, frame_of, image_of, IsFramed, IsFileOf, IsNodeFile}
use Rattle.octree_laws.specs.Laws.{AreOneFile}
use Rattle.octree_laws.proofs.Bytes.{bytes_of, length-bytes_of, first_byte}
use Rattle.octree_laws.proofs.Frames.{AreOneFrame, one_frame, length-frame, length-header}
use Rattle.octree_laws.proofs.Maps.{one_map, some_words, words_one, words_two}
use Rattle.octree_laws.proofs.Marks.{IsMarked, HasMarks, words_marked, some_mask}
use Rattle.octree_laws.proofs.MaskLeaves.{leaf_mask, nonempty_same}
use Rattle.octree_laws.proofs.Masks.{mask_front, mask_front-small}
use Rattle.octree_laws.proofs.Rising.{Ascends, ascends}
use Rattle.octree_laws.proofs.Sizes.{size-few, size-suc, length-words_of}
use Rattle.octree_laws.proofs.Under.{div-leaf}

-- ---- words have 64 bits

turn_within : (P : ℕ → Type 0) (limit : ℕ) (size : ℕ → ℕ) (each : ℕ → ℕ → List ℕ) → ((node at : ℕ) → at + size node ≤ limit → All P (each node at))
    → (at : ℕ) (nodes : List ℕ) → at + sum_by size nodes ≤ limit → All P (in_turn size each at nodes)
turn_within P limit size each one at [] within = All-nil P
turn_within P limit size each one at (node ∷ rest) within =
    let total : sum_by size (node ∷ rest) ≡ size node + sum_by size rest = sum_by-cons size node rest in
    All-append P (each node at) (in_turn size each (at + size node) rest) (one node at (omega arith)) (turn_within P limit size each one (at + size node) rest (omega arith))

abbrev IsWide : ℕ → Type 0
IsWide word = word < 2 ^ 64

word_wide : (leaves : List Leaf) → ((node : ℕ) → IsWide (leaf_word leaves node)) → (height node at : ℕ) → at + size_of leaves height node ≤ 2 ^ 42 → IsWide (word_of leaves height node at)
unfolding word_of mask_front
word_wide leaves wide zero node at within = wide node
word_wide leaves wide (suc height) node at within =
    let small : mask_front leaves height node 8 < 2 ^ 8 = mask_front-small leaves height node 8 (lit≤ tt) in
    let size : size_of leaves (suc height) node ≡ sum_by (size_of leaves height) (children_of leaves height node) + length (children_of leaves height node) = size-suc leaves height node in
    omega arith

below_wide : (leaves : List Leaf) → ((node : ℕ) → IsWide (leaf_word leaves node)) → (height node at : ℕ) → at + size_of leaves height node ≤ 2 ^ 42 → All IsWide (below_of leaves height node at)
unfolding below_of
below_wide leaves wide zero node at within = All-nil IsWide
below_wide leaves wide (suc height) node at within =
    let children : List ℕ = children_of leaves height node in
    let size : ℕ → ℕ = size_of leaves height in
    let total : at + sum_by size children ≤ 2 ^ 42 = omega (arith, size-suc leaves height node) in
    All-append IsWide (in_turn size (below_of leaves height) at children) (in_turn size (λ child from. word_of leaves height child from ∷ []) at children)
    (turn_within IsWide (2 ^ 42) size (below_of leaves height) (below_wide leaves wide height) at children total)
    (turn_within IsWide (2 ^ 42) size (λ child from. word_of leaves height child from ∷ [])
    (λ child from fits. All-cons IsWide (word_of leaves height child from) [] (word_wide leaves wide height child from fits) (All-nil IsWide)) at children total)

size-small : (leaves : List Leaf) (levels : ℕ) → levels ≤ MAX_DEPTH → size_of leaves levels 0 ≤ 2 ^ 42
size-small leaves levels shallow =
    let power : 8 ^ suc levels ≤ 8 ^ 13 = pow-le-pow_right {n = 8} (lit< tt) {i = suc levels} {j = 13} (omega arith) in
    omega (arith, size-few leaves levels 0)

words_wide : (leaves : List Leaf) → ((node : ℕ) → IsWide (leaf_word leaves node)) → (levels : ℕ) → levels ≤ MAX_DEPTH → All IsWide (words_of leaves levels)
unfolding words_of
words_wide leaves wide levels shallow =
    let within : 0 + size_of leaves levels 0 ≤ 2 ^ 42 = omega (arith, size-small leaves levels shallow) in
    All-push IsWide (below_of leaves levels 0 0) (word_of leaves levels 0 0) (below_wide leaves wide levels 0 0 within) (word_wide leaves wide levels 0 0 within)

-- ---- the leaves' words, in each format

face_wide : (cells : List Cell) → All (λ cell. cell.face ≤ 2 ^ 32 - 2) cells → (node : ℕ) → IsWide (leaf_word (face_leaves cells) node)
face_wide [] faces node = lit< tt
face_wide (cell ∷ rest) faces node = elim (cases_Bool (cell.code == node)) [
  | inl here ↦ rw here (let face : cell.face ≤ 2 ^ 32 - 2 = All-head (λ (c : Cell). c.face ≤ 2 ^ 32 - 2) cell rest faces in omega arith)
  | inr other ↦ rw other (face_wide rest (All-tail (λ (c : Cell). c.face ≤ 2 ^ 32 - 2) cell rest faces) node)
]

pub face_marked : (cells : List Cell) → HasMarks (face_leaves cells)
unfolding HasMarks
face_marked [] node nonempty = cc
face_marked (cell ∷ rest) node nonempty = elim (cases_Bool (cell.code == node)) [
  | inl here ↦ rw here (λ unmarked. omega (arith, unmarked))
  | inr other ↦
      let same : cell.code / 8 ^ 0 ≡ cell.code = div-leaf cell.code in
      elim (or_cases (cell.code / 8 ^ 0 == node) (is_nonempty (face_leaves rest) 0 node) nonempty) [
        | inl first ↦ absurd (cc (ap (λ n. n == node) same))
        | inr later ↦ rw other (face_marked rest node later)
      ]
]

mask_wide : (levels : ℕ) (cells : List Cell) → All (λ cell. cell.code < 8 ^ suc levels) cells → (node : ℕ) → IsWide (leaf_word (mask_leaves levels cells) node)
mask_wide levels cells inside node =
    let small : mask_front (face_leaves cells) 0 node 8 < 2 ^ 8 = mask_front-small (face_leaves cells) 0 node 8 (lit≤ tt) in
    rw (leaf_mask levels cells inside node) (omega arith)

pub mask_marked : (levels : ℕ) (cells : List Cell) → All (λ cell. cell.code < 8 ^ suc levels) cells → HasMarks (mask_leaves levels cells)
unfolding HasMarks
mask_marked levels cells inside node nonempty =
    let small : mask_front (face_leaves cells) 0 node 8 < 2 ^ 8 = mask_front-small (face_leaves cells) 0 node 8 (lit≤ tt) in
    λ unmarked. some_mask (face_leaves cells) 0 node (sym (nonempty_same levels cells inside 0 node) ∙ nonempty) (omega (arith, leaf_mask levels cells inside node, unmarked, small))

-- ---- in either format

file_wide : (format levels : ℕ) (cells : List Cell) → AreCellsIn format (suc levels) cells → suc levels ≤ MAX_DEPTH → All IsWide (file_words format (suc levels) cells)
file_wide format levels cells are shallow = elim are.known [
  | inl one ↦
      subst (λ f. All IsWide (file_words f (suc levels) cells)) (sym one)
      (subst (All IsWide) (sym (words_one levels cells)) (words_wide (mask_leaves levels cells) (mask_wide levels cells are.map.inside) levels (omega arith)))
  | inr two ↦
      subst (λ f. All IsWide (file_words f (suc levels) cells)) (sym two)
      (subst (All IsWide) (sym (words_two (suc levels) cells)) (words_wide (face_leaves cells) (face_wide cells are.map.faces) (suc levels) shallow))
]

file_marked : (format levels : ℕ) (cells : List Cell) → AreCellsIn format (suc levels) cells → 1 < length (file_words format (suc levels) cells) → All IsMarked (file_words format (suc levels) cells)
file_marked format levels cells are several = elim are.known [
  | inl one ↦
      let here : file_words format (suc levels) cells ≡ words_of (mask_leaves levels cells) levels = ap (λ f. file_words f (suc levels) cells) one ∙ words_one levels cells in
      subst (All IsMarked) (sym here) (words_marked (mask_leaves levels cells) (mask_marked levels cells are.map.inside) levels (omega (arith, several, ap length here)))
  | inr two ↦
      let here : file_words format (suc levels) cells ≡ words_of (face_leaves cells) (suc levels) = ap (λ f. file_words f (suc levels) cells) two ∙ words_two (suc levels) cells in
      subst (All IsMarked) (sym here) (words_marked (face_leaves cells) (face_marked cells) (suc levels) (omega (arith, several, ap length here)))
]

file_few : (format levels : ℕ) (cells : List Cell) → suc levels ≤ MAX_DEPTH → length (file_words format (suc levels) cells) < 2 ^ 64
unfolding file_words
file_few format levels cells shallow =
    let lower : levels_of format (suc levels) ≤ MAX_DEPTH = elim (format == 1) as (λ b. cond b (suc levels - 1) (suc levels) ≤ MAX_DEPTH) [ true ↦ omega arith | false ↦ shallow ] in
    omega (arith, length-words_of (leaves_of format (suc levels) cells) (levels_of format (suc levels)), size-small (leaves_of format (suc levels) cells) (levels_of format (suc levels)) lower)

-- no more cells than codes
ascends-length : (low limit : ℕ) (numbers : List ℕ) → Ascends low numbers → All (λ n. n < limit) numbers → low ≤ limit → low + length numbers ≤ limit
unfolding Ascends
ascends-length low limit [] ascending inside room = omega arith
ascends-length low limit (n ∷ rest) ascending inside room =
    let below : n < limit = All-head (λ m. m < limit) n rest inside in
    let more : n + 1 + length rest ≤ limit = ascends-length (n + 1) limit rest ascending.1 (All-tail (λ m. m < limit) n rest inside) (omega arith) in
    omega (arith, ascending.0)

cells-few : (depth : ℕ) (cells : List Cell) → AreFacedCells depth cells → length cells ≤ 8 ^ depth
cells-few depth cells are =
    let all : 0 + length (codes_of cells) ≤ 8 ^ depth =
    ascends-length 0 (8 ^ depth) (codes_of cells) (ascends 0 (codes_of cells) are.ascending (λ some. omega arith)) (All-map (λ n. n < 8 ^ depth) (λ (cell : Cell). cell.code) cells are.inside) (omega arith) in
    omega (arith, all, length-map cells (λ (cell : Cell). cell.code))

-- ---- files

pub at_depth : (depth : ℕ) → 1 ≤ depth → (levels : ℕ) × (depth ≡ suc levels)
at_depth zero some = absurd (omega arith)
at_depth (suc levels) some = (levels, refl)

-- a node file is framed
pub file_framed : (format : ℕ) (grid : GridShape) (cells : List Cell) (bytes : List ℕ) → IsFileOf format grid cells bytes → IsFramed format grid (file_words format grid.depth cells) (length cells) bytes
unfolding image_of
file_framed format grid cells bytes file =
    let deep : (levels : ℕ) × (grid.depth ≡ suc levels) = at_depth grid.depth file.limits.halved in
    let levels : ℕ = deep.0 in
    let are : AreCellsIn format (suc levels) cells = subst (λ d. AreCellsIn format d cells) deep.1 file.cells_are in
    let shallow : suc levels ≤ MAX_DEPTH = omega (arith, deep.1, file.limits.shallow) in
    let some : (number : ℕ) × (length (file_words format grid.depth cells) ≡ number + 1) = some_words format grid.depth cells in
    let power : 8 ^ suc levels ≤ 8 ^ MAX_DEPTH = pow-le-pow_right {n = 8} (lit< tt) {i = suc levels} {j = MAX_DEPTH} shallow in
    record {
      known = file.cells_are.known;
      limits = file.limits;
      some = omega (arith, some.1);
      few = subst (λ d. length (file_words format d cells) < 2 ^ 64) (sym deep.1) (file_few format levels cells shallow);
      wide = subst (λ d. All IsWide (file_words format d cells)) (sym deep.1) (file_wide format levels cells are shallow);
      count = omega (arith, cells-few (suc levels) cells are.map);
      frame = file.image;
    }

-- bytes are the file of one grid and one list of cells, in one format
pub one_file : (bytes : List ℕ) (f g : ℕ) (grid other : GridShape) (xs ys : List Cell) → IsFileOf f grid xs bytes → IsFileOf g other ys bytes → AreOneFile f g grid other xs ys
one_file bytes f g grid other xs ys x y =
    let one : AreOneFrame f g grid other (file_words f grid.depth xs) (file_words g other.depth ys) (length xs) (length ys) =
    one_frame bytes f g grid other (file_words f grid.depth xs) (file_words g other.depth ys) (length xs) (length ys) (file_framed f grid xs bytes x) (file_framed g other ys bytes y) in
    let deep : (levels : ℕ) × (grid.depth ≡ suc levels) = at_depth grid.depth x.limits.halved in
    let levels : ℕ = deep.0 in
    let depths : other.depth ≡ suc levels = sym (ap (λ (h : GridShape). h.depth) one.grids) ∙ deep.1 in
    let are_y : AreCellsIn f (suc levels) ys = subst (λ h. AreCellsIn h (suc levels) ys) (sym one.formats) (subst (λ d. AreCellsIn g d ys) depths y.cells_are) in
    let words_y : file_words f (suc levels) xs ≡ file_words f (suc levels) ys =
    ap (λ d. file_words f d xs) (sym deep.1) ∙ (one.words ∙ (ap (λ d. file_words g d ys) depths ∙ ap (λ h. file_words h (suc levels) ys) (sym one.formats))) in
    record {
      formats = one.formats;
      grids = one.grids;
      cells = one_map f levels (file_words f (suc levels) xs) xs ys
          (record { cells_are = subst (λ d. AreCellsIn f d xs) deep.1 x.cells_are; words_are = refl })
          (record { cells_are = are_y; words_are = words_y });
    }

-- ---- no proper front

-- a framed file's trailer begins with a zero, behind its words
zero_behind : (format : ℕ) (grid : GridShape) (words : List ℕ) (cells : ℕ) (rest : List ℕ) → IsGrid grid → get_or (frame_of format grid words cells ++ rest) (48 + 8 * length words) 0 ≡ 0
unfolding frame_of trailer_of
zero_behind format grid words cells rest limits =
    let head : List ℕ = header_of format grid ++ bytes_of words in
    let long : 48 + 8 * length words ≡ length head + 0 = omega (arith, length-append (header_of format grid) (bytes_of words), length-header format grid limits, length-bytes_of words) in
    ap (λ bytes. get_or bytes (48 + 8 * length words) 0) (append_assoc head (trailer_of format (length words) cells) rest)
    ∙ (ap (λ n. get_or (head ++ (trailer_of format (length words) cells ++ rest)) n 0) long ∙ get_or-append-add head (trailer_of format (length words) cells ++ rest) 0 0)

-- the first byte of a word of a framed file
byte_of_word : (format : ℕ) (grid : GridShape) (words : List ℕ) (cells k : ℕ) → IsGrid grid → k < length words → get_or (frame_of format grid words cells) (48 + 8 * k) 0 ≡ get_or words k 0 % 256
unfolding frame_of
byte_of_word format grid words cells k limits within =
    let trailer : List ℕ = trailer_of format (length words) cells in
    let start : 48 + 8 * k ≡ length (header_of format grid) + 8 * k = omega (arith, length-header format grid limits) in
    ap (λ bytes. get_or bytes (48 + 8 * k) 0) (append_assoc (header_of format grid) (bytes_of words) trailer)
    ∙ (ap (λ n. get_or (header_of format grid ++ (bytes_of words ++ trailer)) n 0) start
    ∙ (get_or-append-add (header_of format grid) (bytes_of words ++ trailer) (8 * k) 0 ∙ first_byte words k trailer within))

file_words_marked : (format : ℕ) (grid : GridShape) (cells : List Cell) (bytes : List ℕ) → IsFileOf format grid cells bytes
    → 1 < length (file_words format grid.depth cells) → All IsMarked (file_words format grid.depth cells)
file_words_marked format grid cells bytes file several =
    let deep : (levels : ℕ) × (grid.depth ≡ suc levels) = at_depth grid.depth file.limits.halved in
    let are : AreCellsIn format (suc deep.0) cells = subst (λ d. AreCellsIn format d cells) deep.1 file.cells_are in
    subst (λ d. All IsMarked (file_words format d cells)) (sym deep.1) (file_marked format deep.0 cells are (subst (λ d. 1 < length (file_words format d cells)) deep.1 several))

-- bytes behind a node file, with which it were another one
no_longer : (front rest : List ℕ) → IsNodeFile front → IsNodeFile (front ++ rest) → 0 < length rest → ⊥
unfolding image_of
no_longer front rest short long more =
    let xs : List ℕ = file_words short.format short.grid.depth short.cells in
    let ys : List ℕ = file_words long.format long.grid.depth long.cells in
    let m : ℕ = length short.cells in
    let n : ℕ = length long.cells in
    let some : (number : ℕ) × (length xs ≡ number + 1) = some_words short.format short.grid.depth short.cells in
    let long_front : length front ≡ 80 + 8 * length xs = ap length short.file.image ∙ length-frame short.format short.grid xs m short.file.limits in
    let long_whole : length (front ++ rest) ≡ 80 + 8 * length ys = ap length long.file.image ∙ length-frame long.format long.grid ys n long.file.limits in
    let fewer : length xs < length ys = omega (arith, long_front, long_whole, length-append front rest) in
    let marked : All IsMarked ys = file_words_marked long.format long.grid long.cells (front ++ rest) long.file (omega (arith, some.1, fewer)) in
    let zero_byte : get_or (front ++ rest) (48 + 8 * length xs) 0 ≡ 0 =
    ap (λ bytes. get_or (bytes ++ rest) (48 + 8 * length xs) 0) short.file.image ∙ zero_behind short.format short.grid xs m rest short.file.limits in
    let word_byte : get_or (front ++ rest) (48 + 8 * length xs) 0 ≡ get_or ys (length xs) 0 % 256 =
    ap (λ bytes. get_or bytes (48 + 8 * length xs) 0) long.file.image ∙ byte_of_word long.format long.grid ys n (length xs) long.file.limits fewer in
    All-get_or IsMarked ys (length xs) 0 fewer marked (sym word_byte ∙ zero_byte)

-- no node file is a proper front of one
pub no_proper_front : (front rest : List ℕ) → IsNodeFile front → IsNodeFile (front ++ rest) → rest ≡ []
no_proper_front front rest short long =
    let none : 0 < length rest → ⊥ = no_longer front rest short long in
    nil_from_length rest (elim (cases_eq (length rest) 0) [ inl empty ↦ empty | inr some ↦ absurd (none (omega (arith, some))) ])
