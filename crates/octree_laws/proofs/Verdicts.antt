-- The checker refuses nothing exactly where the words stand for some cells, as many as it is told.
use Rattle.std.proofs.Common.{◌≡◌, ℕ, zero, suc, ◌+◌, ◌-◌, ◌*◌, ◌/◌, ◌%◌, ◌^◌, ◌<◌, ◌≤◌, Bool, true, false, cond, List, [], ◌∷◌, ◌++◌, length, get_or, map, Option, None, Some, Result, Ok, Err, refl, sym, ap, subst, ◌∙◌, inl, inr, arith, lit≤, add-zero, zero-add}
use Rattle.std.specs.Prelude.{◌==◌, slice_index, All}
use Rattle.std.specs.List.{sum_by, filter, range_with_len}
use Rattle.std.proofs.Math.Nat.{div-eq_of_lt}
use Rattle.std.proofs.lemmas.Bool.{cases_Bool, eqb-true, eq-eqb, and_parts, false_from_ne_true, or_left}
use Rattle.std.proofs.lemmas.List.{length_push, same_lists, get_or_default}
use Rattle.std.proofs.lemmas.List.Elements.{All-head, All-tail, All-nil, All-cons, All-weaker}
use Rattle.octree_specs.specs.Cells.{Cell, codes_of, AreFacedCells}
use Rattle.octree_specs.specs.Checking.{LeafRule, Fitted, mask_rule, face_rule, rule_of, fit, is_empty_tree, refused_by, refused_in}
use Rattle.octree_specs.specs.Formats.{IsFormat, AreCellsIn, StandFor, face_leaves, mask_leaves, levels_of, file_words}
use Rattle.octree_specs.specs.Octree.{Leaf, is_nonempty, first_children, mask_of, size_of, word_of, in_turn, below_of, words_of}
use Rattle.octree_specs.specs.Walking.{HasTree}
use Rattle.octree_laws.specs.Laws.{StandForMany}
use Rattle.octree_laws.proofs.Counting.{count_all}
use Rattle.octree_laws.proofs.Fitted.{IsFitted, is_fitted, holds-append}
use Rattle.octree_laws.proofs.Fitting.{weigh, good, fitted, AreLawful, Passes, passes}
use Rattle.octree_laws.proofs.Maps.{words_one, words_two}
use Rattle.octree_laws.proofs.MaskLeaves.{no_children, nonempty_same, nonempty_up}
use Rattle.octree_laws.proofs.Images.{face_marked, mask_marked}
use Rattle.octree_laws.proofs.Marks.{HasMarks, word_marked}
use Rattle.octree_laws.proofs.Reading.{read_cells, read_run, IsRun}
use Rattle.octree_laws.proofs.ReadTrees.{HasBits, HasCode, bits_one, bits_two, some_code, Agrees, face_in, no_face, tree_one, tree_two, faces_two, faces_none}
use Rattle.octree_laws.proofs.Rising.{Ascends, ascends, increasing}
use Rattle.octree_laws.proofs.Sizes.{length-below_of, length-words_of}
use Rattle.octree_laws.proofs.Standing.{Holds, Stands, root_stands}
use Rattle.octree_laws.proofs.Soundness.{IsSound, sound}
use Rattle.octree_laws.proofs.Weights.{weigh_one, weigh_two, lawful_one, lawful_two}

-- ---- from the words of a node to all words

holds_at : (words : List ℕ) (at : ℕ) (xs : List ℕ) → Holds words at xs → (k : ℕ) → k < length xs → get_or words (at + k) 0 ≡ get_or xs k 0
unfolding Holds
holds_at words at [] holds k below = absurd (omega (arith, below))
holds_at words at (x ∷ xs) holds zero below = ap (λ n. get_or words n 0) (add-zero at) ∙ holds.0
holds_at words at (x ∷ xs) holds (suc k) below =
    let e : at + suc k ≡ at + 1 + k = omega arith in
    ap (λ n. get_or words n 0) e ∙ holds_at words (at + 1) xs holds.1 k (omega (arith, below))

holds_whole : (words xs : List ℕ) → Holds words 0 xs → length xs ≡ length words → words ≡ xs
holds_whole words xs holds long =
    same_lists words xs (sym long)
    (λ k d within.
    let inside : k < length xs = omega (arith, long, within) in
    get_or_default words k d 0 within ∙ (ap (λ n. get_or words n 0) (sym (zero-add k)) ∙ (holds_at words 0 xs holds k inside ∙ get_or_default xs k 0 d inside)))

-- words that begin with those below the root, and end with the root's, are the octree's
words_are : (words : List ℕ) (leaves : List Leaf) (levels number : ℕ) → length words ≡ number + 1 → number ≡ size_of leaves levels 0 → Holds words 0 (below_of leaves levels 0 0)
    → slice_index words number ≡ word_of leaves levels 0 0 → words ≡ words_of leaves levels
unfolding words_of Holds
words_are words leaves levels number long size below own =
    let behind : 0 + length (below_of leaves levels 0 0) ≡ number = omega (arith, size, length-below_of leaves levels 0 0) in
    let root : Holds words number (word_of leaves levels 0 0 ∷ []) = (own, tt) in
    holds_whole words (below_of leaves levels 0 0 ++ word_of leaves levels 0 0 ∷ [])
    (holds-append words 0 (below_of leaves levels 0 0) (word_of leaves levels 0 0 ∷ []) below (subst (λ n. Holds words n (word_of leaves levels 0 0 ∷ [])) (sym behind) root))
    (omega (arith, long, size, length_push (below_of leaves levels 0 0) (word_of leaves levels 0 0), length-below_of leaves levels 0 0))

-- ---- the root

-- an answer that refuses nothing
record IsAccepted (records cells : ℕ) (answer : Result Fitted ℕ) : Type 0 where
  root : Fitted
  is : answer ≡ good root
  next : root.next ≡ records - 1
  count : root.cells ≡ cells

none_test : (b : Bool) (n : ℕ) (other : Option ℕ) → cond b other (Some n) ≡ None → (b ≡ true) × (other ≡ None)
none_test true n other is = (refl, is)
none_test false n other is = cc

if_accepted : (records cells : ℕ) (answer : Result Fitted ℕ) → refused_by records cells answer ≡ None → IsAccepted records cells answer
unfolding good
if_accepted records cells (Err n) is = cc
if_accepted records cells (Ok root) is =
    let outer : ((root.next == records - 1) ≡ true) × (cond (root.cells == cells) None (Some records) ≡ None) = none_test (root.next == records - 1) (records - 1) (cond (root.cells == cells) None (Some records)) is in
    let nothing : Option ℕ = None in
    let inner : ((root.cells == cells) ≡ true) × (nothing ≡ None) = none_test (root.cells == cells) records nothing outer.1 in
    record { root = root; is = refl; next = eqb-true root.next (records - 1) outer.0; count = eqb-true root.cells cells inner.0 }

accepted_root : (records cells : ℕ) (answer : Result Fitted ℕ) → IsAccepted records cells answer → refused_by records cells answer ≡ None
unfolding good
accepted_root records cells answer accepted =
    ap (refused_by records cells) accepted.is
    ∙ rw (eq-eqb accepted.root.next (records - 1) accepted.next, eq-eqb accepted.root.cells cells accepted.count) refl

-- the words of an octree with leaves
root_passes : (rule : LeafRule) (leaves : List Leaf) (levels number cells : ℕ) (words : List ℕ) → AreLawful rule leaves → is_nonempty leaves levels 0 ≡ true → words ≡ words_of leaves levels
    → length words ≡ number + 1 → weigh rule leaves levels 0 ≡ cells → IsAccepted (length words) cells (fit rule words levels (length words - 1) 0)
unfolding Passes fitted
root_passes rule leaves levels number cells words lawful nonempty are long weight =
    let last : length words - 1 ≡ number = omega arith in
    let stands : Stands words leaves levels 0 0 number =
    subst (λ ws. Stands ws leaves levels 0 0 number) (sym are) (root_stands leaves levels number (sym (ap length are) ∙ long)) in
    let passed : fit rule words levels number 0 ≡ good (fitted (0 + size_of leaves levels 0) (weigh rule leaves levels 0)) = passes rule words leaves lawful levels 0 0 number stands nonempty in
    record {
      root = fitted (0 + size_of leaves levels 0) (weigh rule leaves levels 0);
      is = ap (λ n. fit rule words levels n 0) last ∙ passed;
      next = omega (arith, long, ap length are, length-words_of leaves levels);
      count = weight;
    }

-- they are not those of the empty octree
not_empty : (leaves : List Leaf) (levels number : ℕ) (words : List ℕ) → HasMarks leaves → is_nonempty leaves levels 0 ≡ true → words ≡ words_of leaves levels → length words ≡ number + 1 → is_empty_tree words ≡ false
not_empty leaves levels number words marks nonempty are long =
    false_from_ne_true (is_empty_tree words) (λ empty.
    let parts : ((length words == 1) ≡ true) × ((slice_index words 0 == 0) ≡ true) = and_parts (length words == 1) (slice_index words 0 == 0) empty in
    let first : number ≡ 0 = omega (arith, eqb-true (length words) 1 parts.0) in
    let stands : Stands words leaves levels 0 0 number =
    subst (λ ws. Stands ws leaves levels 0 0 number) (sym are) (root_stands leaves levels number (sym (ap length are) ∙ long)) in
    let root : word_of leaves levels 0 0 ≡ 0 = sym stands.own ∙ (ap (slice_index words) first ∙ eqb-true (slice_index words 0) 0 parts.1) in
    word_marked leaves marks levels 0 0 nonempty (ap (λ w. w % 256) root))

-- ---- no cells

empty_below : (levels : ℕ) → below_of [] levels 0 0 ≡ []
unfolding below_of
empty_below zero = refl
empty_below (suc levels) =
    ap (λ nodes. in_turn (size_of [] levels) (below_of [] levels) 0 nodes ++ in_turn (size_of [] levels) (λ child from. word_of [] levels child from ∷ []) 0 nodes) (no_children [] levels 0 refl 8 (lit≤ tt))

empty_word : (levels : ℕ) → word_of [] levels 0 0 ≡ 0
unfolding word_of
empty_word zero = refl
empty_word (suc levels) = ap (λ nodes. mask_of nodes + 256 * (0 + sum_by (size_of [] levels) nodes)) (no_children [] levels 0 refl 8 (lit≤ tt))

empty_words : (levels : ℕ) → words_of [] levels ≡ 0 ∷ []
unfolding words_of
empty_words levels = rw (empty_below levels, empty_word levels) refl

none_pass : (nodes : List ℕ) → filter (is_nonempty (face_leaves []) 1) nodes ≡ []
none_pass [] = refl
none_pass (n ∷ rest) = none_pass rest

no_masks : (levels : ℕ) → mask_leaves levels [] ≡ []
unfolding mask_leaves
no_masks levels = ap (λ nodes. map (λ node. let leaf : Leaf = record { node = node; word = mask_of (first_children (face_leaves []) 0 node 8) } in leaf) nodes) (none_pass (range_with_len 0 (8 ^ levels)))

pub empty_file : (format levels : ℕ) → IsFormat format → file_words format (suc levels) [] ≡ 0 ∷ []
empty_file format levels known = elim known [
  | inl one ↦ ap (λ f. file_words f (suc levels) []) one ∙ (words_one levels [] ∙ (ap (λ leaves. words_of leaves levels) (no_masks levels) ∙ empty_words levels))
  | inr two ↦ ap (λ f. file_words f (suc levels) []) two ∙ (words_two (suc levels) [] ∙ empty_words (suc levels))
]

no_cells : (format depth : ℕ) → IsFormat format → AreCellsIn format depth []
no_cells format depth known = record {
  known = known;
  map = record {
    ascending = λ k within. absurd (omega (arith, within));
    inside = All-nil (λ (cell : Cell). cell.code < 8 ^ depth);
    faces = All-nil (λ (cell : Cell). cell.face ≤ 2 ^ 32 - 2);
  };
  faceless = λ one. All-nil (λ (cell : Cell). cell.face ≡ 0);
}

-- ---- cells read from words that are accepted

codes_inside : (limit : ℕ) (cells : List Cell) → All (λ code. code < limit) (codes_of cells) → All (λ cell. cell.code < limit) cells
codes_inside limit [] inside = All-nil (λ (cell : Cell). cell.code < limit)
codes_inside limit (cell ∷ rest) inside =
    All-cons (λ (c : Cell). c.code < limit) cell rest (All-head (λ code. code < limit) cell.code (codes_of rest) inside) (codes_inside limit rest (All-tail (λ code. code < limit) cell.code (codes_of rest) inside))

-- what is read from the root on
record AreRead (face : ℕ → ℕ) (words : List ℕ) (depth number : ℕ) (cells : List Cell) : Type 0 where
  rises : Ascends 0 (codes_of cells)
  inside : All (λ cell. cell.code < 8 ^ depth) cells
  nonempty : is_nonempty (face_leaves cells) depth 0 ≡ true
  agrees : Agrees face words cells depth number 0

are_read : (face : ℕ → ℕ) (words : List ℕ) (depth number : ℕ) → HasBits words depth number → AreRead face words depth number (read_cells face words depth number 0)
unfolding Agrees
are_read face words depth number bits =
    let cells : List Cell = read_cells face words depth number 0 in
    let low : 0 * 8 ^ depth ≡ 0 = omega arith in
    let high : (0 + 1) * 8 ^ depth ≡ 8 ^ depth = omega arith in
    let run : IsRun 0 (8 ^ depth) cells = subst (λ n. IsRun n (8 ^ depth) cells) low (subst (λ n. IsRun (0 * 8 ^ depth) n cells) high (read_run face words depth number 0)) in
    let code : HasCode cells depth 0 = some_code face words depth number 0 bits in
    record {
      rises = run.rises;
      inside = codes_inside (8 ^ depth) cells run.below;
      nonempty = subst (λ n. is_nonempty (face_leaves cells) depth n ≡ true) code.up (nonempty_up (face_leaves cells) depth code.code code.has);
      agrees = λ c up. record { has = refl; word = refl };
    }

faced : (face : ℕ → ℕ) (words : List ℕ) (depth number : ℕ) (cells : List Cell) → AreRead face words depth number cells → All (λ cell. cell.face ≤ 2 ^ 32 - 2) cells → AreFacedCells depth cells
faced face words depth number cells read faces = record { ascending = increasing 0 (codes_of cells) read.rises; inside = read.inside; faces = faces }

read_two : (levels number count : ℕ) (words : List ℕ) → length words ≡ number + 1 → IsAccepted (length words) count (fit face_rule words (suc levels) (length words - 1) 0) → StandForMany 2 (suc levels) words count
read_two levels number count words long accepted =
    let depth : ℕ = suc levels in
    let last : length words - 1 ≡ number = omega arith in
    let fits : fit face_rule words depth number 0 ≡ good accepted.root = ap (λ n. fit face_rule words depth n 0) (sym last) ∙ accepted.is in
    let is_sound : IsSound face_rule words depth number = sound face_rule words depth number 0 accepted.root fits in
    let cells : List Cell = read_cells (face_in words) words depth number 0 in
    let read : AreRead (face_in words) words depth number cells = are_read (face_in words) words depth number (bits_two words depth number is_sound) in
    let tree : HasTree words (face_leaves cells) depth 0 number = tree_two words cells (8 ^ depth) read.inside depth number 0 is_sound read.agrees in
    let fitted_root : IsFitted face_rule words (face_leaves cells) depth 0 0 number accepted.root = is_fitted face_rule words (face_leaves cells) depth 0 0 number accepted.root tree fits in
    let are : words ≡ words_of (face_leaves cells) depth =
    words_are words (face_leaves cells) depth number long (omega (arith, accepted.next, fitted_root.next, last)) fitted_root.below fitted_root.own in
    record {
      cells = cells;
      stand = record {
        cells_are = record {
          known = inr refl;
          map = faced (face_in words) words depth number cells read (faces_two words depth number 0 is_sound);
          faceless = λ one. absurd (omega (arith, one));
        };
        words_are = are ∙ sym (words_two depth cells);
      };
      count_is = sym (count_all depth cells read.inside) ∙ (sym (weigh_two cells read.rises depth 0 read.nonempty) ∙ (sym fitted_root.cells ∙ accepted.count));
    }

read_one : (levels number count : ℕ) (words : List ℕ) → length words ≡ number + 1 → IsAccepted (length words) count (fit mask_rule words levels (length words - 1) 0) → StandForMany 1 (suc levels) words count
read_one levels number count words long accepted =
    let depth : ℕ = suc levels in
    let last : length words - 1 ≡ number = omega arith in
    let fits : fit mask_rule words levels number 0 ≡ good accepted.root = ap (λ n. fit mask_rule words levels n 0) (sym last) ∙ accepted.is in
    let is_sound : IsSound mask_rule words levels number = sound mask_rule words levels number 0 accepted.root fits in
    let cells : List Cell = read_cells no_face words depth number 0 in
    let read : AreRead no_face words depth number cells = are_read no_face words depth number (bits_one words levels number is_sound) in
    let leaves : List Leaf = mask_leaves levels cells in
    let tree : HasTree words leaves levels 0 number = tree_one words levels cells read.inside levels number 0 is_sound read.agrees in
    let fitted_root : IsFitted mask_rule words leaves levels 0 0 number accepted.root = is_fitted mask_rule words leaves levels 0 0 number accepted.root tree fits in
    let are : words ≡ words_of leaves levels = words_are words leaves levels number long (omega (arith, accepted.next, fitted_root.next, last)) fitted_root.below fitted_root.own in
    let nonempty : is_nonempty leaves levels 0 ≡ true = nonempty_same levels cells read.inside levels 0 ∙ read.nonempty in
    let none : All (λ cell. cell.face ≡ 0) cells = faces_none words depth number 0 in
    record {
      cells = cells;
      stand = record {
        cells_are = record {
          known = inl refl;
          map = faced no_face words depth number cells read (All-weaker (λ (cell : Cell). cell.face ≡ 0) (λ (cell : Cell). cell.face ≤ 2 ^ 32 - 2) (λ cell zero_face. omega (arith, zero_face)) cells none);
          faceless = λ one. none;
        };
        words_are = are ∙ sym (words_one levels cells);
      };
      count_is = sym (count_all depth cells read.inside) ∙ (sym (weigh_one levels cells read.inside read.rises levels 0 nonempty) ∙ (sym fitted_root.cells ∙ accepted.count));
    }

holds_one : (words : List ℕ) (at word : ℕ) → slice_index words at ≡ word → Holds words at (word ∷ [])
unfolding Holds
holds_one words at word is = (is, tt)

-- the one word 0
one_zero : (words : List ℕ) → is_empty_tree words ≡ true → words ≡ 0 ∷ []
one_zero words empty =
    let parts : ((length words == 1) ≡ true) × ((slice_index words 0 == 0) ≡ true) = and_parts (length words == 1) (slice_index words 0 == 0) empty in
    let long : length words ≡ 1 = eqb-true (length words) 1 parts.0 in
    let word : slice_index words 0 ≡ 0 = eqb-true (slice_index words 0) 0 parts.1 in
    holds_whole words (0 ∷ []) (holds_one words 0 0 word) (sym long)

pub stand_if_accepted : (format levels count : ℕ) (words : List ℕ) → IsFormat format → 0 < length words → refused_in format (suc levels) words count ≡ None → StandForMany format (suc levels) words count
unfolding refused_in
stand_if_accepted format levels count words known some accepted =
    let number : ℕ = length words - 1 in
    let long : length words ≡ number + 1 = omega arith in
    let nothing : Option ℕ = None in
    elim (cases_Bool (is_empty_tree words)) [
      | inl empty ↦
          let counted : cond (count == 0) None (Some 1) ≡ None = rw empty at accepted in
          let none : ((count == 0) ≡ true) × (nothing ≡ None) = none_test (count == 0) 1 nothing counted in
          record {
            cells = [];
            stand = record { cells_are = no_cells format (suc levels) known; words_are = one_zero words empty ∙ sym (empty_file format levels known) };
            count_is = sym (eqb-true count 0 none.0);
          }
      | inr several ↦
          let root : IsAccepted (length words) count (fit (rule_of format) words (levels_of format (suc levels)) number 0) =
          if_accepted (length words) count (fit (rule_of format) words (levels_of format (suc levels)) number 0) (rw several at accepted) in
          elim known [
            | inl one ↦
                let down : suc levels - 1 ≡ levels = omega arith in
                let root_one : IsAccepted (length words) count (fit mask_rule words (suc levels - 1) number 0) =
                subst (λ f. IsAccepted (length words) count (fit (rule_of f) words (levels_of f (suc levels)) number 0)) one root in
                subst (λ f. StandForMany f (suc levels) words count) (sym one)
                (read_one levels number count words long (subst (λ l. IsAccepted (length words) count (fit mask_rule words l number 0)) down root_one))
            | inr two ↦
                subst (λ f. StandForMany f (suc levels) words count) (sym two)
                (read_two levels number count words long (subst (λ f. IsAccepted (length words) count (fit (rule_of f) words (levels_of f (suc levels)) number 0)) two root))
          ]
    ]

-- ---- words that stand for cells are accepted

root_filled : (depth : ℕ) (cell : Cell) (rest : List Cell) → All (λ cell. cell.code < 8 ^ depth) (cell ∷ rest) → is_nonempty (face_leaves (cell ∷ rest)) depth 0 ≡ true
root_filled depth cell rest inside =
    or_left (cell.code / 8 ^ depth == 0) (is_nonempty (face_leaves rest) depth 0)
    (eq-eqb (cell.code / 8 ^ depth) 0 (div-eq_of_lt (All-head (λ (c : Cell). c.code < 8 ^ depth) cell rest inside)))

-- what the checker says of the words of an octree with leaves
verdict_with : (rule : LeafRule) (leaves : List Leaf) (levels number count : ℕ) (words : List ℕ) → AreLawful rule leaves → HasMarks leaves → is_nonempty leaves levels 0 ≡ true → words ≡ words_of leaves levels
    → length words ≡ number + 1 → weigh rule leaves levels 0 ≡ count
    → cond (is_empty_tree words) (cond (count == 0) None (Some 1)) (refused_by (length words) count (fit rule words levels (length words - 1) 0)) ≡ None
verdict_with rule leaves levels number count words lawful marks nonempty are long weight =
    rw (not_empty leaves levels number words marks nonempty are long)
    (accepted_root (length words) count (fit rule words levels (length words - 1) 0) (root_passes rule leaves levels number count words lawful nonempty are long weight))

pass_two : (levels : ℕ) (words : List ℕ) (cell : Cell) (rest : List Cell) → StandFor 2 (suc levels) words (cell ∷ rest) → refused_in 2 (suc levels) words (length (cell ∷ rest)) ≡ None
unfolding refused_in
pass_two levels words cell rest stand =
    let cells : List Cell = cell ∷ rest in
    let depth : ℕ = suc levels in
    let are : words ≡ words_of (face_leaves cells) depth = stand.words_are ∙ words_two depth cells in
    let map_is : AreFacedCells depth cells = stand.cells_are.map in
    let nonempty : is_nonempty (face_leaves cells) depth 0 ≡ true = root_filled depth cell rest map_is.inside in
    let rises : Ascends 0 (codes_of cells) = ascends 0 (codes_of cells) map_is.ascending (λ some. omega arith) in
    verdict_with face_rule (face_leaves cells) depth (size_of (face_leaves cells) depth 0) (length cells) words (lawful_two cells map_is.faces) (face_marked cells) nonempty are
    (ap length are ∙ length-words_of (face_leaves cells) depth)
    (weigh_two cells rises depth 0 nonempty ∙ count_all depth cells map_is.inside)

pass_one : (levels : ℕ) (words : List ℕ) (cell : Cell) (rest : List Cell) → StandFor 1 (suc levels) words (cell ∷ rest) → refused_in 1 (suc levels) words (length (cell ∷ rest)) ≡ None
unfolding refused_in
pass_one levels words cell rest stand =
    let cells : List Cell = cell ∷ rest in
    let leaves : List Leaf = mask_leaves levels cells in
    let are : words ≡ words_of leaves levels = stand.words_are ∙ words_one levels cells in
    let map_is : AreFacedCells (suc levels) cells = stand.cells_are.map in
    let nonempty : is_nonempty leaves levels 0 ≡ true = nonempty_same levels cells map_is.inside levels 0 ∙ root_filled (suc levels) cell rest map_is.inside in
    let rises : Ascends 0 (codes_of cells) = ascends 0 (codes_of cells) map_is.ascending (λ some. omega arith) in
    let down : suc levels - 1 ≡ levels = omega arith in
    subst (λ l. cond (is_empty_tree words) (cond (length cells == 0) None (Some 1)) (refused_by (length words) (length cells) (fit mask_rule words l (length words - 1) 0)) ≡ None) (sym down)
    (verdict_with mask_rule leaves levels (size_of leaves levels 0) (length cells) words (lawful_one levels cells map_is.inside) (mask_marked levels cells map_is.inside) nonempty are
    (ap length are ∙ length-words_of leaves levels)
    (weigh_one levels cells map_is.inside rises levels 0 nonempty ∙ count_all (suc levels) cells map_is.inside))

pass_empty : (format levels : ℕ) (words : List ℕ) → words ≡ 0 ∷ [] → refused_in format (suc levels) words 0 ≡ None
unfolding refused_in
pass_empty format levels words are = subst (λ ws. cond (is_empty_tree ws) (cond (0 == 0) None (Some 1)) (refused_by (length ws) 0 (fit (rule_of format) ws (levels_of format (suc levels)) (length ws - 1) 0)) ≡ None) (sym are) refl

pub accepted_if_stand : (format levels : ℕ) (words : List ℕ) (cells : List Cell) → StandFor format (suc levels) words cells → refused_in format (suc levels) words (length cells) ≡ None
accepted_if_stand format levels words [] stand = pass_empty format levels words (stand.words_are ∙ empty_file format levels stand.cells_are.known)
accepted_if_stand format levels words (cell ∷ rest) stand = elim stand.cells_are.known [
  | inl one ↦
      subst (λ f. refused_in f (suc levels) words (length (cell ∷ rest)) ≡ None) (sym one) (pass_one levels words cell rest (subst (λ f. StandFor f (suc levels) words (cell ∷ rest)) one stand))
  | inr two ↦
      subst (λ f. refused_in f (suc levels) words (length (cell ∷ rest)) ≡ None) (sym two) (pass_two levels words cell rest (subst (λ f. StandFor f (suc levels) words (cell ∷ rest)) two stand))
]
