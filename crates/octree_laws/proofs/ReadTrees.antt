-- Words that fit have the tree of the cells read from them.
use Rattle.std.proofs.Common.{◌≡◌, ℕ, zero, suc, ◌+◌, ◌-◌, ◌*◌, ◌/◌, ◌%◌, ◌^◌, ◌<◌, ◌≤◌, true, false, List, [], refl, sym, ap, subst, ◌∙◌, inl, inr, arith, lit≤}
use Rattle.std.specs.Prelude.{◌==◌, not, nat_le, slice_index, All}
use Rattle.std.proofs.lemmas.Bool.{cases_Bool, both_ways, eqb-true, eqb-false, eq-eqb, leb-true, and_parts, or_left, not-true, true_from_ne_false, cond-true}
use Rattle.std.proofs.lemmas.List.Elements.{All-nil, All-cons, All-append}
use Rattle.octree_specs.specs.Cells.{Cell}
use Rattle.octree_specs.specs.Checking.{mask_rule, face_rule, mask_in, base_in}
use Rattle.octree_specs.specs.Formats.{face_leaves, mask_leaves}
use Rattle.octree_specs.specs.Octree.{is_nonempty}
use Rattle.octree_specs.specs.Walking.{HasMask, HasTree, child_number}
use Rattle.octree_laws.proofs.Fitted.{mask_bits}
use Rattle.octree_laws.proofs.MaskLeaves.{same_test, nonempty_up, HasCell, some_cell, nonempty_same, leaf_mask}
use Rattle.octree_laws.proofs.Reading.{has_bit, each_place, read_cells, read_run, has_cell, AreSame, same_twice, piece, child_same}
use Rattle.octree_laws.proofs.Under.{div-up, div-leaf}
use Rattle.octree_laws.proofs.Soundness.{some_bit, IsSound}

-- ---- the cells read

pub HasBits : List ℕ → ℕ → ℕ → Type 0
HasBits words zero number = Unit {0}
HasBits words (suc height) number =
    (slice_index words number % 256 ≡ 0 → ⊥)
    × ((place : ℕ) → place < 8 → has_bit (slice_index words number) place ≡ true → HasBits words height (child_number (slice_index words number) place))

pub bits_two : (words : List ℕ) (height number : ℕ) → IsSound face_rule words height number → HasBits words height number
unfolding IsSound HasBits
bits_two words zero number is_sound = tt
bits_two words (suc height) number is_sound =
    (is_sound.0, λ place octant bit. bits_two words height (child_number (slice_index words number) place) (is_sound.1 place octant bit).1)

-- what a mask leaf's word is
record IsMask (word : ℕ) : Type 0 where
  some : word % 256 ≡ 0 → ⊥
  based : word / 256 ≡ 0

mask_lawful : (word : ℕ) → mask_rule.allows word ≡ true → IsMask word
mask_lawful word lawful =
    let parts : (not (mask_in word == 0) ≡ true) × ((base_in word == 0) ≡ true) = and_parts (not (mask_in word == 0)) (base_in word == 0) lawful in
    record { some = eqb-false (mask_in word) 0 (not-true (mask_in word == 0) parts.0); based = eqb-true (base_in word) 0 parts.1 }

pub bits_one : (words : List ℕ) (height number : ℕ) → IsSound mask_rule words height number → HasBits words (suc height) number
unfolding IsSound HasBits
bits_one words zero number is_sound = ((mask_lawful (slice_index words number) is_sound).some, λ place octant bit. tt)
bits_one words (suc height) number is_sound =
    (is_sound.0, λ place octant bit. bits_one words height (child_number (slice_index words number) place) (is_sound.1 place octant bit).1)

-- where a node has a bit there is a cell
pub record HasCode (cells : List Cell) (height node : ℕ) : Type 0 where
  pub code : ℕ
  pub has : has_cell cells code ≡ true
  pub up : code / 8 ^ height ≡ node

module _ (face : ℕ → ℕ) (words : List ℕ) where
  child_cells : ℕ → ℕ → ℕ → ℕ → List Cell
  child_cells height number node place = piece (read_cells face words height) height (slice_index words number) node (read_run face words height) place

  child_yes : (height number node place : ℕ) → has_bit (slice_index words number) place ≡ true
      → child_cells height number node place ≡ read_cells face words height (child_number (slice_index words number) place) (8 * node + place)
  unfolding child_cells piece
  child_yes height number node place bit = rw bit refl

  child_no : (height number node place : ℕ) → has_bit (slice_index words number) place ≡ false → child_cells height number node place ≡ []
  unfolding child_cells piece
  child_no height number node place none = rw none refl

  pub some_code : (height number node : ℕ) → HasBits words height number → HasCode (read_cells face words height number node) height node
  unfolding HasBits read_cells child_cells
  some_code zero number node bits = record { code = node; has = or_left (node / 8 ^ 0 == node) false (eq-eqb (node / 8 ^ 0) node (div-leaf node)); up = div-leaf node }
  some_code (suc height) number node bits =
      let word : ℕ = slice_index words number in
      let place : (place : ℕ) × (place < 8) × (has_bit word place ≡ true) = some_bit word 8 bits.0 in
      let child : HasCode (read_cells face words height (child_number word place.0) (8 * node + place.0)) height (8 * node + place.0) =
      some_code height (child_number word place.0) (8 * node + place.0) (bits.1 place.0 place.1 place.2) in
      let same : AreSame (read_cells face words (suc height) number node) (child_cells height number node place.0) child.code = child_same face words height number node place.0 child.code place.1 child.up in
      record {
        code = child.code;
        has = same.has ∙ (ap (λ cells. has_cell cells child.code) (child_yes height number node place.0 place.2) ∙ child.has);
        up = omega (arith, div-up child.code height, child.up, place.1);
      }

  -- a list says the same as the cells read, of all codes under a node
  unfoldable pub Agrees : List Cell → ℕ → ℕ → ℕ → Type 0
  Agrees cells height number node = (code : ℕ) → code / 8 ^ height ≡ node → AreSame cells (read_cells face words height number node) code

  module _ (cells : List Cell) (limit : ℕ) (inside : All (λ cell. cell.code < limit) cells) where
    under_child : (height number node place : ℕ) → place < 8 → Agrees cells (suc height) number node → (code : ℕ) → code / 8 ^ height ≡ 8 * node + place → AreSame cells (child_cells height number node place) code
    unfolding Agrees child_cells
    under_child height number node place octant agrees code up =
        same_twice cells (read_cells face words (suc height) number node) (child_cells height number node place) code (agrees code (omega (arith, div-up code height, up, octant))) (child_same face words height number node place code octant up)

    agrees_below : (height number node place : ℕ) → place < 8 → has_bit (slice_index words number) place ≡ true → Agrees cells (suc height) number node
        → Agrees cells height (child_number (slice_index words number) place) (8 * node + place)
    unfolding Agrees
    agrees_below height number node place octant bit agrees code up =
        subst (λ part. AreSame cells part code) (child_yes height number node place bit) (under_child height number node place octant agrees code up)

    read_mask : (height number node : ℕ) → HasBits words (suc height) number → Agrees cells (suc height) number node → HasMask (face_leaves cells) height node (slice_index words number)
    unfolding HasBits Agrees
    read_mask height number node bits agrees place octant =
        let word : ℕ = slice_index words number in
        let child : ℕ = 8 * node + place in
        same_test (is_nonempty (face_leaves cells) height child) (has_bit word place)
        (λ nonempty.
        let cell : HasCell cells height child limit = some_cell cells height child limit inside nonempty in
        let seen : AreSame cells (child_cells height number node place) cell.code = under_child height number node place octant agrees cell.code cell.up in
        true_from_ne_false (has_bit word place) (λ none.
        both_ways (has_cell cells cell.code) (seen.has ∙ ap (λ part. has_cell part cell.code) (child_no height number node place none)) cell.filled))
        (λ bit.
        let code : HasCode (read_cells face words height (child_number word place) child) height child = some_code height (child_number word place) child (bits.1 place octant bit) in
        let seen : AreSame cells (read_cells face words height (child_number word place) child) code.code = agrees_below height number node place octant bit agrees code.code code.up in
        subst (λ n. is_nonempty (face_leaves cells) height n ≡ true) code.up (nonempty_up (face_leaves cells) height code.code (seen.has ∙ code.has)))

-- ---- trees

-- a face of a cell's own word, and none
pub face_in : List ℕ → ℕ → ℕ
face_in words number = base_in (slice_index words number)

pub no_face : ℕ → ℕ
no_face number = 0

-- what a cell's word is
record IsFace (word : ℕ) : Type 0 where
  whole : word ≡ 1 + 256 * base_in word
  small : base_in word ≤ 2 ^ 32 - 2

face_lawful : (word : ℕ) → face_rule.allows word ≡ true → IsFace word
face_lawful word lawful =
    let parts : ((mask_in word == 1) ≡ true) × (nat_le (base_in word) 4294967294 ≡ true) = and_parts (mask_in word == 1) (nat_le (base_in word) 4294967294) lawful in
    let mask : mask_in word ≡ 1 = eqb-true (mask_in word) 1 parts.0 in
    record { whole = omega (arith, mask); small = leb-true (base_in word) 4294967294 parts.1 }

pub tree_two : (words : List ℕ) (cells : List Cell) (limit : ℕ) → All (λ cell. cell.code < limit) cells → (height number node : ℕ) → IsSound face_rule words height number
    → Agrees (face_in words) words cells height number node → HasTree words (face_leaves cells) height node number
unfolding IsSound Agrees read_cells face_in
tree_two words cells limit inside zero number node is_sound agrees =
    let word : ℕ = slice_index words number in
    (face_lawful word is_sound).whole ∙ sym ((agrees node (div-leaf node)).word ∙ cond-true (node == node) (1 + 256 * base_in word) 0 (eq-eqb node node refl))
tree_two words cells limit inside (suc height) number node is_sound agrees =
    let word : ℕ = slice_index words number in
    let mask : HasMask (face_leaves cells) height node word =
    read_mask (face_in words) words cells limit inside height number node (bits_two words (suc height) number is_sound) agrees in (
      mask,
      λ place octant nonempty.
          let bit : has_bit word place ≡ true = sym (mask place octant) ∙ nonempty in
          let child : (child_number word place < number) × IsSound face_rule words height (child_number word place) = is_sound.1 place octant bit in (
            child.0,
            tree_two words cells limit inside height (child_number word place) (8 * node + place) child.1
                (agrees_below (face_in words) words cells limit inside height number node place octant bit agrees),
          ),
    )

pub tree_one : (words : List ℕ) (levels : ℕ) (cells : List Cell) → All (λ cell. cell.code < 8 ^ suc levels) cells → (height number node : ℕ) → IsSound mask_rule words height number
    → Agrees no_face words cells (suc height) number node → HasTree words (mask_leaves levels cells) height node number
unfolding IsSound
tree_one words levels cells inside zero number node is_sound agrees =
    let word : ℕ = slice_index words number in
    let is_mask : IsMask word = mask_lawful word is_sound in
    let mask : HasMask (face_leaves cells) 0 node word = read_mask no_face words cells (8 ^ suc levels) inside 0 number node (bits_one words 0 number is_sound) agrees in
    omega (arith, mask_bits (face_leaves cells) 0 node word mask 8 (lit≤ tt), leaf_mask levels cells inside node, is_mask.based)
tree_one words levels cells inside (suc height) number node is_sound agrees =
    let word : ℕ = slice_index words number in
    let mask : HasMask (face_leaves cells) (suc height) node word =
    read_mask no_face words cells (8 ^ suc levels) inside (suc height) number node (bits_one words (suc height) number is_sound) agrees in (
      (λ place octant. nonempty_same levels cells inside height (8 * node + place) ∙ mask place octant),
      λ place octant nonempty.
          let bit : has_bit word place ≡ true = sym (mask place octant) ∙ (sym (nonempty_same levels cells inside height (8 * node + place)) ∙ nonempty) in
          let child : (child_number word place < number) × IsSound mask_rule words height (child_number word place) = is_sound.1 place octant bit in (
            child.0,
            tree_one words levels cells inside height (child_number word place) (8 * node + place) child.1
                (agrees_below no_face words cells (8 ^ suc levels) inside (suc height) number node place octant bit agrees),
          ),
    )

-- ---- faces of the cells read

All_pieces : (P : Cell → Type 0) (read : ℕ → ℕ → List Cell) (word node : ℕ) → ((place : ℕ) → place < 8 → has_bit word place ≡ true → All P (read (child_number word place) (8 * node + place)))
    → (rest place : ℕ) → place + rest ≤ 8 → All P (each_place read word node place rest)
unfolding each_place
All_pieces P read word node one zero place few = All-nil P
All_pieces P read word node one (suc rest) place few = elim (cases_Bool (has_bit word place)) [
  | inl bit ↦ rw bit (All-append P (read (child_number word place) (8 * node + place)) (each_place read word node (place + 1) rest) (one place (omega arith) bit) (All_pieces P read word node one rest (place + 1) (omega arith)))
  | inr none ↦ rw none (All_pieces P read word node one rest (place + 1) (omega arith))
]

pub faces_two : (words : List ℕ) (height number node : ℕ) → IsSound face_rule words height number → All (λ cell. cell.face ≤ 2 ^ 32 - 2) (read_cells (face_in words) words height number node)
unfolding IsSound read_cells face_in
faces_two words zero number node is_sound =
    All-cons (λ (cell : Cell). cell.face ≤ 2 ^ 32 - 2) (record { code = node; face = base_in (slice_index words number) }) [] (face_lawful (slice_index words number) is_sound).small (All-nil (λ (cell : Cell). cell.face ≤ 2 ^ 32 - 2))
faces_two words (suc height) number node is_sound =
    All_pieces (λ (cell : Cell). cell.face ≤ 2 ^ 32 - 2) (read_cells (face_in words) words height) (slice_index words number) node
    (λ place octant bit. faces_two words height (child_number (slice_index words number) place) (8 * node + place) (is_sound.1 place octant bit).1) 8 0 (lit≤ tt)

pub faces_none : (words : List ℕ) (height number node : ℕ) → All (λ cell. cell.face ≡ 0) (read_cells no_face words height number node)
unfolding read_cells no_face
faces_none words zero number node = All-cons (λ (cell : Cell). cell.face ≡ 0) (record { code = node; face = 0 }) [] refl (All-nil (λ (cell : Cell). cell.face ≡ 0))
faces_none words (suc height) number node =
    All_pieces (λ (cell : Cell). cell.face ≡ 0) (read_cells no_face words height) (slice_index words number) node
    (λ place octant bit. faces_none words height (child_number (slice_index words number) place) (8 * node + place)) 8 0 (lit≤ tt)
