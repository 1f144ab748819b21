-- How many cells lie under a node: what a walk over the octree counts.
use Rattle.std.proofs.Common.{◌≡◌, ℕ, zero, suc, ◌+◌, ◌*◌, ◌/◌, ◌%◌, ◌^◌, ◌<◌, true, false, cond, List, [], ◌∷◌, length, refl, sym, ◌∙◌, inl, inr, arith, add-one}
use Rattle.std.specs.Prelude.{◌==◌, All}
use Rattle.std.specs.List.{sum_by}
use Rattle.std.proofs.Math.Nat.{div-eq_of_lt}
use Rattle.std.proofs.lemmas.Bool.{cases_Bool, cases_eq, eqb-true, eq-eqb, ne_eqb, or_cases, or_parts}
use Rattle.std.proofs.lemmas.List.Elements.{All-head, All-tail}
use Rattle.std.proofs.lemmas.List.Sums.{sum_by_push}
use Rattle.octree_specs.specs.Cells.{Cell, codes_of}
use Rattle.octree_specs.specs.Formats.{face_leaves}
use Rattle.octree_specs.specs.Octree.{is_nonempty, first_children}
use Rattle.octree_laws.proofs.FirstChildren.{first_children-zero, one_in, one_out}
use Rattle.octree_laws.proofs.Rising.{Ascends}
use Rattle.octree_laws.proofs.Under.{div-up, div-leaf}

-- the cells under a node
pub count_under : List Cell → ℕ → ℕ → ℕ
count_under [] height node = 0
count_under (cell ∷ rest) height node = cond (cell.code / 8 ^ height == node) 1 0 + count_under rest height node

-- none under an empty node
pub count-empty : (cells : List Cell) (height node : ℕ) → is_nonempty (face_leaves cells) height node ≡ false → count_under cells height node ≡ 0
unfolding count_under
count-empty [] height node empty = refl
count-empty (cell ∷ rest) height node empty =
    let parts : (cell.code / 8 ^ height == node ≡ false) × (is_nonempty (face_leaves rest) height node ≡ false) =
    or_parts (cell.code / 8 ^ height == node) (is_nonempty (face_leaves rest) height node) empty in
    rw (parts.0, count-empty rest height node parts.1) refl

-- under the first children of a node, one after another
count_front : List Cell → ℕ → ℕ → ℕ → ℕ
count_front cells height node zero = 0
count_front cells height node (suc count) = count_front cells height node count + count_under cells height (8 * node + count)

-- those are the nonempty ones
front_children : (cells : List Cell) (height node count : ℕ) → sum_by (count_under cells height) (first_children (face_leaves cells) height node count) ≡ count_front cells height node count
unfolding count_front
front_children cells height node zero = rw (first_children-zero (face_leaves cells) height node) refl
front_children cells height node (suc count) =
    let before : sum_by (count_under cells height) (first_children (face_leaves cells) height node count) ≡ count_front cells height node count = front_children cells height node count in
    elim (cases_Bool (is_nonempty (face_leaves cells) height (8 * node + count))) [
      | inl nonempty ↦
          rw (← add-one count, one_in (face_leaves cells) height node count nonempty, sum_by_push (count_under cells height) (first_children (face_leaves cells) height node count) (8 * node + count)) (omega (arith, before))
      | inr empty ↦
          rw (← add-one count, one_out (face_leaves cells) height node count empty) (omega (arith, before, count-empty cells height (8 * node + count) empty))
    ]

-- a number among a run of others is there once
bits_front : ℕ → ℕ → ℕ → ℕ
bits_front n from zero = 0
bits_front n from (suc count) = bits_front n from count + cond (n == from + count) 1 0

bits_out : (n from count : ℕ) → ((i : ℕ) → i < count → n ≡ from + i → ⊥) → bits_front n from count ≡ 0
unfolding bits_front
bits_out n from zero out = refl
bits_out n from (suc count) out =
    rw (bits_out n from count (λ i below. out i (omega arith)), ne_eqb n (from + count) (out count (omega arith))) refl

bits_in : (n from count i : ℕ) → i < count → n ≡ from + i → bits_front n from count ≡ 1
unfolding bits_front
bits_in n from zero i below is = absurd (omega arith)
bits_in n from (suc count) i below is = elim (cases_eq i count) [
  | inl last ↦
      rw (bits_out n from count (λ j under same. omega (arith, is, same, last)), eq-eqb n (from + count) (omega (arith, is, last))) refl
  | inr before ↦
      rw (bits_in n from count i (omega (arith, before)) is, ne_eqb n (from + count) (λ same. before (omega (arith, is, same)))) refl
]

bits_of_eight : (n node : ℕ) → bits_front n (8 * node) 8 ≡ cond (n / 8 == node) 1 0
bits_of_eight n node = elim (cases_eq (n / 8) node) [
  | inl under ↦ rw (eq-eqb (n / 8) node under) (bits_in n (8 * node) 8 (n % 8) (omega arith) (omega (arith, under)))
  | inr other ↦ rw (ne_eqb (n / 8) node other) (bits_out n (8 * node) 8 (λ i below same. other (omega arith)))
]

front_cons : (cell : Cell) (rest : List Cell) (height node count : ℕ)
    → count_front (cell ∷ rest) height node count ≡ bits_front (cell.code / 8 ^ height) (8 * node) count + count_front rest height node count
unfolding count_front bits_front count_under
front_cons cell rest height node zero = refl
front_cons cell rest height node (suc count) =
    rw (front_cons cell rest height node count) (omega arith)

front_nil : (height node count : ℕ) → count_front [] height node count ≡ 0
unfolding count_front count_under
front_nil height node zero = refl
front_nil height node (suc count) = rw (front_nil height node count) refl

count_eight : (cells : List Cell) (height node : ℕ) → count_front cells height node 8 ≡ count_under cells (suc height) node
unfolding count_under
count_eight [] height node = front_nil height node 8
count_eight (cell ∷ rest) height node =
    let up : cell.code / 8 ^ suc height ≡ cell.code / 8 ^ height / 8 = div-up cell.code height in
    front_cons cell rest height node 8 ∙ rw (bits_of_eight (cell.code / 8 ^ height) node, count_eight rest height node, up) refl

-- the cells under a node are those under its children
pub count_children : (cells : List Cell) (height node : ℕ) → sum_by (count_under cells height) (first_children (face_leaves cells) height node 8) ≡ count_under cells (suc height) node
count_children cells height node = front_children cells height node 8 ∙ count_eight cells height node

-- a filled cell is one
count_none : (low : ℕ) (cells : List Cell) → Ascends low (codes_of cells) → (code : ℕ) → code < low → count_under cells 0 code ≡ 0
unfolding Ascends count_under
count_none low [] ascending code below = refl
count_none low (cell ∷ rest) ascending code below =
    let apart : cell.code / 8 ^ 0 ≡ code → ⊥ = λ same. omega (arith, ascending.0, div-leaf cell.code) in
    rw (ne_eqb (cell.code / 8 ^ 0) code apart, count_none (cell.code + 1) rest ascending.1 code (omega (arith, ascending.0))) refl

pub count_one : (low : ℕ) (cells : List Cell) → Ascends low (codes_of cells) → (code : ℕ) → is_nonempty (face_leaves cells) 0 code ≡ true → count_under cells 0 code ≡ 1
unfolding Ascends count_under
count_one low [] ascending code filled = cc
count_one low (cell ∷ rest) ascending code filled = elim (or_cases (cell.code / 8 ^ 0 == code) (is_nonempty (face_leaves rest) 0 code) filled) [
  | inl here ↦
      let same : cell.code ≡ code = sym (div-leaf cell.code) ∙ eqb-true (cell.code / 8 ^ 0) code here in
      rw (here, count_none (cell.code + 1) rest ascending.1 code (omega (arith, same))) refl
  | inr later ↦ elim (cases_Bool (cell.code / 8 ^ 0 == code)) [
    | inl here ↦
        let same : cell.code ≡ code = sym (div-leaf cell.code) ∙ eqb-true (cell.code / 8 ^ 0) code here in
        rw (here, count_none (cell.code + 1) rest ascending.1 code (omega (arith, same))) refl
    | inr other ↦ rw (other, count_one (cell.code + 1) rest ascending.1 code later) refl
  ]
]

-- all cells are under the root
pub count_all : (depth : ℕ) (cells : List Cell) → All (λ cell. cell.code < 8 ^ depth) cells → count_under cells depth 0 ≡ length cells
unfolding count_under
count_all depth [] inside = refl
count_all depth (cell ∷ rest) inside =
    let below : cell.code < 8 ^ depth = All-head (λ (c : Cell). c.code < 8 ^ depth) cell rest inside in
    let root : cell.code / 8 ^ depth ≡ 0 = div-eq_of_lt below in
    rw (root, count_all depth rest (All-tail (λ (c : Cell). c.code < 8 ^ depth) cell rest inside)) (omega arith)
