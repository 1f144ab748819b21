-- How many cells the leaves of each format count, and that their words are allowed.
use Rattle.std.proofs.Common.{◌≡◌, ℕ, zero, suc, ◌+◌, ◌-◌, ◌*◌, ◌/◌, ◌%◌, ◌^◌, ◌<◌, ◌≤◌, true, List, [], ◌∷◌, length, refl, sym, ap, ◌∙◌, inl, inr, arith, lit≤}
use Rattle.std.specs.Prelude.{◌==◌, not, nat_le, count_ones, All}
use Rattle.std.specs.List.{sum_by, filter, range_with_len}
use Rattle.std.proofs.lemmas.Bool.{cases_Bool, both_ways, eq-eqb, ne_eqb, and_from, le-leb, or_cases, not_from_false}
use Rattle.std.proofs.lemmas.List.Elements.{All-head, All-tail}
use Rattle.std.proofs.lemmas.List.Sums.{sum_by-cons}
use Rattle.octree_specs.specs.Cells.{Cell, codes_of}
use Rattle.octree_specs.specs.Checking.{ones_in, mask_rule, face_rule}
use Rattle.octree_specs.specs.Formats.{face_leaves, mask_leaves}
use Rattle.octree_specs.specs.Octree.{is_nonempty, leaf_word, first_children}
use Rattle.octree_laws.proofs.Counting.{count_under, count_children, count_one}
use Rattle.octree_laws.proofs.Fitting.{weigh, AreLawful}
use Rattle.octree_laws.proofs.MaskLeaves.{nonempty_same, leaf_mask}
use Rattle.octree_laws.proofs.InTurn.{sum_by-ones}
use Rattle.octree_laws.proofs.Marks.{all_nonempty, some_mask}
use Rattle.octree_laws.proofs.Masks.{mask_front, mask_front-small, ones_front}
use Rattle.octree_laws.proofs.Rising.{Ascends}
use Rattle.octree_laws.proofs.Under.{div-leaf}

sum_by-each : (Q : ℕ → Type 0) (f g : ℕ → ℕ) (xs : List ℕ) → ((x : ℕ) → Q x → f x ≡ g x) → All Q xs → sum_by f xs ≡ sum_by g xs
sum_by-each Q f g [] same all = refl
sum_by-each Q f g (x ∷ rest) same all =
    sum_by-cons f x rest ∙ (rw (same x (All-head Q x rest all), sum_by-each Q f g rest same (All-tail Q x rest all)) (sym (sum_by-cons g x rest)))

pub weigh_two : (cells : List Cell) → Ascends 0 (codes_of cells) → (height node : ℕ) → is_nonempty (face_leaves cells) height node ≡ true → weigh face_rule (face_leaves cells) height node ≡ count_under cells height node
unfolding weigh
weigh_two cells rises zero node nonempty = sym (count_one 0 cells rises node nonempty)
weigh_two cells rises (suc height) node nonempty =
    sum_by-each (λ child. is_nonempty (face_leaves cells) height child ≡ true) (weigh face_rule (face_leaves cells) height) (count_under cells height) (first_children (face_leaves cells) height node 8)
    (weigh_two cells rises height) (all_nonempty (face_leaves cells) height node 8)
    ∙ count_children cells height node

module _ (levels : ℕ) (cells : List Cell) (inside : All (λ cell. cell.code < 8 ^ suc levels) cells) where
  children_same : (height node : ℕ) → first_children (mask_leaves levels cells) height node 8 ≡ first_children (face_leaves cells) (suc height) node 8
  unfolding first_children
  children_same height node = ap (λ p. filter p (range_with_len (8 * node) 8)) (λ i n. nonempty_same levels cells inside height n i)

  mask_ones : (node : ℕ) → ones_in (leaf_word (mask_leaves levels cells) node) ≡ length (first_children (face_leaves cells) 0 node 8)
  mask_ones node =
      let small : mask_front (face_leaves cells) 0 node 8 < 2 ^ 8 = mask_front-small (face_leaves cells) 0 node 8 (lit≤ tt) in
      let low : mask_front (face_leaves cells) 0 node 8 % 256 ≡ mask_front (face_leaves cells) 0 node 8 = omega arith in
      ap ones_in (leaf_mask levels cells inside node) ∙ (ap count_ones low ∙ ones_front (face_leaves cells) 0 node 8 (lit≤ tt))

  pub weigh_one : Ascends 0 (codes_of cells) → (height node : ℕ) → is_nonempty (mask_leaves levels cells) height node ≡ true → weigh mask_rule (mask_leaves levels cells) height node ≡ count_under cells (suc height) node
  unfolding weigh
  weigh_one rises zero node nonempty =
      let children : List ℕ = first_children (face_leaves cells) 0 node 8 in
      mask_ones node ∙ (sym (sum_by-ones children)
      ∙ (sum_by-each (λ child. is_nonempty (face_leaves cells) 0 child ≡ true) (λ child. 1) (count_under cells 0) children (λ child filled. sym (count_one 0 cells rises child filled)) (all_nonempty (face_leaves cells) 0 node 8)
      ∙ count_children cells 0 node))
  weigh_one rises (suc height) node nonempty =
      sum_by-each (λ child. is_nonempty (mask_leaves levels cells) height child ≡ true) (weigh mask_rule (mask_leaves levels cells) height) (count_under cells (suc height)) (first_children (mask_leaves levels cells) height node 8)
      (weigh_one rises height) (all_nonempty (mask_leaves levels cells) height node 8)
      ∙ (ap (sum_by (count_under cells (suc height))) (children_same height node) ∙ count_children cells (suc height) node)

-- ---- lawful leaves

face_allowed : (face : ℕ) → face ≤ 2 ^ 32 - 2 → face_rule.allows (1 + 256 * face) ≡ true
face_allowed face small =
    let mask : (1 + 256 * face) % 256 ≡ 1 = omega arith in
    let base : (1 + 256 * face) / 256 ≡ face = omega arith in
    and_from ((1 + 256 * face) % 256 == 1) (nat_le ((1 + 256 * face) / 256) 4294967294) (eq-eqb ((1 + 256 * face) % 256) 1 mask) (le-leb ((1 + 256 * face) / 256) 4294967294 (omega (arith, base)))

pub lawful_two : (cells : List Cell) → All (λ cell. cell.face ≤ 2 ^ 32 - 2) cells → AreLawful face_rule (face_leaves cells)
unfolding AreLawful
lawful_two [] faces node nonempty = cc
lawful_two (cell ∷ rest) faces node nonempty = elim (cases_Bool (cell.code == node)) [
  | inl here ↦ rw here (face_allowed cell.face (All-head (λ (c : Cell). c.face ≤ 2 ^ 32 - 2) cell rest faces))
  | inr other ↦
      let same : (cell.code / 8 ^ 0 == node) ≡ (cell.code == node) = ap (λ n. n == node) (div-leaf cell.code) in
      elim (or_cases (cell.code / 8 ^ 0 == node) (is_nonempty (face_leaves rest) 0 node) nonempty) [
        | inl first ↦ absurd (both_ways (cell.code == node) other (sym same ∙ first))
        | inr later ↦ rw other (lawful_two rest (All-tail (λ (c : Cell). c.face ≤ 2 ^ 32 - 2) cell rest faces) node later)
      ]
]

pub lawful_one : (levels : ℕ) (cells : List Cell) → All (λ cell. cell.code < 8 ^ suc levels) cells → AreLawful mask_rule (mask_leaves levels cells)
unfolding AreLawful
lawful_one levels cells inside node nonempty =
    let word : ℕ = leaf_word (mask_leaves levels cells) node in
    let small : mask_front (face_leaves cells) 0 node 8 < 2 ^ 8 = mask_front-small (face_leaves cells) 0 node 8 (lit≤ tt) in
    let is : word ≡ mask_front (face_leaves cells) 0 node 8 = leaf_mask levels cells inside node in
    let some : word % 256 ≡ 0 → ⊥ = λ none. some_mask (face_leaves cells) 0 node (sym (nonempty_same levels cells inside 0 node) ∙ nonempty) (omega (arith, is, none, small)) in
    and_from (not (word % 256 == 0)) (word / 256 == 0) (not_from_false (word % 256 == 0) (ne_eqb (word % 256) 0 some)) (eq-eqb (word / 256) 0 (omega (arith, is, small)))
