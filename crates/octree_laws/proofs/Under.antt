-- Which nodes are nonempty, level by level.
use Rattle.std.proofs.Common.{◌≡◌, ℕ, suc, ◌/◌, ◌^◌, true, false, List, [], ◌∷◌, refl, sym, ap, ◌∙◌, inl, inr, arith}
use Rattle.std.specs.Prelude.{◌==◌}
use Rattle.std.proofs.Math.Nat.{pow-suc, div-div-eq-div-mul}
use Rattle.std.proofs.lemmas.Bool.{eqb-true, eqb-false, ne_eqb, eq-eqb, or_parts, or_from, or_left, or_right, or_cases}
use Rattle.octree_specs.specs.Octree.{Leaf, is_nonempty}

-- the parent of a code's node
pub div-up : (code height : ℕ) → code / 8 ^ suc height ≡ code / 8 ^ height / 8
div-up code height = ap (λ n. code / n) (pow-suc 8 height) ∙ sym (div-div-eq-div-mul code (8 ^ height) 8)

pub div-leaf : (code : ℕ) → code / 8 ^ 0 ≡ code
div-leaf code = omega arith

-- a leaf lies under an empty node nowhere
pub empty_below : (leaves : List Leaf) (height code : ℕ) → is_nonempty leaves height (code / 8 ^ height) ≡ false → is_nonempty leaves 0 code ≡ false
empty_below [] height code empty = refl
empty_below (leaf ∷ rest) height code empty =
    let parts : (leaf.node / 8 ^ height == code / 8 ^ height ≡ false) × (is_nonempty rest height (code / 8 ^ height) ≡ false) =
    or_parts (leaf.node / 8 ^ height == code / 8 ^ height) (is_nonempty rest height (code / 8 ^ height)) empty in
    or_from (leaf.node / 8 ^ 0 == code) (is_nonempty rest 0 code)
    (ne_eqb (leaf.node / 8 ^ 0) code (λ same. eqb-false (leaf.node / 8 ^ height) (code / 8 ^ height) parts.0 (ap (λ n. n / 8 ^ height) (sym (div-leaf leaf.node) ∙ same))))
    (empty_below rest height code parts.1)

-- where a child is nonempty its parent is
pub nonempty_above : (leaves : List Leaf) (height node : ℕ) → is_nonempty leaves height node ≡ true → is_nonempty leaves (suc height) (node / 8) ≡ true
nonempty_above (leaf ∷ rest) height node nonempty = elim (or_cases (leaf.node / 8 ^ height == node) (is_nonempty rest height node) nonempty) [
  | inl here ↦ or_left (leaf.node / 8 ^ suc height == node / 8) (is_nonempty rest (suc height) (node / 8))
      (eq-eqb (leaf.node / 8 ^ suc height) (node / 8) (div-up leaf.node height ∙ ap (λ n. n / 8) (eqb-true (leaf.node / 8 ^ height) node here)))
  | inr later ↦ or_right (leaf.node / 8 ^ suc height == node / 8) (is_nonempty rest (suc height) (node / 8)) (nonempty_above rest height node later)
]
nonempty_above [] height node nonempty = cc
