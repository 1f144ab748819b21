-- Some weights that are not all zero clear a list of rows exactly where one of its candidates is good, if the unit rows are among the rows.
use Rattle.std.proofs.Common.{◌≡◌, Bool, true, false, not, ◌||◌, List, [], ◌∷◌, inl, inr, refl, subst, arith, sym, ap, ◌∙◌, ℤ, pos, ◌≤ℤ◌}
use Rattle.std.specs.Prelude.{◌⊎◌, int_le}
use Rattle.std.specs.List.{list_all, list_any}
use Rattle.std.proofs.lemmas.Bool.{and_parts, and_from, not-true, or_cases, or_left, or_right}
use Rattle.std.proofs.lemmas.Int.{ints}
use Rattle.std.proofs.lemmas.List.Folds.{list_any-append}
use Rattle.svo_base.specs.declared.shapes.Vector.{Vector}
use Rattle.octree_specs.specs.Vectors.{dot_of, cross_of, opposite_of, is_zero_vector}
use Rattle.octree_specs.specs.Candidates.{candidates_with, candidates_of, is_good}
use Rattle.octree_specs.proofs.Vectors.{IsZero, IsNonzero, nonzero_test, nonzero_from_test, opposite_nonzero, cross_of-turned, cross_of-same, opposite_of-twice}
use Rattle.octree_specs.proofs.Cones.{Among, Clears, HasUnits, IsOnTwo, on_one, on_two}
use Rattle.octree_specs.proofs.Along.{cross_clears}

-- ---- good weights

passes_all : (w : Vector) (rows : List Vector) → Clears rows w → list_all (λ row. int_le (pos 0) (dot_of w row)) rows ≡ true
passes_all w [] clears = refl
passes_all w (x ∷ rows) clears =
    and_from (int_le (pos 0) (dot_of w x)) (list_all (λ row. int_le (pos 0) (dot_of w row)) rows)
    (at_least (dot_of w x) (clears x (inl refl))) (passes_all w rows (λ r among. clears r (inr among)))
  where
    at_least : (a : ℤ) → pos 0 ≤ℤ a → int_le (pos 0) a ≡ true
    at_least a over = grind (arith, ints)

clears_from : (w : Vector) (rows : List Vector) → list_all (λ row. int_le (pos 0) (dot_of w row)) rows ≡ true → Clears rows w
clears_from w [] passed r among = absurd among
clears_from w (x ∷ rows) passed r among =
    let parts = and_parts (int_le (pos 0) (dot_of w x)) (list_all (λ row. int_le (pos 0) (dot_of w row)) rows) passed in
    elim among [
      | inl here ↦ subst (λ v. pos 0 ≤ℤ dot_of w v) here (at_least (dot_of w x) parts.0)
      | inr later ↦ clears_from w rows parts.1 r later
    ]
  where
    at_least : (a : ℤ) → int_le (pos 0) a ≡ true → pos 0 ≤ℤ a
    at_least a over = omega (arith, ints, over)

pub good_from : (rows : List Vector) (w : Vector) → IsNonzero w → Clears rows w → is_good rows w ≡ true
good_from rows w some clears =
    and_from (not (is_zero_vector w)) (list_all (λ row. int_le (pos 0) (dot_of w row)) rows) (ap not (nonzero_test w some)) (passes_all w rows clears)

pub good_says : (rows : List Vector) (w : Vector) → is_good rows w ≡ true → IsNonzero w × Clears rows w
good_says rows w good =
    let parts = and_parts (not (is_zero_vector w)) (list_all (λ row. int_le (pos 0) (dot_of w row)) rows) good in
    (nonzero_from_test w (not-true (is_zero_vector w) parts.0), clears_from w rows parts.1)

-- ---- the candidates of two rows

-- one of the two passes
abbrev either : (Vector → Bool) → Vector → Bool
either p v = list_any p (v ∷ opposite_of v ∷ [])

either_or : (p : Vector → Bool) (v : Vector) → (p v ≡ true) ⊎ (p (opposite_of v) ≡ true) → either p v ≡ true
either_or p v (inl first) = or_left (p v) (p (opposite_of v) || false) first
either_or p v (inr second) = or_right (p v) (p (opposite_of v) || false) (or_left (p (opposite_of v)) false second)

-- the first row, and a later one
with_later : (p : Vector → Bool) (a b : Vector) (rows : List Vector) → Among rows b → either p (cross_of a b) ≡ true → list_any p (candidates_with a rows) ≡ true
with_later p a b [] among passed = absurd among
with_later p a b (x ∷ rows) among passed =
    list_any-append p (cross_of a x ∷ opposite_of (cross_of a x) ∷ []) (candidates_with a rows) ∙ elim among [
      | inl here ↦ or_left (either p (cross_of a x)) (list_any p (candidates_with a rows)) (subst (λ v. either p (cross_of a v) ≡ true) (sym here) passed)
      | inr later ↦ or_right (either p (cross_of a x)) (list_any p (candidates_with a rows)) (with_later p a b rows later passed)
    ]

-- two rows the other way round have the same two candidates
either_turned : (p : Vector → Bool) (a b : Vector) → (p (cross_of a b) ≡ true) ⊎ (p (opposite_of (cross_of a b)) ≡ true) → (p (cross_of b a) ≡ true) ⊎ (p (opposite_of (cross_of b a)) ≡ true)
either_turned p a b (inl first) = inr (ap p (ap opposite_of (cross_of-turned a b) ∙ opposite_of-twice (cross_of a b)) ∙ first)
either_turned p a b (inr second) = inl (ap p (cross_of-turned a b) ∙ second)

-- two rows that differ, in either order
pub among_candidates : (p : Vector → Bool) (rows : List Vector) (a b : Vector) → Among rows a → Among rows b → IsNonzero (cross_of a b)
    → (p (cross_of a b) ≡ true) ⊎ (p (opposite_of (cross_of a b)) ≡ true) → list_any p (candidates_of rows) ≡ true
among_candidates p [] a b first second differ passed = absurd first
among_candidates p (x ∷ rows) a b first second differ passed =
    list_any-append p (candidates_with x rows) (candidates_of rows) ∙ elim first [
      | inl a_here ↦ elim second [
        | inl b_here ↦ absurd (differ (subst (λ v. IsZero (cross_of v b)) a_here (subst (λ v. IsZero (cross_of x v)) b_here (cross_of-same x))))
        | inr b_later ↦ or_left (list_any p (candidates_with x rows)) (list_any p (candidates_of rows)) (subst (λ v. list_any p (candidates_with v rows) ≡ true) (sym a_here) (with_later p a b rows b_later (either_or p (cross_of a b) passed)))
      ]
      | inr a_later ↦ elim second [
        | inl b_here ↦ or_left (list_any p (candidates_with x rows)) (list_any p (candidates_of rows)) (subst (λ v. list_any p (candidates_with v rows) ≡ true) (sym b_here) (with_later p b a rows a_later (either_or p (cross_of b a) (either_turned p a b passed))))
        | inr b_later ↦ or_right (list_any p (candidates_with x rows)) (list_any p (candidates_of rows)) (among_candidates p rows a b a_later b_later differ passed)
      ]
    ]

-- ---- the two directions

-- weights that clear all rows give a good candidate
pub candidate_from_weights : (rows : List Vector) (w : Vector) → HasUnits rows → IsNonzero w → Clears rows w → list_any (is_good rows) (candidates_of rows) ≡ true
candidate_from_weights rows w units some clears =
    let one = on_one rows w units some clears in
    let two = on_two rows one.0 one.1 units one.2 in
    found two.0 two.1 two.2 two.3
  where
    found : (v a b : Vector) → IsOnTwo rows v a b → list_any (is_good rows) (candidates_of rows) ≡ true
    found v a b on =
        among_candidates (is_good rows) rows a b on.first on.second on.differ (elim (cross_clears rows v a b on) [
          | inl as_it_is ↦ inl (good_from rows (cross_of a b) on.differ as_it_is)
          | inr turned ↦ inr (good_from rows (opposite_of (cross_of a b)) (opposite_nonzero (cross_of a b) on.differ) turned)
        ])

-- and a good candidate is such weights
pub weights_from_candidate : (rows vectors : List Vector) → list_any (is_good rows) vectors ≡ true → (w : Vector) × IsNonzero w × Clears rows w
weights_from_candidate rows [] found = absurd (none found)
  where
    none : false ≡ true → ⊥
    none e = cc
weights_from_candidate rows (w ∷ vectors) found = elim (or_cases (is_good rows w) (list_any (is_good rows) vectors) found) [
  | inl good ↦ let says = good_says rows w good in (w, says.0, says.1)
  | inr later ↦ weights_from_candidate rows vectors later
]
