-- Where a first axis separates, a triangle and a cube share no point; where none does, they share one.
use Rattle.std.proofs.Common.{◌≡◌, ℕ, suc, zero, ◌+◌, ◌<◌, Bool, true, false, not, Some, None, List, [], ◌∷◌, inl, inr, subst, arith, sym, ap, ◌∙◌, lit<}
use Rattle.std.specs.Prelude.{is_some}
use Rattle.std.specs.List.{find, range_with_len}
use Rattle.std.proofs.lemmas.Bool.{or_cases, or_left, or_right, cases_Bool, both_ways, not-true, not_from_false}
use Rattle.svo_base.specs.declared.shapes.Triangle.{Triangle}
use Rattle.svo_base.specs.declared.shapes.Cube.{Cube}
use Rattle.octree_specs.specs.Meeting.{Meets}
use Rattle.octree_specs.specs.Vectors.{opposite_of}
use Rattle.tri_cube.specs.Axes.{axis_at, separates, first_separating}
use Rattle.tri_cube.specs.Boxes.{extents_in_order}
use Rattle.tri_cube.specs.SeenAlong.{is_ahead, seen_along}
use Rattle.tri_cube.specs.CandidatesInTurn.{first_good}
use Rattle.tri_cube.specs.Views.{cube_box}
use Rattle.tri_cube.proofs.DirectionKinds.{IsBox}
use Rattle.tri_cube.proofs.CornerProducts.{before_says, before_ahead, separates_by_box}
use Rattle.tri_cube.proofs.FirstGood.{some_good_where_met}
use Rattle.tri_cube.proofs.NotBoth.{lowest, highest, box_met, not_both}
use Rattle.tri_cube.proofs.SeparatingAxes.{HasAxis, met_or_separated, box_from_test, test_from_box}

-- ---- searches

find_says : {X : Type 0} (p : X → Bool) (xs : List X) (y : X) → find p xs ≡ Some y → p y ≡ true
find_says p [] y found = cc
find_says p (x ∷ xs) y found = elim (cases_Bool (p x)) [
  | inl here ↦
      let first : Some x ≡ Some y = rw here at found in
      let same : x ≡ y = cc in
      subst (λ v. p v ≡ true) same here
  | inr later ↦ find_says p xs y (rw later at found)
]

find_misses : (p : ℕ → Bool) (a n k : ℕ) → find p (range_with_len a n) ≡ None → k < n → p (a + k) ≡ false
find_misses p a zero k none below = absurd (omega arith)
find_misses p a (suc n) zero none below = elim (cases_Bool (p a)) [
  | inl here ↦ let some : Some a ≡ None = rw here at none in cc
  | inr later ↦ ap p (omega arith) ∙ later
]
find_misses p a (suc n) (suc k) none below = elim (cases_Bool (p a)) [
  | inl here ↦ let some : Some a ≡ None = rw here at none in cc
  | inr later ↦ ap p (omega arith) ∙ find_misses p (a + 1) n k (rw later at none) (omega arith)
]

-- ---- an axis that separates

-- it leaves no common point
pub separated_apart : (t : Triangle) (cube : Cube) (number : ℕ) → first_separating t cube ≡ Some number → Meets t cube → ⊥
unfolding first_separating seen_along
separated_apart t cube number found met =
    let axis = axis_at t number in
    let test = find_says (λ n. separates t cube (axis_at t n)) (range_with_len 0 13) number found in
    elim (or_cases (not (extents_in_order (cube_box cube))) (seen_along t (cube_box cube) axis) (sym (separates_by_box t cube axis) ∙ test)) [
      | inl out_of_order ↦ both_ways (extents_in_order (cube_box cube)) (not-true (extents_in_order (cube_box cube)) out_of_order) (test_from_box cube (box_met t cube met))
      | inr along ↦ elim (or_cases (is_ahead t (cube_box cube) axis) (is_ahead t (cube_box cube) (opposite_of axis)) along) [
        | inl ahead ↦ not_both t cube axis met (before_says t cube axis ahead)
        | inr behind ↦ not_both t cube (opposite_of axis) met (before_says t cube (opposite_of axis) behind)
      ]
    ]

axis_separates : (t : Triangle) (cube : Cube) → IsBox (lowest cube) (highest cube) → (is : HasAxis t cube) → separates t cube (axis_at t is.number) ≡ true
unfolding seen_along
axis_separates t cube is_box is =
    let axis = axis_at t is.number in
    separates_by_box t cube axis ∙ or_right (not (extents_in_order (cube_box cube))) (seen_along t (cube_box cube) axis) (elim is.before [
      | inl before ↦ or_left (is_ahead t (cube_box cube) axis) _ (before_ahead t cube axis is_box before)
      | inr before ↦ or_right (is_ahead t (cube_box cube) axis) (is_ahead t (cube_box cube) (opposite_of axis)) (before_ahead t cube (opposite_of axis) is_box before)
    ])

-- where none does, there is a common point
pub unseparated_met : (t : Triangle) (cube : Cube) → first_separating t cube ≡ None → Meets t cube
unfolding first_separating
unseparated_met t cube none = elim (cases_Bool (extents_in_order (cube_box cube))) [
  | inl in_order ↦ elim (met_or_separated t cube (box_from_test t cube in_order)) [
    | inl met ↦ met
    | inr is ↦ absurd (both_ways (separates t cube (axis_at t is.number)) (misses is.number is.below) (axis_separates t cube (box_from_test t cube in_order) is))
  ]
  | inr out_of_order ↦
      absurd (both_ways (separates t cube (axis_at t 0)) (misses 0 (lit< tt))
      (separates_by_box t cube (axis_at t 0) ∙ or_left (not (extents_in_order (cube_box cube))) (seen_along t (cube_box cube) (axis_at t 0)) (not_from_false (extents_in_order (cube_box cube)) out_of_order)))
]
  where
    misses : (k : ℕ) → k < 13 → separates t cube (axis_at t k) ≡ false
    misses k below =
        ap (λ n. separates t cube (axis_at t n)) (omega arith)
        ∙ find_misses (λ n. separates t cube (axis_at t n)) 0 13 k none below

-- and so a good candidate
pub one_is_found : (t : Triangle) (cube : Cube) → first_separating t cube ≡ None → first_good t cube ≡ None → ⊥
one_is_found t cube unseparated none =
    let some : is_some (first_good t cube) ≡ true = (some_good_where_met t cube).1 (unseparated_met t cube unseparated) in
    both_ways (is_some (first_good t cube)) (ap is_some none) some
