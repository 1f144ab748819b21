-- A triangle and a cube share a point exactly where one of the 72 candidates is good.
use Rattle.std.proofs.Common.{◌≡◌, ℕ, ◌+◌, ◌≤◌, inl, inr, refl, subst, arith, ap, List, [], ◌∷◌, ℤ, pos, negsuc, ◌+ℤ◌, ◌-ℤ◌, ◌*ℤ◌, ◌≤ℤ◌}
use Rattle.std.specs.Prelude.{IsTrue, ◌↔◌}
use Rattle.std.proofs.lemmas.Bool.{cases_lt}
use Rattle.std.proofs.lemmas.Int.{ints}
use Rattle.svo_base.specs.declared.shapes.Point.{Point}
use Rattle.svo_base.specs.declared.shapes.Triangle.{Triangle}
use Rattle.svo_base.specs.declared.shapes.Cube.{Cube}
use Rattle.svo_base.specs.declared.shapes.Vector.{Vector}
use Rattle.octree_specs.specs.Vectors.{vector, dot_of}
use Rattle.octree_specs.specs.Meeting.{Meets, IsBetween, low_of, high_of}
use Rattle.octree_specs.specs.Candidates.{above_plane, below_plane, rows_of, candidates_of, has_good_candidate}
use Rattle.octree_specs.proofs.SignedTerms.{the, plus, minus, times, same}
use Rattle.octree_specs.proofs.Vectors.{IsNonzero, unit_x, unit_y, unit_z, dot_of-unit_x, dot_of-unit_y, dot_of-unit_z}
use Rattle.octree_specs.proofs.Cones.{Clears, HasUnits}
use Rattle.octree_specs.proofs.Candidates.{candidate_from_weights, weights_from_candidate}

abbrev weights_of : ℕ → ℕ → ℕ → Vector
weights_of w0 w1 w2 = vector (pos w0) (pos w1) (pos w2)

-- ---- one plane

-- how far the weighted point is above a plane, times the sum of the weights
above_product : (w0 w1 w2 : ℕ) (a b c plane : ℤ) →
    dot_of (weights_of w0 w1 w2) (vector (a -ℤ plane) (b -ℤ plane) (c -ℤ plane)) ≡ (((pos w0 *ℤ a) +ℤ (pos w1 *ℤ b)) +ℤ (pos w2 *ℤ c)) -ℤ (pos (w0 + w1 + w2) *ℤ plane)
above_product w0 w1 w2 a b c plane =
    same
    (plus (plus (times (the (pos w0)) (minus (the a) (the plane))) (times (the (pos w1)) (minus (the b) (the plane)))) (times (the (pos w2)) (minus (the c) (the plane))))
    (minus (plus (plus (times (the (pos w0)) (the a)) (times (the (pos w1)) (the b))) (times (the (pos w2)) (the c))) (times (plus (plus (the (pos w0)) (the (pos w1))) (the (pos w2))) (the plane)))
    (omega arith)

below_product : (w0 w1 w2 : ℕ) (a b c plane : ℤ) →
    dot_of (weights_of w0 w1 w2) (vector (plane -ℤ a) (plane -ℤ b) (plane -ℤ c)) ≡ (pos (w0 + w1 + w2) *ℤ plane) -ℤ (((pos w0 *ℤ a) +ℤ (pos w1 *ℤ b)) +ℤ (pos w2 *ℤ c))
below_product w0 w1 w2 a b c plane =
    same
    (plus (plus (times (the (pos w0)) (minus (the plane) (the a))) (times (the (pos w1)) (minus (the plane) (the b)))) (times (the (pos w2)) (minus (the plane) (the c))))
    (minus (times (plus (plus (the (pos w0)) (the (pos w1))) (the (pos w2))) (the plane)) (plus (plus (times (the (pos w0)) (the a)) (times (the (pos w1)) (the b))) (times (the (pos w2)) (the c))))
    (omega arith)

left_over : (a b d : ℤ) → d ≡ b -ℤ a → a ≤ℤ b → pos 0 ≤ℤ d
left_over a b d e h = omega (arith, ints, e, h)

at_most_from : (a b d : ℤ) → d ≡ b -ℤ a → pos 0 ≤ℤ d → a ≤ℤ b
at_most_from a b d e h = omega (arith, ints, e, h)

-- ---- an axis

-- weights clear the two rows of an axis exactly where the point that they name is between its planes
pub record ClearsAxis (w0 w1 w2 : ℕ) (at : Point → ℤ) (t : Triangle) (low high : ℤ) : Type 0 where
  pub above : pos 0 ≤ℤ dot_of (weights_of w0 w1 w2) (above_plane at t low)
  pub below : pos 0 ≤ℤ dot_of (weights_of w0 w1 w2) (below_plane at t high)

clears_axis : (w0 w1 w2 : ℕ) (at : Point → ℤ) (t : Triangle) (low high : ℤ) → IsBetween w0 w1 w2 at t low high → ClearsAxis w0 w1 w2 at t low high
clears_axis w0 w1 w2 at t low high between = record {
  above = left_over _ _ _ (above_product w0 w1 w2 (at t.a) (at t.b) (at t.c) low) between.0;
  below = left_over _ _ _ (below_product w0 w1 w2 (at t.a) (at t.b) (at t.c) high) between.1;
}

between_from : (w0 w1 w2 : ℕ) (at : Point → ℤ) (t : Triangle) (low high : ℤ) → ClearsAxis w0 w1 w2 at t low high → IsBetween w0 w1 w2 at t low high
between_from w0 w1 w2 at t low high clears = (
  at_most_from _ _ _ (above_product w0 w1 w2 (at t.a) (at t.b) (at t.c) low) clears.above,
  at_most_from _ _ _ (below_product w0 w1 w2 (at t.a) (at t.b) (at t.c) high) clears.below,
)

-- ---- all rows

units_among : (t : Triangle) (cube : Cube) → HasUnits (rows_of t cube)
unfolding rows_of
units_among t cube = record { x = inl refl; y = inr (inl refl); z = inr (inr (inl refl)) }

-- the same by recursion on the list
abbrev ClearsEach : List Vector → Vector → Type 0
ClearsEach [] w = Unit {0}
ClearsEach (x ∷ rows) w = (pos 0 ≤ℤ dot_of w x) × ClearsEach rows w

clears_each : (rows : List Vector) (w : Vector) → ClearsEach rows w → Clears rows w
clears_each [] w each r among = absurd among
clears_each (x ∷ rows) w each r among = elim among [
  | inl here ↦ subst (λ v. pos 0 ≤ℤ dot_of w v) here each.0
  | inr later ↦ clears_each rows w each.1 r later
]

not_below : (n : ℕ) (a : ℤ) → a ≡ pos n → pos 0 ≤ℤ a
not_below n a e = omega (arith, ints, e)

rows_cleared : (t : Triangle) (cube : Cube) (met : Meets t cube) → Clears (rows_of t cube) (weights_of met.w0 met.w1 met.w2)
unfolding rows_of
rows_cleared t cube met =
    let x = clears_axis met.w0 met.w1 met.w2 (λ p. p.x) t (low_of cube 0) (high_of cube 0) met.x in
    let y = clears_axis met.w0 met.w1 met.w2 (λ p. p.y) t (low_of cube 1) (high_of cube 1) met.y in
    let z = clears_axis met.w0 met.w1 met.w2 (λ p. p.z) t (low_of cube 2) (high_of cube 2) met.z in
    let w = weights_of met.w0 met.w1 met.w2 in
    clears_each (rows_of t cube) w (
      not_below met.w0 (dot_of w unit_x) (dot_of-unit_x w),
      (
        not_below met.w1 (dot_of w unit_y) (dot_of-unit_y w),
        (
          not_below met.w2 (dot_of w unit_z) (dot_of-unit_z w),
          (x.above, (x.below, (y.above, (y.below, (z.above, (z.below, tt)))))),
        ),
      ),
    )

weights_some : (w0 w1 w2 : ℕ) → 1 ≤ w0 + w1 + w2 → IsNonzero (weights_of w0 w1 w2)
weights_some w0 w1 w2 some none = omega (arith, ints, some, none.x, none.y, none.z)

-- a triangle and a cube that share a point have a good candidate
pub meeting_has_candidate : (t : Triangle) (cube : Cube) → Meets t cube → IsTrue (has_good_candidate t cube)
unfolding has_good_candidate
meeting_has_candidate t cube met =
    candidate_from_weights (rows_of t cube) (weights_of met.w0 met.w1 met.w2) (units_among t cube) (weights_some met.w0 met.w1 met.w2 met.some) (rows_cleared t cube met)

below_zero : (a : ℤ) (n : ℕ) → a ≡ negsuc n → pos 0 ≤ℤ a → ⊥
below_zero a n e over = omega (arith, ints, e, over)

-- weights that clear all rows are those of a common point
meets_from : (t : Triangle) (cube : Cube) (x y z : ℤ) → IsNonzero (vector x y z) → Clears (rows_of t cube) (vector x y z) → Meets t cube
unfolding rows_of
meets_from t cube (pos w0) (pos w1) (pos w2) some clears = record {
  w0 = w0;
  w1 = w1;
  w2 = w2;
  some = at_least_one w0 w1 w2 some;
  x = between_from w0 w1 w2 (λ p. p.x) t (low_of cube 0) (high_of cube 0) (record { above = clears _ (inr (inr (inr (inl refl)))); below = clears _ (inr (inr (inr (inr (inl refl))))) });
  y = between_from w0 w1 w2 (λ p. p.y) t (low_of cube 1) (high_of cube 1) (record { above = clears _ (inr (inr (inr (inr (inr (inl refl)))))); below = clears _ (inr (inr (inr (inr (inr (inr (inl refl))))))) });
  z = between_from w0 w1 w2 (λ p. p.z) t (low_of cube 2) (high_of cube 2) (record { above = clears _ (inr (inr (inr (inr (inr (inr (inr (inl refl)))))))); below = clears _ (inr (inr (inr (inr (inr (inr (inr (inr (inl refl))))))))) });
}
  where
    none_left : (a b : ℕ) → a + b ≤ 0 → a ≡ 0
    none_left a b none = omega (arith, none)

    at_least_one : (a b c : ℕ) → IsNonzero (weights_of a b c) → 1 ≤ a + b + c
    at_least_one a b c some = elim (cases_lt 0 (a + b + c)) [
      | inl above ↦ omega (arith, above)
      | inr none ↦ absurd (some (record { x = ap pos (none_left a (b + c) (omega (arith, none))); y = ap pos (none_left b (a + c) (omega (arith, none))); z = ap pos (none_left c (a + b) (omega (arith, none))) }))
    ]
meets_from t cube (negsuc x) y z some clears = absurd (below_zero _ x (dot_of-unit_x (vector (negsuc x) y z)) (clears unit_x (inl refl)))
meets_from t cube (pos x) (negsuc y) z some clears = absurd (below_zero _ y (dot_of-unit_y (vector (pos x) (negsuc y) z)) (clears unit_y (inr (inl refl))))
meets_from t cube (pos x) (pos y) (negsuc z) some clears = absurd (below_zero _ z (dot_of-unit_z (vector (pos x) (pos y) (negsuc z))) (clears unit_z (inr (inr (inl refl)))))

-- and where there is a good candidate, they share a point
pub good_candidates_meet : (t : Triangle) (cube : Cube) → IsTrue (has_good_candidate t cube) → Meets t cube
unfolding has_good_candidate
good_candidates_meet t cube good =
    let found = weights_from_candidate (rows_of t cube) (candidates_of (rows_of t cube)) good in
    let w = found.0 in
    meets_from t cube w.x w.y w.z found.1 found.2

-- so the two say the same
pub good_exactly_where_met : (t : Triangle) (cube : Cube) → IsTrue (has_good_candidate t cube) ↔ Meets t cube
good_exactly_where_met t cube = (good_candidates_meet t cube, meeting_has_candidate t cube)
