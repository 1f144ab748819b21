-- A triangle that meets a cube has a box that does.
use Rattle.std.proofs.Common.{◌≡◌, ℕ, ◌+◌, ◌≤◌, Bool, true, false, ℤ, pos, ◌+ℤ◌, ◌*ℤ◌, ◌≤ℤ◌, arith, refl}
use Rattle.std.specs.Prelude.{◌||◌, int_le}
use Rattle.std.proofs.lemmas.Int.{ints}
use Rattle.svo_base.specs.declared.shapes.Point.{Point}
use Rattle.svo_base.specs.declared.shapes.Triangle.{Triangle}
use Rattle.svo_base.specs.declared.shapes.Cube.{Cube}
use Rattle.octree_specs.proofs.Integers.{product_at_most}
use Rattle.octree_specs.proofs.SignedTerms.{Term, the, plus, times, at_most_parts}
use Rattle.octree_specs.specs.Meeting.{Meets, IsBetween, low_of, high_of}
use Rattle.octree_specs.specs.Parts.{reaches, box_meets}

-- a number that is weighted, and one at least as great, as terms
weighted_term : ℕ → ℕ → ℕ → ℤ → ℤ → ℤ → Term
weighted_term w0 w1 w2 a b c = plus (plus (times (the (pos w0)) (the a)) (times (the (pos w1)) (the b))) (times (the (pos w2)) (the c))

more : (w : ℕ) (low a : ℤ) → (low +ℤ pos 1) ≤ℤ a → (pos w *ℤ (low +ℤ pos 1)) ≤ℤ (pos w *ℤ a)
more w low a above = product_at_most (pos w) (low +ℤ pos 1) a (omega (arith, ints)) above

-- numbers that are all above a plane are not weighted to one on it or below
not_all_above : (w0 w1 w2 : ℕ) (a b c high : ℤ) → 1 ≤ w0 + w1 + w2 → (high +ℤ pos 1) ≤ℤ a → (high +ℤ pos 1) ≤ℤ b → (high +ℤ pos 1) ≤ℤ c
    → (((pos w0 *ℤ a) +ℤ (pos w1 *ℤ b)) +ℤ (pos w2 *ℤ c)) ≤ℤ (pos (w0 + w1 + w2) *ℤ high) → ⊥
unfolding weighted_term
not_all_above w0 w1 w2 a b c high some p q r weighted =
    let one : Term = plus (the high) (the (pos 1)) in
    let whole = at_most_parts (weighted_term w0 w1 w2 a b c) (times (the (pos (w0 + w1 + w2))) (the high)) weighted in
    let x = at_most_parts (times (the (pos w0)) (plus (the high) (the (pos 1)))) (times (the (pos w0)) (the a)) (more w0 high a p) in
    let y = at_most_parts (times (the (pos w1)) (plus (the high) (the (pos 1)))) (times (the (pos w1)) (the b)) (more w1 high b q) in
    let z = at_most_parts (times (the (pos w2)) (plus (the high) (the (pos 1)))) (times (the (pos w2)) (the c)) (more w2 high c r) in
    absurd (omega (arith, some, whole, x, y, z))

not_all_below : (w0 w1 w2 : ℕ) (a b c low : ℤ) → 1 ≤ w0 + w1 + w2 → (a +ℤ pos 1) ≤ℤ low → (b +ℤ pos 1) ≤ℤ low → (c +ℤ pos 1) ≤ℤ low
    → (pos (w0 + w1 + w2) *ℤ low) ≤ℤ (((pos w0 *ℤ a) +ℤ (pos w1 *ℤ b)) +ℤ (pos w2 *ℤ c)) → ⊥
unfolding weighted_term
not_all_below w0 w1 w2 a b c low some p q r weighted =
    let whole = at_most_parts (times (the (pos (w0 + w1 + w2))) (the low)) (weighted_term w0 w1 w2 a b c) weighted in
    let x = at_most_parts (times (the (pos w0)) (plus (the a) (the (pos 1)))) (times (the (pos w0)) (the low)) (more w0 a low p) in
    let y = at_most_parts (times (the (pos w1)) (plus (the b) (the (pos 1)))) (times (the (pos w1)) (the low)) (more w1 b low q) in
    let z = at_most_parts (times (the (pos w2)) (plus (the c) (the (pos 1)))) (times (the (pos w2)) (the low)) (more w2 c low r) in
    absurd (omega (arith, some, whole, x, y, z))

-- one of three comparisons holds where not all of them fail
some_of_three : (p q r : Bool) → (p ≡ false → q ≡ false → r ≡ false → ⊥) → (p || (q || r)) ≡ true
some_of_three true q r not_none = refl
some_of_three false true r not_none = refl
some_of_three false false true not_none = refl
some_of_three false false false not_none = absurd (not_none refl refl refl)

above_from : (a high : ℤ) → int_le a high ≡ false → (high +ℤ pos 1) ≤ℤ a
above_from a high fails = omega (arith, ints, fails)

reaches_between : (at : Point → ℤ) (t : Triangle) (w0 w1 w2 : ℕ) (low high : ℤ) → 1 ≤ w0 + w1 + w2 → IsBetween w0 w1 w2 at t low high → reaches at t low high ≡ true
unfolding reaches
reaches_between at t w0 w1 w2 low high some between =
    let upper = some_of_three (int_le (at t.a) high) (int_le (at t.b) high) (int_le (at t.c) high)
    (λ p q r. not_all_above w0 w1 w2 (at t.a) (at t.b) (at t.c) high some (above_from (at t.a) high p) (above_from (at t.b) high q) (above_from (at t.c) high r) between.1) in
    let lower = some_of_three (int_le low (at t.a)) (int_le low (at t.b)) (int_le low (at t.c))
    (λ p q r. not_all_below w0 w1 w2 (at t.a) (at t.b) (at t.c) low some (above_from low (at t.a) p) (above_from low (at t.b) q) (above_from low (at t.c) r) between.0) in
    rw (upper, lower) refl

pub box_meets_where_met : (t : Triangle) (cube : Cube) → Meets t cube → box_meets cube t ≡ true
unfolding box_meets
box_meets_where_met t cube met =
    rw (
      reaches_between (λ p. p.x) t met.w0 met.w1 met.w2 (low_of cube 0) (high_of cube 0) met.some met.x,
      reaches_between (λ p. p.y) t met.w0 met.w1 met.w2 (low_of cube 1) (high_of cube 1) met.some met.y,
      reaches_between (λ p. p.z) t met.w0 met.w1 met.w2 (low_of cube 2) (high_of cube 2) met.some met.z,
    ) refl
