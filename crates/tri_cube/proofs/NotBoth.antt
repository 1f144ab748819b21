-- A triangle that shares a point with a cube is not before it in any direction.
use Rattle.std.proofs.Common.{◌≡◌, ℕ, ◌+◌, ◌≤◌, arith, ℤ, pos, ◌+ℤ◌, ◌-ℤ◌, ◌*ℤ◌, ◌≤ℤ◌, ◌<ℤ◌}
use Rattle.std.proofs.lemmas.Int.{ints, by_lt_z}
use Rattle.svo_base.specs.declared.shapes.Triangle.{Triangle}
use Rattle.svo_base.specs.declared.shapes.Cube.{Cube}
use Rattle.svo_base.specs.declared.shapes.Vector.{Vector}
use Rattle.octree_specs.specs.Meeting.{Meets, low_of, high_of, weighted}
use Rattle.octree_specs.specs.Vectors.{vector, dot_of}
use Rattle.octree_specs.proofs.Integers.{product_at_most, factor_at_most, *ℤ--ℤ}
use Rattle.octree_specs.proofs.SignedTerms.{the, plus, times, same}
use Rattle.tri_cube.specs.Edges.{corner}
use Rattle.tri_cube.specs.Extents.{ExtentShape, between}
use Rattle.tri_cube.specs.Lines.{least_of}
use Rattle.tri_cube.proofs.Directions.{IsIn, IsBefore}
use Rattle.tri_cube.proofs.DirectionKinds.{IsBox}
use Rattle.tri_cube.proofs.LeastProducts.{least_in, least_in-at_most, least_below, least_above, behind_says}

abbrev pub lowest : Cube → Vector
lowest cube = vector (low_of cube 0) (low_of cube 1) (low_of cube 2)

abbrev pub highest : Cube → Vector
highest cube = vector (high_of cube 0) (high_of cube 1) (high_of cube 2)

-- ---- a box times a number

abbrev times_of : ℤ → Vector → Vector
times_of w v = vector (w *ℤ v.x) (w *ℤ v.y) (w *ℤ v.z)

least_times : (n w : ℤ) (s : ExtentShape) → least_of n (between (w *ℤ s.low) (w *ℤ s.high)) ≡ w *ℤ least_of n s
least_times n w s =
    by_lt_z n (pos 0)
    (λ below. rw (least_below n (between (w *ℤ s.low) (w *ℤ s.high)) below, least_below n s below) (swapped n s.high))
    (λ over. rw (least_above n (between (w *ℤ s.low) (w *ℤ s.high)) over, least_above n s over) (swapped n s.low))
  where
    swapped : (a b : ℤ) → a *ℤ (w *ℤ b) ≡ w *ℤ (a *ℤ b)
    swapped a b = same (times (the a) (times (the w) (the b))) (times (the w) (times (the a) (the b))) (omega arith)

least_in-times : (n lo hi : Vector) (w : ℤ) → least_in n (times_of w lo) (times_of w hi) ≡ w *ℤ least_in n lo hi
least_in-times n lo hi w =
    rw (least_times n.x w (between lo.x hi.x), least_times n.y w (between lo.y hi.y), least_times n.z w (between lo.z hi.z))
    (same
    (plus (plus (times (the w) (the (least_of n.x (between lo.x hi.x)))) (times (the w) (the (least_of n.y (between lo.y hi.y))))) (times (the w) (the (least_of n.z (between lo.z hi.z)))))
    (times (the w) (plus (plus (the (least_of n.x (between lo.x hi.x))) (the (least_of n.y (between lo.y hi.y)))) (the (least_of n.z (between lo.z hi.z)))))
    (omega arith))

-- ---- the weighted point

abbrev point_of : (w0 w1 w2 : ℕ) → Triangle → Vector
point_of w0 w1 w2 t =
    vector (weighted w0 w1 w2 (λ p. p.x) t) (weighted w0 w1 w2 (λ p. p.y) t) (weighted w0 w1 w2 (λ p. p.z) t)

-- its product is the weighted sum of the corners' products
point_product : (n : Vector) (w0 w1 w2 : ℕ) (t : Triangle) →
    dot_of n (point_of w0 w1 w2 t) ≡ ((pos w0 *ℤ dot_of n (corner t.a)) +ℤ (pos w1 *ℤ dot_of n (corner t.b))) +ℤ (pos w2 *ℤ dot_of n (corner t.c))
point_product n w0 w1 w2 t =
    step n (pos w0) (pos w1) (pos w2) (corner t.a) (corner t.b) (corner t.c)
  where
    step : (n : Vector) (u v w : ℤ) (a b c : Vector) →
        dot_of n (vector (((u *ℤ a.x) +ℤ (v *ℤ b.x)) +ℤ (w *ℤ c.x)) (((u *ℤ a.y) +ℤ (v *ℤ b.y)) +ℤ (w *ℤ c.y)) (((u *ℤ a.z) +ℤ (v *ℤ b.z)) +ℤ (w *ℤ c.z)))
        ≡ ((u *ℤ dot_of n a) +ℤ (v *ℤ dot_of n b)) +ℤ (w *ℤ dot_of n c)
    step n u v w a b c =
        same
        (plus (plus (times (the n.x) (plus (plus (times (the u) (the a.x)) (times (the v) (the b.x))) (times (the w) (the c.x)))) (times (the n.y) (plus (plus (times (the u) (the a.y)) (times (the v) (the b.y))) (times (the w) (the c.y))))) (times (the n.z) (plus (plus (times (the u) (the a.z)) (times (the v) (the b.z))) (times (the w) (the c.z)))))
        (plus (plus (times (the u) (plus (plus (times (the n.x) (the a.x)) (times (the n.y) (the a.y))) (times (the n.z) (the a.z)))) (times (the v) (plus (plus (times (the n.x) (the b.x)) (times (the n.y) (the b.y))) (times (the n.z) (the b.z))))) (times (the w) (plus (plus (times (the n.x) (the c.x)) (times (the n.y) (the c.y))) (times (the n.z) (the c.z)))))
        (omega arith)

-- weights of numbers below a number have a sum below its multiple
sum_below : (w0 w1 w2 : ℕ) (p q r l : ℤ) → 1 ≤ w0 + w1 + w2 → p <ℤ l → q <ℤ l → r <ℤ l → (((pos w0 *ℤ p) +ℤ (pos w1 *ℤ q)) +ℤ (pos w2 *ℤ r)) <ℤ (pos (w0 + w1 + w2) *ℤ l)
sum_below w0 w1 w2 p q r l some first second third =
    omega (
      arith,
      ints,
      some,
      product_at_most (pos w0) p (l -ℤ pos 1) (omega (arith, ints)) (omega (arith, ints, first)),
      product_at_most (pos w1) q (l -ℤ pos 1) (omega (arith, ints)) (omega (arith, ints, second)),
      product_at_most (pos w2) r (l -ℤ pos 1) (omega (arith, ints)) (omega (arith, ints, third)),
      *ℤ--ℤ (pos w0) l (pos 1),
      *ℤ--ℤ (pos w1) l (pos 1),
      *ℤ--ℤ (pos w2) l (pos 1),
      whole,
    )
  where
    whole : pos (w0 + w1 + w2) *ℤ l ≡ ((pos w0 *ℤ l) +ℤ (pos w1 *ℤ l)) +ℤ (pos w2 *ℤ l)
    whole =
        same
        (times (plus (plus (the (pos w0)) (the (pos w1))) (the (pos w2))) (the l))
        (plus (plus (times (the (pos w0)) (the l)) (times (the (pos w1)) (the l))) (times (the (pos w2)) (the l)))
        (omega arith)

-- ---- what shares a point

-- a cube with a point has its planes in order
pub box_met : (t : Triangle) (cube : Cube) → Meets t cube → IsBox (lowest cube) (highest cube)
box_met t cube met = record {
  x = in_order _ _ _ met.x.0 met.x.1;
  y = in_order _ _ _ met.y.0 met.y.1;
  z = in_order _ _ _ met.z.0 met.z.1;
}
  where
    above : pos 0 <ℤ pos (met.w0 + met.w1 + met.w2)
    above = let some = met.some in omega (arith, ints, some)

    in_order : (low mid high : ℤ) → (pos (met.w0 + met.w1 + met.w2) *ℤ low) ≤ℤ mid → mid ≤ℤ (pos (met.w0 + met.w1 + met.w2) *ℤ high) → low ≤ℤ high
    in_order low mid high over under =
        factor_at_most (pos (met.w0 + met.w1 + met.w2)) low high above (omega (arith, ints, over, under))

pub not_both : (t : Triangle) (cube : Cube) (n : Vector) → Meets t cube → IsBefore (lowest cube) (highest cube) (corner t.a) (corner t.b) (corner t.c) n → ⊥
not_both t cube n met before =
    let lo = lowest cube in
    let hi = highest cube in
    let is_box = box_met t cube met in
    let total = pos (met.w0 + met.w1 + met.w2) in
    let point = point_of met.w0 met.w1 met.w2 t in
    let in_box : IsIn (times_of total lo) (times_of total hi) point = record { low_x = met.x.0; high_x = met.x.1; low_y = met.y.0; high_y = met.y.1; low_z = met.z.0; high_z = met.z.1 } in
    let far : least_in n (times_of total lo) (times_of total hi) ≤ℤ dot_of n point = least_in-at_most n (times_of total lo) (times_of total hi) point in_box in
    let near = sum_below met.w0 met.w1 met.w2 _ _ _ (least_in n lo hi) met.some
    (behind_says lo hi n (corner t.a) is_box before.first) (behind_says lo hi n (corner t.b) is_box before.second) (behind_says lo hi n (corner t.c) is_box before.third) in
    clash (least_in-times n lo hi total) far (point_product n met.w0 met.w1 met.w2 t) near
  where
    clash : {a b c d : ℤ} → a ≡ d → a ≤ℤ b → b ≡ c → c <ℤ d → ⊥
    clash e most f less = omega (arith, ints, e, most, f, less)
