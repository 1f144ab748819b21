-- Vectors along one line. If a direction has a product below 0 with no row of a list, then so has each vector along its line, or the opposite.
use Rattle.std.proofs.Common.{◌≡◌, List, inl, inr, arith, sym, ◌∙◌, ℤ, pos, ◌+ℤ◌, ◌-ℤ◌, ◌*ℤ◌, neg_ℤ, ◌≤ℤ◌, ◌<ℤ◌}
use Rattle.std.specs.Prelude.{◌⊎◌}
use Rattle.std.proofs.lemmas.Int.{ints, by_lt_z}
use Rattle.svo_base.specs.declared.shapes.Vector.{Vector}
use Rattle.octree_specs.specs.Vectors.{dot_of, cross_of, opposite_of}
use Rattle.octree_specs.proofs.Integers.{product_not_negative, factor_not_negative, *ℤ-neg_ℤ, neg_ℤ-*ℤ}
use Rattle.octree_specs.proofs.SignedTerms.{the, plus, minus, times, same}
use Rattle.octree_specs.proofs.Vectors.{IsZero, IsNonzero, norm_positive, across_both, dot_of-opposite_of, turned}
use Rattle.octree_specs.proofs.Cones.{Clears, IsOnTwo}

-- one number of `c (w w) - w (w c)`, by numbers of the cross product; p, q, r are the axes in turn
along_axis : (wp wq wr cp cq cr : ℤ) →
    cp *ℤ (((wp *ℤ wp) +ℤ (wq *ℤ wq)) +ℤ (wr *ℤ wr))
    ≡ (wp *ℤ (((wp *ℤ cp) +ℤ (wq *ℤ cq)) +ℤ (wr *ℤ cr))) +ℤ ((wr *ℤ ((wr *ℤ cp) -ℤ (wp *ℤ cr))) -ℤ (wq *ℤ ((wp *ℤ cq) -ℤ (wq *ℤ cp))))
along_axis wp wq wr cp cq cr =
    same
    (times (the cp) (plus (plus (times (the wp) (the wp)) (times (the wq) (the wq))) (times (the wr) (the wr))))
    (plus (times (the wp) (plus (plus (times (the wp) (the cp)) (times (the wq) (the cq))) (times (the wr) (the cr)))) (minus (times (the wr) (minus (times (the wr) (the cp)) (times (the wp) (the cr)))) (times (the wq) (minus (times (the wp) (the cq)) (times (the wq) (the cp))))))
    (omega arith)

only : (a b c : ℤ) → a +ℤ ((b *ℤ pos 0) -ℤ (c *ℤ pos 0)) ≡ a
only a b c = omega (arith, ints)

-- along one line, c times the square of w's length is w times their product
pub record IsAlong (w c : Vector) : Type 0 where
  pub x : c.x *ℤ dot_of w w ≡ w.x *ℤ dot_of w c
  pub y : c.y *ℤ dot_of w w ≡ w.y *ℤ dot_of w c
  pub z : c.z *ℤ dot_of w w ≡ w.z *ℤ dot_of w c

pub along : (w c : Vector) → IsZero (cross_of w c) → IsAlong w c
along w c none = record {
  x = along_axis w.x w.y w.z c.x c.y c.z ∙ rw (none.y, none.z) (only (w.x *ℤ dot_of w c) w.z w.y);
  y = rw (turned (w.x *ℤ w.x) (w.y *ℤ w.y) (w.z *ℤ w.z), turned (w.x *ℤ c.x) (w.y *ℤ c.y) (w.z *ℤ c.z)) (along_axis w.y w.z w.x c.y c.z c.x ∙ rw (none.z, none.x) (only (w.y *ℤ (((w.y *ℤ c.y) +ℤ (w.z *ℤ c.z)) +ℤ (w.x *ℤ c.x))) w.x w.z));
  z = rw (← turned (w.z *ℤ w.z) (w.x *ℤ w.x) (w.y *ℤ w.y), ← turned (w.z *ℤ c.z) (w.x *ℤ c.x) (w.y *ℤ c.y)) (along_axis w.z w.x w.y c.z c.x c.y ∙ rw (none.x, none.y) (only (w.z *ℤ (((w.z *ℤ c.z) +ℤ (w.x *ℤ c.x)) +ℤ (w.y *ℤ c.y))) w.y w.x));
}

-- a product with some factor, number by number
spread : (v r : Vector) (n : ℤ) → n *ℤ dot_of v r ≡ ((r.x *ℤ (v.x *ℤ n)) +ℤ (r.y *ℤ (v.y *ℤ n))) +ℤ (r.z *ℤ (v.z *ℤ n))
spread v r n =
    same
    (times (the n) (plus (plus (times (the v.x) (the r.x)) (times (the v.y) (the r.y))) (times (the v.z) (the r.z))))
    (plus (plus (times (the r.x) (times (the v.x) (the n))) (times (the r.y) (times (the v.y) (the n)))) (times (the r.z) (times (the v.z) (the n))))
    (omega arith)

-- so products with c are those with w, times a factor
pub products_along : (w c r : Vector) → IsAlong w c → dot_of w w *ℤ dot_of c r ≡ dot_of w c *ℤ dot_of w r
products_along w c r is = spread c r (dot_of w w) ∙ rw (is.x, is.y, is.z) (sym (spread w r (dot_of w c)))

-- the vector, or its opposite, clears what w clears
pub clears_along : (rows : List Vector) (w c : Vector) → IsNonzero w → Clears rows w → IsZero (cross_of w c) → Clears rows c ⊎ Clears rows (opposite_of c)
clears_along rows w c some clear line =
    by_lt_z (pos 0) d
    (λ ahead. inl (λ r among. factor_not_negative n (dot_of c r) long (rw (products_along w c r is) (product_not_negative d (dot_of w r) (omega (arith, ints, ahead)) (clear r among)))))
    (λ behind. inr (λ r among. against r (clear r among) behind))
  where
    n : ℤ
    n = dot_of w w

    d : ℤ
    d = dot_of w c

    long : pos 0 <ℤ dot_of w w
    long = norm_positive w some

    is : IsAlong w c
    is = along w c line

    against : (r : Vector) → pos 0 ≤ℤ dot_of w r → dot_of w c ≤ℤ pos 0 → pos 0 ≤ℤ dot_of (opposite_of c) r
    against r over behind =
        rw (dot_of-opposite_of c r)
        (factor_not_negative (dot_of w w) (neg_ℤ (dot_of c r)) long
        (omega (arith, ints, *ℤ-neg_ℤ (dot_of w w) (dot_of c r), products_along w c r is, product_not_negative (neg_ℤ (dot_of w c)) (dot_of w r) (omega (arith, ints, behind)) over, neg_ℤ-*ℤ (dot_of w c) (dot_of w r))))

-- a direction across two rows that differ is along their cross product, so that or its opposite clears what the direction clears
pub cross_clears : (rows : List Vector) (w a b : Vector) → IsOnTwo rows w a b → Clears rows (cross_of a b) ⊎ Clears rows (opposite_of (cross_of a b))
cross_clears rows w a b on = clears_along rows w (cross_of a b) on.some on.clears (across_both w a b on.first_level on.second_level)
