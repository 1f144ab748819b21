-- Directions that go the same way: what one says of points, the other says too.
use Rattle.std.proofs.Common.{◌≡◌, inl, inr, arith, ◌∙◌, ℤ, pos, ◌-ℤ◌, ◌*ℤ◌, neg_ℤ, ◌≤ℤ◌, ◌<ℤ◌}
use Rattle.std.specs.Prelude.{◌⊎◌}
use Rattle.std.proofs.lemmas.Int.{ints, by_lt_z}
use lib.Signed.{clash_ℤ}
use Rattle.svo_base.specs.declared.shapes.Vector.{Vector}
use Rattle.octree_specs.specs.Vectors.{dot_of, cross_of, opposite_of}
use Rattle.octree_specs.proofs.Integers.{product_at_most, product_positive, factor_at_most, factor_zero, neg_ℤ-*ℤ, *ℤ-neg_ℤ, *ℤ--ℤ}
use Rattle.octree_specs.proofs.SignedTerms.{the, times, same}
use Rattle.octree_specs.proofs.Vectors.{IsZero, IsNonzero, norm_positive, dot_of-opposite_of}
use Rattle.octree_specs.proofs.Along.{IsAlong, along, products_along}
use Rattle.tri_cube.proofs.Directions.{IsBehind, IsBefore}

-- products with w are those with m, but for two factors above 0
pub record IsSameWay (m w : Vector) : Type 0 where
  n : ℤ
  d : ℤ
  above_n : pos 0 <ℤ n
  above_d : pos 0 <ℤ d
  is : (r : Vector) → n *ℤ dot_of w r ≡ d *ℤ dot_of m r

-- along one line, two directions that are not zero go the same way or opposite ways
pub same_way : (m w : Vector) → IsNonzero m → IsNonzero w → IsZero (cross_of m w) → IsSameWay m w ⊎ IsSameWay m (opposite_of w)
same_way m w some_m some_w line =
    by_lt_z (pos 0) (dot_of m w)
    (λ ahead. inl (record { n = dot_of m m; d = dot_of m w; above_n = norm_positive m some_m; above_d = ahead; is = λ r. products_along m w r alongside }))
    (λ over. by_lt_z (dot_of m w) (pos 0)
    (λ behind. inr (record {
      n = dot_of m m;
      d = neg_ℤ (dot_of m w);
      above_n = norm_positive m some_m;
      above_d = omega (arith, ints, behind);
      is = λ r. rw (dot_of-opposite_of w r) (omega (arith, ints, *ℤ-neg_ℤ (dot_of m m) (dot_of w r), products_along m w r alongside, neg_ℤ-*ℤ (dot_of m w) (dot_of m r)));
    }))
    (λ under. absurd (some_w (none (omega (arith, ints, over, under))))))
  where
    alongside : IsAlong m w
    alongside = along m w line

    number : (p q : ℤ) → dot_of m w ≡ pos 0 → p *ℤ dot_of m m ≡ q *ℤ dot_of m w → p ≡ pos 0
    number p q level e =
        factor_zero (dot_of m m) p (norm_positive m some_m)
        (same (times (the (dot_of m m)) (the p)) (times (the p) (the (dot_of m m))) (omega arith) ∙ e ∙ rw level (omega (arith, ints)))

    none : dot_of m w ≡ pos 0 → IsZero w
    none level =
        record { x = number w.x m.x level alongside.x; y = number w.y m.y level alongside.y; z = number w.z m.z level alongside.z }

pub same_most : (m w p r : Vector) → IsSameWay m w → dot_of m r ≤ℤ dot_of m p → dot_of w r ≤ℤ dot_of w p
same_most m w p r way most =
    factor_at_most way.n (dot_of w r) (dot_of w p) way.above_n
    (rw (way.is r, way.is p) (product_at_most way.d (dot_of m r) (dot_of m p) (omega (arith, ints, way.above_d)) most))

pub same_less : (m w p x : Vector) → IsSameWay m w → dot_of m p <ℤ dot_of m x → dot_of w p <ℤ dot_of w x
same_less m w p x way less =
    by_lt_z (dot_of w p) (dot_of w x) (λ below. below)
    (λ over. clash_ℤ
    (ahead (way.d *ℤ dot_of m p) (way.d *ℤ dot_of m x) (product_positive way.d (dot_of m x -ℤ dot_of m p) way.above_d (omega (arith, ints, less))) (*ℤ--ℤ way.d (dot_of m x) (dot_of m p)))
    (rw (← way.is p, ← way.is x) (product_at_most way.n (dot_of w x) (dot_of w p) (omega (arith, ints, way.above_n)) over)))
  where
    ahead : (a b : ℤ) {c : ℤ} → pos 0 <ℤ c → c ≡ b -ℤ a → a <ℤ b
    ahead a b {c} above e = omega (arith, ints, above, e)

same_behind : (lo hi m w p : Vector) → IsSameWay m w → IsBehind lo hi m p → IsBehind lo hi w p
same_behind lo hi m w p way is = record { behind = λ x in_box. same_less m w p x way (is.behind x in_box) }

pub same_before : (lo hi a b c m w : Vector) → IsSameWay m w → IsBefore lo hi a b c m → IsBefore lo hi a b c w
same_before lo hi a b c m w way is =
    record { first = same_behind lo hi m w a way is.first; second = same_behind lo hi m w b way is.second; third = same_behind lo hi m w c way is.third }
