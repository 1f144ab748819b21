-- Scalar and cross products: when they are zero, and which are equal.
use Rattle.std.proofs.Common.{◌≡◌, true, false, refl, arith, ap, ◌∙◌, sym, ℤ, pos, ◌+ℤ◌, ◌-ℤ◌, ◌*ℤ◌, neg_ℤ, ◌<ℤ◌}
use Rattle.std.proofs.lemmas.Bool.{both_ways, false_from_ne_true}
use Rattle.std.proofs.lemmas.Int.{ints, by_lt_z}
use Rattle.std.proofs.Math.IntN.{neg_ℤ-neg_ℤ}
use Rattle.svo_base.specs.declared.shapes.Vector.{Vector}
use Rattle.octree_specs.specs.Vectors.{vector, dot_of, cross_of, opposite_of, is_zero_vector}
use Rattle.octree_specs.proofs.Integers.{square_not_negative, square_zero, factor_zero, neg_ℤ-*ℤ, *ℤ-neg_ℤ}
use Rattle.octree_specs.proofs.SignedTerms.{the, plus, minus, times, negated, same}

-- all three numbers are 0
pub record IsZero (v : Vector) : Type 0 where
  pub x : v.x ≡ pos 0
  pub y : v.y ≡ pos 0
  pub z : v.z ≡ pos 0

abbrev pub IsNonzero : Vector → Type 0
IsNonzero v = IsZero v → ⊥

zero_test : (x y z : ℤ) → x ≡ pos 0 → y ≡ pos 0 → z ≡ pos 0 → is_zero_vector (vector x y z) ≡ true
zero_test x y z p q r = grind (arith, ints)

zero_passed : (x y z : ℤ) → is_zero_vector (vector x y z) ≡ true → (x ≡ pos 0) × (y ≡ pos 0) × (z ≡ pos 0)
zero_passed x y z passed = (grind (arith, ints), grind (arith, ints), grind (arith, ints))

-- the test by which definitions say it
pub nonzero_test : (v : Vector) → IsNonzero v → is_zero_vector v ≡ false
nonzero_test v some =
    false_from_ne_true (is_zero_vector v) (λ passed. let parts = zero_passed v.x v.y v.z passed in some (record { x = parts.0; y = parts.1; z = parts.2 }))

pub nonzero_from_test : (v : Vector) → is_zero_vector v ≡ false → IsNonzero v
nonzero_from_test v test none = both_ways (is_zero_vector v) test (zero_test v.x v.y v.z none.x none.y none.z)

-- ---- combinations of two vectors

-- s times one vector and k times another
abbrev pub mixed : ℤ → Vector → ℤ → Vector → Vector
mixed s w k u = vector ((s *ℤ w.x) +ℤ (k *ℤ u.x)) ((s *ℤ w.y) +ℤ (k *ℤ u.y)) ((s *ℤ w.z) +ℤ (k *ℤ u.z))

pub dot_of-mixed : (s : ℤ) (w : Vector) (k : ℤ) (u r : Vector) → dot_of (mixed s w k u) r ≡ (s *ℤ dot_of w r) +ℤ (k *ℤ dot_of u r)
dot_of-mixed s w k u r =
    same
    (plus (plus (times (plus (times (the s) (the w.x)) (times (the k) (the u.x))) (the r.x)) (times (plus (times (the s) (the w.y)) (times (the k) (the u.y))) (the r.y))) (times (plus (times (the s) (the w.z)) (times (the k) (the u.z))) (the r.z)))
    (plus (times (the s) (plus (plus (times (the w.x) (the r.x)) (times (the w.y) (the r.y))) (times (the w.z) (the r.z)))) (times (the k) (plus (plus (times (the u.x) (the r.x)) (times (the u.y) (the r.y))) (times (the u.z) (the r.z)))))
    (omega arith)

minor_of_mixed : (s p q k u v : ℤ) → ((((s *ℤ p) +ℤ (k *ℤ u)) *ℤ v) -ℤ (((s *ℤ q) +ℤ (k *ℤ v)) *ℤ u)) ≡ s *ℤ ((p *ℤ v) -ℤ (q *ℤ u))
minor_of_mixed s p q k u v =
    same
    (minus (times (plus (times (the s) (the p)) (times (the k) (the u))) (the v)) (times (plus (times (the s) (the q)) (times (the k) (the v))) (the u)))
    (times (the s) (minus (times (the p) (the v)) (times (the q) (the u))))
    (omega arith)

nothing : (u v : ℤ) → ((pos 0 *ℤ v) -ℤ (pos 0 *ℤ u)) ≡ pos 0
nothing u v = omega (arith, ints)

minor_zero : (s p q k u v : ℤ) → pos 0 <ℤ s → (s *ℤ p) +ℤ (k *ℤ u) ≡ pos 0 → (s *ℤ q) +ℤ (k *ℤ v) ≡ pos 0 → ((p *ℤ v) -ℤ (q *ℤ u)) ≡ pos 0
minor_zero s p q k u v above first second =
    factor_zero s ((p *ℤ v) -ℤ (q *ℤ u)) above
    (sym (minor_of_mixed s p q k u v) ∙ rw (first, second) (nothing u v))

-- two directions that differ have no combination that is zero
pub mixed_nonzero : (s : ℤ) (w : Vector) (k : ℤ) (u : Vector) → pos 0 <ℤ s → IsNonzero (cross_of w u) → IsNonzero (mixed s w k u)
mixed_nonzero s w k u above differ none =
    differ (record {
      x = minor_zero s w.y w.z k u.y u.z above none.y none.z;
      y = minor_zero s w.z w.x k u.z u.x above none.z none.x;
      z = minor_zero s w.x w.y k u.x u.y above none.x none.y;
    })

-- ---- lengths

pub norm_positive : (v : Vector) → IsNonzero v → pos 0 <ℤ dot_of v v
norm_positive v some =
    by_lt_z (pos 0) (dot_of v v) (λ above. above)
    (λ none.
    let x = square_not_negative v.x in
    let y = square_not_negative v.y in
    let z = square_not_negative v.z in
    absurd (some (record {
      x = square_zero v.x (omega (arith, ints, none, x, y, z));
      y = square_zero v.y (omega (arith, ints, none, x, y, z));
      z = square_zero v.z (omega (arith, ints, none, x, y, z));
    })))

-- ---- cross products

-- a cross product is across both of its vectors
pub cross_of-first : (a b : Vector) → dot_of (cross_of a b) a ≡ pos 0
cross_of-first a b =
    same
    (plus (plus (times (minus (times (the a.y) (the b.z)) (times (the a.z) (the b.y))) (the a.x)) (times (minus (times (the a.z) (the b.x)) (times (the a.x) (the b.z))) (the a.y))) (times (minus (times (the a.x) (the b.y)) (times (the a.y) (the b.x))) (the a.z)))
    (the (pos 0))
    (omega arith)

pub cross_of-second : (a b : Vector) → dot_of (cross_of a b) b ≡ pos 0
cross_of-second a b =
    same
    (plus (plus (times (minus (times (the a.y) (the b.z)) (times (the a.z) (the b.y))) (the b.x)) (times (minus (times (the a.z) (the b.x)) (times (the a.x) (the b.z))) (the b.y))) (times (minus (times (the a.x) (the b.y)) (times (the a.y) (the b.x))) (the b.z)))
    (the (pos 0))
    (omega arith)

-- the product of three vectors may begin with any of them
pub triple_product : (a b c : Vector) → dot_of (cross_of a b) c ≡ dot_of a (cross_of b c)
triple_product a b c =
    same
    (plus (plus (times (minus (times (the a.y) (the b.z)) (times (the a.z) (the b.y))) (the c.x)) (times (minus (times (the a.z) (the b.x)) (times (the a.x) (the b.z))) (the c.y))) (times (minus (times (the a.x) (the b.y)) (times (the a.y) (the b.x))) (the c.z)))
    (plus (plus (times (the a.x) (minus (times (the b.y) (the c.z)) (times (the b.z) (the c.y)))) (times (the a.y) (minus (times (the b.z) (the c.x)) (times (the b.x) (the c.z))))) (times (the a.z) (minus (times (the b.x) (the c.y)) (times (the b.y) (the c.x)))))
    (omega arith)

-- one number of `cross_of a (cross_of b c)`, which is `b (a c) - c (a b)`; p, q, r are the axes in turn
double_cross : (ap aq ar bp bq br cp cq cr : ℤ) →
    ((aq *ℤ ((bp *ℤ cq) -ℤ (bq *ℤ cp))) -ℤ (ar *ℤ ((br *ℤ cp) -ℤ (bp *ℤ cr))))
    ≡ (bp *ℤ (((ap *ℤ cp) +ℤ (aq *ℤ cq)) +ℤ (ar *ℤ cr))) -ℤ (cp *ℤ (((ap *ℤ bp) +ℤ (aq *ℤ bq)) +ℤ (ar *ℤ br)))
double_cross ap aq ar bp bq br cp cq cr =
    same
    (minus (times (the aq) (minus (times (the bp) (the cq)) (times (the bq) (the cp)))) (times (the ar) (minus (times (the br) (the cp)) (times (the bp) (the cr)))))
    (minus (times (the bp) (plus (plus (times (the ap) (the cp)) (times (the aq) (the cq))) (times (the ar) (the cr)))) (times (the cp) (plus (plus (times (the ap) (the bp)) (times (the aq) (the bq))) (times (the ar) (the br)))))
    (omega arith)

pub turned : (p q r : ℤ) → (p +ℤ q) +ℤ r ≡ (q +ℤ r) +ℤ p
turned p q r = omega (arith, ints)

-- what is across two vectors has no cross product with theirs
pub across_both : (a b c : Vector) → dot_of a b ≡ pos 0 → dot_of a c ≡ pos 0 → IsZero (cross_of a (cross_of b c))
across_both a b c first second = record {
  x = double_cross a.x a.y a.z b.x b.y b.z c.x c.y c.z ∙ rw (first, second) (nothing_left b.x c.x);
  y = double_cross a.y a.z a.x b.y b.z b.x c.y c.z c.x ∙ rw (← turned (a.x *ℤ b.x) (a.y *ℤ b.y) (a.z *ℤ b.z), ← turned (a.x *ℤ c.x) (a.y *ℤ c.y) (a.z *ℤ c.z), first, second) (nothing_left b.y c.y);
  z = double_cross a.z a.x a.y b.z b.x b.y c.z c.x c.y ∙ rw (turned (a.z *ℤ b.z) (a.x *ℤ b.x) (a.y *ℤ b.y), turned (a.z *ℤ c.z) (a.x *ℤ c.x) (a.y *ℤ c.y), first, second) (nothing_left b.z c.z);
}
  where
    nothing_left : (p q : ℤ) → ((p *ℤ pos 0) -ℤ (q *ℤ pos 0)) ≡ pos 0
    nothing_left p q = omega (arith, ints)

-- a vector and one across it are not along one line
pub across_differs : (w r : Vector) → IsNonzero w → IsNonzero r → dot_of w r ≡ pos 0 → IsNonzero (cross_of w (cross_of w r))
across_differs w r some_w some_r level none =
    some_r (record {
      x = factor_zero (dot_of w w) r.x above (left w.x r.x (dot_of w r) (dot_of w w) level (sym none.x ∙ double_cross w.x w.y w.z w.x w.y w.z r.x r.y r.z));
      y = factor_zero (dot_of w w) r.y above (left w.y r.y (dot_of w r) (dot_of w w) level (sym none.y ∙ double_cross w.y w.z w.x w.y w.z w.x r.y r.z r.x ∙ rw (turned (w.x *ℤ w.x) (w.y *ℤ w.y) (w.z *ℤ w.z), turned (w.x *ℤ r.x) (w.y *ℤ r.y) (w.z *ℤ r.z)) refl));
      z = factor_zero (dot_of w w) r.z above (left w.z r.z (dot_of w r) (dot_of w w) level (sym none.z ∙ double_cross w.z w.x w.y w.z w.x w.y r.z r.x r.y ∙ rw (turned (w.z *ℤ w.z) (w.x *ℤ w.x) (w.y *ℤ w.y), turned (w.z *ℤ r.z) (w.x *ℤ r.x) (w.y *ℤ r.y)) refl));
    })
  where
    above : pos 0 <ℤ dot_of w w
    above = norm_positive w some_w

    left : (p q d n : ℤ) → d ≡ pos 0 → pos 0 ≡ (p *ℤ d) -ℤ (q *ℤ n) → n *ℤ q ≡ pos 0
    left p q d n none whole =
        let known : pos 0 ≡ (p *ℤ pos 0) -ℤ (q *ℤ n) = rw none at whole in
        omega (arith, ints, known, same (times (the n) (the q)) (times (the q) (the n)) (omega arith))

-- ---- opposites

pub dot_of-opposite_of : (a r : Vector) → dot_of (opposite_of a) r ≡ neg_ℤ (dot_of a r)
dot_of-opposite_of a r = omega (arith, ints, neg_ℤ-*ℤ a.x r.x, neg_ℤ-*ℤ a.y r.y, neg_ℤ-*ℤ a.z r.z)

pub vector_same : (x y z p q r : ℤ) → x ≡ p → y ≡ q → z ≡ r → vector x y z ≡ vector p q r
vector_same x y z p q r e f g = rw (e, f, g) refl

turned_minor : (p q r s : ℤ) → ((p *ℤ q) -ℤ (r *ℤ s)) ≡ neg_ℤ ((s *ℤ r) -ℤ (q *ℤ p))
turned_minor p q r s =
    same (minus (times (the p) (the q)) (times (the r) (the s))) (negated (minus (times (the s) (the r)) (times (the q) (the p)))) (omega arith)

-- the cross product of two vectors the other way round is the opposite
pub cross_of-turned : (a b : Vector) → cross_of b a ≡ opposite_of (cross_of a b)
cross_of-turned a b =
    vector_same _ _ _ _ _ _
    (turned_minor b.y a.z b.z a.y) (turned_minor b.z a.x b.x a.z) (turned_minor b.x a.y b.y a.x)

pub opposite_of-twice : (a : Vector) → opposite_of (opposite_of a) ≡ vector a.x a.y a.z
opposite_of-twice a = vector_same _ _ _ _ _ _ (neg_ℤ-neg_ℤ a.x) (neg_ℤ-neg_ℤ a.y) (neg_ℤ-neg_ℤ a.z)

pub opposite_nonzero : (a : Vector) → IsNonzero a → IsNonzero (opposite_of a)
opposite_nonzero a some none =
    some (record { x = omega (arith, ints, none.x); y = omega (arith, ints, none.y); z = omega (arith, ints, none.z) })

-- a vector is along one line with another exactly where it is with the opposite
pub cross_of-opposite_nonzero : (w u : Vector) → IsNonzero (cross_of w u) → IsNonzero (cross_of w (opposite_of u))
cross_of-opposite_nonzero w u some none =
    some (record { x = same_line w.y u.z w.z u.y none.x; y = same_line w.z u.x w.x u.z none.y; z = same_line w.x u.y w.y u.x none.z })
  where
    same_line : (p q r s : ℤ) → ((p *ℤ neg_ℤ q) -ℤ (r *ℤ neg_ℤ s)) ≡ pos 0 → ((p *ℤ q) -ℤ (r *ℤ s)) ≡ pos 0
    same_line p q r s e = omega (arith, ints, e, *ℤ-neg_ℤ p q, *ℤ-neg_ℤ r s)

-- a vector is along one line with itself, and with no vector
pub cross_of-same : (a : Vector) → IsZero (cross_of a a)
cross_of-same a = record { x = none a.y a.z; y = none a.z a.x; z = none a.x a.y }
  where
    none : (p q : ℤ) → ((p *ℤ q) -ℤ (q *ℤ p)) ≡ pos 0
    none p q = same (minus (times (the p) (the q)) (times (the q) (the p))) (the (pos 0)) (omega arith)

pub cross_of-zero : (w u : Vector) → IsZero u → IsZero (cross_of w u)
cross_of-zero w u none =
    record { x = rw (none.z, none.y) (left w.y w.z); y = rw (none.x, none.z) (left w.z w.x); z = rw (none.y, none.x) (left w.x w.y) }
  where
    left : (p q : ℤ) → ((p *ℤ pos 0) -ℤ (q *ℤ pos 0)) ≡ pos 0
    left p q = omega (arith, ints)

pub dot_of-zero : (w u : Vector) → IsZero u → dot_of w u ≡ pos 0
dot_of-zero w u none = rw (none.x, none.y, none.z) (omega (arith, ints))

-- ---- unit vectors

abbrev pub unit_x : Vector
unit_x = vector (pos 1) (pos 0) (pos 0)

abbrev pub unit_y : Vector
unit_y = vector (pos 0) (pos 1) (pos 0)

abbrev pub unit_z : Vector
unit_z = vector (pos 0) (pos 0) (pos 1)

-- the product with a unit row is a number of the vector
pub dot_of-unit_x : (w : Vector) → dot_of w unit_x ≡ w.x
dot_of-unit_x w = omega (arith, ints)

pub dot_of-unit_y : (w : Vector) → dot_of w unit_y ≡ w.y
dot_of-unit_y w = omega (arith, ints)

pub dot_of-unit_z : (w : Vector) → dot_of w unit_z ≡ w.z
dot_of-unit_z w = omega (arith, ints)

pub ruleset products_with_units = (dot_of-unit_x, dot_of-unit_y, dot_of-unit_z)
