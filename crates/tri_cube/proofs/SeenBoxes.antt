-- The tests by the boxes and by the triangle's plane say in which direction the triangle is before the box, and see each such direction.
use Rattle.std.proofs.Common.{◌≡◌, Bool, true, ◌||◌, inl, inr, refl, subst, arith, sym, ℤ, pos, ◌-ℤ◌, ◌*ℤ◌, neg_ℤ, ◌≤ℤ◌, ◌<ℤ◌}
use Rattle.std.specs.Prelude.{◌⊎◌, int_lt}
use Rattle.std.specs.Int.{int_min, int_max}
use Rattle.std.proofs.lemmas.Bool.{or_cases, or_left, or_right}
use Rattle.std.proofs.lemmas.Int.{ints, clamps, by_lt_z}
use lib.Signed.{≤ℤ_refl}
use Rattle.svo_base.specs.declared.shapes.Vector.{Vector}
use Rattle.octree_specs.specs.Vectors.{dot_of, cross_of, opposite_of}
use Rattle.octree_specs.proofs.Integers.{product_at_most, neg_ℤ-*ℤ}
use Rattle.octree_specs.proofs.SignedTerms.{the, minus, times, same}
use Rattle.octree_specs.proofs.Vectors.{IsZero, IsNonzero, across_both, cross_of-first, cross_of-second, dot_of-opposite_of, vector_same, unit_x, unit_y, unit_z}
use Rattle.tri_cube.specs.Extents.{ExtentShape, between, extent_of, shapes_miss}
use Rattle.tri_cube.proofs.Directions.{IsIn, IsBehind, IsBefore}
use Rattle.tri_cube.proofs.DirectionKinds.{IsBox, IsAcross, minus_of, dot_of-minus_of}
use Rattle.tri_cube.proofs.SameWay.{same_way, same_before}
use Rattle.tri_cube.proofs.LeastProducts.{least_in, greatest_in, greatest_in-is, less_test, test_less, behind_from, behind_says}

-- ---- boxes

-- all three are below the between, or all are above it
misses_below : (a b c : ℤ) (s : ExtentShape) → a <ℤ s.low → b <ℤ s.low → c <ℤ s.low → shapes_miss (extent_of a b c) s ≡ true
misses_below a b c s p q r =
    or_left _ _ (less_test (int_max (int_max a b) c) s.low (omega (arith, ints, clamps, p, q, r)))

misses_above : (a b c : ℤ) (s : ExtentShape) → s.high <ℤ a → s.high <ℤ b → s.high <ℤ c → shapes_miss (extent_of a b c) s ≡ true
misses_above a b c s p q r =
    or_right _ _ (less_test s.high (int_min (int_min a b) c) (omega (arith, ints, clamps, p, q, r)))

record AllBelow (a b c k : ℤ) : Type 0 where
  first : a <ℤ k
  second : b <ℤ k
  third : c <ℤ k

record AllAbove (a b c k : ℤ) : Type 0 where
  first : k <ℤ a
  second : k <ℤ b
  third : k <ℤ c

misses_says : (a b c : ℤ) (s : ExtentShape) → shapes_miss (extent_of a b c) s ≡ true → AllBelow a b c s.low ⊎ AllAbove a b c s.high
misses_says a b c s test = elim (or_cases _ _ test) [
  | inl below ↦
      let less = test_less (int_max (int_max a b) c) s.low below in
      inl (record { first = omega (arith, ints, clamps, less); second = omega (arith, ints, clamps, less); third = omega (arith, ints, clamps, less) })
  | inr above ↦
      let less = test_less s.high (int_min (int_min a b) c) above in
      inr (record { first = omega (arith, ints, clamps, less); second = omega (arith, ints, clamps, less); third = omega (arith, ints, clamps, less) })
]

-- an axis, a number of vectors, and the direction along it
pub record IsAxis (n : Vector) (at : Vector → ℤ) : Type 0 where
  pub is : (v : Vector) → dot_of n v ≡ at v
  pub is_opposite : (v : Vector) → dot_of (opposite_of n) v ≡ neg_ℤ (at v)

pub axis_x : IsAxis unit_x (λ v. v.x)
axis_x = record { is = λ v. omega (arith, ints); is_opposite = λ v. omega (arith, ints) }

pub axis_y : IsAxis unit_y (λ v. v.y)
axis_y = record { is = λ v. omega (arith, ints); is_opposite = λ v. omega (arith, ints) }

pub axis_z : IsAxis unit_z (λ v. v.z)
axis_z = record { is = λ v. omega (arith, ints); is_opposite = λ v. omega (arith, ints) }

-- what is seen along an axis, in either direction
pub boxes_say : (lo hi a b c n : Vector) (at : Vector → ℤ) → IsAxis n at → ((x : Vector) → IsIn lo hi x → at lo ≤ℤ at x) → ((x : Vector) → IsIn lo hi x → at x ≤ℤ at hi)
    → shapes_miss (extent_of (at a) (at b) (at c)) (between (at lo) (at hi)) ≡ true → IsBefore lo hi a b c n ⊎ IsBefore lo hi a b c (opposite_of n)
boxes_say lo hi a b c n at axis low high test = elim (misses_says (at a) (at b) (at c) (between (at lo) (at hi)) test) [
  | inl below ↦ inl (record { first = before a below.first; second = before b below.second; third = before c below.third })
  | inr above ↦ inr (record { first = after a above.first; second = after b above.second; third = after c above.third })
]
  where
    before : (p : Vector) → at p <ℤ at lo → IsBehind lo hi n p
    before p less = record { behind = λ x in_box. omega (arith, ints, axis.is p, axis.is x, less, low x in_box) }

    after : (p : Vector) → at hi <ℤ at p → IsBehind lo hi (opposite_of n) p
    after p less = record { behind = λ x in_box. omega (arith, ints, axis.is_opposite p, axis.is_opposite x, less, high x in_box) }

-- a direction along the axis is seen
pub boxes_miss : (lo hi a b c m : Vector) (at : Vector → ℤ) → IsBox lo hi → IsBefore lo hi a b c m → (k : ℤ) → ((v : Vector) → dot_of m v ≡ k *ℤ at v) → (k ≡ pos 0 → ⊥)
    → shapes_miss (extent_of (at a) (at b) (at c)) (between (at lo) (at hi)) ≡ true
boxes_miss lo hi a b c m at is_box before k is some =
    by_lt_z (pos 0) k
    (λ ahead. misses_below (at a) (at b) (at c) (between (at lo) (at hi)) (below ahead a (before.first.behind lo low_in)) (below ahead b (before.second.behind lo low_in)) (below ahead c (before.third.behind lo low_in)))
    (λ over. by_lt_z k (pos 0)
    (λ back. misses_above (at a) (at b) (at c) (between (at lo) (at hi)) (above back a (before.first.behind hi high_in)) (above back b (before.second.behind hi high_in)) (above back c (before.third.behind hi high_in)))
    (λ under. absurd (some (omega (arith, ints, over, under)))))
  where
    low_in : IsIn lo hi lo
    low_in = record { low_x = ≤ℤ_refl lo.x; high_x = is_box.x; low_y = ≤ℤ_refl lo.y; high_y = is_box.y; low_z = ≤ℤ_refl lo.z; high_z = is_box.z }

    high_in : IsIn lo hi hi
    high_in = record { low_x = is_box.x; high_x = ≤ℤ_refl hi.x; low_y = is_box.y; high_y = ≤ℤ_refl hi.y; low_z = is_box.z; high_z = ≤ℤ_refl hi.z }

    below : pos 0 <ℤ k → (p : Vector) → dot_of m p <ℤ dot_of m lo → at p <ℤ at lo
    below ahead p less =
        by_lt_z (at p) (at lo) (λ h. h)
        (λ most. absurd (omega (arith, ints, less, is p, is lo, product_at_most k (at lo) (at p) (omega (arith, ints, ahead)) most)))

    above : k <ℤ pos 0 → (p : Vector) → dot_of m p <ℤ dot_of m hi → at hi <ℤ at p
    above back p less =
        by_lt_z (at hi) (at p) (λ h. h)
        (λ most. absurd (omega (arith, ints, less, is p, is hi, product_at_most (neg_ℤ k) (at p) (at hi) (omega (arith, ints, back)) most, neg_ℤ-*ℤ k (at p), neg_ℤ-*ℤ k (at hi))))

-- ---- the plane

-- the direction across the triangle
abbrev pub across : (a b c : Vector) → Vector
across a b c = cross_of (minus_of b a) (minus_of c a)

-- from the other end of both edges it is the same
area_from : (pp pq qp qq rp rq : ℤ) → (((qp -ℤ pp) *ℤ (rq -ℤ pq)) -ℤ ((qq -ℤ pq) *ℤ (rp -ℤ pp))) ≡ ((pp -ℤ qp) *ℤ (pq -ℤ rq)) -ℤ ((pq -ℤ qq) *ℤ (pp -ℤ rp))
area_from pp pq qp qq rp rq =
    same
    (minus (times (minus (the qp) (the pp)) (minus (the rq) (the pq))) (times (minus (the qq) (the pq)) (minus (the rp) (the pp))))
    (minus (times (minus (the pp) (the qp)) (minus (the pq) (the rq))) (times (minus (the pq) (the qq)) (minus (the pp) (the rp))))
    (omega arith)

across_is : (a b c : Vector) → across a b c ≡ cross_of (minus_of a b) (minus_of a c)
across_is a b c =
    vector_same _ _ _ _ _ _ (area_from a.y a.z b.y b.z c.y c.z) (area_from a.z a.x b.z b.x c.z c.x) (area_from a.x a.y b.x b.y c.x c.y)

-- all corners are equally far
across_second : (a b c : Vector) → dot_of (across a b c) b ≡ dot_of (across a b c) a
across_second a b c =
    omega (arith, ints, cross_of-first (minus_of b a) (minus_of c a), dot_of-minus_of (across a b c) b a)

across_third : (a b c : Vector) → dot_of (across a b c) c ≡ dot_of (across a b c) a
across_third a b c =
    omega (arith, ints, cross_of-second (minus_of b a) (minus_of c a), dot_of-minus_of (across a b c) c a)

abbrev pub is_beside : (lo hi a b c : Vector) → Bool
is_beside lo hi a b c =
    int_lt (dot_of (across a b c) a) (least_in (across a b c) lo hi) || int_lt (greatest_in (across a b c) lo hi) (dot_of (across a b c) a)

pub plane_says : (lo hi a b c : Vector) → is_beside lo hi a b c ≡ true → IsBefore lo hi a b c (across a b c) ⊎ IsBefore lo hi a b c (opposite_of (across a b c))
plane_says lo hi a b c test = elim (or_cases _ _ test) [
  | inl above ↦
      let less = test_less _ _ above in
      inl (record {
        first = behind_from lo hi (across a b c) a less;
        second = behind_from lo hi (across a b c) b (rw (across_second a b c) less);
        third = behind_from lo hi (across a b c) c (rw (across_third a b c) less);
      })
  | inr below ↦
      let less = test_less _ _ below in
      inr (record {
        first = back a less refl;
        second = back b less (across_second a b c);
        third = back c less (across_third a b c);
      })
]
  where
    back : (p : Vector) → greatest_in (across a b c) lo hi <ℤ dot_of (across a b c) a → dot_of (across a b c) p ≡ dot_of (across a b c) a → IsBehind lo hi (opposite_of (across a b c)) p
    back p less level =
        behind_from lo hi (opposite_of (across a b c)) p
        (omega (arith, ints, less, level, dot_of-opposite_of (across a b c) p, greatest_in-is (across a b c) lo hi))

pub plane_misses : (lo hi a b c m : Vector) → IsBox lo hi → IsBefore lo hi a b c m → IsNonzero m → IsAcross a b c m → is_beside lo hi a b c ≡ true
plane_misses lo hi a b c m is_box before some is = elim (same_way m (across a b c) some some_across line) [
  | inl way ↦ or_left _ _ (less_test _ _ (behind_says lo hi (across a b c) a is_box (same_before lo hi a b c m (across a b c) way before).first))
  | inr way ↦ or_right _ _ (less_test _ _ (back (behind_says lo hi (opposite_of (across a b c)) a is_box (same_before lo hi a b c m (opposite_of (across a b c)) way before).first)))
]
  where
    some_across : IsNonzero (across a b c)
    some_across = subst IsNonzero (sym (across_is a b c)) is.differ

    line : IsZero (cross_of m (across a b c))
    line =
        subst (λ v. IsZero (cross_of m v)) (sym (across_is a b c))
        (across_both m (minus_of a b) (minus_of a c) (omega (arith, ints, is.first, dot_of-minus_of m a b)) (omega (arith, ints, is.second, dot_of-minus_of m a c)))

    back : dot_of (opposite_of (across a b c)) a <ℤ least_in (opposite_of (across a b c)) lo hi → greatest_in (across a b c) lo hi <ℤ dot_of (across a b c) a
    back less = omega (arith, ints, less, dot_of-opposite_of (across a b c) a, greatest_in-is (across a b c) lo hi)
