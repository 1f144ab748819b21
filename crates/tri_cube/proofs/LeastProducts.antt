-- The least product of a direction with a point of a box tells whether all of the box is farther than a point.
use Rattle.std.proofs.Common.{◌≡◌, true, false, inl, inr, refl, arith, sym, ◌∙◌, ℤ, pos, ◌+ℤ◌, ◌*ℤ◌, neg_ℤ, ◌≤ℤ◌, ◌<ℤ◌}
use Rattle.std.specs.Prelude.{◌⊎◌, int_lt}
use Rattle.std.proofs.lemmas.Int.{ints, by_lt_z}
use lib.Signed.{≤ℤ_refl}
use Rattle.svo_base.specs.declared.shapes.Vector.{Vector}
use Rattle.octree_specs.specs.Vectors.{vector, dot_of, opposite_of}
use Rattle.octree_specs.proofs.Integers.{product_at_most, neg_ℤ-*ℤ}
use Rattle.tri_cube.specs.Extents.{ExtentShape, between}
use Rattle.tri_cube.specs.Lines.{least_of, greatest_of}
use Rattle.tri_cube.proofs.Directions.{IsIn, IsBehind}
use Rattle.tri_cube.proofs.DirectionKinds.{IsBox}

-- ---- one axis

pub least_below : (n : ℤ) (s : ExtentShape) → n <ℤ pos 0 → least_of n s ≡ n *ℤ s.high
unfolding least_of
least_below n s below = let test : int_lt n (pos 0) ≡ true = grind (arith, ints) in rw test refl

pub least_above : (n : ℤ) (s : ExtentShape) → pos 0 ≤ℤ n → least_of n s ≡ n *ℤ s.low
unfolding least_of
least_above n s over = let test : int_lt n (pos 0) ≡ false = grind (arith, ints) in rw test refl

greatest_below : (n : ℤ) (s : ExtentShape) → n <ℤ pos 0 → greatest_of n s ≡ n *ℤ s.low
unfolding greatest_of
greatest_below n s below = let test : int_lt n (pos 0) ≡ true = grind (arith, ints) in rw test refl

greatest_above : (n : ℤ) (s : ExtentShape) → pos 0 ≤ℤ n → greatest_of n s ≡ n *ℤ s.high
unfolding greatest_of
greatest_above n s over = let test : int_lt n (pos 0) ≡ false = grind (arith, ints) in rw test refl

-- the greatest product is the least one of the opposite
pub greatest_is : (n : ℤ) (s : ExtentShape) → greatest_of n s ≡ neg_ℤ (least_of (neg_ℤ n) s)
greatest_is n s =
    by_lt_z n (pos 0)
    (λ below. greatest_below n s below ∙ rw (least_above (neg_ℤ n) s (omega (arith, ints, below))) (omega (arith, ints, neg_ℤ-*ℤ n s.low)))
    (λ over. by_lt_z (pos 0) n
    (λ above. greatest_above n s over ∙ rw (least_below (neg_ℤ n) s (omega (arith, ints, above))) (omega (arith, ints, neg_ℤ-*ℤ n s.high)))
    (λ under. let none : n ≡ pos 0 = omega (arith, ints, over, under) in rw none (greatest_above (pos 0) s (omega (arith, ints)) ∙ rw (least_above (pos 0) s (omega (arith, ints))) (omega (arith, ints)))))

pub least_none : (s : ExtentShape) → least_of (pos 0) s ≡ pos 0
least_none s = least_above (pos 0) s (omega (arith, ints)) ∙ omega (arith, ints)

least_at_most : (n x : ℤ) (s : ExtentShape) → s.low ≤ℤ x → x ≤ℤ s.high → least_of n s ≤ℤ (n *ℤ x)
least_at_most n x s low high =
    by_lt_z n (pos 0)
    (λ below. rw (least_below n s below) (omega (arith, ints, product_at_most (neg_ℤ n) x s.high (omega (arith, ints, below)) high, neg_ℤ-*ℤ n x, neg_ℤ-*ℤ n s.high)))
    (λ over. rw (least_above n s over) (product_at_most n s.low x over low))

-- a plane of the between that has the least product
record IsNearest (n : ℤ) (s : ExtentShape) (x : ℤ) : Type 0 where
  low : s.low ≤ℤ x
  high : x ≤ℤ s.high
  least : n *ℤ x ≡ least_of n s

nearest : (n : ℤ) (s : ExtentShape) → s.low ≤ℤ s.high → (x : ℤ) × IsNearest n s x × ((x ≡ s.low) ⊎ (x ≡ s.high))
nearest n s in_order =
    by_lt_z n (pos 0)
    (λ below. (s.high, record { low = in_order; high = ≤ℤ_refl s.high; least = sym (least_below n s below) }, inr refl))
    (λ over. (s.low, record { low = ≤ℤ_refl s.low; high = in_order; least = sym (least_above n s over) }, inl refl))

-- ---- boxes

abbrev pub least_in : (n lo hi : Vector) → ℤ
least_in n lo hi = (least_of n.x (between lo.x hi.x) +ℤ least_of n.y (between lo.y hi.y)) +ℤ least_of n.z (between lo.z hi.z)

abbrev pub greatest_in : (n lo hi : Vector) → ℤ
greatest_in n lo hi = (greatest_of n.x (between lo.x hi.x) +ℤ greatest_of n.y (between lo.y hi.y)) +ℤ greatest_of n.z (between lo.z hi.z)

pub greatest_in-is : (n lo hi : Vector) → greatest_in n lo hi ≡ neg_ℤ (least_in (opposite_of n) lo hi)
greatest_in-is n lo hi =
    omega (arith, ints, greatest_is n.x (between lo.x hi.x), greatest_is n.y (between lo.y hi.y), greatest_is n.z (between lo.z hi.z))

pub least_in-at_most : (n lo hi x : Vector) → IsIn lo hi x → least_in n lo hi ≤ℤ dot_of n x
least_in-at_most n lo hi x is =
    omega (
      arith,
      ints,
      least_at_most n.x x.x (between lo.x hi.x) is.low_x is.high_x,
      least_at_most n.y x.y (between lo.y hi.y) is.low_y is.high_y,
      least_at_most n.z x.z (between lo.z hi.z) is.low_z is.high_z,
    )

-- a corner of the box that has the least product
pub record IsLeastCorner (n lo hi x : Vector) : Type 0 where
  pub in_box : IsIn lo hi x
  pub least : dot_of n x ≡ least_in n lo hi
  pub on_x : (x.x ≡ lo.x) ⊎ (x.x ≡ hi.x)
  pub on_y : (x.y ≡ lo.y) ⊎ (x.y ≡ hi.y)
  pub on_z : (x.z ≡ lo.z) ⊎ (x.z ≡ hi.z)

pub least_corner : (n lo hi : Vector) → IsBox lo hi → (x : Vector) × IsLeastCorner n lo hi x
least_corner n lo hi is_box =
    let (x, at_x, on_x) = nearest n.x (between lo.x hi.x) is_box.x in
    let (y, at_y, on_y) = nearest n.y (between lo.y hi.y) is_box.y in
    let (z, at_z, on_z) = nearest n.z (between lo.z hi.z) is_box.z in (
      vector x y z,
      record {
        in_box = record { low_x = at_x.low; high_x = at_x.high; low_y = at_y.low; high_y = at_y.high; low_z = at_z.low; high_z = at_z.high };
        least = omega (arith, ints, at_x.least, at_y.least, at_z.least);
        on_x = on_x;
        on_y = on_y;
        on_z = on_z;
      },
    )

-- the test, and what it says
pub less_test : (a b : ℤ) → a <ℤ b → int_lt a b ≡ true
less_test a b less = grind (arith, ints)

pub test_less : (a b : ℤ) → int_lt a b ≡ true → a <ℤ b
test_less a b test = omega (arith, ints, test)

pub behind_from : (lo hi n p : Vector) → dot_of n p <ℤ least_in n lo hi → IsBehind lo hi n p
behind_from lo hi n p less =
    record { behind = λ x in_box. omega (arith, ints, less, least_in-at_most n lo hi x in_box) }

pub behind_says : (lo hi n p : Vector) → IsBox lo hi → IsBehind lo hi n p → dot_of n p <ℤ least_in n lo hi
behind_says lo hi n p is_box is =
    let (x, corner) = least_corner n lo hi is_box in omega (arith, ints, is.behind x corner.in_box, corner.least)
