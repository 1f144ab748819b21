-- A box is on the outer side of an edge, as both are seen along x, exactly where the triangle is before it in a direction across that edge and x.
use Rattle.std.proofs.Common.{◌≡◌, Bool, true, false, ◌&&◌, ◌||◌, inl, inr, refl, arith, sym, ◌∙◌, ℤ, pos, ◌+ℤ◌, ◌-ℤ◌, ◌*ℤ◌, neg_ℤ, ◌≤ℤ◌}
use Rattle.std.specs.Prelude.{◌⊎◌, int_le, int_lt}
use Rattle.std.proofs.lemmas.Bool.{and_parts, and_from, or_cases, or_left, or_right}
use Rattle.std.proofs.lemmas.Int.{ints}
use Rattle.svo_base.specs.declared.shapes.Vector.{Vector}
use Rattle.octree_specs.specs.Vectors.{vector, dot_of, cross_of, opposite_of}
use Rattle.octree_specs.proofs.SignedTerms.{the, plus, minus, times, same}
use Rattle.octree_specs.proofs.Vectors.{IsZero, IsNonzero, dot_of-opposite_of}
use Rattle.tri_cube.specs.declared.outlines.Seen.{Seen}
use Rattle.tri_cube.specs.Extents.{ExtentShape, between}
use Rattle.tri_cube.specs.Lines.{least_of, greatest_of, is_beyond, is_short}
use Rattle.tri_cube.specs.Outlines.{line_of, area_of, outline_of, misses_outline}
use Rattle.tri_cube.proofs.Directions.{IsBefore}
use Rattle.tri_cube.proofs.DirectionKinds.{IsBox, IsSide, Sides, Sides.on_first, Sides.on_second, Sides.on_third, area_turned, before_turned}
use Rattle.tri_cube.proofs.SameWay.{same_way, same_most, same_before}
use Rattle.tri_cube.proofs.LeastProducts.{greatest_is, least_none, least_in, less_test, test_less, behind_from, behind_says}

-- a vector as it is seen along x
abbrev pub seen : Vector → Seen
seen v = record { first = v.y; second = v.z }

-- the direction across the edge from p to q and x
abbrev pub side_of : Vector → Vector → Vector
side_of p q = vector (pos 0) (q.z -ℤ p.z) (p.y -ℤ q.y)

abbrev area : Vector → Vector → Vector → ℤ
area p q r = ((q.y -ℤ p.y) *ℤ (r.z -ℤ p.z)) -ℤ ((q.z -ℤ p.z) *ℤ (r.y -ℤ p.y))

-- ---- products with the corners

no_x : (a b c : ℤ) → ((pos 0 *ℤ a) +ℤ b) +ℤ c ≡ b +ℤ c
no_x a b c = omega (arith, ints)

-- both ends are equally far
ends_level : (p q : Vector) → dot_of (side_of p q) q ≡ dot_of (side_of p q) p
ends_level p q =
    no_x q.x _ _
    ∙ same
    (plus (times (minus (the q.z) (the p.z)) (the q.y)) (times (minus (the p.y) (the q.y)) (the q.z)))
    (plus (times (minus (the q.z) (the p.z)) (the p.y)) (times (minus (the p.y) (the q.y)) (the p.z)))
    (omega arith)
    ∙ sym (no_x p.x _ _)

-- the third corner is behind them by the area
third_behind : (p q r : Vector) → dot_of (side_of p q) p -ℤ dot_of (side_of p q) r ≡ area p q r
third_behind p q r =
    less_x p.x r.x _ _ _ _
    ∙ same
    (minus (plus (times (minus (the q.z) (the p.z)) (the p.y)) (times (minus (the p.y) (the q.y)) (the p.z))) (plus (times (minus (the q.z) (the p.z)) (the r.y)) (times (minus (the p.y) (the q.y)) (the r.z))))
    (minus (times (minus (the q.y) (the p.y)) (minus (the r.z) (the p.z))) (times (minus (the q.z) (the p.z)) (minus (the r.y) (the p.y))))
    (omega arith)
  where
    less_x : (a b c d e f : ℤ) → ((((pos 0 *ℤ a) +ℤ c) +ℤ d) -ℤ (((pos 0 *ℤ b) +ℤ e) +ℤ f)) ≡ (c +ℤ d) -ℤ (e +ℤ f)
    less_x a b c d e f = omega (arith, ints)

-- ---- the tests of one side

abbrev passes : (lo hi p q : Vector) → Bool
passes lo hi p q = is_beyond (line_of (seen p) (seen q)) (between lo.y hi.y) (between lo.z hi.z)

abbrev falls_short : (lo hi p q : Vector) → Bool
falls_short lo hi p q = is_short (line_of (seen p) (seen q)) (between lo.y hi.y) (between lo.z hi.z)

same_test : (a b c d : ℤ) → a ≡ c → b ≡ d → int_lt a b ≡ int_lt c d
same_test a b c d e f = rw (e, f) refl

passes_is : (lo hi p q : Vector) → passes lo hi p q ≡ int_lt (dot_of (side_of p q) p) (least_in (side_of p q) lo hi)
unfolding line_of is_beyond
passes_is lo hi p q =
    same_test _ _ (dot_of (side_of p q) p) (least_in (side_of p q) lo hi)
    (sym (no_x p.x _ _))
    (omega (arith, ints, least_none (between lo.x hi.x)))

falls_short_is : (lo hi p q : Vector) → falls_short lo hi p q ≡ int_lt (dot_of (opposite_of (side_of p q)) p) (least_in (opposite_of (side_of p q)) lo hi)
unfolding line_of is_short
falls_short_is lo hi p q =
    let f = q.z -ℤ p.z in
    let s = p.y -ℤ q.y in
    let least = least_of (neg_ℤ f) (between lo.y hi.y) +ℤ least_of (neg_ℤ s) (between lo.z hi.z) in
    let reach = (f *ℤ p.y) +ℤ (s *ℤ p.z) in
    same_test _ _ (neg_ℤ least) reach (greatest_sum f s (between lo.y hi.y) (between lo.z hi.z)) refl
    ∙ opposite_test least reach
    ∙ same_test (neg_ℤ reach) least (dot_of (opposite_of (side_of p q)) p) (least_in (opposite_of (side_of p q)) lo hi)
    (omega (arith, ints, dot_of-opposite_of (side_of p q) p))
    (omega (arith, ints, least_none (between lo.x hi.x)))
  where
    greatest_sum : (f s : ℤ) (a b : ExtentShape) → (greatest_of f a +ℤ greatest_of s b) ≡ neg_ℤ (least_of (neg_ℤ f) a +ℤ least_of (neg_ℤ s) b)
    greatest_sum f s a b = omega (arith, ints, greatest_is f a, greatest_is s b)

    opposite_test : (a b : ℤ) → int_lt (neg_ℤ a) b ≡ int_lt (neg_ℤ b) a
    opposite_test a b = grind (arith, ints)

-- a side that is passed on its outer side, in the sense of the corners
abbrev Passed : (lo hi p q r : Vector) → Type 0
Passed lo hi p q r = ((pos 0 ≤ℤ area p q r) × (passes lo hi p q ≡ true)) ⊎ ((area p q r ≤ℤ pos 0) × (falls_short lo hi p q ≡ true))

-- ---- what a passed side says

-- the triangle is before the box in the direction across it, or in the opposite one
abbrev pub BeforeSide : (lo hi a b c p q : Vector) → Type 0
BeforeSide lo hi a b c p q = IsBefore lo hi a b c (side_of p q) ⊎ IsBefore lo hi a b c (opposite_of (side_of p q))

passed_says : (lo hi p q r : Vector) → Passed lo hi p q r → BeforeSide lo hi p q r p q
passed_says lo hi p q r (inl (over, test)) =
    let less = test_less _ _ (sym (passes_is lo hi p q) ∙ test) in
    inl (record {
      first = behind_from lo hi (side_of p q) p less;
      second = behind_from lo hi (side_of p q) q (rw (ends_level p q) less);
      third = behind_from lo hi (side_of p q) r (omega (arith, ints, less, over, third_behind p q r));
    })
passed_says lo hi p q r (inr (under, test)) =
    let less = test_less _ _ (sym (falls_short_is lo hi p q) ∙ test) in
    inr (record {
      first = behind_from lo hi (opposite_of (side_of p q)) p less;
      second = behind_from lo hi (opposite_of (side_of p q)) q (omega (arith, ints, less, dot_of-opposite_of (side_of p q) p, dot_of-opposite_of (side_of p q) q, ends_level p q));
      third = behind_from lo hi (opposite_of (side_of p q)) r (omega (arith, ints, less, under, third_behind p q r, dot_of-opposite_of (side_of p q) p, dot_of-opposite_of (side_of p q) r));
    })

-- ---- a direction across a side passes it

-- the direction is along the one across the side
alongside : (p q r m : Vector) → IsSide p q r m → IsZero (cross_of m (side_of p q))
alongside p q r m is = record {
  x = turned m.x m.y m.z p.x p.y p.z q.x q.y q.z is.across is.level;
  y = rw is.across (omega (arith, ints));
  z = rw is.across (omega (arith, ints));
}
  where
    nothing : (k a : ℤ) → k ≡ pos 0 → k *ℤ a ≡ pos 0
    nothing k a e = rw e (omega (arith, ints))

    turned : (mx my mz px py pz qx qy qz : ℤ) → mx ≡ pos 0 → (((mx *ℤ px) +ℤ (my *ℤ py)) +ℤ (mz *ℤ pz)) ≡ (((mx *ℤ qx) +ℤ (my *ℤ qy)) +ℤ (mz *ℤ qz))
        → ((my *ℤ (py -ℤ qy)) -ℤ (mz *ℤ (qz -ℤ pz))) ≡ pos 0
    turned mx my mz px py pz qx qy qz across level =
        same
        (minus (times (the my) (minus (the py) (the qy))) (times (the mz) (minus (the qz) (the pz))))
        (minus (plus (times (the my) (the py)) (times (the mz) (the pz))) (plus (times (the my) (the qy)) (times (the mz) (the qz))))
        (omega arith)
        ∙ omega (arith, ints, level, nothing mx px across, nothing mx qx across)

side_some : (p q r m : Vector) → IsSide p q r m → IsNonzero (side_of p q)
side_some p q r m is none = is.seen (omega (arith, ints, none.z)) (omega (arith, ints, none.y))

passed_by : (lo hi p q r m : Vector) → IsBox lo hi → IsBefore lo hi p q r m → IsNonzero m → IsSide p q r m → Passed lo hi p q r
passed_by lo hi p q r m is_box before some is = elim (same_way m (side_of p q) some (side_some p q r m is) (alongside p q r m is)) [
  | inl way ↦ inl (
    omega (arith, ints, same_most m (side_of p q) p r way is.most, third_behind p q r),
    passes_is lo hi p q ∙ less_test _ _ (behind_says lo hi (side_of p q) p is_box (same_before lo hi p q r m (side_of p q) way before).first),
  )
  | inr way ↦ inr (
    omega (arith, ints, same_most m (opposite_of (side_of p q)) p r way is.most, third_behind p q r, dot_of-opposite_of (side_of p q) p, dot_of-opposite_of (side_of p q) r),
    falls_short_is lo hi p q ∙ less_test _ _ (behind_says lo hi (opposite_of (side_of p q)) p is_box (same_before lo hi p q r m (opposite_of (side_of p q)) way before).first),
  )
]

-- ---- the three sides

abbrev pub misses_seen : (lo hi a b c : Vector) → Bool
misses_seen lo hi a b c = misses_outline (outline_of (seen a) (seen b) (seen c)) (between lo.y hi.y) (between lo.z hi.z)

next_area : (a b c : Vector) → area b c a ≡ area a b c
next_area a b c =
    sized b.y b.z c.y c.z a.y a.z ∙ area_turned b.y b.z c.y c.z a.y a.z ∙ area_turned c.y c.z a.y a.z b.y b.z ∙ sym (sized a.y a.z b.y b.z c.y c.z)
  where
    sized : (py pz qy qz ry rz : ℤ) → (((qy -ℤ py) *ℤ (rz -ℤ pz)) -ℤ ((qz -ℤ pz) *ℤ (ry -ℤ py))) ≡ ((py -ℤ qy) *ℤ (pz -ℤ rz)) -ℤ ((pz -ℤ qz) *ℤ (py -ℤ ry))
    sized py pz qy qz ry rz =
        same
        (minus (times (minus (the qy) (the py)) (minus (the rz) (the pz))) (times (minus (the qz) (the pz)) (minus (the ry) (the py))))
        (minus (times (minus (the py) (the qy)) (minus (the pz) (the rz))) (times (minus (the pz) (the qz)) (minus (the py) (the ry))))
        (omega arith)

-- the test of an outline over the tests of its sides in both senses
abbrev misses_by : (area : ℤ) (p q r u v w : Bool) → Bool
misses_by area p q r u v w =
    (int_le (pos 0) area && (p || (q || (r || false)))) || (int_le area (pos 0) && (u || (v || (w || false))))

misses_is : (lo hi a b c : Vector) → misses_seen lo hi a b c ≡ misses_by (area a b c) (passes lo hi a b) (passes lo hi b c) (passes lo hi c a) (falls_short lo hi a b) (falls_short lo hi b c) (falls_short lo hi c a)
unfolding misses_outline outline_of area_of
misses_is lo hi a b c = refl

at_most_test : (a b : ℤ) → a ≤ℤ b → int_le a b ≡ true
at_most_test a b most = grind (arith, ints)

test_at_most : (a b : ℤ) → int_le a b ≡ true → a ≤ℤ b
test_at_most a b test = omega (arith, ints, test)

-- a side in either sense
abbrev InSense : (area : ℤ) (p u : Bool) → Type 0
InSense area p u = ((pos 0 ≤ℤ area) × (p ≡ true)) ⊎ ((area ≤ℤ pos 0) × (u ≡ true))

misses_from : (area : ℤ) (p q r u v w : Bool) → InSense area p u ⊎ (InSense area q v ⊎ InSense area r w) → misses_by area p q r u v w ≡ true
misses_from area p q r u v w (inl (inl (over, test))) =
    or_left _ _ (and_from _ _ (at_most_test (pos 0) area over) (or_left p _ test))
misses_from area p q r u v w (inl (inr (under, test))) =
    or_right _ _ (and_from _ _ (at_most_test area (pos 0) under) (or_left u _ test))
misses_from area p q r u v w (inr (inl (inl (over, test)))) =
    or_left _ _ (and_from _ _ (at_most_test (pos 0) area over) (or_right p _ (or_left q _ test)))
misses_from area p q r u v w (inr (inl (inr (under, test)))) =
    or_right _ _ (and_from _ _ (at_most_test area (pos 0) under) (or_right u _ (or_left v _ test)))
misses_from area p q r u v w (inr (inr (inl (over, test)))) =
    or_left _ _ (and_from _ _ (at_most_test (pos 0) area over) (or_right p _ (or_right q _ (or_left r false test))))
misses_from area p q r u v w (inr (inr (inr (under, test)))) =
    or_right _ _ (and_from _ _ (at_most_test area (pos 0) under) (or_right u _ (or_right v _ (or_left w false test))))

one_of : (p q r : Bool) → (p || (q || (r || false))) ≡ true → (p ≡ true) ⊎ ((q ≡ true) ⊎ (r ≡ true))
one_of true q r test = inl refl
one_of false true r test = inr (inl refl)
one_of false false true test = inr (inr refl)
one_of false false false test = cc

misses_says : (area : ℤ) (p q r u v w : Bool) → misses_by area p q r u v w ≡ true → InSense area p u ⊎ (InSense area q v ⊎ InSense area r w)
misses_says area p q r u v w test = elim (or_cases _ _ test) [
  | inl forward ↦
      let parts = and_parts (int_le (pos 0) area) (p || (q || (r || false))) forward in
      let over = test_at_most (pos 0) area parts.0 in
      elim (one_of p q r parts.1) [ inl first ↦ inl (inl (over, first)) | inr (inl second) ↦ inr (inl (inl (over, second))) | inr (inr third) ↦ inr (inr (inl (over, third))) ]
  | inr backward ↦
      let parts = and_parts (int_le area (pos 0)) (u || (v || (w || false))) backward in
      let under = test_at_most area (pos 0) parts.0 in
      elim (one_of u v w parts.1) [ inl first ↦ inl (inr (under, first)) | inr (inl second) ↦ inr (inl (inr (under, second))) | inr (inr third) ↦ inr (inr (inr (under, third))) ]
]

-- ---- outlines

-- a direction across one of the sides is seen
pub misses_by_sides : (lo hi a b c m : Vector) → IsBox lo hi → IsBefore lo hi a b c m → IsNonzero m → Sides a b c m → misses_seen lo hi a b c ≡ true
misses_by_sides lo hi a b c m is_box before some sides =
    misses_is lo hi a b c ∙ misses_from (area a b c) _ _ _ _ _ _ (elim sides [
      | on_first is ↦ inl (passed_by lo hi a b c m is_box before some is)
      | on_second is ↦ inr (inl (rw (← next_area a b c) (passed_by lo hi b c a m is_box (before_turned lo hi a b c m before) some is)))
      | on_third is ↦ inr (inr (rw (← next_area a b c, ← next_area b c a) (passed_by lo hi c a b m is_box (before_turned lo hi b c a m (before_turned lo hi a b c m before)) some is)))
    ])

-- and what is seen is such a direction
pub data SideApart (lo hi a b c : Vector) : Type 0 where
  by_first : BeforeSide lo hi a b c a b → SideApart lo hi a b c
  by_second : BeforeSide lo hi a b c b c → SideApart lo hi a b c
  by_third : BeforeSide lo hi a b c c a → SideApart lo hi a b c

pub sides_seen : (lo hi a b c : Vector) → misses_seen lo hi a b c ≡ true → SideApart lo hi a b c
sides_seen lo hi a b c test =
    elim (misses_says (area a b c) (passes lo hi a b) (passes lo hi b c) (passes lo hi c a) (falls_short lo hi a b) (falls_short lo hi b c) (falls_short lo hi c a) (sym (misses_is lo hi a b c) ∙ test)) [
      | inl is ↦ by_first (passed_says lo hi a b c is)
      | inr (inl is) ↦ by_second (elim (passed_says lo hi b c a (rw (next_area a b c) is)) [
        | inl way ↦ inl (twice_turned (side_of b c) way)
        | inr way ↦ inr (twice_turned (opposite_of (side_of b c)) way)
      ])
      | inr (inr is) ↦ by_third (elim (passed_says lo hi c a b (rw (next_area b c a, next_area a b c) is)) [
        | inl way ↦ inl (before_turned lo hi c a b (side_of c a) way)
        | inr way ↦ inr (before_turned lo hi c a b (opposite_of (side_of c a)) way)
      ])
    ]
  where
    twice_turned : (m : Vector) → IsBefore lo hi b c a m → IsBefore lo hi a b c m
    twice_turned m way = before_turned lo hi c a b m (before_turned lo hi b c a m way)
