-- A column that goes through a triangle does so at a point of it: as seen along z, the corners have weights of one sign there.
use Rattle.std.proofs.Common.{◌≡◌, ℕ, ◌+◌, ◌%◌, Bool, true, false, ℤ, pos, neg_ℤ, ◌+ℤ◌, ◌-ℤ◌, ◌*ℤ◌, ◌≤ℤ◌, ◌<ℤ◌, inl, inr, arith, refl, sym, ap, subst, ◌∙◌}
use Rattle.std.specs.Prelude.{◌⊎◌, ◌==◌, ◌&&◌, ◌||◌, int_le, int_lt}
use Rattle.std.proofs.lemmas.Bool.{cases_Bool}
use Rattle.std.proofs.lemmas.Int.{ints}
use Rattle.svo_base.specs.declared.shapes.Triangle.{Triangle}
use Rattle.svo_base.specs.declared.shapes.Vector.{Vector}
use Rattle.octree_specs.proofs.Integers.{product_at_most, product_not_positive, product_not_negative, factor_not_negative, -ℤ-*ℤ, *ℤ--ℤ, neg_ℤ-*ℤ, *ℤ-neg_ℤ}
use Rattle.octree_specs.proofs.SignedTerms.{the, plus, minus, times, same}
use Rattle.octree_specs.specs.Vectors.{dot_of, cross_of}
use Rattle.solid_parity.specs.Parity.{one, doubled, crosses, crossings, is_covered, is_above, minus_of, normal_of, have_opposite_signs}
use Rattle.solid_parity.proofs.Beside.{crosses_above, crosses_below, less_of, most_of, test_above, test_less, test_most, test_not, turned_product}
use Rattle.solid_parity.proofs.Paired.{crosses_turned}

-- ---- the corners' weights at a point q, in x and y counted from the first corner: each is twice the area between q and the other two

-- of the second corner, of the third one, of all, and so of the first one
abbrev pub second_weight : ℤ → ℤ → ℤ → ℤ → ℤ
second_weight cx cy rx ry = (cy *ℤ rx) -ℤ (cx *ℤ ry)

abbrev pub third_weight : ℤ → ℤ → ℤ → ℤ → ℤ
third_weight bx b_y rx ry = (bx *ℤ ry) -ℤ (b_y *ℤ rx)

abbrev pub whole_weight : ℤ → ℤ → ℤ → ℤ → ℤ
whole_weight bx b_y cx cy = (bx *ℤ cy) -ℤ (b_y *ℤ cx)

abbrev pub first_weight : ℤ → ℤ → ℤ → ℤ → ℤ → ℤ → ℤ
first_weight bx b_y cx cy rx ry = (whole_weight bx b_y cx cy -ℤ second_weight cx cy rx ry) -ℤ third_weight bx b_y rx ry

-- counted from the second corner, with the corners in turn

second_turned : (bx b_y rx ry : ℤ) → (((pos 0 -ℤ b_y) *ℤ (rx -ℤ bx)) -ℤ ((pos 0 -ℤ bx) *ℤ (ry -ℤ b_y))) ≡ ((bx *ℤ ry) -ℤ (b_y *ℤ rx))
second_turned bx b_y rx ry = same (minus (times (minus (the (pos 0)) (the b_y)) (minus (the rx) (the bx))) (times (minus (the (pos 0)) (the bx)) (minus (the ry) (the b_y)))) (minus (times (the bx) (the ry)) (times (the b_y) (the rx))) (omega arith)

third_turned : (bx b_y cx cy rx ry : ℤ) → (((cx -ℤ bx) *ℤ (ry -ℤ b_y)) -ℤ ((cy -ℤ b_y) *ℤ (rx -ℤ bx))) ≡ ((((bx *ℤ cy) -ℤ (b_y *ℤ cx)) -ℤ ((cy *ℤ rx) -ℤ (cx *ℤ ry))) -ℤ ((bx *ℤ ry) -ℤ (b_y *ℤ rx)))
third_turned bx b_y cx cy rx ry = same (minus (times (minus (the cx) (the bx)) (minus (the ry) (the b_y))) (times (minus (the cy) (the b_y)) (minus (the rx) (the bx)))) (minus (minus (minus (times (the bx) (the cy)) (times (the b_y) (the cx))) (minus (times (the cy) (the rx)) (times (the cx) (the ry)))) (minus (times (the bx) (the ry)) (times (the b_y) (the rx)))) (omega arith)

whole_turned : (bx b_y cx cy : ℤ) → (((cx -ℤ bx) *ℤ (pos 0 -ℤ b_y)) -ℤ ((cy -ℤ b_y) *ℤ (pos 0 -ℤ bx))) ≡ ((bx *ℤ cy) -ℤ (b_y *ℤ cx))
whole_turned bx b_y cx cy = same (minus (times (minus (the cx) (the bx)) (minus (the (pos 0)) (the b_y))) (times (minus (the cy) (the b_y)) (minus (the (pos 0)) (the bx)))) (minus (times (the bx) (the cy)) (times (the b_y) (the cx))) (omega arith)

-- the weights as they stand make the way to q

whole_along : (bx b_y cx cy rx ry : ℤ) → (((bx *ℤ cy) -ℤ (b_y *ℤ cx)) *ℤ ry) ≡ ((((cy *ℤ rx) -ℤ (cx *ℤ ry)) *ℤ b_y) +ℤ (((bx *ℤ ry) -ℤ (b_y *ℤ rx)) *ℤ cy))
whole_along bx b_y cx cy rx ry = same (times (minus (times (the bx) (the cy)) (times (the b_y) (the cx))) (the ry)) (plus (times (minus (times (the cy) (the rx)) (times (the cx) (the ry))) (the b_y)) (times (minus (times (the bx) (the ry)) (times (the b_y) (the rx))) (the cy))) (omega arith)

side_along : (bx b_y bz cx cy cz rx ry rz : ℤ) → ((((b_y *ℤ cz) -ℤ (bz *ℤ cy)) *ℤ rx) +ℤ (((bz *ℤ cx) -ℤ (bx *ℤ cz)) *ℤ ry)) ≡ ((pos 0 -ℤ (((cy *ℤ rx) -ℤ (cx *ℤ ry)) *ℤ bz)) -ℤ (((bx *ℤ ry) -ℤ (b_y *ℤ rx)) *ℤ cz))
side_along bx b_y bz cx cy cz rx ry rz = same (plus (times (minus (times (the b_y) (the cz)) (times (the bz) (the cy))) (the rx)) (times (minus (times (the bz) (the cx)) (times (the bx) (the cz))) (the ry))) (minus (minus (the (pos 0)) (times (minus (times (the cy) (the rx)) (times (the cx) (the ry))) (the bz))) (times (minus (times (the bx) (the ry)) (times (the b_y) (the rx))) (the cz))) (omega arith)

spread_weights : (n m l r s t : ℤ) → n *ℤ r ≡ (m *ℤ s) +ℤ (l *ℤ t) → ((n -ℤ m) -ℤ l) *ℤ r ≡ (m *ℤ (s -ℤ r)) +ℤ (l *ℤ (t -ℤ r))
spread_weights n m l r s t sum = omega (arith, ints, sum, -ℤ-*ℤ (n -ℤ m) l r, -ℤ-*ℤ n m r, *ℤ--ℤ m s r, *ℤ--ℤ l t r)

spread_side : (n m l r s t : ℤ) → (((n -ℤ m) -ℤ l) *ℤ r) +ℤ ((m *ℤ (r -ℤ s)) +ℤ (l *ℤ (r -ℤ t))) ≡ (((pos 0 -ℤ (m *ℤ s)) -ℤ (l *ℤ t)) +ℤ (n *ℤ r))
spread_side n m l r s t = omega (arith, ints, -ℤ-*ℤ (n -ℤ m) l r, -ℤ-*ℤ n m r, *ℤ--ℤ m r s, *ℤ--ℤ l r t)

-- ---- signs

-- all of one sign, and not all 0
pub data AreOneSign (k m n : ℤ) : Type 0 where
  up : pos 0 ≤ℤ k → pos 0 ≤ℤ m → pos 0 ≤ℤ n → pos 0 <ℤ (k +ℤ (m +ℤ n)) → AreOneSign k m n
  down : k ≤ℤ pos 0 → m ≤ℤ pos 0 → n ≤ℤ pos 0 → (k +ℤ (m +ℤ n)) <ℤ pos 0 → AreOneSign k m n

turned_signs : (k m n : ℤ) → AreOneSign k m n → AreOneSign m n k
turned_signs k m n (up a b c some) = up b c a (omega (arith, ints, some))
turned_signs k m n (down a b c some) = down b c a (omega (arith, ints, some))

same_signs : (k m l x y z : ℤ) → k ≡ x → m ≡ y → l ≡ z → AreOneSign k m l → AreOneSign x y z
same_signs k m l x y z e f g signs = subst (λ p. AreOneSign p y z) e (subst (λ p. AreOneSign k p z) f (subst (λ p. AreOneSign k m p) g signs))

opposite_signs : (k m n : ℤ) → AreOneSign (neg_ℤ k) (neg_ℤ m) (neg_ℤ n) → AreOneSign k m n
opposite_signs k m n (up a b c some) = down (omega (arith, ints, a)) (omega (arith, ints, b)) (omega (arith, ints, c)) (omega (arith, ints, some))
opposite_signs k m n (down a b c some) = up (omega (arith, ints, a)) (omega (arith, ints, b)) (omega (arith, ints, c)) (omega (arith, ints, some))

cases_sign : (k : ℤ) → (pos 0 ≤ℤ k) ⊎ (k <ℤ pos 0)
cases_sign k = elim (cases_Bool (int_le (pos 0) k)) [ inl least ↦ inl (most_of (pos 0) k least) | inr less ↦ inr (less_of (pos 0) k less) ]

-- where the first corner is not above q and the others are: both edges to it say the sign
up_low : (k m l r d e : ℤ) → k *ℤ r ≡ (m *ℤ d) +ℤ (l *ℤ e) → pos 0 ≤ℤ r → pos 0 <ℤ d → pos 0 <ℤ e → pos 0 ≤ℤ m → pos 0 ≤ℤ l → pos 0 <ℤ (m +ℤ l) → AreOneSign k m l
up_low k m l r d e sum low second third a b some = elim (cases_sign k) [
  | inl least ↦ up least a b (omega (arith, ints, least, some))
  | inr less ↦
      let first : (m *ℤ pos 1) ≤ℤ (m *ℤ d) = product_at_most m (pos 1) d a (omega (arith, ints, second)) in
      let other : (l *ℤ pos 1) ≤ℤ (l *ℤ e) = product_at_most l (pos 1) e b (omega (arith, ints, third)) in
      let none : (r *ℤ k) ≤ℤ pos 0 = product_not_positive r k low (omega (arith, ints, less)) in
      absurd (omega (arith, ints, first, other, none, sum, some, turned_product r k))
]

-- and where the first corner is above q and the others are not
up_high : (k m l r d e : ℤ) → k *ℤ r ≡ (m *ℤ d) +ℤ (l *ℤ e) → pos 0 <ℤ r → pos 0 ≤ℤ d → pos 0 ≤ℤ e → pos 0 ≤ℤ m → pos 0 ≤ℤ l → pos 0 <ℤ (m +ℤ l) → AreOneSign k m l
up_high k m l r d e sum high second third a b some =
    let first : pos 0 ≤ℤ (m *ℤ d) = product_not_negative m d a second in
    let other : pos 0 ≤ℤ (l *ℤ e) = product_not_negative l e b third in
    let least : pos 0 ≤ℤ k = factor_not_negative r k high (omega (arith, ints, first, other, sum, turned_product r k)) in
    up least a b (omega (arith, ints, least, some))

negated_sum : (k m l r d e : ℤ) → k *ℤ r ≡ (m *ℤ d) +ℤ (l *ℤ e) → neg_ℤ k *ℤ r ≡ (neg_ℤ m *ℤ d) +ℤ (neg_ℤ l *ℤ e)
negated_sum k m l r d e sum = omega (arith, ints, sum, neg_ℤ-*ℤ k r, neg_ℤ-*ℤ m d, neg_ℤ-*ℤ l e)

turned_round : (k m l r d e : ℤ) → k *ℤ r ≡ (m *ℤ d) +ℤ (l *ℤ e) → k *ℤ neg_ℤ r ≡ (m *ℤ neg_ℤ d) +ℤ (l *ℤ neg_ℤ e)
turned_round k m l r d e sum = omega (arith, ints, sum, *ℤ-neg_ℤ k r, *ℤ-neg_ℤ m d, *ℤ-neg_ℤ l e)

signs_low : (k m l r d e : ℤ) → k *ℤ r ≡ (m *ℤ d) +ℤ (l *ℤ e) → pos 0 ≤ℤ r → pos 0 <ℤ d → pos 0 <ℤ e → ((pos 0 ≤ℤ m) × (pos 0 <ℤ l)) ⊎ ((m <ℤ pos 0) × (l ≤ℤ pos 0)) → AreOneSign k m l
signs_low k m l r d e sum low second third (inl signs) = up_low k m l r d e sum low second third signs.0 (omega (arith, ints, signs.1)) (omega (arith, ints, signs.0, signs.1))
signs_low k m l r d e sum low second third (inr signs) =
    opposite_signs k m l (up_low (neg_ℤ k) (neg_ℤ m) (neg_ℤ l) r d e (negated_sum k m l r d e sum) low second third (omega (arith, ints, signs.0)) (omega (arith, ints, signs.1)) (omega (arith, ints, signs.0, signs.1)))

signs_high : (k m l r d e : ℤ) → k *ℤ r ≡ (m *ℤ d) +ℤ (l *ℤ e) → r <ℤ pos 0 → d ≤ℤ pos 0 → e ≤ℤ pos 0 → ((pos 0 <ℤ m) × (pos 0 ≤ℤ l)) ⊎ ((m ≤ℤ pos 0) × (l <ℤ pos 0)) → AreOneSign k m l
signs_high k m l r d e sum high second third (inl signs) =
    up_high k m l (neg_ℤ r) (neg_ℤ d) (neg_ℤ e) (turned_round k m l r d e sum) (omega (arith, ints, high)) (omega (arith, ints, second)) (omega (arith, ints, third)) (omega (arith, ints, signs.0)) signs.1 (omega (arith, ints, signs.0, signs.1))
signs_high k m l r d e sum high second third (inr signs) =
    opposite_signs k m l
    (up_high (neg_ℤ k) (neg_ℤ m) (neg_ℤ l) (neg_ℤ r) (neg_ℤ d) (neg_ℤ e) (negated_sum k m l (neg_ℤ r) (neg_ℤ d) (neg_ℤ e) (turned_round k m l r d e sum)) (omega (arith, ints, high)) (omega (arith, ints, second)) (omega (arith, ints, third))
    (omega (arith, ints, signs.0)) (omega (arith, ints, signs.1)) (omega (arith, ints, signs.0, signs.1)))

-- ---- edges

-- an edge whose lower end is not above q, and whose upper end is
edge_up : (u v q : Vector) → u.y ≤ℤ q.y → q.y <ℤ v.y → crosses u v q ≡ int_lt ((v.y -ℤ u.y) *ℤ (q.x -ℤ u.x)) ((v.x -ℤ u.x) *ℤ (q.y -ℤ u.y))
unfolding crosses
edge_up u v q low high = rw (test_most u.y q.y low, test_less q.y v.y high, test_above v.y q.y high) (or_false (int_lt ((v.y -ℤ u.y) *ℤ (q.x -ℤ u.x)) ((v.x -ℤ u.x) *ℤ (q.y -ℤ u.y))))
  where
    or_false : (b : Bool) → (b || false) ≡ b
    or_false true = refl
    or_false false = refl

less_or_not : (m n : ℤ) → ((int_lt m n ≡ true) × (m <ℤ n)) ⊎ ((int_lt m n ≡ false) × (n ≤ℤ m))
less_or_not m n = elim (cases_Bool (int_lt m n)) [
  | inl less ↦ inl (less, omega (arith, ints, less))
  | inr most ↦ inr (most, omega (arith, ints, most))
]

-- of the edges from the first corner just one is crossed: to the second one, where the third weight says so, or to the third one
odd_low : (first third : Bool) (w x y z m l : ℤ) → ((one first + 0 + one third) % 2 == 1) ≡ true → first ≡ int_lt w x → third ≡ int_lt y z → l ≡ x -ℤ w → m ≡ y -ℤ z → ((pos 0 ≤ℤ m) × (pos 0 <ℤ l)) ⊎ ((m <ℤ pos 0) × (l ≤ℤ pos 0))
odd_low first third w x y z m l odd is_first is_third is_l is_m = elim (less_or_not w x) [
  | inl crossed ↦ elim (less_or_not y z) [
    | inl both ↦
        let none : ((one first + 0 + one third) % 2 == 1) ≡ false = rw (is_first, is_third, crossed.0, both.0) refl in absurd (differ _ odd none)
    | inr alone ↦ inl (omega (arith, ints, is_m, alone.1), omega (arith, ints, is_l, crossed.1))
  ]
  | inr not ↦ elim (less_or_not y z) [
    | inl other ↦ inr (omega (arith, ints, is_m, other.1), omega (arith, ints, is_l, not.1))
    | inr neither ↦
        let none : ((one first + 0 + one third) % 2 == 1) ≡ false = rw (is_first, is_third, not.0, neither.0) refl in absurd (differ _ odd none)
  ]
]
  where
    differ : (test : Bool) → test ≡ true → test ≡ false → ⊥
    differ test yes_so no_so = absurd (cc)

odd_high : (first third : Bool) (w x y z m l : ℤ) → ((one first + 0 + one third) % 2 == 1) ≡ true → first ≡ int_lt w x → third ≡ int_lt y z → l ≡ w -ℤ x → m ≡ z -ℤ y → ((pos 0 <ℤ m) × (pos 0 ≤ℤ l)) ⊎ ((m ≤ℤ pos 0) × (l <ℤ pos 0))
odd_high first third w x y z m l odd is_first is_third is_l is_m = elim (less_or_not w x) [
  | inl crossed ↦ elim (less_or_not y z) [
    | inl both ↦
        let none : ((one first + 0 + one third) % 2 == 1) ≡ false = rw (is_first, is_third, crossed.0, both.0) refl in absurd (differ _ odd none)
    | inr alone ↦ inr (omega (arith, ints, is_m, alone.1), omega (arith, ints, is_l, crossed.1))
  ]
  | inr not ↦ elim (less_or_not y z) [
    | inl other ↦ inl (omega (arith, ints, is_m, other.1), omega (arith, ints, is_l, not.1))
    | inr neither ↦
        let none : ((one first + 0 + one third) % 2 == 1) ≡ false = rw (is_first, is_third, not.0, neither.0) refl in absurd (differ _ odd none)
  ]
]
  where
    differ : (test : Bool) → test ≡ true → test ≡ false → ⊥
    differ test yes_so no_so = absurd (cc)

-- ---- a triangle whose first corner is on one side of q in y, and the others on the other

abbrev pub first_of : Vector → Vector → Vector → Vector → ℤ
first_of a b c q = first_weight (b.x -ℤ a.x) (b.y -ℤ a.y) (c.x -ℤ a.x) (c.y -ℤ a.y) (q.x -ℤ a.x) (q.y -ℤ a.y)

abbrev pub second_of : Vector → Vector → Vector → Vector → ℤ
second_of a b c q = second_weight (c.x -ℤ a.x) (c.y -ℤ a.y) (q.x -ℤ a.x) (q.y -ℤ a.y)

abbrev pub third_of : Vector → Vector → Vector → Vector → ℤ
third_of a b c q = third_weight (b.x -ℤ a.x) (b.y -ℤ a.y) (q.x -ℤ a.x) (q.y -ℤ a.y)

abbrev pub AreWeighed : Vector → Vector → Vector → Vector → Type 0
AreWeighed a b c q = AreOneSign (first_of a b c q) (second_of a b c q) (third_of a b c q)

abbrev pub IsOdd : Vector → Vector → Vector → Vector → Type 0
IsOdd a b c q = ((one (crosses a b q) + one (crosses b c q) + one (crosses c a q)) % 2 == 1) ≡ true

-- y along, from the first corner
weighed_y : (a b c q : Vector) → first_of a b c q *ℤ (q.y -ℤ a.y) ≡ (second_of a b c q *ℤ (b.y -ℤ q.y)) +ℤ (third_of a b c q *ℤ (c.y -ℤ q.y))
weighed_y a b c q =
    let spread = spread_weights (whole_weight (b.x -ℤ a.x) (b.y -ℤ a.y) (c.x -ℤ a.x) (c.y -ℤ a.y)) (second_of a b c q) (third_of a b c q) (q.y -ℤ a.y) (b.y -ℤ a.y) (c.y -ℤ a.y)
    (whole_along (b.x -ℤ a.x) (b.y -ℤ a.y) (c.x -ℤ a.x) (c.y -ℤ a.y) (q.x -ℤ a.x) (q.y -ℤ a.y)) in
    let to_b : (b.y -ℤ a.y) -ℤ (q.y -ℤ a.y) ≡ b.y -ℤ q.y = omega (arith, ints) in
    let to_c : (c.y -ℤ a.y) -ℤ (q.y -ℤ a.y) ≡ c.y -ℤ q.y = omega (arith, ints) in
    spread ∙ rw (to_b, to_c) refl

first_low : (a b c q : Vector) → a.y ≤ℤ q.y → q.y <ℤ b.y → q.y <ℤ c.y → IsOdd a b c q → AreWeighed a b c q
first_low a b c q low second third odd =
    let none : crosses b c q ≡ false = crosses_below b c q second third in
    let count : ((one (crosses a b q) + 0 + one (crosses c a q)) % 2 == 1) ≡ true = ap (λ n. (one (crosses a b q) + one n + one (crosses c a q)) % 2 == 1) (sym none) ∙ odd in
    signs_low (first_of a b c q) (second_of a b c q) (third_of a b c q) (q.y -ℤ a.y) (b.y -ℤ q.y) (c.y -ℤ q.y) (weighed_y a b c q) (omega (arith, ints, low)) (omega (arith, ints, second)) (omega (arith, ints, third))
    (odd_low (crosses a b q) (crosses c a q) ((b.y -ℤ a.y) *ℤ (q.x -ℤ a.x)) ((b.x -ℤ a.x) *ℤ (q.y -ℤ a.y)) ((c.y -ℤ a.y) *ℤ (q.x -ℤ a.x)) ((c.x -ℤ a.x) *ℤ (q.y -ℤ a.y)) (second_of a b c q) (third_of a b c q) count (edge_up a b q low second) (crosses_turned c a q ∙ edge_up a c q low third) refl refl)

-- the weights as the edges that end in the first corner say them
edge_weight : (u v q : Vector) → ((u.y -ℤ v.y) *ℤ (q.x -ℤ v.x)) -ℤ ((u.x -ℤ v.x) *ℤ (q.y -ℤ v.y)) ≡ ((v.x -ℤ u.x) *ℤ (q.y -ℤ u.y)) -ℤ ((v.y -ℤ u.y) *ℤ (q.x -ℤ u.x))
edge_weight u v q =
    let x : u.x -ℤ v.x ≡ pos 0 -ℤ (v.x -ℤ u.x) = omega (arith, ints) in
    let y : u.y -ℤ v.y ≡ pos 0 -ℤ (v.y -ℤ u.y) = omega (arith, ints) in
    let qx : q.x -ℤ v.x ≡ (q.x -ℤ u.x) -ℤ (v.x -ℤ u.x) = omega (arith, ints) in
    let qy : q.y -ℤ v.y ≡ (q.y -ℤ u.y) -ℤ (v.y -ℤ u.y) = omega (arith, ints) in
    rw (x, y, qx, qy) (second_turned (v.x -ℤ u.x) (v.y -ℤ u.y) (q.x -ℤ u.x) (q.y -ℤ u.y))

first_high : (a b c q : Vector) → q.y <ℤ a.y → b.y ≤ℤ q.y → c.y ≤ℤ q.y → IsOdd a b c q → AreWeighed a b c q
first_high a b c q high second third odd =
    let none : crosses b c q ≡ false = crosses_above b c q second third in
    let count : ((one (crosses a b q) + 0 + one (crosses c a q)) % 2 == 1) ≡ true = ap (λ n. (one (crosses a b q) + one n + one (crosses c a q)) % 2 == 1) (sym none) ∙ odd in
    signs_high (first_of a b c q) (second_of a b c q) (third_of a b c q) (q.y -ℤ a.y) (b.y -ℤ q.y) (c.y -ℤ q.y) (weighed_y a b c q) (omega (arith, ints, high)) (omega (arith, ints, second)) (omega (arith, ints, third))
    (odd_high (crosses a b q) (crosses c a q) ((a.y -ℤ b.y) *ℤ (q.x -ℤ b.x)) ((a.x -ℤ b.x) *ℤ (q.y -ℤ b.y)) ((a.y -ℤ c.y) *ℤ (q.x -ℤ c.x)) ((a.x -ℤ c.x) *ℤ (q.y -ℤ c.y)) (second_of a b c q) (third_of a b c q) count (crosses_turned a b q ∙ edge_up b a q second high) (edge_up c a q third high) (sym (edge_weight a b q))
    (omega (arith, ints, edge_weight a c q)))

-- ---- the corners in turn

weights_turned : (a b c q : Vector) → (first_of b c a q ≡ second_of a b c q) × (second_of b c a q ≡ third_of a b c q) × (third_of b c a q ≡ first_of a b c q)
weights_turned a b c q =
    let bx = b.x -ℤ a.x in let b_y = b.y -ℤ a.y in let cx = c.x -ℤ a.x in let cy = c.y -ℤ a.y in let rx = q.x -ℤ a.x in let ry = q.y -ℤ a.y in
    let c_x : c.x -ℤ b.x ≡ (c.x -ℤ a.x) -ℤ (b.x -ℤ a.x) = omega (arith, ints) in
    let c_y : c.y -ℤ b.y ≡ (c.y -ℤ a.y) -ℤ (b.y -ℤ a.y) = omega (arith, ints) in
    let a_x : a.x -ℤ b.x ≡ pos 0 -ℤ (b.x -ℤ a.x) = omega (arith, ints) in
    let a_y : a.y -ℤ b.y ≡ pos 0 -ℤ (b.y -ℤ a.y) = omega (arith, ints) in
    let q_x : q.x -ℤ b.x ≡ (q.x -ℤ a.x) -ℤ (b.x -ℤ a.x) = omega (arith, ints) in
    let q_y : q.y -ℤ b.y ≡ (q.y -ℤ a.y) -ℤ (b.y -ℤ a.y) = omega (arith, ints) in
    let second : second_of b c a q ≡ third_of a b c q = rw (a_x, a_y, q_x, q_y) (second_turned (b.x -ℤ a.x) (b.y -ℤ a.y) (q.x -ℤ a.x) (q.y -ℤ a.y)) in
    let third : third_of b c a q ≡ first_of a b c q = rw (c_x, c_y, q_x, q_y) (third_turned (b.x -ℤ a.x) (b.y -ℤ a.y) (c.x -ℤ a.x) (c.y -ℤ a.y) (q.x -ℤ a.x) (q.y -ℤ a.y)) in
    let whole : whole_weight (c.x -ℤ b.x) (c.y -ℤ b.y) (a.x -ℤ b.x) (a.y -ℤ b.y) ≡ whole_weight (b.x -ℤ a.x) (b.y -ℤ a.y) (c.x -ℤ a.x) (c.y -ℤ a.y) =
    rw (c_x, c_y, a_x, a_y) (whole_turned (b.x -ℤ a.x) (b.y -ℤ a.y) (c.x -ℤ a.x) (c.y -ℤ a.y)) in
    (rest _ _ _ _ _ _ whole second third, second, third)
  where
    rest : (n m l w x y : ℤ) → w ≡ n → x ≡ l → y ≡ ((n -ℤ m) -ℤ l) → ((w -ℤ x) -ℤ y) ≡ m
    rest n m l w x y e f g = omega (arith, ints, e, f, g)

odd_turned : (a b c q : Vector) → IsOdd a b c q → IsOdd b c a q
odd_turned a b c q odd = ap (λ n. n % 2 == 1) (order (one (crosses b c q)) (one (crosses c a q)) (one (crosses a b q))) ∙ odd
  where
    order : (k m n : ℕ) → k + m + n ≡ n + k + m
    order k m n = omega arith

turned_back : (a b c q : Vector) → AreWeighed b c a q → AreWeighed a b c q
turned_back a b c q signs =
    let same_weights = weights_turned a b c q in
    turned_signs (third_of a b c q) (first_of a b c q) (second_of a b c q) (turned_signs (second_of a b c q) (third_of a b c q) (first_of a b c q) (same_signs _ _ _ _ _ _ same_weights.0 same_weights.1 same_weights.2 signs))

no_edge : (a b c q : Vector) → crosses a b q ≡ false → crosses b c q ≡ false → crosses c a q ≡ false → IsOdd a b c q → ⊥
no_edge a b c q first second third odd =
    let none : ((one (crosses a b q) + one (crosses b c q) + one (crosses c a q)) % 2 == 1) ≡ false = rw (first, second, third) refl in differ _ odd none
  where
    differ : (test : Bool) → test ≡ true → test ≡ false → ⊥
    differ test yes_so no_so = absurd (cc)

pub weighed : (a b c q : Vector) → IsOdd a b c q → AreWeighed a b c q
weighed a b c q odd = elim (low_or_high a) [
  | inl low_a ↦ elim (low_or_high b) [
    | inl low_b ↦ elim (low_or_high c) [
      | inl low_c ↦ absurd (no_edge a b c q (crosses_above a b q low_a low_b) (crosses_above b c q low_b low_c) (crosses_above c a q low_c low_a) odd)
      | inr high_c ↦ turned_back a b c q (turned_back b c a q (first_high c a b q high_c low_a low_b (odd_turned b c a q (odd_turned a b c q odd))))
    ]
    | inr high_b ↦ elim (low_or_high c) [
      | inl low_c ↦ turned_back a b c q (first_high b c a q high_b low_c low_a (odd_turned a b c q odd))
      | inr high_c ↦ first_low a b c q low_a high_b high_c odd
    ]
  ]
  | inr high_a ↦ elim (low_or_high b) [
    | inl low_b ↦ elim (low_or_high c) [
      | inl low_c ↦ first_high a b c q high_a low_b low_c odd
      | inr high_c ↦ turned_back a b c q (first_low b c a q low_b high_c high_a (odd_turned a b c q odd))
    ]
    | inr high_b ↦ elim (low_or_high c) [
      | inl low_c ↦ turned_back a b c q (turned_back b c a q (first_low c a b q low_c high_a high_b (odd_turned b c a q (odd_turned a b c q odd))))
      | inr high_c ↦ absurd (no_edge a b c q (crosses_below a b q high_a high_b) (crosses_below b c q high_b high_c) (crosses_below c a q high_c high_a) odd)
    ]
  ]
]
  where
    low_or_high : (v : Vector) → (v.y ≤ℤ q.y) ⊎ (q.y <ℤ v.y)
    low_or_high v = elim (cases_Bool (int_le v.y q.y)) [ inl low ↦ inl (most_of v.y q.y low) | inr high ↦ inr (less_of v.y q.y high) ]

-- ---- the plane above q

-- where all corners are below q, the plane passes there below q, too
weighed_side : (k m l d e f : ℤ) → AreOneSign k m l → pos 0 <ℤ d → pos 0 <ℤ e → pos 0 <ℤ f → have_opposite_signs (k +ℤ (m +ℤ l)) ((k *ℤ d) +ℤ ((m *ℤ e) +ℤ (l *ℤ f))) ≡ false
weighed_side k m l d e f (up a b c some) p q r =
    let first : (k *ℤ pos 1) ≤ℤ (k *ℤ d) = product_at_most k (pos 1) d a (omega (arith, ints, p)) in
    let second : (m *ℤ pos 1) ≤ℤ (m *ℤ e) = product_at_most m (pos 1) e b (omega (arith, ints, q)) in
    let third : (l *ℤ pos 1) ≤ℤ (l *ℤ f) = product_at_most l (pos 1) f c (omega (arith, ints, r)) in
    both_up (k +ℤ (m +ℤ l)) ((k *ℤ d) +ℤ ((m *ℤ e) +ℤ (l *ℤ f))) some (omega (arith, ints, first, second, third, some))
  where
    and_false : (b : Bool) → ((b && false) || false) ≡ false
    and_false true = refl
    and_false false = refl

    both_up : (m n : ℤ) → pos 0 <ℤ m → pos 0 <ℤ n → have_opposite_signs m n ≡ false
    both_up m n p q = rw (test_not n (pos 0) (omega (arith, ints, q)), test_not m (pos 0) (omega (arith, ints, p))) (and_false (int_lt (pos 0) m))
weighed_side k m l d e f (down a b c some) p q r =
    let first : (neg_ℤ k *ℤ pos 1) ≤ℤ (neg_ℤ k *ℤ d) = product_at_most (neg_ℤ k) (pos 1) d (omega (arith, ints, a)) (omega (arith, ints, p)) in
    let second : (neg_ℤ m *ℤ pos 1) ≤ℤ (neg_ℤ m *ℤ e) = product_at_most (neg_ℤ m) (pos 1) e (omega (arith, ints, b)) (omega (arith, ints, q)) in
    let third : (neg_ℤ l *ℤ pos 1) ≤ℤ (neg_ℤ l *ℤ f) = product_at_most (neg_ℤ l) (pos 1) f (omega (arith, ints, c)) (omega (arith, ints, r)) in
    both_down (k +ℤ (m +ℤ l)) ((k *ℤ d) +ℤ ((m *ℤ e) +ℤ (l *ℤ f))) some (omega (arith, ints, first, second, third, some, neg_ℤ-*ℤ k d, neg_ℤ-*ℤ m e, neg_ℤ-*ℤ l f))
  where
    and_false : (b : Bool) → (false || (b && false)) ≡ false
    and_false true = refl
    and_false false = refl

    both_down : (m n : ℤ) → m <ℤ pos 0 → n <ℤ pos 0 → have_opposite_signs m n ≡ false
    both_down m n p q = rw (test_not (pos 0) m (omega (arith, ints, p)), test_not (pos 0) n (omega (arith, ints, q))) (and_false (int_lt m (pos 0)))

side_weighed : (a b c q : Vector) → (first_of a b c q *ℤ (q.z -ℤ a.z)) +ℤ ((second_of a b c q *ℤ (q.z -ℤ b.z)) +ℤ (third_of a b c q *ℤ (q.z -ℤ c.z))) ≡ dot_of (cross_of (minus_of b a) (minus_of c a)) (minus_of q a)
side_weighed a b c q =
    let to_b : q.z -ℤ b.z ≡ (q.z -ℤ a.z) -ℤ (b.z -ℤ a.z) = omega (arith, ints) in
    let to_c : q.z -ℤ c.z ≡ (q.z -ℤ a.z) -ℤ (c.z -ℤ a.z) = omega (arith, ints) in
    rw (to_b, to_c)
    (spread_side (whole_weight (b.x -ℤ a.x) (b.y -ℤ a.y) (c.x -ℤ a.x) (c.y -ℤ a.y)) (second_of a b c q) (third_of a b c q) (q.z -ℤ a.z) (b.z -ℤ a.z) (c.z -ℤ a.z)
    ∙ ap (λ z. z +ℤ (whole_weight (b.x -ℤ a.x) (b.y -ℤ a.y) (c.x -ℤ a.x) (c.y -ℤ a.y) *ℤ (q.z -ℤ a.z)))
    (sym (side_along (b.x -ℤ a.x) (b.y -ℤ a.y) (b.z -ℤ a.z) (c.x -ℤ a.x) (c.y -ℤ a.y) (c.z -ℤ a.z) (q.x -ℤ a.x) (q.y -ℤ a.y) (q.z -ℤ a.z))))

pub not_above_corners : (t : Triangle) (q : Vector) → is_covered t q ≡ true → (pos 2 *ℤ t.a.z) <ℤ q.z → (pos 2 *ℤ t.b.z) <ℤ q.z → (pos 2 *ℤ t.c.z) <ℤ q.z → is_above t q ≡ false
unfolding is_covered crossings is_above
not_above_corners t q covered low_a low_b low_c =
    let a : Vector = doubled t.a in
    let b : Vector = doubled t.b in
    let c : Vector = doubled t.c in
    let signs = weighed a b c q covered in
    let whole : first_of a b c q +ℤ (second_of a b c q +ℤ third_of a b c q) ≡ (normal_of t).z = sum_is _ _ _ in
    ap (λ n. have_opposite_signs n (dot_of (normal_of t) (minus_of q a))) (sym whole)
    ∙ (ap (λ side. have_opposite_signs (first_of a b c q +ℤ (second_of a b c q +ℤ third_of a b c q)) side) (sym (side_weighed a b c q))
    ∙ weighed_side (first_of a b c q) (second_of a b c q) (third_of a b c q) (q.z -ℤ a.z) (q.z -ℤ b.z) (q.z -ℤ c.z) signs (omega (arith, ints, low_a)) (omega (arith, ints, low_b)) (omega (arith, ints, low_c)))
  where
    sum_is : (n m l : ℤ) → ((n -ℤ m) -ℤ l) +ℤ (m +ℤ l) ≡ n
    sum_is n m l = omega (arith, ints)
