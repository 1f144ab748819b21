-- A column beside a triangle, as seen along z, does not go through it.
use Rattle.std.proofs.Common.{◌≡◌, ◌+◌, ◌%◌, Bool, true, false, ℤ, pos, ◌-ℤ◌, ◌*ℤ◌, ◌≤ℤ◌, ◌<ℤ◌, inl, inr, arith, refl}
use Rattle.std.specs.Prelude.{◌==◌, ◌&&◌, ◌||◌, not, int_le, int_lt}
use Rattle.std.specs.Int.{int_min, int_max}
use Rattle.std.proofs.lemmas.Bool.{cases_Bool}
use Rattle.std.proofs.lemmas.Int.{ints, clamps}
use Rattle.svo_base.specs.Boxes.{bounds_of}
use Rattle.svo_base.specs.declared.shapes.Triangle.{Triangle}
use Rattle.svo_base.specs.declared.shapes.Vector.{Vector}
use Rattle.octree_specs.proofs.Integers.{product_at_most, product_negative, product_not_negative, -ℤ-*ℤ}
use Rattle.octree_specs.proofs.SignedTerms.{the, times, same}
use Rattle.solid_parity.specs.Parity.{doubled, rises, crosses, crossings, is_covered, one}

-- ---- one edge

pub turned_product : (a b : ℤ) → a *ℤ b ≡ b *ℤ a
turned_product a b = same (times (the a) (the b)) (times (the b) (the a)) (omega arith)

-- on the way up to an edge's upper end: `up` of `whole`, with q so far `across` and the edge's ends so far apart
is_left : (whole up across apart : ℤ) → pos 0 ≤ℤ up → up <ℤ whole → across <ℤ pos 0 → across <ℤ apart → (whole *ℤ across) <ℤ (apart *ℤ up)
is_left whole up across apart p q r s =
    let less : (up *ℤ across) ≤ℤ (up *ℤ apart) = product_at_most up across apart p (omega (arith, ints, s)) in
    let rest : ((whole -ℤ up) *ℤ across) <ℤ pos 0 = product_negative (whole -ℤ up) across (omega (arith, ints, q)) r in
    omega (arith, ints, less, rest, -ℤ-*ℤ whole up across, turned_product up apart)

not_left : (whole up across apart : ℤ) → pos 0 ≤ℤ up → up <ℤ whole → pos 0 ≤ℤ across → apart ≤ℤ across → (apart *ℤ up) ≤ℤ (whole *ℤ across)
not_left whole up across apart p q r s =
    let less : (up *ℤ apart) ≤ℤ (up *ℤ across) = product_at_most up apart across p s in
    let rest : pos 0 ≤ℤ ((whole -ℤ up) *ℤ across) = product_not_negative (whole -ℤ up) across (omega (arith, ints, q)) r in
    omega (arith, ints, less, rest, -ℤ-*ℤ whole up across, turned_product up apart)

pub test_less : (m n : ℤ) → m <ℤ n → int_lt m n ≡ true
test_less m n h = grind (arith, ints)

pub test_not : (m n : ℤ) → n ≤ℤ m → int_lt m n ≡ false
test_not m n h = grind (arith, ints)

pub test_most : (m n : ℤ) → m ≤ℤ n → int_le m n ≡ true
test_most m n h = grind (arith, ints)

pub less_of : (m n : ℤ) → int_le m n ≡ false → n <ℤ m
less_of m n h = omega (arith, ints, h)

pub most_of : (m n : ℤ) → int_le m n ≡ true → m ≤ℤ n
most_of m n h = omega (arith, ints, h)

-- where q is on the left of both ends, an edge goes up past its height exactly where one end is not above it and the other is
rises_left : (u v q : Vector) → q.x <ℤ u.x → q.x <ℤ v.x → rises u v q ≡ (int_le u.y q.y && not (int_le v.y q.y))
rises_left u v q p r = elim (cases_Bool (int_le u.y q.y)) [
  | inl low ↦ elim (cases_Bool (int_le v.y q.y)) [
    | inl both ↦ rw (low, both, test_not q.y v.y (most_of v.y q.y both)) refl
    | inr high ↦
        let up : q.y <ℤ v.y = less_of v.y q.y high in
        let left = is_left (v.y -ℤ u.y) (q.y -ℤ u.y) (q.x -ℤ u.x) (v.x -ℤ u.x) (omega (arith, ints, most_of u.y q.y low)) (omega (arith, ints, up)) (omega (arith, ints, p)) (omega (arith, ints, r)) in
        rw (low, high, test_less q.y v.y up, test_less _ _ left) refl
  ]
  | inr above ↦ rw above refl
]

crosses_left : (u v q : Vector) → q.x <ℤ u.x → q.x <ℤ v.x → crosses u v q ≡ ((int_le u.y q.y && not (int_le v.y q.y)) || (int_le v.y q.y && not (int_le u.y q.y)))
unfolding crosses
crosses_left u v q p r = rw (rises_left u v q p r, rises_left v u q r p) refl

-- on the right of both ends none does
rises_right : (u v q : Vector) → u.x ≤ℤ q.x → v.x ≤ℤ q.x → rises u v q ≡ false
rises_right u v q p r = elim (cases_Bool (int_le u.y q.y)) [
  | inl low ↦ elim (cases_Bool (int_lt q.y v.y)) [
    | inl high ↦
        let up : q.y <ℤ v.y = omega (arith, ints, high) in
        let right = not_left (v.y -ℤ u.y) (q.y -ℤ u.y) (q.x -ℤ u.x) (v.x -ℤ u.x) (omega (arith, ints, most_of u.y q.y low)) (omega (arith, ints, up)) (omega (arith, ints, p)) (omega (arith, ints, r)) in
        rw (low, high, test_not _ _ right) refl
    | inr both ↦ rw (low, both) refl
  ]
  | inr above ↦ rw above refl
]

crosses_right : (u v q : Vector) → u.x ≤ℤ q.x → v.x ≤ℤ q.x → crosses u v q ≡ false
unfolding crosses
crosses_right u v q p r = rw (rises_right u v q p r, rises_right v u q r p) refl

-- nor above both or below both
rises_above : (u v q : Vector) → u.y ≤ℤ q.y → v.y ≤ℤ q.y → rises u v q ≡ false
rises_above u v q p r = elim (cases_Bool (int_le u.y q.y)) [
  | inl low ↦ rw (low, test_not q.y v.y r) refl
  | inr above ↦ rw above refl
]

pub crosses_above : (u v q : Vector) → u.y ≤ℤ q.y → v.y ≤ℤ q.y → crosses u v q ≡ false
unfolding crosses
crosses_above u v q p r = rw (rises_above u v q p r, rises_above v u q r p) refl

pub test_above : (m n : ℤ) → n <ℤ m → int_le m n ≡ false
test_above m n h = grind (arith, ints)

pub crosses_below : (u v q : Vector) → q.y <ℤ u.y → q.y <ℤ v.y → crosses u v q ≡ false
unfolding crosses
crosses_below u v q p r = rw (test_above u.y q.y p, test_above v.y q.y r) refl

-- ---- a triangle

none_crossed : (t : Triangle) (q : Vector) → crosses (doubled t.a) (doubled t.b) q ≡ false → crosses (doubled t.b) (doubled t.c) q ≡ false → crosses (doubled t.c) (doubled t.a) q ≡ false → is_covered t q ≡ false
unfolding is_covered crossings
none_crossed t q a b c = rw (a, b, c) refl

-- on the left all edges count that go past the height of q, which are two or none
pub left_of : (t : Triangle) (q : Vector) → q.x <ℤ (pos 2 *ℤ t.a.x) → q.x <ℤ (pos 2 *ℤ t.b.x) → q.x <ℤ (pos 2 *ℤ t.c.x) → is_covered t q ≡ false
unfolding is_covered crossings
left_of t q a b c =
    rw (crosses_left (doubled t.a) (doubled t.b) q a b, crosses_left (doubled t.b) (doubled t.c) q b c, crosses_left (doubled t.c) (doubled t.a) q c a)
    (even_around (int_le (pos 2 *ℤ t.a.y) q.y) (int_le (pos 2 *ℤ t.b.y) q.y) (int_le (pos 2 *ℤ t.c.y) q.y))
  where
    even_around : (p q r : Bool) → ((one ((p && not q) || (q && not p)) + one ((q && not r) || (r && not q)) + one ((r && not p) || (p && not r))) % 2 == 1) ≡ false
    even_around true true true = refl
    even_around true true false = refl
    even_around true false true = refl
    even_around true false false = refl
    even_around false true true = refl
    even_around false true false = refl
    even_around false false true = refl
    even_around false false false = refl

pub right_of : (t : Triangle) (q : Vector) → (pos 2 *ℤ t.a.x) ≤ℤ q.x → (pos 2 *ℤ t.b.x) ≤ℤ q.x → (pos 2 *ℤ t.c.x) ≤ℤ q.x → is_covered t q ≡ false
right_of t q a b c = none_crossed t q (crosses_right _ _ q a b) (crosses_right _ _ q b c) (crosses_right _ _ q c a)

pub behind : (t : Triangle) (q : Vector) → (pos 2 *ℤ t.a.y) ≤ℤ q.y → (pos 2 *ℤ t.b.y) ≤ℤ q.y → (pos 2 *ℤ t.c.y) ≤ℤ q.y → is_covered t q ≡ false
behind t q a b c = none_crossed t q (crosses_above _ _ q a b) (crosses_above _ _ q b c) (crosses_above _ _ q c a)

pub before : (t : Triangle) (q : Vector) → q.y <ℤ (pos 2 *ℤ t.a.y) → q.y <ℤ (pos 2 *ℤ t.b.y) → q.y <ℤ (pos 2 *ℤ t.c.y) → is_covered t q ≡ false
before t q a b c = none_crossed t q (crosses_below _ _ q a b) (crosses_below _ _ q b c) (crosses_below _ _ q c a)

-- ---- by the triangle's box

double_least : (a b c q : ℤ) → q <ℤ (pos 2 *ℤ int_min (int_min a b) c) → (q <ℤ (pos 2 *ℤ a)) × (q <ℤ (pos 2 *ℤ b)) × (q <ℤ (pos 2 *ℤ c))
double_least a b c q h = (omega (arith, ints, clamps, h), omega (arith, ints, clamps, h), omega (arith, ints, clamps, h))

double_greatest : (a b c q : ℤ) → (pos 2 *ℤ int_max (int_max a b) c) ≤ℤ q → ((pos 2 *ℤ a) ≤ℤ q) × ((pos 2 *ℤ b) ≤ℤ q) × ((pos 2 *ℤ c) ≤ℤ q)
double_greatest a b c q h = (omega (arith, ints, clamps, h), omega (arith, ints, clamps, h), omega (arith, ints, clamps, h))

pub left_of_box : (t : Triangle) (q : Vector) → q.x <ℤ (pos 2 *ℤ (bounds_of t).x.low) → is_covered t q ≡ false
unfolding bounds_of
left_of_box t q h = let all = double_least t.a.x t.b.x t.c.x q.x h in left_of t q all.0 all.1 all.2

pub right_of_box : (t : Triangle) (q : Vector) → (pos 2 *ℤ (bounds_of t).x.high) ≤ℤ q.x → is_covered t q ≡ false
unfolding bounds_of
right_of_box t q h = let all = double_greatest t.a.x t.b.x t.c.x q.x h in right_of t q all.0 all.1 all.2

pub before_box : (t : Triangle) (q : Vector) → q.y <ℤ (pos 2 *ℤ (bounds_of t).y.low) → is_covered t q ≡ false
unfolding bounds_of
before_box t q h = let all = double_least t.a.y t.b.y t.c.y q.y h in before t q all.0 all.1 all.2

pub behind_box : (t : Triangle) (q : Vector) → (pos 2 *ℤ (bounds_of t).y.high) ≤ℤ q.y → is_covered t q ≡ false
unfolding bounds_of
behind_box t q h = let all = double_greatest t.a.y t.b.y t.c.y q.y h in behind t q all.0 all.1 all.2
