-- The mask of a node, bit by bit.
use Rattle.std.proofs.Common.{◌≡◌, ℕ, zero, suc, ◌+◌, ◌-◌, ◌*◌, ◌/◌, ◌%◌, ◌^◌, ◌<◌, ◌≤◌, true, false, cond, List, length, refl, sym, ap, ◌∙◌, inl, inr, arith, add-one, add-zero, lit<, lit≤}
use Rattle.std.specs.Prelude.{◌==◌, count_ones}
use Rattle.std.proofs.Math.Nat.{pow-suc, mul-le-mul_right}
use Rattle.std.proofs.lemmas.Bool.{cases_Bool}
use Rattle.std.proofs.lemmas.List.{length_push}
use Rattle.std.proofs.lemmas.List.Sums.{sum_by_push}
use Rattle.std.proofs.lemmas.Nat.{ones_cat, pow-add, mod_low, shr_high}
use lib.Count.{ones}
use Rattle.octree_specs.specs.Octree.{Leaf, is_nonempty, first_children, mask_of}
use Rattle.octree_laws.proofs.FirstChildren.{first_children-zero, one_in, one_out}

-- 1 for a nonempty child
unfoldable pub bit_of : List Leaf → ℕ → ℕ → ℕ
bit_of leaves height node = cond (is_nonempty leaves height node) 1 0

-- the mask of the first children
unfoldable pub mask_front : List Leaf → ℕ → ℕ → ℕ → ℕ
mask_front leaves height node count = mask_of (first_children leaves height node count)

power-suc : (count : ℕ) → 2 ^ (count + 1) ≡ 2 ^ count * 2
power-suc count = rw (add-one count) (pow-suc 2 count)

module _ (leaves : List Leaf) (height node : ℕ) where
  pub mask_front-zero : mask_front leaves height node 0 ≡ 0
  unfolding mask_front
  mask_front-zero = rw (first_children-zero leaves height node) refl

  -- one more child adds its bit above all others
  pub mask_front_more : (count : ℕ) → count < 8 → mask_front leaves height node (count + 1) ≡ bit_of leaves height (8 * node + count) * 2 ^ count + mask_front leaves height node count
  unfolding mask_front bit_of
  mask_front_more count octant = elim (cases_Bool (is_nonempty leaves height (8 * node + count))) [
    | inl nonempty ↦
        let last : (8 * node + count) % 8 ≡ count = omega arith in
        rw (nonempty, one_in leaves height node count nonempty, sum_by_push (λ c. 2 ^ (c % 8)) (first_children leaves height node count) (8 * node + count), last) (omega arith)
    | inr empty ↦ rw (empty, one_out leaves height node count empty) (omega arith)
  ]

  bit-small : (child : ℕ) → bit_of leaves height child ≤ 1
  unfolding bit_of
  bit-small child = elim (is_nonempty leaves height child) as (λ b. cond b 1 0 ≤ 1) [ true ↦ lit≤ tt | false ↦ lit≤ tt ]

  pub mask_front-small : (count : ℕ) → count ≤ 8 → mask_front leaves height node count < 2 ^ count
  mask_front-small zero few = rw mask_front-zero (lit< tt)
  mask_front-small (suc count) few =
      let small : mask_front leaves height node count < 2 ^ count = mask_front-small count (omega arith) in
      let bit : bit_of leaves height (8 * node + count) ≤ 1 = bit-small (8 * node + count) in
      let term : bit_of leaves height (8 * node + count) * 2 ^ count ≤ 1 * 2 ^ count = mul-le-mul_right (2 ^ count) bit in
      rw (← add-one count, mask_front_more count (omega arith), power-suc count) (omega arith)

  -- a mask is that of the children before a place, and bits from the place on
  pub mask_cut : (place more : ℕ) → place + more ≤ 8 → (q : ℕ) × (mask_front leaves height node (place + more) ≡ q * 2 ^ place + mask_front leaves height node place)
  mask_cut place zero few = (0, rw (add-zero place) (omega arith))
  mask_cut place (suc more) few =
      let before : (q : ℕ) × (mask_front leaves height node (place + more) ≡ q * 2 ^ place + mask_front leaves height node place) = mask_cut place more (omega arith) in
      let bit : ℕ = bit_of leaves height (8 * node + (place + more)) in
      let e : place + suc more ≡ place + more + 1 = omega arith in
      let power : 2 ^ (place + more) ≡ 2 ^ place * 2 ^ more = pow-add 2 place more in
      let more_is : mask_front leaves height node (place + more + 1) ≡ bit * (2 ^ place * 2 ^ more) + mask_front leaves height node (place + more) =
      rw (← power) (mask_front_more (place + more) (omega arith)) in
      (bit * 2 ^ more + before.0, rw e (omega (arith, more_is, before.1)))

  -- one more bit where there is one more child
  ones_step : (count : ℕ) → count_ones (mask_front leaves height node count) ≡ length (first_children leaves height node count)
      → count_ones (bit_of leaves height (8 * node + count)) + count_ones (mask_front leaves height node count) ≡ length (first_children leaves height node (count + 1))
  unfolding bit_of ones
  ones_step count before = elim (cases_Bool (is_nonempty leaves height (8 * node + count))) [
    | inl nonempty ↦ rw (nonempty, one_in leaves height node count nonempty, length_push (first_children leaves height node count) (8 * node + count)) (omega (arith, before))
    | inr empty ↦ rw (empty, one_out leaves height node count empty) (omega (arith, before))
  ]

  -- as many bits as children
  pub ones_front : (count : ℕ) → count ≤ 8 → count_ones (mask_front leaves height node count) ≡ length (first_children leaves height node count)
  unfolding ones
  ones_front zero few = rw (mask_front-zero, first_children-zero leaves height node) refl
  ones_front (suc count) few =
      let before : count_ones (mask_front leaves height node count) ≡ length (first_children leaves height node count) = ones_front count (omega arith) in
      let small : mask_front leaves height node count < 2 ^ count = mask_front-small count (omega arith) in
      let split : count_ones (mask_front leaves height node (count + 1)) ≡ count_ones (bit_of leaves height (8 * node + count)) + count_ones (mask_front leaves height node count) =
      rw (mask_front_more count (omega arith)) (ones_cat count (bit_of leaves height (8 * node + count)) (mask_front leaves height node count) small) in
      rw (← add-one count) (split ∙ ones_step count before)

-- a word with the mask of a node and this base, and what it says of each place
pub record HasOctants (leaves : List Leaf) (height node base word : ℕ) : Type 0 where
  pub mask : word % 256 ≡ mask_front leaves height node 8
  pub based : word / 256 ≡ base
  pub ones : count_ones (word % 256) ≡ length (first_children leaves height node 8)
  pub before : (place : ℕ) → place < 8 → count_ones (word % 2 ^ place) ≡ length (first_children leaves height node place)
  pub bits : (place : ℕ) → place < 8 → is_nonempty leaves height (8 * node + place) ≡ (word / 2 ^ place % 2 == 1)

-- the part of the word from a place on
high_part : (leaves : List Leaf) (height node base place rest : ℕ) → place + rest ≡ 8
    → (q : ℕ) × (mask_front leaves height node 8 + 256 * base ≡ q * 2 ^ place + mask_front leaves height node place)
high_part leaves height node base place rest eight =
    let cut : (q : ℕ) × (mask_front leaves height node (place + rest) ≡ q * 2 ^ place + mask_front leaves height node place) = mask_cut leaves height node place rest (omega arith) in
    let cut_at : mask_front leaves height node 8 ≡ cut.0 * 2 ^ place + mask_front leaves height node place = ap (mask_front leaves height node) (sym eight) ∙ cut.1 in
    let power : 256 ≡ 2 ^ place * 2 ^ rest = ap (λ n. 2 ^ n) (sym eight) ∙ pow-add 2 place rest in
    let based : 256 * base ≡ (2 ^ place * 2 ^ rest) * base = ap (λ n. n * base) power in
    (cut.0 + 2 ^ rest * base, omega (arith, cut_at, based))

bit_test : (leaves : List Leaf) (height child : ℕ) → is_nonempty leaves height child ≡ (bit_of leaves height child == 1)
unfolding bit_of
bit_test leaves height child = elim (is_nonempty leaves height child) as (λ b. b ≡ (cond b 1 0 == 1)) [ true ↦ refl | false ↦ refl ]

pub has_octants : (leaves : List Leaf) (height node base : ℕ) → HasOctants leaves height node base (mask_front leaves height node 8 + 256 * base)
has_octants leaves height node base = record {
  mask = mask_is;
  based = omega (arith, small);
  ones = rw mask_is (ones_front leaves height node 8 (lit≤ tt));
  before = λ place octant.
      let rest : (rest : ℕ) × (place + rest ≡ 8) = (8 - place, omega arith) in
      let high : (q : ℕ) × (mask_front leaves height node 8 + 256 * base ≡ q * 2 ^ place + mask_front leaves height node place) = high_part leaves height node base place rest.0 rest.1 in
      rw (high.1, mod_low high.0 place (mask_front leaves height node place) (mask_front-small leaves height node place (omega arith))) (ones_front leaves height node place (omega arith));
  bits = λ place octant.
      let rest : (rest : ℕ) × (place + 1 + rest ≡ 8) = (7 - place, omega arith) in
      let high : (q : ℕ) × (mask_front leaves height node 8 + 256 * base ≡ q * 2 ^ (place + 1) + mask_front leaves height node (place + 1)) = high_part leaves height node base (place + 1) rest.0 rest.1 in
      let bit : ℕ = bit_of leaves height (8 * node + place) in
      let front : mask_front leaves height node (place + 1) ≡ bit * 2 ^ place + mask_front leaves height node place = mask_front_more leaves height node place octant in
      let power : 2 ^ (place + 1) ≡ 2 ^ place * 2 = power-suc place in
      let whole : mask_front leaves height node 8 + 256 * base ≡ (2 * high.0 + bit) * 2 ^ place + mask_front leaves height node place =
      high.1 ∙ rw (power, front) (omega arith) in
      let parity : (2 * high.0 + bit) % 2 ≡ bit = let one : bit ≤ 1 = bit-small leaves height node (8 * node + place) in omega arith in
      rw (whole, shr_high (2 * high.0 + bit) place (mask_front leaves height node place) (mask_front-small leaves height node place (omega arith)), parity) (bit_test leaves height (8 * node + place));
}
  where
    small : mask_front leaves height node 8 < 256
    small = mask_front-small leaves height node 8 (lit≤ tt)

    mask_is : (mask_front leaves height node 8 + 256 * base) % 256 ≡ mask_front leaves height node 8
    mask_is = omega (arith, small)
