-- What is above a centre is above the lower ones of its column.
use Rattle.std.proofs.Common.{◌≡◌, ℕ, ◌≤◌, Bool, true, false, ℤ, pos, ◌+ℤ◌, ◌*ℤ◌, neg_ℤ, ◌≤ℤ◌, ◌<ℤ◌, arith, refl, sym, ◌∙◌, inl, inr}
use Rattle.std.specs.Prelude.{int_lt, ◌&&◌, ◌||◌}
use Rattle.std.proofs.lemmas.Bool.{cases_Bool, or_cases}
use Rattle.std.proofs.lemmas.Int.{ints}
use Rattle.std.proofs.Common.{mul-le-mul_left}
use Rattle.octree_specs.proofs.Integers.{product_at_most, neg_ℤ-*ℤ}
use Rattle.solid_parity.specs.Heights.{height_at, side_at, is_above_at}
use Rattle.solid_parity.specs.Parity.{have_opposite_signs}
use Rattle.solid_parity.specs.declared.heights.Heights.{Heights}
use Rattle.solid_parity.proofs.Paired.{both_parts}

-- one is above 0 and the other below
pub data AreOpposite (m n : ℤ) : Type 0 where
  up : pos 0 <ℤ m → n <ℤ pos 0 → AreOpposite m n
  down : m <ℤ pos 0 → pos 0 <ℤ n → AreOpposite m n

less : (m n : ℤ) → int_lt m n ≡ true → m <ℤ n
less m n h = omega (arith, ints, h)

less_back : (m n : ℤ) → m <ℤ n → int_lt m n ≡ true
less_back m n h = grind (arith, ints)

pub opposite : (m n : ℤ) → have_opposite_signs m n ≡ true → AreOpposite m n
opposite m n h = elim (or_cases (int_lt (pos 0) m && int_lt n (pos 0)) (int_lt m (pos 0) && int_lt (pos 0) n) h) [
  | inl first ↦
      let parts = both_parts (int_lt (pos 0) m) (int_lt n (pos 0)) first in up (less (pos 0) m parts.0) (less n (pos 0) parts.1)
  | inr second ↦
      let parts = both_parts (int_lt m (pos 0)) (int_lt (pos 0) n) second in down (less m (pos 0) parts.0) (less (pos 0) n parts.1)
]

or_right : (p : Bool) → (p || true) ≡ true
or_right true = refl
or_right false = refl

pub opposite_back : (m n : ℤ) → AreOpposite m n → have_opposite_signs m n ≡ true
opposite_back m n (up p q) = rw (less_back (pos 0) m p, less_back n (pos 0) q) refl
opposite_back m n (down p q) = rw (less_back m (pos 0) p, less_back (pos 0) n q) (or_right (int_lt (pos 0) m && int_lt n (pos 0)))

lower_height : (h : Heights) (low high : ℕ) → low ≤ high → height_at h low ≤ℤ height_at h high
lower_height h low high below = omega (arith, ints, mul-le-mul_left h.step below)

lower_side : (slope base low high : ℤ) → low ≤ℤ high → AreOpposite slope (base +ℤ (slope *ℤ high)) → AreOpposite slope (base +ℤ (slope *ℤ low))
lower_side slope base low high below (up p q) =
    up p (omega (arith, ints, q, product_at_most slope low high (omega (arith, ints, p)) below))
lower_side slope base low high below (down p q) =
    down p (omega (arith, ints, q, product_at_most (neg_ℤ slope) low high (omega (arith, ints, p)) below, neg_ℤ-*ℤ slope low, neg_ℤ-*ℤ slope high))

pub above_lower : (h : Heights) (low high : ℕ) → low ≤ high → is_above_at h high ≡ true → is_above_at h low ≡ true
unfolding is_above_at
above_lower h low high below above =
    opposite_back h.slope (side_at h low)
    (lower_side h.slope h.base (height_at h low) (height_at h high) (lower_height h low high below) (opposite h.slope (side_at h high) above))

pub not_above_higher : (h : Heights) (low high : ℕ) → low ≤ high → is_above_at h low ≡ false → is_above_at h high ≡ false
not_above_higher h low high below not_above = elim (cases_Bool (is_above_at h high)) [
  | inl above ↦
      let both : true ≡ false = sym (above_lower h low high below above) ∙ not_above in absurd (cc)
  | inr not ↦ not
]
