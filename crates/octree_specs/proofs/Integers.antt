-- Laws of whole numbers: distribution, association, signs and sizes.
use Rattle.std.proofs.Common.{◌≡◌, ℕ, suc, ◌+◌, ◌*◌, ◌≤◌, arith, ℤ, pos, negsuc, ◌+ℤ◌, ◌-ℤ◌, ◌*ℤ◌, neg_ℤ, ◌≤ℤ◌, ◌<ℤ◌}
use Rattle.std.specs.Prelude.{unsigned_abs}
use Rattle.std.proofs.lemmas.Int.{ints, by_lt_z, unsigned_abs-mul}
use Rattle.std.proofs.lemmas.Nat.{mul-le}
use Rattle.octree_specs.proofs.SignedTerms.{the, plus, minus, times, negated, same}

-- ---- products of sums

pub +ℤ-*ℤ : (a b c : ℤ) → (a +ℤ b) *ℤ c ≡ (a *ℤ c) +ℤ (b *ℤ c)
+ℤ-*ℤ a b c = same (times (plus (the a) (the b)) (the c)) (plus (times (the a) (the c)) (times (the b) (the c))) (omega arith)

pub *ℤ-+ℤ : (a b c : ℤ) → a *ℤ (b +ℤ c) ≡ (a *ℤ b) +ℤ (a *ℤ c)
*ℤ-+ℤ a b c = same (times (the a) (plus (the b) (the c))) (plus (times (the a) (the b)) (times (the a) (the c))) (omega arith)

pub -ℤ-*ℤ : (a b c : ℤ) → (a -ℤ b) *ℤ c ≡ (a *ℤ c) -ℤ (b *ℤ c)
-ℤ-*ℤ a b c = same (times (minus (the a) (the b)) (the c)) (minus (times (the a) (the c)) (times (the b) (the c))) (omega arith)

pub *ℤ--ℤ : (a b c : ℤ) → a *ℤ (b -ℤ c) ≡ (a *ℤ b) -ℤ (a *ℤ c)
*ℤ--ℤ a b c = same (times (the a) (minus (the b) (the c))) (minus (times (the a) (the b)) (times (the a) (the c))) (omega arith)

-- ---- products of opposites, and of products

pub neg_ℤ-*ℤ : (a b : ℤ) → neg_ℤ a *ℤ b ≡ neg_ℤ (a *ℤ b)
neg_ℤ-*ℤ a b = same (times (negated (the a)) (the b)) (negated (times (the a) (the b))) (omega arith)

pub *ℤ-neg_ℤ : (a b : ℤ) → a *ℤ neg_ℤ b ≡ neg_ℤ (a *ℤ b)
*ℤ-neg_ℤ a b = same (times (the a) (negated (the b))) (negated (times (the a) (the b))) (omega arith)

pub *ℤ_assoc : (a b c : ℤ) → (a *ℤ b) *ℤ c ≡ a *ℤ (b *ℤ c)
*ℤ_assoc a b c = same (times (times (the a) (the b)) (the c)) (times (the a) (times (the b) (the c))) (omega arith)

-- ---- signs

-- neither is negative, so the product is not
pub product_not_negative : (a b : ℤ) → pos 0 ≤ℤ a → pos 0 ≤ℤ b → pos 0 ≤ℤ (a *ℤ b)
product_not_negative (pos a) (pos b) h k = omega (arith, ints)
product_not_negative (pos a) (negsuc b) h k = absurd (omega (arith, ints))
product_not_negative (negsuc a) b h k = absurd (omega (arith, ints))

-- one is not negative and the other not positive, so the product is not positive
pub product_not_positive : (a b : ℤ) → pos 0 ≤ℤ a → b ≤ℤ pos 0 → (a *ℤ b) ≤ℤ pos 0
product_not_positive a b h k = omega (arith, ints, product_not_negative a (neg_ℤ b) h (omega (arith, ints)), *ℤ-neg_ℤ a b)

-- one is positive and the other negative, so the product is negative
pub product_negative : (a b : ℤ) → pos 0 <ℤ a → b <ℤ pos 0 → (a *ℤ b) <ℤ pos 0
product_negative (pos a) (pos b) h k = absurd (omega (arith, ints))
product_negative (pos a) (negsuc b) h k = omega (arith, ints, product_not_positive (pos a -ℤ pos 1) (negsuc b) (omega (arith, ints)) (omega (arith, ints)), -ℤ-*ℤ (pos a) (pos 1) (negsuc b))
product_negative (negsuc a) b h k = absurd (omega (arith, ints))

-- a greater factor beside one that is not negative
pub product_at_most : (a b c : ℤ) → pos 0 ≤ℤ a → b ≤ℤ c → (a *ℤ b) ≤ℤ (a *ℤ c)
product_at_most a b c h k = omega (arith, ints, product_not_negative a (c -ℤ b) h (omega (arith, ints)), *ℤ--ℤ a c b)

-- ---- factors above zero

pub product_positive : (a b : ℤ) → pos 0 <ℤ a → pos 0 <ℤ b → pos 0 <ℤ (a *ℤ b)
product_positive a b h k = omega (arith, ints, product_negative a (neg_ℤ b) h (omega (arith, ints)), *ℤ-neg_ℤ a b)

-- such a factor on both sides may go
pub factor_at_most : (a b c : ℤ) → pos 0 <ℤ a → (a *ℤ b) ≤ℤ (a *ℤ c) → b ≤ℤ c
factor_at_most a b c h k =
    by_lt_z c b
    (λ above. absurd (omega (arith, ints, k, product_negative a (c -ℤ b) h (omega (arith, ints, above)), *ℤ--ℤ a c b)))
    (λ below. below)

pub factor_not_negative : (a b : ℤ) → pos 0 <ℤ a → pos 0 ≤ℤ (a *ℤ b) → pos 0 ≤ℤ b
factor_not_negative a b h k =
    by_lt_z b (pos 0) (λ below. absurd (omega (arith, ints, k, product_negative a b h below))) (λ above. above)

pub factor_zero : (a b : ℤ) → pos 0 <ℤ a → a *ℤ b ≡ pos 0 → b ≡ pos 0
factor_zero a b h e =
    let most : b ≤ℤ pos 0 = by_lt_z (pos 0) b (λ above. absurd (omega (arith, ints, e, product_positive a b h above))) (λ below. below) in
    omega (arith, ints, most, factor_not_negative a b h (omega (arith, ints, e)))

-- ---- squares

pub square_not_negative : (a : ℤ) → pos 0 ≤ℤ (a *ℤ a)
square_not_negative (pos a) = product_not_negative (pos a) (pos a) (omega (arith, ints)) (omega (arith, ints))
square_not_negative (negsuc a) = omega (arith, ints, product_positive (pos (suc a)) (pos (suc a)) (omega (arith, ints)) (omega (arith, ints)), neg_ℤ-*ℤ (pos (suc a)) (negsuc a), *ℤ-neg_ℤ (pos (suc a)) (pos (suc a)))

pub square_zero : (a : ℤ) → (a *ℤ a) ≤ℤ pos 0 → a ≡ pos 0
square_zero a h =
    by_lt_z a (pos 0)
    (λ below. absurd (omega (arith, ints, h, product_negative (neg_ℤ a) a (omega (arith, ints, below)) below, neg_ℤ-*ℤ a a)))
    (λ above. by_lt_z (pos 0) a (λ over. absurd (omega (arith, ints, h, product_positive a a over over))) (λ under. omega (arith, ints, above, under)))

-- ---- sizes

pub product_within : (a b : ℤ) (m n : ℕ) → unsigned_abs a ≤ m → unsigned_abs b ≤ n → unsigned_abs (a *ℤ b) ≤ m * n
product_within a b m n h k = rw unsigned_abs-mul (mul-le (unsigned_abs a) (unsigned_abs b) m n h k)

pub sum_within : (a b : ℤ) (m n : ℕ) → unsigned_abs a ≤ m → unsigned_abs b ≤ n → unsigned_abs (a +ℤ b) ≤ m + n
sum_within a b m n h k = omega (arith, ints)

pub difference_within : (a b : ℤ) (m n : ℕ) → unsigned_abs a ≤ m → unsigned_abs b ≤ n → unsigned_abs (a -ℤ b) ≤ m + n
difference_within a b m n h k = omega (arith, ints)

pub unsigned_abs-neg_ℤ : (a : ℤ) → unsigned_abs (neg_ℤ a) ≡ unsigned_abs a
unsigned_abs-neg_ℤ a = omega (arith, ints)
