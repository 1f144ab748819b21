-- Sums and products of whole numbers as data, so that an equation or an inequality of them is one of naturals, which `omega arith` settles by multiplying out. A whole number z is read as `up z - down z`. To use a law, write both sides as terms: `same (times (the a) (the b)) (times (the b) (the a)) (omega arith)`. Terms with some sixty products of the parts are the most that `omega` takes: a part of a larger one is proved first, and named by `the`.
use Rattle.std.proofs.Common.{◌≡◌, ℕ, ◌+◌, ◌*◌, ◌≤◌, ap, arith, ℤ, ◌+ℤ◌, ◌-ℤ◌, ◌*ℤ◌, neg_ℤ, ◌≤ℤ◌}
use borrow.Author.Differences.{up, down, sum_is_lem, product_is, neg_is, same_in, same_out, at_most_in, le_out}

pub data Term : Type 0 where
  the : ℤ → Term
  plus : Term → Term → Term
  minus : Term → Term → Term
  times : Term → Term → Term
  negated : Term → Term

-- the number that a term stands for
abbrev pub value : Term → ℤ
value (the z) = z
value (plus a b) = value a +ℤ value b
value (minus a b) = value a -ℤ value b
value (times a b) = value a *ℤ value b
value (negated a) = neg_ℤ (value a)

-- what is added in it, and what is taken away
abbrev mutual
  pub added : Term → ℕ
  added (the z) = up z
  added (plus a b) = added a + added b
  added (minus a b) = added a + taken b
  added (times a b) = added a * added b + taken a * taken b
  added (negated a) = taken a

  pub taken : Term → ℕ
  taken (the z) = down z
  taken (plus a b) = taken a + taken b
  taken (minus a b) = taken a + added b
  taken (times a b) = added a * taken b + taken a * added b
  taken (negated a) = added a

-- the product of two differences
product_parts : (a b : ℤ) (p n q m : ℕ) → up a + n ≡ down a + p → up b + m ≡ down b + q → up (a *ℤ b) + (p * m + n * q) ≡ down (a *ℤ b) + (p * q + n * m)
product_parts a b p n q m e f =
    omega (arith, product_is a b, ap (λ k. k * up b) e, ap (λ k. k * down b) e, ap (λ k. p * k) f, ap (λ k. n * k) f)

-- a term's value is the difference of its two parts
pub value-parts : (t : Term) → up (value t) + taken t ≡ down (value t) + added t
value-parts (the z) = omega arith
value-parts (plus a b) = omega (arith, value-parts a, value-parts b, sum_is_lem (value a) (value b))
value-parts (minus a b) =
    omega (arith, value-parts a, value-parts b, sum_is_lem (value a) (neg_ℤ (value b)), neg_is (value b))
value-parts (times a b) =
    product_parts (value a) (value b) (added a) (taken a) (added b) (taken b) (value-parts a) (value-parts b)
value-parts (negated a) = omega (arith, value-parts a, neg_is (value a))

-- two terms are equal where their parts say so
pub same : (s t : Term) → added s + taken t ≡ added t + taken s → value s ≡ value t
same s t e = same_in (value s) (value t) (omega (arith, value-parts s, value-parts t))

-- a term is at most another where their parts say so
pub at_most : (s t : Term) → added s + taken t ≤ added t + taken s → value s ≤ℤ value t
at_most s t h = at_most_in (value s) (value t) (omega (arith, value-parts s, value-parts t))

-- what an equation says of the parts
pub same_parts : (s t : Term) → value s ≡ value t → added s + taken t ≡ added t + taken s
same_parts s t e = omega (arith, same_out (value s) (value t) e, value-parts s, value-parts t)

-- what an inequality says of the parts
pub at_most_parts : (s t : Term) → value s ≤ℤ value t → added s + taken t ≤ added t + taken s
at_most_parts s t h = omega (arith, le_out (value s) (value t) h, value-parts s, value-parts t)
