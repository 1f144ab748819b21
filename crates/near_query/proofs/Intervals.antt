-- Gaps between a number and an interval.
use Rattle.std.proofs.Common.{ℕ, ◌*◌, ◌≤◌, arith, ℤ, pos, ◌-ℤ◌, ◌≤ℤ◌}
use Rattle.std.proofs.lemmas.Int.{ints, clamps}
use Rattle.std.proofs.lemmas.Nat.{mul-le}
use Rattle.near_query.specs.Distances.{gap_of}

gap_low : (at low high : ℤ) → (low -ℤ at) ≤ℤ pos (gap_of at low high)
unfolding gap_of
gap_low at low high = omega (arith, ints, clamps)

gap_high : (at low high : ℤ) → (at -ℤ high) ≤ℤ pos (gap_of at low high)
unfolding gap_of
gap_high at low high = omega (arith, ints, clamps)

gap_most : (at low high : ℤ) (n : ℕ) → (low -ℤ at) ≤ℤ pos n → (at -ℤ high) ≤ℤ pos n → gap_of at low high ≤ n
unfolding gap_of
gap_most at low high n below above = omega (arith, ints, clamps, below, above)

-- what lies in a wider interval is not nearer
pub gap_grows : (at low high lower higher : ℤ) → lower ≤ℤ low → high ≤ℤ higher → gap_of at lower higher ≤ gap_of at low high
gap_grows at low high lower higher below above =
    gap_most at lower higher (gap_of at low high) (omega (arith, ints, below, gap_low at low high)) (omega (arith, ints, above, gap_high at low high))

pub squares_grow : (a b : ℕ) → a ≤ b → a * a ≤ b * b
squares_grow a b less = mul-le a a b b less less
