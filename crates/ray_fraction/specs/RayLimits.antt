-- Tests of a ray's components.
use Rattle.std.specs.Prelude.{ℕ, Bool, nat_le, ℤ, pos, unsigned_abs}
use Rattle.std.specs.Ordering.{int_eq}

-- a size of at most the limit
abbrev pub is_within : ℕ → ℤ → Bool
is_within limit z = nat_le (unsigned_abs z) limit

abbrev pub is_zero : ℤ → Bool
is_zero z = int_eq z (pos 0)
