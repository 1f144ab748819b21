-- Fractions of whole numbers.
use Rattle.std.specs.Prelude.{ℕ, ◌*◌, ◌≤◌}
use Prim.Native.Nat.{◌∣◌}

-- no number above 1 divides both
abbrev pub IsReduced : ℕ → ℕ → Type 0
IsReduced n m = (d : ℕ) → d ∣ n → d ∣ m → d ≤ 1

-- n / m is at most k / l
abbrev pub IsUpTo : ℕ → ℕ → ℕ → ℕ → Type 0
IsUpTo n m k l = n * l ≤ k * m
