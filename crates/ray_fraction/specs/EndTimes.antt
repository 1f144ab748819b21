-- The least and the greatest of some times.
use Rattle.std.specs.Prelude.{ℕ, Option, None, Some}
use Rattle.ray_fraction.specs.Fractions.{IsUpTo}
use Rattle.ray_fraction.specs.declared.times.Time.{Time}

-- none of these times exists, or it is the least of them
abbrev pub IsLeastTime : (ℕ → ℕ → Type 0) → Option Time → Type 0
IsLeastTime At None = (n m : ℕ) → At n m → ⊥
IsLeastTime At (Some t) = At t.n t.m × ((n m : ℕ) → At n m → IsUpTo t.n t.m n m)

-- none of these times exists, or it is the greatest of them
abbrev pub IsGreatestTime : (ℕ → ℕ → Type 0) → Option Time → Type 0
IsGreatestTime At None = (n m : ℕ) → At n m → ⊥
IsGreatestTime At (Some t) = At t.n t.m × ((n m : ℕ) → At n m → IsUpTo n m t.n t.m)
