-- Counts of faults: a device is held to have failed in a call where its count rose in that call.
use Rattle.std.specs.Prelude.{◌≡◌, ◌≢◌, ℕ, ◌+◌, ◌-◌, ◌^◌, ◌<◌, ◌≤◌, min, ◌⊎◌, Result, OnErr}

-- one more, up to the last value of a counter of 64 bits
abbrev pub counted : ℕ → ℕ
counted n = min (n + 1) (2 ^ 64 - 1)

-- the count rose, or stands at that last value
abbrev pub Rose : ℕ → ℕ → Type 0
Rose before after = (before < after) ⊎ (after ≡ 2 ^ 64 - 1)

-- the count did not rise, and does not stand at that last value
abbrev pub DidNotRise : ℕ → ℕ → Type 0
DidNotRise before after = (after ≤ before) × (after ≢ 2 ^ 64 - 1)

-- the count did not fall, and the call was refused only where it rose
pub record HasCause {T E : Type 0} (before after : ℕ) (result : Result T E) : Type 0 where
  pub later : before ≤ after
  pub failed : OnErr result (Rose before after)
