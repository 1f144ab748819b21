-- What every call on a file's words says of its counts.
use Rattle.std.specs.Prelude.{◌≡◌, ℕ, ◌+◌, ◌≤◌, Result, Err}
use Rattle.dev_traits.specs.Faults.{Rose}

-- the count of faults did not fall, and the call answered this fault only where it rose
pub record HasCauseOf {T E : Type 0} (before after : ℕ) (result : Result T E) (fault : E) : Type 0 where
  pub later : before ≤ after
  pub failed : result ≡ Err fault → Rose before after

-- the calls of `word` so far rose by no more than the reads did
abbrev pub LooksAsReads : ℕ → ℕ → ℕ → ℕ → Type 0
LooksAsReads looked_before looked_after reads_before reads_after = looked_after + reads_before ≤ looked_before + reads_after
