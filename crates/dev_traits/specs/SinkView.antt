-- What contracts see of a sink in memory, and what a call does to it.
use Rattle.std.specs.Prelude.{◌≡◌, ◌+◌, ◌-◌, ◌≤◌, ℕ, min, List, ◌++◌, length, take, Result, IsOk, OnOk, OnErr, ◌↔◌, IsNone}
use Rattle.dev_traits.specs.Faults.{counted}
use Rattle.dev_traits.specs.Failing.{planned, taken_of}
use Rattle.dev_traits.specs.declared.failing.PartFail.{PartFail}

-- the bytes written, how many there is room for, the calls to refuse, and the calls and faults so far
pub record SinkView : Type 0 where
  pub bytes : List ℕ
  pub room : ℕ
  pub fails : List PartFail
  pub calls : ℕ
  pub faults : ℕ

-- a put is counted; it takes what its entry and the room allow, and is refused, and a fault counted, where it has an entry or its piece does not fit
pub record PutsAsSet {T E : Type 0} (old new : SinkView) (piece : List ℕ) (result : Result T E) : Type 0 where
  pub calls : new.calls ≡ counted old.calls
  pub accepted : IsOk result ↔ (IsNone (planned old.fails new.calls) × (length old.bytes + length piece ≤ old.room))
  pub fault : OnErr result (new.faults ≡ counted old.faults)
  pub no_fault : OnOk result (new.faults ≡ old.faults)
  pub bytes : new.bytes ≡ old.bytes ++ take (taken_of (planned old.fails new.calls) (min (length piece) (old.room - length old.bytes))) piece
  pub room : new.room ≡ old.room
  pub fails : new.fails ≡ old.fails
