-- What contracts see of a scratch in memory, and what its calls do to it.
use Rattle.std.specs.Prelude.{◌≡◌, ◌+◌, ◌-◌, ◌≤◌, ℕ, min, List, [], length, take, replicate, Option, Some, Result, IsOk, OnOk, OnErr, ◌↔◌, IsNone}
use Rattle.dev_traits.specs.Faults.{counted}
use Rattle.dev_traits.specs.Failing.{planned, taken_of}
use Rattle.dev_traits.specs.Streams.{Asked, asked_of, stream_of, grown}
use Rattle.dev_traits.specs.declared.failing.PartFail.{PartFail}

-- the streams that were started, what was asked, how many streams there are to start, how many bytes each has room for, the calls to refuse, and the calls and faults so far
pub record ScratchView : Type 0 where
  pub streams : List (List ℕ)
  pub asked : Option Asked
  pub made : ℕ
  pub room : ℕ
  pub fails : List PartFail
  pub calls : ℕ
  pub faults : ℕ

-- what every call does: it is counted, and so is its fault where it is refused; what was set stays
pub record IsCalled {T E : Type 0} (old new : ScratchView) (result : Result T E) : Type 0 where
  pub calls : new.calls ≡ counted old.calls
  pub fault : OnErr result (new.faults ≡ counted old.faults)
  pub no_fault : OnOk result (new.faults ≡ old.faults)
  pub made : new.made ≡ old.made
  pub room : new.room ≡ old.room
  pub fails : new.fails ≡ old.fails

-- a start is refused where it has an entry or asks for more streams than there are, and then starts none
pub record StartsAsSet {T E : Type 0} (old new : ScratchView) (place : List ℕ) (streams : ℕ) (result : Result T E) : Type 0 where
  pub called : IsCalled old new result
  pub asked : new.asked ≡ Some (asked_of place streams)
  pub accepted : IsOk result ↔ (IsNone (planned old.fails new.calls) × (streams ≤ old.made))
  pub started : OnOk result (new.streams ≡ replicate streams [])
  pub none : OnErr result (new.streams ≡ old.streams)

-- a stream takes what an entry and its room allow of a piece
pub record GrowsAsSet (old new : ScratchView) (stream : ℕ) (piece : List ℕ) (entry : Option PartFail) : Type 0 where
  pub streams : new.streams ≡ grown old.streams stream (take (taken_of entry (min (length piece) (old.room - length (stream_of old.streams stream)))) piece)
  pub asked : new.asked ≡ old.asked
  pub made : new.made ≡ old.made
  pub room : new.room ≡ old.room
  pub fails : new.fails ≡ old.fails
  pub calls : new.calls ≡ old.calls
  pub faults : new.faults ≡ old.faults

-- an append takes what its entry and the room allow, and is refused where it has an entry or its piece does not fit
pub record AppendsAsSet {T E : Type 0} (old new : ScratchView) (stream : ℕ) (piece : List ℕ) (result : Result T E) : Type 0 where
  pub called : IsCalled old new result
  pub asked : new.asked ≡ old.asked
  pub accepted : IsOk result ↔ (IsNone (planned old.fails new.calls) × (length (stream_of old.streams stream) + length piece ≤ old.room))
  pub streams : new.streams ≡ grown old.streams stream (take (taken_of (planned old.fails new.calls) (min (length piece) (old.room - length (stream_of old.streams stream)))) piece)

-- a read or a question for a length changes no stream, and is refused just where it has an entry
pub record LooksAsSet {T E : Type 0} (old new : ScratchView) (result : Result T E) : Type 0 where
  pub called : IsCalled old new result
  pub asked : new.asked ≡ old.asked
  pub accepted : IsOk result ↔ IsNone (planned old.fails new.calls)
  pub streams : new.streams ≡ old.streams
