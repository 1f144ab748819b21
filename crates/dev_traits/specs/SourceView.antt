-- What contracts see of a source in memory, and what a call does to it.
use Rattle.std.specs.Prelude.{◌≡◌, ◌↔◌, ℕ, min, List, length, Contains, Result, IsErr, IfOk, OnOk, OnErr}
use Rattle.dev_traits.specs.Faults.{counted}

-- the bytes to come, how many a read gives at most, the numbers of the calls to refuse, and the calls and faults so far
pub record SourceView : Type 0 where
  pub rest : List ℕ
  pub piece : ℕ
  pub fails : List ℕ
  pub calls : ℕ
  pub faults : ℕ

-- a read is counted; it is refused, and a fault counted, where its number is listed, and else gives as many bytes as piece, room and rest allow
pub record ReadsAsSet {E : Type 0} (old new : SourceView) (room : ℕ) (result : Result ℕ E) : Type 0 where
  pub calls : new.calls ≡ counted old.calls
  pub refused : IsErr result ↔ Contains old.fails new.calls
  pub fault : OnErr result (new.faults ≡ counted old.faults)
  pub no_fault : OnOk result (new.faults ≡ old.faults)
  pub count : IfOk result (λ n. n ≡ min (min old.piece room) (length old.rest))
  pub piece : new.piece ≡ old.piece
  pub fails : new.fails ≡ old.fails
