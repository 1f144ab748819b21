-- One put of a whole line.
use Rattle.std.proofs.Common.{ℕ, List, length, Result, Ok, Err, arith}
use Rattle.std.proofs.lemmas.List.{take_all}
use Rattle.dev_traits.specs.Faults.{HasCause}
use Rattle.dev_traits.specs.Contents.{PutsPiece}
use Rattle.dev_traits.specs.Change.{Change}
use Rattle.svo_top.specs.Lines.{Says}

-- whatever the put answered, some front of the line was put out, and all of it where no fault was counted
pub says : {T E : Type 0} (err : Change) (line : List ℕ) (result : Result T E)
    → PutsPiece err.before err.after line result → HasCause err.faults_before err.faults_after result → Says err line
says err line (Ok done) put cause = record { whole = λ faultless. put; front = (length line, rw (take_all (length line) line (omega arith)) put) }
says err line (Err failed) put cause = record { whole = λ faultless. absurd (omega (arith, cause.failed, faultless)); front = put }
