-- What stopped a call that puts out a piece.
use Rattle.std.proofs.Common.{◌≡◌, Ok, Err, ap}
use Rattle.std.specs.Prelude.{Result}
use Rattle.std.specs.Result.{IsErr, IsErrAnd}
use Rattle.node_check.specs.declared.stops.AnswerStop.{AnswerStop}

pub stop_is : {A : Type 0} (result : Result A AnswerStop) (stop : AnswerStop) → IsErr result × IsErrAnd result (λ e. e ≡ stop) → result ≡ Err stop
stop_is (Ok x) stop h = absurd (let e = h.0 in cc)
stop_is (Err e) stop h = ap Err h.1
