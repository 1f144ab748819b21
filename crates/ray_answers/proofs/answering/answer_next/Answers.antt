-- A line, or what stops the queries.
use Rattle.std.proofs.Common.{IfOk, subst}
use Rattle.ply_text.specs.Reading.{reading}
use Rattle.ray_answers.specs.LineCalls.{IsLineOf, ReadsLine}
use Rattle.ray_answers.proofs.QueryStops.{may_stop}
use Rattle.ray_answers.proofs.Taking.{line_stopped}
use Rattle.ray_answers.proofs.answering.answer_next.Goals as goal

pub returns-in-Err-clause-goes : goal.returns-in-Err-clause-goes
returns-in-Err-clause-goes g c = λ a start way.
    let b = reading c.args.tokens.now in
    let d = reading c.read_line.new.tokens in
    line_stopped c.args.kind (g.R.Records.file c.args.nodes.now) a b d start (g.O.ByteSink.written c.args.out.now) c.args.waiting.now.items way c.in-Err.stop
    (subst (λ r. ReadsLine c.args.kind b d r) c.in-Err.is c.read_line.ensures.call)

pub returns-in-Ok-clause-goes : goal.returns-in-Ok-clause-goes
returns-in-Ok-clause-goes g c = λ a start way.
    let b = reading c.args.tokens.now in
    let d = reading c.read_line.new.tokens in
    c.take_line.ensures.goes c.args.kind a b d start way (subst (λ r. ReadsLine c.args.kind b d r) c.in-Ok.is c.read_line.ensures.call)

pub returns-in-Ok-clause-stops : goal.returns-in-Ok-clause-stops
returns-in-Ok-clause-stops g c =
    may_stop c.args.kind c.take_line.result
    (c.take_line.ensures.stops c.args.kind (subst (λ r. IfOk r (IsLineOf c.args.kind)) c.in-Ok.is c.read_line.ensures.call.asks))
