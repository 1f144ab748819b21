-- The lines one after another, until there is none or one stops the queries.
use Rattle.std.proofs.Common.{◌∙◌, Ok, ap}
use Rattle.ply_text.specs.Reading.{reading}
use Rattle.ray_answers.proofs.Overs.{no_more_lines, lines_stop, sound_stop}
use Rattle.ray_answers.proofs.answering.answer_each.Goals as goal

pub returns-in-Err-clause-over : goal.returns-in-Err-clause-over
returns-in-Err-clause-over g c = λ a start way.
    lines_stop c.args.kind (g.R.Records.file c.args.nodes.now) (g.R.Records.file c.loop-stop.nodes) c.loop-stop.invariant.same a (reading c.loop-stop.tokens) (reading c.answer_next.new.tokens) start
    (g.O.ByteSink.written c.loop-stop.out) (g.O.ByteSink.written c.answer_next.new.out) c.loop-stop.waiting.items c.answer_next.new.waiting.items c.answer_next.result
    (c.answer_next.ensures.goes a start) (c.loop-stop.invariant.way a start way) _ c.in-Err.stop c.in-Err.is

pub returns-in-Ok-false-clause-over : goal.returns-in-Ok-false-clause-over
returns-in-Ok-false-clause-over g c = λ a start way.
    no_more_lines c.args.kind (g.R.Records.file c.args.nodes.now) (g.R.Records.file c.loop-stop.nodes) c.loop-stop.invariant.same a (reading c.loop-stop.tokens) (reading c.answer_next.new.tokens) start
    (g.O.ByteSink.written c.loop-stop.out) (g.O.ByteSink.written c.answer_next.new.out) c.loop-stop.waiting.items c.answer_next.new.waiting.items c.answer_next.result
    (c.answer_next.ensures.goes a start) (c.loop-stop.invariant.way a start way) _ _ (c.in-Ok-false.is ∙ ap Ok c.in-Ok-false.field-0-test)

pub returns-in-Err-clause-sound : goal.returns-in-Err-clause-sound
returns-in-Err-clause-sound g c = λ cells tells.
    sound_stop (Unit {0}) (g.R.Records.file c.args.nodes.now) (g.R.Records.file c.loop-stop.nodes) cells c.answer_next.result c.in-Err.stop c.loop-stop.invariant.same c.in-Err.is (c.answer_next.ensures.sound cells) tells
