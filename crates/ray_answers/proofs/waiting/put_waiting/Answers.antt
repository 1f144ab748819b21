-- All that waits was put.
use Rattle.ray_answers.proofs.AnswerTexts.{front_of_all}
use Rattle.ray_answers.proofs.waiting.put_waiting.Goals as goal

pub returns-clause-front : goal.returns-clause-front
returns-clause-front g c =
    front_of_all (g.O.ByteSink.written c.args.out.now) (g.O.ByteSink.written c.put.new.self) c.as_slice.result.now c.args.waiting.now.items c.as_slice.ensures.value c.in_ok-put.ensures.bytes
