-- A line that is a query, one without words, and the end.
use Rattle.std.proofs.Common.{Ok, IfErr, subst}
use Rattle.std.specs.Io.KnownBytes.{append_known}
use Rattle.ray_answers.specs.LineCalls.{IsLineOf, ReadsLine}
use Rattle.ray_answers.specs.Runs.{GivesAnswer, IsQueryStop}
use Rattle.ray_answers.proofs.Taking.{blank_taken, end_taken, query_taken, query_over}
use Rattle.ray_answers.proofs.answering.take_line.Goals as goal

pub returns-in-End-clause-goes : goal.returns-in-End-clause-goes
returns-in-End-clause-goes g c = λ kind a b d start way read.
    end_taken kind (g.R.Records.file c.args.nodes.now) a b d start (g.O.ByteSink.written c.args.out.now) c.args.waiting.now.items way
    (subst (λ l. ReadsLine kind b d (Ok l)) c.in-End.is read)

pub returns-in-Blank-clause-goes : goal.returns-in-Blank-clause-goes
returns-in-Blank-clause-goes g c = λ kind a b d start way read.
    blank_taken kind (g.R.Records.file c.args.nodes.now) a b d start (g.O.ByteSink.written c.args.out.now) c.args.waiting.now.items way
    (subst (λ l. ReadsLine kind b d (Ok l)) c.in-Blank.is read)

pub returns-in-Err-clause-goes : goal.returns-in-Err-clause-goes
returns-in-Err-clause-goes g c = λ kind a b d start way read.
    let file = g.R.Records.file c.args.nodes.now in
    let written = g.O.ByteSink.written c.args.out.now in
    let after = g.O.ByteSink.written c.answer.new.out in
    let waiting = c.args.waiting.now.items in
    let left = c.answer.new.waiting.items in
    let query = c.in-Asks.query in
    query_over kind file a b d start written waiting way query after left c.answer.result c.in-Err.stop c.in-Err.is
    (subst (λ l. ReadsLine kind b d (Ok l)) c.in-Asks.is read) c.answer.ensures.gives c.answer.ensures.kept c.answer.ensures.front

pub returns-in-Ok-clause-goes : goal.returns-in-Ok-clause-goes
returns-in-Ok-clause-goes g c = λ kind a b d start way read.
    let file = g.R.Records.file c.args.nodes.now in
    let written = g.O.ByteSink.written c.args.out.now in
    let after = g.O.ByteSink.written c.answer.new.out in
    let waiting = c.args.waiting.now.items in
    let left = c.answer.new.waiting.items in
    let query = c.in-Asks.query in
    query_taken kind file a b d start written waiting way query after left
    (subst (λ l. ReadsLine kind b d (Ok l)) c.in-Asks.is read)
    (λ cells tells. subst (λ r. GivesAnswer file.grid cells query (append_known written waiting) (append_known after left) r) c.in-Ok.is (c.answer.ensures.gives cells tells))
    c.answer.ensures.front

pub returns-in-Err-clause-stops : goal.returns-in-Err-clause-stops
returns-in-Err-clause-stops g c = λ kind own.
    subst (λ r. IfErr r (IsQueryStop kind)) c.in-Err.is (c.answer.ensures.stops kind (subst (λ l. IsLineOf kind l) c.in-Asks.is own))
