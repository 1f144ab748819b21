-- A query that has no line.
use Rattle.std.proofs.Common.{◌≡◌, Err, IfErr, subst, sym}
use Rattle.std.specs.Io.KnownBytes.{append_known}
use Rattle.near_query.specs.declared.cells.NearFault.{NearFault}
use Rattle.near_query.specs.declared.cells.NearFault.TheVariants as near
use Rattle.ray_answers.specs.Answering.{RefusesNoWord}
use Rattle.ray_answers.specs.Runs.{FindsLine, GivesAnswer, IsQueryStop}
use Rattle.ray_answers.specs.declared.queries.QueryKind.TheVariants.{Points}
use Rattle.ray_answers.specs.declared.stops.LineStop.{LineStop}
use Rattle.ray_answers.proofs.QueryStops.{unfound, unrefused, query_stops}
use Rattle.ray_answers.proofs.answering.answer.Goals as goal

pub returns-in-Err-clause-gives : goal.returns-in-Err-clause-gives
returns-in-Err-clause-gives g c = λ cells tells.
    let grid = (g.R.Records.file c.args.nodes.now).grid in
    let before = append_known (g.O.ByteSink.written c.args.out.now) c.args.waiting.now.items in
    subst (λ (s : LineStop). GivesAnswer {T = Unit {0}} grid cells c.args.query.now before before (Err s)) (sym c.stop_of_fault.ensures)
    (unfound (Unit {0}) grid cells c.args.query.now before c.in-Err.fault (subst (λ r. FindsLine grid cells c.args.query.now r) c.in-Err.is (c.answer_of.ensures.found cells tells)))

pub returns-in-Err-clause-stops : goal.returns-in-Err-clause-stops
returns-in-Err-clause-stops g c = λ kind own.
    subst (λ (s : LineStop). IsQueryStop kind s) (sym c.stop_of_fault.ensures)
    (query_stops kind c.in-Err.fault (subst (λ r. IfErr r (λ (fault : NearFault). fault ≡ near.Memory → kind ≡ Points)) c.in-Err.is (c.answer_of.ensures.memory kind own)))

pub returns-in-Err-clause-sound : goal.returns-in-Err-clause-sound
returns-in-Err-clause-sound g c = λ cells tells.
    let grid = (g.R.Records.file c.args.nodes.now).grid in
    subst (λ (s : LineStop). RefusesNoWord {T = Unit {0}} (Err s)) (sym c.stop_of_fault.ensures)
    (unrefused (Unit {0}) grid cells c.args.query.now c.in-Err.fault (subst (λ r. FindsLine grid cells c.args.query.now r) c.in-Err.is (c.answer_of.ensures.found cells tells)))
