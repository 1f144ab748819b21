-- The line of a hit.
use Rattle.std.proofs.Common.{subst, sym}
use Rattle.ray_answers.specs.AnswerLines.{IsAnswer}
use Rattle.ray_answers.specs.Runs.{FindsHit}
use Rattle.ray_answers.specs.declared.queries.Query.{Query}
use Rattle.ray_answers.proofs.answers.answer_of.Goals as goal

pub returns-in-Ok-clause-found : goal.returns-in-Ok-clause-found
returns-in-Ok-clause-found g c = λ cells tells.
    let grid = (g.R.Records.file c.args.nodes.now).grid in
    subst (λ (q : Query). IsAnswer grid cells q c.hit_line.result.bytes) (sym c.in-Ray.is)
    (c.in-Ok.answer, subst (λ r. FindsHit grid cells c.in-Ray.ray r) c.in-Ok.is (c.hit_of.ensures.found cells tells), c.hit_line.ensures)
