-- A point that has a nearest cell, with the cell's face; one that has none; and a search that stopped.
use Rattle.std.proofs.Common.{Ok, ap, subst, ◌∙◌, sym}
use Rattle.std.specs.Prelude.{Result, Option, None, Some, IfOk}
use Rattle.std.specs.Result.{IfErr}
use Rattle.near_query.specs.Faults.{RefusesNone}
use Rattle.near_query.specs.Nearest.{IsNearest}
use Rattle.near_query.specs.declared.cells.NearCell.{NearCell}
use Rattle.near_query.specs.declared.cells.NearFault.{NearFault}
use Rattle.node_file.specs.FileView.{FileView}
use Rattle.ray_walk.specs.Answers.{TellsCells}
use Rattle.ray_answers.proofs.Faces.{failed_neighbour, faced_neighbour}
use Rattle.ray_answers.proofs.neighbours.neighbour_of.Goals as goal

pub returns-in-Err-clause-found : goal.returns-in-Err-clause-found
returns-in-Err-clause-found g c = λ cells tells.
    failed_neighbour (g.R.Records.file c.args.nodes.now).grid cells c.args.point.now c.in-Err.fault
    (subst (λ (r : Result (Option NearCell) NearFault). IfErr r RefusesNone) c.in-Err.is (c.near.ensures.sound cells tells))

pub returns-in-Ok-None-clause-found : goal.returns-in-Ok-None-clause-found
returns-in-Ok-None-clause-found g c = λ cells tells.
    subst (λ p. IsNearest p (g.R.Records.file c.args.nodes.now).grid cells None) c.at.ensures.value
    (subst (λ (r : Result (Option NearCell) NearFault). IfOk r (IsNearest c.at.result (g.R.Records.file c.args.nodes.now).grid cells)) (c.in-Ok-None.is ∙ ap Ok c.in-Ok-None.field-0-is) (c.near.ensures.nearest cells tells))

pub returns-in-Ok-Some-clause-found : goal.returns-in-Ok-Some-clause-found
returns-in-Ok-Some-clause-found g c = λ cells tells.
    faced_neighbour (g.R.Records.file c.args.nodes.now).grid cells c.args.point.now c.in-Ok-Some.cell c.faced.result
    (subst (λ p. IsNearest p (g.R.Records.file c.args.nodes.now).grid cells (Some c.in-Ok-Some.cell)) c.at.ensures.value
    (subst (λ (r : Result (Option NearCell) NearFault). IfOk r (IsNearest c.at.result (g.R.Records.file c.args.nodes.now).grid cells)) (c.in-Ok-Some.is ∙ ap Ok c.in-Ok-Some.field-0-is) (c.near.ensures.nearest cells tells)))
    (c.faced.ensures.face cells (subst (λ (f : FileView). TellsCells f cells) (sym c.near.ensures.same) tells))
