-- A ray that hits a cell, with the cell's face; one that hits none; and a walk that stopped.
use Rattle.std.proofs.Common.{◌≡◌, Ok, ap, subst, ◌∙◌, sym}
use Rattle.std.specs.Prelude.{Result, Option, IfOk}
use Rattle.std.specs.Result.{IfErr}
use Rattle.node_check.specs.declared.walking.WalkFault.{WalkFault}
use Rattle.node_check.specs.declared.walking.WalkFault.TheVariants.{Failed}
use Rattle.node_file.specs.FileView.{FileView}
use Rattle.ray_walk.specs.Answers.{TellsCells, IsFirst}
use Rattle.ray_walk.specs.declared.hits.Hit.{Hit}
use Rattle.ray_answers.proofs.Faces.{failed_answer, faced_answer}
use Rattle.ray_answers.proofs.hits.hit_of.Goals as goal

pub returns-in-Err-clause-found : goal.returns-in-Err-clause-found
returns-in-Err-clause-found g c = λ cells tells.
    failed_answer (g.R.Records.file c.args.nodes.now).grid cells c.args.ray.now c.in-Err.fault
    (subst (λ (r : Result (Option Hit) WalkFault). IfErr r (λ fault. fault ≡ Failed)) c.in-Err.is (c.cast.ensures.sound cells tells))

pub returns-in-Ok-None-clause-found : goal.returns-in-Ok-None-clause-found
returns-in-Ok-None-clause-found g c = λ cells tells.
    subst (λ (r : Result (Option Hit) WalkFault). IfOk r (IsFirst c.args.ray.now (g.R.Records.file c.args.nodes.now).grid cells)) (c.in-Ok-None.is ∙ ap Ok c.in-Ok-None.field-0-is) (c.cast.ensures.hit cells tells)

pub returns-in-Ok-Some-clause-found : goal.returns-in-Ok-Some-clause-found
returns-in-Ok-Some-clause-found g c = λ cells tells.
    faced_answer (g.R.Records.file c.args.nodes.now).grid cells c.args.ray.now c.in-Ok-Some.hit c.faced.result
    (subst (λ (r : Result (Option Hit) WalkFault). IfOk r (IsFirst c.args.ray.now (g.R.Records.file c.args.nodes.now).grid cells)) (c.in-Ok-Some.is ∙ ap Ok c.in-Ok-Some.field-0-is) (c.cast.ensures.hit cells tells))
    (c.faced.ensures.face cells (subst (λ (f : FileView). TellsCells f cells) (sym c.cast.ensures.same) tells))
