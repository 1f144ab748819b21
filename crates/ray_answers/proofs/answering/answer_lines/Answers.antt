-- The file is what was read through the table.
use Rattle.std.proofs.Common.{rules, ◌≡◌, List, subst}
use Rattle.octree_specs.specs.Cells.{Cell}
use Rattle.ray_walk.specs.Answers.{TellsCells}
use Rattle.recent_words.proofs.Loaned.{given_back, same_loans}
use Rattle.ray_answers.specs.Answering.{HasLineCause, RefusesNoWord}
use Rattle.ray_answers.proofs.answering.answer_lines.Goals as goal

pub returns-clause-sound : goal.returns-clause-sound
returns-clause-sound g c = subst (λ r. (cells : List Cell) → TellsCells (g.R.Records.file r) cells → RefusesNoWord c.answer_each.result) c.new-recent.ensures.now c.answer_each.ensures.sound

pub returns-clause-cause : goal.returns-clause-cause
returns-clause-cause g c =
    let loans = same_loans _ _ _ _ c.answer_each.ensures.lender in
    given_back
    (λ before after. HasLineCause (g.I.ByteSource.faults c.args.tokens.now.input.now) (g.I.ByteSource.faults c.answer_each.new.tokens.input.now) (g.O.ByteSink.faults c.args.out.now) (g.O.ByteSink.faults c.answer_each.new.out)
    (g.R.Records.faults before) (g.R.Records.faults after) c.answer_each.result)
    c.new-recent.result.nodes.now c.args.nodes.now c.answer_each.new.nodes.nodes.now _ c.new-recent.ensures.now (search (rules, loans.0)) c.answer_each.ensures.cause

pub returns-clause-same : goal.returns-clause-same
returns-clause-same g c =
    let loans = same_loans _ _ _ _ c.answer_each.ensures.lender in
    given_back (λ before after. g.R.Records.file after ≡ g.R.Records.file before) c.new-recent.result.nodes.now c.args.nodes.now c.answer_each.new.nodes.nodes.now _ c.new-recent.ensures.now (search (rules, loans.0))
    c.answer_each.ensures.same

pub returns-clause-lender : goal.returns-clause-lender
returns-clause-lender g c =
    let loans = same_loans _ _ _ _ c.answer_each.ensures.lender in
    given_back (λ before after. g.R.Records.lender after ≡ g.R.Records.lender before) c.new-recent.result.nodes.now c.args.nodes.now c.answer_each.new.nodes.nodes.now _ c.new-recent.ensures.now (search (rules, loans.0)) loans.1
