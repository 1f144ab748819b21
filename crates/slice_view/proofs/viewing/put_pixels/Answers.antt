-- The file is what was read through the table.
use Rattle.std.proofs.Common.{rules, ◌≡◌}
use Rattle.node_check.specs.Stops.{HasStopCause}
use Rattle.recent_words.proofs.Loaned.{given_back, same_loans}
use Rattle.slice_view.specs.Views.{StopsAsCast}
use Rattle.slice_view.proofs.viewing.put_pixels.Goals as goal

pub returns-clause-refused : goal.returns-clause-refused
returns-clause-refused g c =
    let loans = same_loans _ _ _ _ c.put_blocks.ensures.lender in
    given_back (λ before after. StopsAsCast (g.R.Records.file before).words (g.R.Records.faults before) (g.R.Records.faults after) c.put_blocks.result) c.new-recent.result.nodes.now c.args.nodes.now c.put_blocks.new.nodes.nodes.now
    _ c.new-recent.ensures.now (search (rules, loans.0)) c.put_blocks.ensures.refused

pub returns-clause-same : goal.returns-clause-same
returns-clause-same g c =
    let loans = same_loans _ _ _ _ c.put_blocks.ensures.lender in
    given_back (λ before after. g.R.Records.file after ≡ g.R.Records.file before) c.new-recent.result.nodes.now c.args.nodes.now c.put_blocks.new.nodes.nodes.now _ c.new-recent.ensures.now
    (search (rules, loans.0)) c.put_blocks.ensures.same

pub returns-clause-lender : goal.returns-clause-lender
returns-clause-lender g c =
    let loans = same_loans _ _ _ _ c.put_blocks.ensures.lender in
    given_back (λ before after. g.R.Records.lender after ≡ g.R.Records.lender before) c.new-recent.result.nodes.now c.args.nodes.now c.put_blocks.new.nodes.nodes.now _ c.new-recent.ensures.now
    (search (rules, loans.0)) loans.1

pub returns-clause-cause : goal.returns-clause-cause
returns-clause-cause g c =
    let loans = same_loans _ _ _ _ c.put_blocks.ensures.lender in
    given_back (λ before after. HasStopCause (g.O.ByteSink.faults c.args.out.now) (g.O.ByteSink.faults c.put_blocks.new.out) (g.R.Records.faults before) (g.R.Records.faults after) c.put_blocks.result) c.new-recent.result.nodes.now
    c.args.nodes.now c.put_blocks.new.nodes.nodes.now _ c.new-recent.ensures.now (search (rules, loans.0)) c.put_blocks.ensures.cause
