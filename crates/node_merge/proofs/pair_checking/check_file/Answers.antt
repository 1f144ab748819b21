-- The pair is what the side was read through.
use Rattle.std.proofs.Common.{rules}
use Rattle.node_check.specs.declared.checking.CheckFault.TheVariants.{Failed}
use Rattle.node_merge.proofs.Turns.{same_pair, first_kept, second_kept, store_kept, cause_kept}
use Rattle.node_merge.proofs.pair_checking.check_file.Goals as goal

pub returns-clause-first : goal.returns-clause-first
returns-clause-first g c =
    let loan = (same_pair _ c.args.pair.now c.check.new.nodes c.check.ensures.lender).loan in
    first_kept c.pair-1.given.0 c.args.pair.now _ c.check.new.nodes c.check.ensures.lender (search (rules, loan))

pub returns-clause-second : goal.returns-clause-second
returns-clause-second g c =
    let loan = (same_pair _ c.args.pair.now c.check.new.nodes c.check.ensures.lender).loan in
    second_kept c.pair-1.given.0 c.args.pair.now _ c.check.new.nodes c.check.ensures.lender (search (rules, loan))

pub returns-clause-store : goal.returns-clause-store
returns-clause-store g c =
    let loan = (same_pair _ c.args.pair.now c.check.new.nodes c.check.ensures.lender).loan in
    store_kept c.pair-1.given.0 c.args.pair.now _ c.check.new.nodes c.check.ensures.lender (search (rules, loan))

pub returns-clause-cause : goal.returns-clause-cause
returns-clause-cause g c =
    let loan = (same_pair _ c.args.pair.now c.check.new.nodes c.check.ensures.lender).loan in
    cause_kept c.pair-1.given.0 c.args.pair.now _ c.check.new.nodes c.check.ensures.lender (search (rules, loan)) c.check.result Failed c.check.ensures.cause
