-- What the verdict says of the cells.
use Rattle.std.proofs.Common.{Err, Ok, sym, subst}
use Rattle.std.specs.Prelude.{IfSome}
use Rattle.node_check.specs.Verdicts.{IsSettled}
use Rattle.node_check.proofs.Files.{settled}
use Rattle.node_check.proofs.Parents.{err_is}
use Rattle.node_check.proofs.checking.check.Goals as goal

pub returns-in_err-totals-clause-settled : goal.returns-in_err-totals-clause-settled
returns-in_err-totals-clause-settled g c =
    subst
    (λ r. IfSome (g.R.Records.file c.args.nodes.now).words
    (λ words. IsSettled (g.R.Records.file c.args.nodes.now).format (g.R.Records.file c.args.nodes.now).grid.depth (g.R.Records.file c.args.nodes.now).totals.cells words r))
    (sym (err_is c.from_residual.result c.in_err-totals.field-0.0 c.from_residual.ensures))
    (settled (g.R.Records.file c.args.nodes.now).format (g.R.Records.file c.args.nodes.now).grid.depth (g.R.Records.file c.args.nodes.now).totals.cells (g.R.Records.file c.args.nodes.now).totals
    (g.R.Records.file c.args.nodes.now).words (Err c.in_err-totals.field-0.0) c.in_err-totals.ensures.known c.in_err-totals.ensures.deep c.in_err-totals.ensures.some c.in_err-totals.ensures.verdict)

pub returns-clause-settled : goal.returns-clause-settled
returns-clause-settled g c =
    settled (g.R.Records.file c.args.nodes.now).format (g.R.Records.file c.args.nodes.now).grid.depth (g.R.Records.file c.args.nodes.now).totals.cells (g.R.Records.file c.args.nodes.now).totals
    (g.R.Records.file c.args.nodes.now).words (Ok c.in_ok-totals.totals) c.in_ok-totals.ensures.known c.in_ok-totals.ensures.deep c.in_ok-totals.ensures.some c.in_ok-totals.ensures.verdict
