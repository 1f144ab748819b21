-- The samples of the bands so far were put out.
use Rattle.std.proofs.Common.{◌≡◌, ◌≤◌}
use Rattle.node_check.specs.Counts.{LooksAsReads}
use Rattle.slice_view.proofs.PutBands.{PutSoFar}
use Rattle.slice_view.proofs.slicing.put_samples.Given as goal

abbrev pub invariant-loop-number : goal.invariant-loop-number
invariant-loop-number g l = record {
  given : PutSoFar (g.R.Records.file l.fn.nodes).words (g.R.Records.file l.fn.nodes).format l.depth l.axis l.at l.root.number (g.O.ByteSink.written l.fn.out) (g.O.ByteSink.written l.out) l.number;
  looked : LooksAsReads (g.R.Records.looked l.fn.nodes) (g.R.Records.looked l.nodes) l.fn.reads l.reads;
  same : g.R.Records.file l.nodes ≡ g.R.Records.file l.fn.nodes;
  lender : g.R.Records.lender l.nodes ≡ g.R.Records.lender l.fn.nodes;
  later : g.R.Records.faults l.fn.nodes ≤ g.R.Records.faults l.nodes;
  out_later : g.O.ByteSink.faults l.fn.out ≤ g.O.ByteSink.faults l.out;
}
