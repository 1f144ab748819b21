-- The height falls. The children so far are painted.
use Rattle.std.proofs.Common.{◌≡◌, ◌+◌, ◌*◌, ◌≤◌}
use Rattle.node_check.specs.Counts.{LooksAsReads}
use Rattle.slice_view.proofs.Walked.{Painted}
use Rattle.slice_view.proofs.painting.+paint.Given as goal

abbrev pub decreases-paint : goal.decreases-paint
decreases-paint g l = l.square.now.height

abbrev pub invariant-loop-place : goal.invariant-loop-place
invariant-loop-place g l = record {
  painted : Painted (g.R.Records.file l.fn.nodes).words l.band (g.R.Records.file l.fn.nodes).format l.square.height l.square.code l.node.number l.fn.block l.block (8 * l.square.code + l.place);
  looked : LooksAsReads (g.R.Records.looked l.fn.nodes) (g.R.Records.looked l.nodes) l.fn.reads l.reads;
  same : g.R.Records.file l.nodes ≡ g.R.Records.file l.fn.nodes;
  lender : g.R.Records.lender l.nodes ≡ g.R.Records.lender l.fn.nodes;
  later : g.R.Records.faults l.fn.nodes ≤ g.R.Records.faults l.nodes;
}
