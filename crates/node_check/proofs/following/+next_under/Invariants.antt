-- The height falls. No cell that is asked for lies below the children so far.
use Rattle.std.proofs.Common.{◌≡◌, ◌+◌, ◌*◌, ◌≤◌}
use Rattle.node_check.specs.Counts.{LooksAsReads}
use Rattle.node_check.specs.Cursors.{IsKept}
use Rattle.node_check.proofs.NextCells.{Nones}
use Rattle.node_check.proofs.following.+next_under.Given as goal

abbrev pub decreases-next_under : goal.decreases-next_under
decreases-next_under g l = l.height

abbrev pub invariant-loop-place : goal.invariant-loop-place
invariant-loop-place g l = record {
  none : Nones (g.R.Records.file l.fn.nodes).words (g.R.Records.file l.fn.nodes).format l.height l.code l.node.number l.from (8 * l.code + l.place);
  kept : IsKept (g.R.Records.file l.fn.nodes).words (g.R.Records.file l.fn.nodes).totals.records l.path;
  looked : LooksAsReads (g.R.Records.looked l.fn.nodes) (g.R.Records.looked l.nodes) l.fn.reads l.reads;
  same : g.R.Records.file l.nodes ≡ g.R.Records.file l.fn.nodes;
  lender : g.R.Records.lender l.nodes ≡ g.R.Records.lender l.fn.nodes;
  later : g.R.Records.faults l.fn.nodes ≤ g.R.Records.faults l.nodes;
}
