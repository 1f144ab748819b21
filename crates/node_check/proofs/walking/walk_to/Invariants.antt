-- The node is that of the code, so many levels up, and the words lead on from it.
use Rattle.std.proofs.Common.{◌≡◌, ◌+◌, ◌-◌, ◌≤◌}
use Rattle.std.specs.Prelude.{IfSome}
use Rattle.svo_base.specs.declared.grids.TheConstants.{MAX_DEPTH}
use Rattle.node_check.specs.Counts.{LooksAsReads}
use Rattle.node_check.specs.Walks.{IsWordOf, led_to}
use Rattle.node_check.proofs.Walks.{Leads}
use Rattle.node_check.proofs.walking.walk_to.Given as goal

abbrev pub invariant-loop-height : goal.invariant-loop-height
invariant-loop-height g l = record {
  leads : Leads (g.R.Records.file l.fn.nodes).words (g.R.Records.file l.fn.nodes).format (g.R.Records.file l.fn.nodes).grid.depth l.height l.code l.node.number;
  led : IfSome (g.R.Records.file l.fn.nodes).words (λ words. led_to words (g.R.Records.file l.fn.nodes).grid.depth l.code ((g.R.Records.file l.fn.nodes).totals.records - 1) ≡ led_to words l.height l.code l.node.number);
  word : IsWordOf (g.R.Records.file l.fn.nodes).words (g.R.Records.file l.fn.nodes).totals.records l.node.number l.node.word;
  least : 1 ≤ l.height;
  most : l.height ≤ MAX_DEPTH;
  few : l.reads + l.height ≤ l.fn.reads + 1 + (g.R.Records.file l.fn.nodes).grid.depth;
  looked : LooksAsReads (g.R.Records.looked l.fn.nodes) (g.R.Records.looked l.nodes) l.fn.reads l.reads;
  same : g.R.Records.file l.nodes ≡ g.R.Records.file l.fn.nodes;
  lender : g.R.Records.lender l.nodes ≡ g.R.Records.lender l.fn.nodes;
  later : g.R.Records.faults l.fn.nodes ≤ g.R.Records.faults l.nodes;
}

abbrev pub decreases-loop-height : goal.decreases-loop-height
decreases-loop-height g l = l.height
