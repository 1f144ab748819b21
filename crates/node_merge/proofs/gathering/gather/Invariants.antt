-- The least face of the node's codes so far. The cells still to come are fewer each time.
use Rattle.std.proofs.Common.{◌≡◌, ◌^◌, ◌≤◌}
use Rattle.node_merge.specs.Gathered.{codes_left}
use Rattle.node_merge.proofs.CoarseNodes.{IsGathering}
use Rattle.node_merge.proofs.gathering.gather.Given as goal

abbrev pub invariant-cells : goal.invariant-cells
invariant-cells g l = record {
  gathers : IsGathering (g.R.Records.file l.fn.nodes) l.fn.levels l.node l.face l.fn.front l.front;
  same : g.R.Records.file l.nodes ≡ g.R.Records.file l.fn.nodes;
  lender : g.R.Records.lender l.nodes ≡ g.R.Records.lender l.fn.nodes;
  later : g.R.Records.faults l.fn.nodes ≤ g.R.Records.faults l.nodes;
}

abbrev pub decreases-cells : goal.decreases-cells
decreases-cells g l = codes_left (8 ^ (g.R.Records.file l.fn.nodes).grid.depth) l.front.head
