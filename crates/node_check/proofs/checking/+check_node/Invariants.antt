-- The height falls. Of the children those before the place fitted, and what is left of them says what all come to.
use Rattle.std.proofs.Common.{◌≡◌, ◌+◌, ◌-◌, ◌*◌, ◌^◌, ◌<◌, ◌≤◌}
use Rattle.std.specs.Prelude.{IfSome}
use Rattle.octree_specs.specs.Checking.{rule_of, fit}
use Rattle.node_check.specs.Counts.{LooksAsReads}
use Rattle.node_check.proofs.Recursion.{IsLeft}
use Rattle.node_check.proofs.checking.+check_node.Given as goal

abbrev pub decreases-check_node : goal.decreases-check_node
decreases-check_node g l = l.height

abbrev pub invariant-loop-place : goal.invariant-loop-place
invariant-loop-place g l = record {
  left : IfSome (g.R.Records.file l.fn.nodes).words (λ words. IsLeft (fit (rule_of l.format) words (l.height - 1)) l.base l.count l.at l.place l.below.next l.below.cells);
  inside : l.below.next < (g.R.Records.file l.fn.nodes).totals.records;
  few : l.below.cells ≤ l.place * 8 ^ l.height;
  once : l.reads + l.at ≡ l.fn.reads + l.count + l.below.next;
  looked : LooksAsReads (g.R.Records.looked l.fn.nodes) (g.R.Records.looked l.nodes) l.fn.reads l.reads;
  same : g.R.Records.file l.nodes ≡ g.R.Records.file l.fn.nodes;
  lender : g.R.Records.lender l.nodes ≡ g.R.Records.lender l.fn.nodes;
  later : g.R.Records.faults l.fn.nodes ≤ g.R.Records.faults l.nodes;
}
