-- The lines of the cells below a code were given. The codes still to come are fewer each time.
use Rattle.std.proofs.Common.{◌≡◌, ◌+◌, ◌-◌, ◌^◌, ◌≤◌, length}
use Rattle.node_check.specs.Cursors.{IsOn}
use Rattle.cell_lists.proofs.Listed.{IsListed}
use Rattle.cell_lists.proofs.listing.list_lines.Given as goal

abbrev pub invariant-cells : goal.invariant-cells
invariant-cells g l = record {
  on : IsOn (g.R.Records.file l.fn.nodes) l.walk;
  from : l.walk.from ≤ 8 ^ (g.R.Records.file l.fn.nodes).grid.depth;
  room : length l.block ≡ 4096;
  inside : l.used ≤ length l.block;
  listed : IsListed (g.R.Records.file l.fn.nodes).words (g.R.Records.file l.fn.nodes).format (g.R.Records.file l.fn.nodes).grid.depth (g.O.ByteSink.written l.fn.out) (g.O.ByteSink.written l.out) l.block l.used l.walk.from;
  looked : g.R.Records.looked l.nodes + l.fn.reads ≤ g.R.Records.looked l.fn.nodes + l.reads;
  same : g.R.Records.file l.nodes ≡ g.R.Records.file l.fn.nodes;
  lender : g.R.Records.lender l.nodes ≡ g.R.Records.lender l.fn.nodes;
  nodes_later : g.R.Records.faults l.fn.nodes ≤ g.R.Records.faults l.nodes;
  out_later : g.O.ByteSink.faults l.fn.out ≤ g.O.ByteSink.faults l.out;
}

abbrev pub decreases-cells : goal.decreases-cells
decreases-cells g l = 8 ^ (g.R.Records.file l.fn.nodes).grid.depth - l.walk.from
