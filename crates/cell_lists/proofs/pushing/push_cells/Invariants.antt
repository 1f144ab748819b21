-- The cells below a code were pushed. The codes still to come are fewer each time.
use Rattle.std.proofs.Common.{◌≡◌, ℕ, ◌+◌, ◌-◌, ◌*◌, ◌^◌, ◌≤◌, List, []}
use Rattle.std.specs.Prelude.{Option}
use Rattle.node_check.specs.Cursors.{IsOn}
use Rattle.level_queues.specs.PushedFiles.{HasPushed}
use Rattle.cell_lists.proofs.Lifts.{PushesOn}
use Rattle.cell_lists.proofs.pushing.push_cells.Given as goal

abbrev pub invariant-cells : goal.invariant-cells
invariant-cells g l = record {
  on : IsOn (g.R.Records.file l.fn.nodes) l.walk;
  from : l.walk.from ≤ 8 ^ (g.R.Records.file l.fn.nodes).grid.depth;
  pushed : (start : Option (List ℕ)) → HasPushed (g.R.Records.file l.fn.nodes).grid start 0 [] l.initial.queues l.initial.writer
      → PushesOn (g.R.Records.file l.fn.nodes) start l.walk.from l.queues l.writer;
  looked : g.R.Records.looked l.nodes + l.fn.reads ≤ g.R.Records.looked l.fn.nodes + l.reads;
  moves : l.moves + l.initial.queues.depth * l.initial.queues.cells ≤ l.fn.moves + l.initial.queues.depth * l.queues.cells;
  deep : l.queues.depth ≡ l.initial.queues.depth;
  same : g.R.Records.file l.nodes ≡ g.R.Records.file l.fn.nodes;
  lender : g.R.Records.lender l.nodes ≡ g.R.Records.lender l.fn.nodes;
  sink : l.writer.sink.ghost_name ≡ l.initial.writer.sink.ghost_name;
  nodes_later : g.R.Records.faults l.fn.nodes ≤ g.R.Records.faults l.nodes;
  out_later : g.O.ByteSink.faults l.initial.writer.sink.now ≤ g.O.ByteSink.faults l.writer.sink.now;
}

abbrev pub decreases-cells : goal.decreases-cells
decreases-cells g l = 8 ^ (g.R.Records.file l.fn.nodes).grid.depth - l.walk.from
