-- The nodes below one were pushed. The cells still to come are fewer each time.
use Rattle.std.proofs.Common.{◌≡◌, ◌+◌, ◌*◌, ◌^◌, ◌≤◌}
use Rattle.node_merge.specs.Gathered.{codes_left}
use Rattle.node_merge.proofs.CoarsePushes.{IsPushing}
use Rattle.node_merge.proofs.coarse_pushing.push_coarse.Given as goal

abbrev pub invariant-nodes : goal.invariant-nodes
invariant-nodes g l = record {
  on : IsPushing (g.R.Records.file l.fn.nodes) l.fn.levels l.front l.initial.queues l.initial.writer l.queues l.writer;
  moves : l.moves + l.initial.queues.depth * l.initial.queues.cells ≤ l.fn.moves + l.initial.queues.depth * l.queues.cells;
  deep : l.queues.depth ≡ l.initial.queues.depth;
  same : g.R.Records.file l.nodes ≡ g.R.Records.file l.fn.nodes;
  lender : g.R.Records.lender l.nodes ≡ g.R.Records.lender l.fn.nodes;
  sink : l.writer.sink.ghost_name ≡ l.initial.writer.sink.ghost_name;
  nodes_later : g.R.Records.faults l.fn.nodes ≤ g.R.Records.faults l.nodes;
  out_later : g.O.ByteSink.faults l.initial.writer.sink.now ≤ g.O.ByteSink.faults l.writer.sink.now;
}

abbrev pub decreases-nodes : goal.decreases-nodes
decreases-nodes g l = codes_left (8 ^ (g.R.Records.file l.fn.nodes).grid.depth) l.front.head
