-- The cells below a code were pushed, and both walks stand at the first cell from there on. The codes still to come are fewer each time.
use Rattle.std.proofs.Common.{◌≡◌, ℕ, ◌+◌, ◌-◌, ◌*◌, ◌^◌, ◌≤◌, List, []}
use Rattle.std.specs.Prelude.{Option}
use Rattle.level_queues.specs.PushedFiles.{HasPushed}
use Rattle.node_merge.specs.Maps.{AreMergedFaces}
use Rattle.node_merge.specs.Pushing.{IsFront, PushesTo}
use Rattle.node_merge.specs.Sides.{turn_view}
use Rattle.node_merge.specs.declared.pairs.Turn.TheVariants.{First, Second}
use Rattle.node_merge.proofs.merging.push_merged.Given as goal

abbrev pub invariant-cells : goal.invariant-cells
invariant-cells g l = record {
  one : IsFront (turn_view First l.fn.pair) l.from l.first;
  two : IsFront (turn_view Second l.fn.pair) l.from l.second;
  from : l.from ≤ 8 ^ (turn_view First l.fn.pair).grid.depth;
  pushed : (start : Option (List ℕ)) → HasPushed (turn_view First l.fn.pair).grid start 0 [] l.initial.queues l.initial.writer
      → PushesTo (turn_view First l.fn.pair).grid start (AreMergedFaces l.fn.kind (turn_view First l.fn.pair) (turn_view Second l.fn.pair)) l.from l.queues l.writer;
  first : turn_view First l.pair ≡ turn_view First l.fn.pair;
  second : turn_view Second l.pair ≡ turn_view Second l.fn.pair;
  store : l.pair.store.ghost_name ≡ l.fn.pair.store.ghost_name;
  moves : l.moves + l.initial.queues.depth * l.initial.queues.cells ≤ l.fn.moves + l.initial.queues.depth * l.queues.cells;
  deep : l.queues.depth ≡ l.initial.queues.depth;
  sink : l.writer.sink.ghost_name ≡ l.initial.writer.sink.ghost_name;
  nodes_later : g.N.NodeStore.faults l.fn.pair.store.now ≤ g.N.NodeStore.faults l.pair.store.now;
  out_later : g.O.ByteSink.faults l.initial.writer.sink.now ≤ g.O.ByteSink.faults l.writer.sink.now;
}

abbrev pub decreases-cells : goal.decreases-cells
decreases-cells g l = 8 ^ (turn_view First l.fn.pair).grid.depth - l.from
