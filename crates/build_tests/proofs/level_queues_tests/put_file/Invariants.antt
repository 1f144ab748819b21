-- The cells so far are pushed, each with at most a move a level.
use Rattle.std.proofs.Common.{◌≡◌, ◌+◌, ◌*◌, ◌<◌, ◌≤◌, [], take}
use Rattle.node_file.specs.Writing.{given}
use Rattle.level_queues.specs.Fronts.{HoldsFront}
use Rattle.level_queues.specs.Pushed.{IsQueued, GoesOn}
use Rattle.level_queues.proofs.PairedCells.{cells_of}
use Rattle.build_tests.proofs.level_queues_tests.put_file.Given as goal

abbrev pub invariant-loop-code : goal.invariant-loop-code
invariant-loop-code g l = record {
  queued : GoesOn [] (given l.initial.writer) (given l.writer) (IsQueued (cells_of (take l.code-index l.cells)) l.queues);
  records : l.writer.records ≡ l.queues.words;
  sink : l.writer.sink.ghost_name ≡ l.initial.writer.sink.ghost_name;
  depth : l.queues.depth ≡ l.initial.queues.depth;
  later : 0 < l.queues.cells → l.queues.last < l.next;
  front : HoldsFront l.grid (cells_of (take l.code-index l.cells)) (g.O.ByteSink.written l.fn.sink) (g.O.ByteSink.written l.writer.sink.now);
  moves : l.moves ≤ l.initial.moves + l.initial.queues.depth * l.code-index;
}
