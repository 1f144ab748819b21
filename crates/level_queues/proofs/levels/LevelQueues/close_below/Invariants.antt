-- All below the height reached is closed.
use Rattle.std.proofs.Common.{◌≡◌, ◌≤◌, ◌+◌, ◌-◌, ◌/◌, ◌^◌, suc, ℕ, List}
use Rattle.node_file.specs.Writing.{given, waiting}
use Rattle.octree_specs.specs.Octree.{Leaf}
use Rattle.level_queues.specs.Fronts.{GrewToward}
use Rattle.level_queues.specs.Queued.{written_of}
use Rattle.level_queues.specs.Pushed.{IsQueuedAt, lowest_of, GoesOn}
use Rattle.level_queues.proofs.levels.LevelQueues.close_below.Given as goal

abbrev pub invariant-loop-height : goal.invariant-loop-height
invariant-loop-height g l = record {
  queued : (leaves : List Leaf) → (words : List ℕ) → IsQueuedAt leaves (lowest_of l.fn.self) l.fn.self words → GoesOn words (given l.fn.writer) (given l.writer) (IsQueuedAt leaves l.height l.self);
  records : l.writer.records ≡ l.self.words;
  sink : l.writer.sink.ghost_name ≡ l.fn.writer.sink.ghost_name;
  depth : l.self.depth ≡ l.fn.self.depth;
  last : l.self.last ≡ l.fn.self.last;
  cells : l.self.cells ≡ l.fn.self.cells;
  placed : l.self.queues.placed + lowest_of l.fn.self ≤ l.fn.self.queues.placed + l.height;
  moves : l.moves + lowest_of l.fn.self ≤ l.fn.moves + l.height;
  front : (leaves : List Leaf) → (words : List ℕ) → IsQueuedAt leaves (lowest_of l.fn.self) l.fn.self words
      → GrewToward words (written_of leaves (l.fn.self.depth - suc l.height) l.height (l.fn.self.last / 8 ^ suc l.height)) (g.O.ByteSink.written l.fn.writer.sink.now) (g.O.ByteSink.written l.writer.sink.now) (waiting l.fn.writer);
  faults : g.O.ByteSink.faults l.fn.writer.sink.now ≤ g.O.ByteSink.faults l.writer.sink.now;
}
