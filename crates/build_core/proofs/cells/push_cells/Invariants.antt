-- The cells below a code are pushed, each with at most a move a level.
use Rattle.std.proofs.Common.{◌≡◌, ℕ, ◌+◌, ◌-◌, ◌*◌, ◌≤◌, List}
use Rattle.std.specs.Prelude.{Option}
use Rattle.svo_base.specs.GridShape.{GridShape}
use Rattle.octree_specs.specs.Cells.{Cell}
use Rattle.level_queues.specs.PushedFiles.{HasPushed}
use Rattle.build_core.specs.Pushing.{AreSlotsOf, PushesOn}
use Rattle.build_core.proofs.cells.push_cells.Given as goal

abbrev pub invariant-loop-cell : goal.invariant-loop-cell
invariant-loop-cell g l = record {
  pushed : (grid : GridShape) (start : Option (List ℕ)) (cells : List Cell) → HasPushed grid start (l.part * l.codes) cells l.initial.queues l.initial.writer
      → PushesOn grid start (l.part * l.codes) l.from cells (AreSlotsOf l.slots (l.part * l.codes) l.codes grid) l.queues l.writer l.initial.moves l.moves;
  low : l.part * l.codes ≤ l.from;
  high : l.from ≤ (l.part + 1) * l.codes;
  sink : l.writer.sink.ghost_name ≡ l.initial.writer.sink.ghost_name;
  depth : l.queues.depth ≡ l.initial.queues.depth;
  later : g.O.ByteSink.faults l.initial.writer.sink.now ≤ g.O.ByteSink.faults l.writer.sink.now;
}

abbrev pub decreases-loop-cell : goal.decreases-loop-cell
decreases-loop-cell g l = (l.part + 1) * l.codes - l.from
