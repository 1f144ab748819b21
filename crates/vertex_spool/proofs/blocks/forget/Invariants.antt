-- The blocks so far have no points.
use Rattle.std.proofs.Common.{◌≡◌, ◌<◌, ℕ, length, slice_index_or}
use Rattle.room_plan.specs.declared.elements.VertexBlock.{VertexBlock}
use Rattle.vertex_spool.proofs.blocks.forget.Given as goal

abbrev pub invariant-loop-slot : goal.invariant-loop-slot
invariant-loop-slot l = record {
  none : (slot : ℕ) (empty : VertexBlock) → slot < l.slot → (slice_index_or l.window slot empty).count ≡ 0;
  length : length l.window ≡ length l.fn.window;
}
