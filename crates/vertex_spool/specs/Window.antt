-- Points kept in memory: blocks of up to 63 that stand one after another in a stream.
use Rattle.std.specs.Prelude.{◌≡◌, ℕ, ◌+◌, ◌*◌, ◌<◌, pos, List, length, slice_index_or}
use Rattle.svo_base.specs.declared.shapes.Point.{Point}
use Rattle.room_plan.specs.declared.elements.VertexBlock.{VertexBlock}
use Rattle.room_plan.specs.Coordinates.{coordinate_at}

-- the coordinates of a block's points are those in the bytes, behind those of the blocks before it
abbrev pub IsBlockOf : List ℕ → VertexBlock → Type 0
IsBlockOf bytes block = (k : ℕ) → k < 3 * block.count → slice_index_or block.numbers k (pos 0) ≡ coordinate_at bytes (189 * block.number + k)

-- each block of the window is one of the bytes, if it has points
abbrev pub AreBlocksOf : List ℕ → List VertexBlock → Type 0
AreBlocksOf bytes window = (slot : ℕ) (empty : VertexBlock) → slot < length window → IsBlockOf bytes (slice_index_or window slot empty)

-- a point of a block
abbrev pub point_in : VertexBlock → ℕ → Point
point_in block place =
    record {
      x = slice_index_or block.numbers (3 * place) (pos 0);
      y = slice_index_or block.numbers (3 * place + 1) (pos 0);
      z = slice_index_or block.numbers (3 * place + 2) (pos 0);
    }
