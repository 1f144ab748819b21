-- Points on their way to a stream, and back.
use Rattle.std.specs.Prelude.{◌≡◌, ℕ, ◌*◌, Bool, List, length, Option}
use Rattle.dev_traits.specs.Streams.{grown_known}
use Rattle.room_plan.specs.declared.elements.VertexBlock.{VertexBlock}
pub use Rattle.room_plan.specs.Coordinates.{IsPoint}
use Rattle.vertex_spool.specs.Window.{AreBlocksOf}

-- how many points were put, the bytes that wait to be appended to the stream, whether it was closed, and the blocks that are kept
pub record SpoolView : Type 0 where
  pub count : ℕ
  pub waiting : List ℕ
  pub closed : Bool
  pub window : List VertexBlock

-- the streams once the bytes that wait are appended to stream 0
abbrev pub with_waiting : Option (List (List ℕ)) → List ℕ → Option (List (List ℕ))
with_waiting told waiting = grown_known told 0 waiting

-- the bytes are those of so many points, and the blocks that are kept are theirs
pub record HasPoints (bytes : List ℕ) (spool : SpoolView) : Type 0 where
  pub long : length bytes ≡ 12 * spool.count
  pub kept : AreBlocksOf bytes spool.window
