-- Cells that are pushed into the queues in ascending order, and the file that grows by them.
use Rattle.std.specs.Prelude.{◌≡◌, ℕ, ◌-◌, ◌+◌, ◌*◌, ◌^◌, ◌<◌, ◌≤◌, List, [], ◌++◌, length, slice_index, Option, All}
use Rattle.std.specs.List.Sorted.{IsStrictlyIncreasing}
use Rattle.std.specs.Io.KnownBytes.{append_known}
use Rattle.dev_traits.specs.declared.device.ByteSink.{Ghosts}
use Rattle.svo_base.specs.GridShape.{GridShape}
use Rattle.octree_specs.specs.Cells.{Cell, codes_of}
use Rattle.octree_specs.specs.FacedTriangles.{Faced}
use Rattle.octree_specs.specs.FilledCells.{AreFilledBelow, IsSlotOf}
use Rattle.octree_specs.specs.OctreeFile.{header_of}
use Rattle.node_file.specs.declared.writer.NodeWriter.{NodeWriter}
use Rattle.node_file.specs.Writing.{given}
use Rattle.level_queues.specs.PushedFiles.{HoldsFrontBelow, HasPushed}
use Rattle.level_queues.specs.declared.levels.LevelQueues.{LevelQueues}

-- each slot of a part, of so many from the first code on, is the one that these triangles give its cell
abbrev pub AreSlotsOf : List ℕ → ℕ → ℕ → GridShape → List Faced → Type 0
AreSlotsOf slots first codes grid faced = (place : ℕ) → place < codes → IsSlotOf grid faced (first + place) (slice_index slots place)

-- where the cells are all that triangles of a kind fill below the first bound, they are with some more all that these fill below the second
abbrev pub FillOn : GridShape → (List Faced → Type 0) → ℕ → ℕ → List Cell → List Cell → Type 0
FillOn grid Known from to cells more = (faced : List Faced) → Known faced → AreFilledBelow grid faced from cells → AreFilledBelow grid faced to (cells ++ more)

module _ {O : Type 0} {g : Ghosts O} where
  -- of the cells from one bound to the next, those were pushed behind the others that triangles of a kind fill, each with at most a move a level
  pub record PushesOn (grid : GridShape) (start : Option (List ℕ)) (from to : ℕ) (cells : List Cell) (Known : List Faced → Type 0) (queues : LevelQueues) (writer : NodeWriter O g) (moves moved : ℕ) : Type 0 where
    pub more : List Cell
    pub pushed : HasPushed grid start to (cells ++ more) queues writer
    pub few_moves : moved ≤ moves + grid.depth * length more
    pub filled : FillOn grid Known from to cells more

-- up to some bound of these the cells that triangles of a kind fill are such that the sink holds a front of the file of them and those before, whatever cells follow, and each of them took at most a move a level
pub record LeavesFront (grid : GridShape) (start : Option (List ℕ)) (from to : ℕ) (cells : List Cell) (Known : List Faced → Type 0) (written : Option (List ℕ)) (moves moved : ℕ) : Type 0 where
  pub more : List Cell
  pub bound : ℕ
  pub within : bound ≤ to
  pub holds : HoldsFrontBelow grid start bound (cells ++ more) written
  pub few_moves : moved ≤ moves + grid.depth * length more
  pub filled : FillOn grid Known from bound cells more
