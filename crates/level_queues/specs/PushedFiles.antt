-- Cells that are pushed into the queues in ascending order, and the file that grows by them.
use Rattle.std.specs.Prelude.{◌≡◌, ℕ, ◌-◌, ◌^◌, ◌<◌, ◌≤◌, List, [], Option, All}
use Rattle.std.specs.List.Sorted.{IsStrictlyIncreasing}
use Rattle.std.specs.Io.KnownBytes.{append_known}
use Rattle.dev_traits.specs.declared.device.ByteSink.{Ghosts}
use Rattle.svo_base.specs.GridShape.{GridShape}
use Rattle.octree_specs.specs.Cells.{Cell, codes_of}
use Rattle.octree_specs.specs.OctreeFile.{header_of}
use Rattle.node_file.specs.declared.writer.NodeWriter.{NodeWriter}
use Rattle.node_file.specs.Writing.{given}
use Rattle.level_queues.specs.Pushed.{IsQueued, GoesOn}
use Rattle.level_queues.specs.Fronts.{HoldsFront}
use Rattle.level_queues.specs.declared.levels.LevelQueues.{LevelQueues}

-- cells with faces, in ascending order of their codes, which are below a bound
pub record AreBelow (bound : ℕ) (cells : List Cell) : Type 0 where
  pub ascending : IsStrictlyIncreasing (codes_of cells)
  pub inside : All (λ cell. cell.code < bound) cells
  pub faces : All (λ cell. cell.face ≤ 2 ^ 32 - 2) cells

-- the sink, which held `start` before the file, holds a front of the file of these cells, whose codes are below a bound, whatever cells follow
pub record HoldsFrontBelow (grid : GridShape) (start : Option (List ℕ)) (bound : ℕ) (cells : List Cell) (written : Option (List ℕ)) : Type 0 where
  pub below : AreBelow bound cells
  pub front : HoldsFront grid cells start written

module _ {O : Type 0} {g : Ghosts O} where
  -- these cells, whose codes are below a bound, were pushed, and their words given to a writer that was begun when its sink held `start`
  pub record HasPushed (grid : GridShape) (start : Option (List ℕ)) (bound : ℕ) (cells : List Cell) (queues : LevelQueues) (writer : NodeWriter O g) : Type 0 where
    pub holds : HoldsFrontBelow grid start bound cells (g.written writer.sink.now)
    pub queued : GoesOn [] (append_known start (header_of 2 grid)) (given writer) (IsQueued cells queues)
    pub records : writer.records ≡ queues.words
    pub depth : queues.depth ≡ grid.depth
    pub last : 0 < queues.cells → queues.last < bound
