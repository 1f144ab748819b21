-- Cells that are pushed into the queues one after another, and the file that grows by them.
use Rattle.std.specs.Prelude.{◌≡◌, ℕ, ◌-◌, ◌^◌, ◌<◌, ◌≤◌, ⊤, List, [], ◌++◌, Option, IfSome, Result, Ok, Err, All}
use Rattle.std.specs.List.Sorted.{IsStrictlyIncreasing}
use Rattle.std.specs.Io.KnownBytes.{append_known}
use Rattle.dev_traits.specs.declared.device.ByteSink.{Ghosts}
use Rattle.svo_base.specs.GridShape.{GridShape}
use Rattle.octree_specs.specs.Cells.{Cell, codes_of}
use Rattle.octree_specs.specs.Formats.{StandFor}
use Rattle.octree_specs.specs.OctreeFile.{header_of}
use Rattle.node_file.specs.FileView.{FileView}
use Rattle.node_file.specs.declared.writer.NodeWriter.{NodeWriter}
use Rattle.node_file.specs.Writing.{given}
use Rattle.node_check.specs.declared.stops.AnswerStop.{AnswerStop}
use Rattle.node_check.specs.declared.stops.AnswerStop.TheVariants.{WriteFault, Walk}
use Rattle.node_check.specs.declared.walking.WalkFault.TheVariants.{Failed, Refused}
use Rattle.level_queues.specs.PushedFiles.{HasPushed}
use Rattle.level_queues.specs.Fronts.{HoldsFront}
use Rattle.level_queues.specs.declared.levels.LevelQueues.{LevelQueues}

-- of a file whose words are told: these are a front of the cells for which they stand
abbrev pub AreFirst : FileView → List Cell → Type 0
AreFirst file cells = IfSome file.words (λ words. (all : List Cell) → StandFor file.format file.grid.depth words all → (rest : List Cell) × (cells ++ rest ≡ all))

-- and they are all of them
abbrev pub AreWhole : FileView → List Cell → Type 0
AreWhole file cells = IfSome file.words (λ words. (all : List Cell) → StandFor file.format file.grid.depth words all → cells ≡ all)

module _ {O : Type 0} {g : Ghosts O} where
  -- all cells of a file were pushed
  pub record PushesAll (file : FileView) (start : Option (List ℕ)) (queues : LevelQueues) (writer : NodeWriter O g) : Type 0 where
    pub cells : List Cell
    pub pushed : HasPushed file.grid start (8 ^ file.grid.depth) cells queues writer
    pub whole : AreWhole file cells

-- the sink holds a front of the file of the first cells, whatever cells follow
pub record HoldsFirst (file : FileView) (start written : Option (List ℕ)) : Type 0 where
  pub cells : List Cell
  pub first : AreFirst file cells
  pub front : HoldsFront file.grid cells start written

-- of a file whose words stand for cells no word is refused
abbrev pub Accepts : {T : Type 0} → Result T AnswerStop → Type 0
Accepts (Ok answer) = ⊤
Accepts (Err WriteFault) = ⊤
Accepts (Err (Walk Failed)) = ⊤
Accepts (Err (Walk (Refused number word))) = ⊥

abbrev pub IsUnrefused : {T : Type 0} → FileView → Result T AnswerStop → Type 0
IsUnrefused file result = IfSome file.words (λ words. (all : List Cell) → StandFor file.format file.grid.depth words all → Accepts result)
