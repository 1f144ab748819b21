-- Cells that are pushed toward a map of which told words say what it is.
use Rattle.std.specs.Prelude.{◌≡◌, ℕ, ◌+◌, ◌^◌, ◌<◌, ◌≤◌, ◌⊎◌, min, ◌==◌, cond, List, ◌++◌, Option, None, Some, Result, Ok, Err, IfSome, ⊤}
use Rattle.dev_traits.specs.declared.device.ByteSink.{Ghosts}
use Rattle.svo_base.specs.GridShape.{GridShape}
use Rattle.octree_specs.specs.Cells.{Cell}
use Rattle.node_file.specs.FileView.{FileView}
use Rattle.node_file.specs.declared.writer.NodeWriter.{NodeWriter}
use Rattle.node_check.specs.Cursors.{IsOn}
use Rattle.node_check.specs.Stops.{StopsAtNoCell, Puts}
use Rattle.node_check.specs.Walks.{face_at}
use Rattle.node_check.specs.declared.cursor.FacedCell.{FacedCell}
use Rattle.node_check.specs.declared.stops.AnswerStop.{AnswerStop}
use Rattle.node_check.specs.declared.walking.WalkFault.{WalkFault}
use Rattle.node_check.specs.declared.walking.WalkFault.TheVariants.{Failed, Refused}
use Rattle.level_queues.specs.Fronts.{HoldsFront}
use Rattle.level_queues.specs.PushedFiles.{HasPushed}
use Rattle.level_queues.specs.declared.levels.LevelQueues.{LevelQueues}
use Rattle.octree_specs.specs.OctreeFile.{image_of}
use Rattle.node_merge.specs.Combined.{cells_below}
use Rattle.node_merge.specs.Maps.{IsMapOf}
use Rattle.node_merge.specs.declared.fronts.Front.{Front}

-- the file of each map of a kind was put out, or a front of it
abbrev pub PutsMap : {T : Type 0} → GridShape → (List Cell → Type 0) → Option (List ℕ) → Option (List ℕ) → Result T AnswerStop → Type 0
PutsMap grid Known before after result = (cells : List Cell) → Known cells → Puts before after (image_of 2 grid cells) result

-- the sink holds a front of the file of the first cells of each map of a kind
pub record HoldsFirst (grid : GridShape) (start : Option (List ℕ)) (Known : List Cell → Type 0) (written : Option (List ℕ)) : Type 0 where
  pub cells : List Cell
  pub first : (all : List Cell) → Known all → (rest : List Cell) × (cells ++ rest ≡ all)
  pub front : HoldsFront grid cells start written

module _ {O : Type 0} {g : Ghosts O} where
  -- all cells of each map of a kind were pushed
  pub record PushesAll (grid : GridShape) (start : Option (List ℕ)) (Known : List Cell → Type 0) (queues : LevelQueues) (writer : NodeWriter O g) : Type 0 where
    pub cells : List Cell
    pub pushed : HasPushed grid start (8 ^ grid.depth) cells queues writer
    pub whole : (all : List Cell) → Known all → cells ≡ all

  -- the cells below a code were pushed to which each function of a kind gives a face
  pub record PushesTo (grid : GridShape) (start : Option (List ℕ)) (Faces : (ℕ → Option ℕ) → Type 0) (from : ℕ) (queues : LevelQueues) (writer : NodeWriter O g) : Type 0 where
    pub cells : List Cell
    pub pushed : HasPushed grid start from cells queues writer
    pub before : (face_of : ℕ → Option ℕ) → Faces face_of → cells ≡ cells_below from face_of

-- each function of a kind gives no cell a face from a code up to another, and gives that one this face, or none
abbrev pub IsNextFace : ((ℕ → Option ℕ) → Type 0) → ℕ → ℕ → Option ℕ → Type 0
IsNextFace Faces from code face = (face_of : ℕ → Option ℕ) → Faces face_of → ((c : ℕ) → from ≤ c → c < code → face_of c ≡ None) × (face_of code ≡ face)

-- a word is refused only where one of two files does not stand for cells
abbrev pub StopsInEither : {T : Type 0} → FileView → FileView → Result T AnswerStop → Type 0
StopsInEither first second result =
    StopsAtNoCell first.words first.totals.records first.grid.depth result ⊎ StopsAtNoCell second.words second.totals.records second.grid.depth result

-- the first cell from a code on of those to which a function gives faces, if there is one
abbrev pub IsHead : (ℕ → Option ℕ) → ℕ → Option FacedCell → Type 0
IsHead face_of from None = (code : ℕ) → from ≤ code → face_of code ≡ None
IsHead face_of from (Some cell) = ((code : ℕ) → from ≤ code → code < cell.code → face_of code ≡ None) × (face_of cell.code ≡ Some cell.face)

-- a read failed, and no word was refused
abbrev pub IsUnrefusedFault : WalkFault → Type 0
IsUnrefusedFault Failed = ⊤
IsUnrefusedFault (Refused number word) = ⊥

-- no word is refused
abbrev pub IsUnrefusedWalk : {T : Type 0} → Result T WalkFault → Type 0
IsUnrefusedWalk (Ok answer) = ⊤
IsUnrefusedWalk (Err fault) = IsUnrefusedFault fault

-- a walk over a file gave the first cell from a code on, and goes on behind it
pub record IsFront (file : FileView) (from : ℕ) (front : Front) : Type 0 where
  pub on : IsOn file front.walk
  pub behind : IfSome front.head (λ cell. (front.walk.from ≡ cell.code + 1) × (from ≤ cell.code) × (cell.code < 8 ^ file.grid.depth) × (cell.face ≤ 4294967294))
  pub told : (cells : List Cell) → IsMapOf file cells → IsHead (face_at cells) from front.head

-- the lesser of two cells' codes, of which either may be missing
abbrev pub least_code : Option FacedCell → Option FacedCell → Option ℕ
least_code None None = None
least_code (Some cell) None = Some cell.code
least_code None (Some cell) = Some cell.code
least_code (Some cell) (Some other) = Some (min cell.code other.code)

-- a cell's face, where it has this code
abbrev pub face_if : Option FacedCell → ℕ → Option ℕ
face_if None code = None
face_if (Some cell) code = cond (cell.code == code) (Some cell.face) None
