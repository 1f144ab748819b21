-- The picture of a view, and what a call puts out of it.
use Rattle.std.specs.Prelude.{◌≡◌, ℕ, ◌-◌, ◌*◌, ◌≤◌, ⊤, List, ◌++◌, length, Option, Result, Ok, Err}
use Rattle.std.specs.Io.KnownBytes.{append_known}
use Rattle.svo_base.specs.GridShape.{GridShape}
use Rattle.octree_specs.specs.Cells.{Cell}
use Rattle.node_check.specs.Stops.{PutsFront}
use Rattle.node_check.specs.declared.stops.AnswerStop.{AnswerStop}
use Rattle.node_check.specs.declared.stops.AnswerStop.TheVariants.{WriteFault, Walk}
use Rattle.node_check.specs.declared.walking.WalkFault.TheVariants.{Failed, Refused}
use Rattle.ray_walk.specs.Faults.{IsCaused}
use Rattle.slice_view.specs.Cameras.{CameraShape}
use Rattle.slice_view.specs.Greys.{AreGreys}
use Rattle.slice_view.specs.Pictures.{pgm_header}

-- a picture: a header, and the greys of so many pixels
pub record ShowsPixels (camera : CameraShape) (grid : GridShape) (cells : List Cell) (count : ℕ) (picture : List ℕ) : Type 0 where
  pub greys : List ℕ
  pub counted : length greys ≡ count
  pub shown : AreGreys camera grid cells 0 greys
  pub picture_is : picture ≡ pgm_header camera.width camera.height ++ greys

-- the picture of these cells that the camera takes
abbrev pub IsView : CameraShape → GridShape → List Cell → List ℕ → Type 0
IsView camera grid cells picture = ShowsPixels camera grid cells (camera.width * camera.height) picture

-- the same, as far as it goes
abbrev pub BeginsView : CameraShape → GridShape → List Cell → List ℕ → Type 0
BeginsView camera grid cells picture = (count : ℕ) × (count ≤ camera.width * camera.height) × ShowsPixels camera grid cells count picture

-- the view was put out, or a front of what it begins with where a put or a read failed; no word is refused
abbrev pub PutsView : {T : Type 0} → CameraShape → GridShape → List Cell → (before after : Option (List ℕ)) → Result T AnswerStop → Type 0
PutsView camera grid cells before after (Ok answer) = (picture : List ℕ) × IsView camera grid cells picture × (after ≡ append_known before picture)
PutsView camera grid cells before after (Err WriteFault) = (picture : List ℕ) × BeginsView camera grid cells picture × PutsFront before after picture
PutsView camera grid cells before after (Err (Walk Failed)) = (picture : List ℕ) × BeginsView camera grid cells picture × PutsFront before after picture
PutsView camera grid cells before after (Err (Walk (Refused number word))) = ⊥

-- the greys of the pixels from one up to another were put out, or a front of theirs
pub record PutsGreysOf (camera : CameraShape) (grid : GridShape) (cells : List Cell) (from count : ℕ) (Put : List ℕ → Type 0) : Type 0 where
  pub greys : List ℕ
  pub counted : length greys ≡ count
  pub shown : AreGreys camera grid cells from greys
  pub put : Put greys

abbrev pub PutsGreys : {T : Type 0} → CameraShape → GridShape → List Cell → (from end : ℕ) → (before after : Option (List ℕ)) → Result T AnswerStop → Type 0
PutsGreys camera grid cells from end before after (Ok answer) = PutsGreysOf camera grid cells from (end - from) (λ greys. after ≡ append_known before greys)
PutsGreys camera grid cells from end before after (Err WriteFault) = (count : ℕ) × (count ≤ end - from) × PutsGreysOf camera grid cells from count (PutsFront before after)
PutsGreys camera grid cells from end before after (Err (Walk Failed)) = (count : ℕ) × (count ≤ end - from) × PutsGreysOf camera grid cells from count (PutsFront before after)
PutsGreys camera grid cells from end before after (Err (Walk (Refused number word))) = ⊥

-- a walk stops only as a cast ray's does
abbrev pub StopsAsCast : {T : Type 0} → Option (List ℕ) → (before after : ℕ) → Result T AnswerStop → Type 0
StopsAsCast told before after (Ok answer) = ⊤
StopsAsCast told before after (Err WriteFault) = ⊤
StopsAsCast told before after (Err (Walk fault)) = IsCaused told before after fault
