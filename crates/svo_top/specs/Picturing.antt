-- The pictures that words name, and what putting out a view does.
use Rattle.std.specs.Prelude.{◌≡◌, ◌⊎◌, ℕ, ◌^◌, Bool, ◌&&◌, nat_lt, ℤ, pos, int_le, unsigned_abs, List, Option, None, Some, Result, Ok, Err}
use Rattle.svo_base.specs.GridShape.{GridShape}
use Rattle.dev_traits.specs.Change.{Change, IsFaultless, Grew}
use Rattle.dev_traits.specs.Faults.{DidNotRise}
use Rattle.octree_specs.specs.Cells.{Cell}
use Rattle.node_check.specs.Stops.{PutsFront}
use Rattle.slice_view.specs.Cameras.{CameraShape, camera_from}
use Rattle.slice_view.specs.Views.{IsView, BeginsView}
use Rattle.slice_view.specs.declared.axes.Axis.{Axis}
use Rattle.slice_view.specs.declared.axes.Axis.TheVariants as axis
use Rattle.slice_view.specs.declared.cameras.CameraKind.{CameraKind}
use Rattle.slice_view.specs.declared.cameras.CameraKind.TheVariants as kind
use Rattle.svo_words.specs.declared.kinds.AxisWord.{AxisWord}
use Rattle.svo_words.specs.declared.kinds.AxisWord.TheVariants.{X, Y, Z}
use Rattle.svo_words.specs.declared.kinds.KindWord.{KindWord}
use Rattle.svo_words.specs.declared.kinds.KindWord.TheVariants.{Parallel, Pinhole}
use Rattle.svo_words.specs.declared.pictures.ViewWords.{ViewWords}
use Rattle.svo_top.specs.declared.outcome.Status.{Status}
use Rattle.svo_top.specs.declared.outcome.Status.TheVariants.{Done, Memory}
use Rattle.svo_top.specs.declared.outcome.RangeFault.{RangeFault}
use Rattle.svo_top.specs.declared.outcome.RangeFault.TheVariants as range

abbrev pub axis_from : AxisWord → Axis
axis_from X = axis.X
axis_from Y = axis.Y
axis_from Z = axis.Z

abbrev pub kind_from : KindWord → CameraKind
kind_from Parallel = kind.Parallel
kind_from Pinhole = kind.Pinhole

-- a place is that of a layer of a grid of this depth
abbrev pub is_layer : ℤ → ℕ → Bool
is_layer at depth = int_le (pos 0) at && nat_lt (unsigned_abs at) (2 ^ depth)

-- the number of kept blocks comes first, and then the camera's
abbrev pub camera_in : Option RangeFault → Option CameraShape → Result CameraShape RangeFault
camera_in (Some fault) camera = Err fault
camera_in None None = Err range.View
camera_in None (Some camera) = Ok camera

-- the camera of these words, whose blocks are kept in this range, or the first range that one of their numbers is out of
abbrev pub camera_of : Option RangeFault → ViewWords → Result CameraShape RangeFault
camera_of keep words = camera_in keep (camera_from (kind_from words.kind) words.eye words.toward words.right words.up words.width words.height words.far)

-- over a node file of these cells the view is put out where the run is done, and a front of what it begins with where a device failed
pub record Views (camera : CameraShape) (grid : GridShape) (cells : List Cell) (out : Change) (before after : ℕ) (status : Status) : Type 0 where
  pub done : status ≡ Done → (picture : List ℕ) × IsView camera grid cells picture × Grew out picture
  pub front : (picture : List ℕ) × BeginsView camera grid cells picture × PutsFront out.before out.after picture
  pub complete : IsFaultless out → DidNotRise before after → (status ≡ Done) ⊎ (status ≡ Memory)
