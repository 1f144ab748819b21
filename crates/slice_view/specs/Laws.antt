-- What the views of a camera are.
use Rattle.std.specs.Prelude.{◌≡◌, ℕ, List, Option}
use Rattle.svo_base.specs.GridShape.{GridShape}
use Rattle.octree_specs.specs.Cells.{Cell}
use Rattle.node_check.specs.Stops.{PutsFront}
use Rattle.slice_view.specs.Cameras.{CameraShape}
use Rattle.slice_view.specs.Views.{IsView, BeginsView}

-- a camera has one view of some cells at most
abbrev pub ViewsAreOne : Type 0
ViewsAreOne = (camera : CameraShape) (grid : GridShape) (cells : List Cell) (picture other : List ℕ) → IsView camera grid cells picture → IsView camera grid cells other → picture ≡ other

-- what was put of a picture of the first pixels is a front of the view
abbrev pub FrontsOfViews : Type 0
FrontsOfViews = (camera : CameraShape) (grid : GridShape) (cells : List Cell) (before after : Option (List ℕ)) (begun picture : List ℕ)
    → BeginsView camera grid cells begun → PutsFront before after begun → IsView camera grid cells picture → PutsFront before after picture
