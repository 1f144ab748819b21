-- Cameras, their limits, and the ray through a pixel.
use Rattle.std.specs.Prelude.{◌≡◌, ℕ, ◌+◌, ◌*◌, ◌^◌, ◌<◌, ◌≤◌, Bool, ◌&&◌, if◌then◌else◌, List, [], ◌∷◌, length, ℤ, pos, unsigned_abs, ◌+ℤ◌, ◌-ℤ◌, ◌*ℤ◌, Option, None, Some, Result, All}
use Rattle.std.specs.List.{list_all, slice_index_or}
use Rattle.std.specs.Result.{IfErr}
use Rattle.svo_base.specs.GridLimits.{is_positive, is_within}
use Rattle.ray_fraction.specs.RayFrom.{ray_from}
use Rattle.ray_fraction.specs.RayShape.{RayShape}
use Rattle.ray_fraction.specs.declared.rays.RayFault.{RayFault}
use Rattle.ray_fraction.specs.declared.rays.RayFault.TheVariants.{Zero}
use Rattle.slice_view.specs.declared.cameras.CameraKind.{CameraKind}
use Rattle.slice_view.specs.declared.cameras.CameraKind.TheVariants.{Parallel, Pinhole}

-- where it stands and looks, half a pixel's way to the right and up, the sides of its picture in pixels, and the time beyond which all is dark
pub record CameraShape : Type 0 where
  pub kind : CameraKind
  pub eye : List ℤ
  pub toward : List ℤ
  pub right : List ℤ
  pub up : List ℤ
  pub width : ℕ
  pub height : ℕ
  pub far : ℕ

-- a whole number from 1 to a limit
abbrev pub is_from_one_to : ℕ → ℤ → Bool
is_from_one_to limit z = is_positive z && is_within limit z

-- the camera of these numbers, where each is within its limit
unfoldable pub camera_from : CameraKind → List ℤ → List ℤ → List ℤ → List ℤ → ℤ → ℤ → ℤ → Option CameraShape
camera_from kind eye toward right up width height far =
    if list_all (is_within (2 ^ 39)) eye && list_all (is_within (2 ^ 16)) toward && list_all (is_within (2 ^ 16)) right && list_all (is_within (2 ^ 16)) up
    && is_from_one_to 4096 width && is_from_one_to 4096 height && is_from_one_to (2 ^ 40) far
    then Some (record { kind = kind; eye = eye; toward = toward; right = right; up = up; width = unsigned_abs width; height = unsigned_abs height; far = unsigned_abs far })
    else None

-- what holds of every camera
pub record IsCamera (camera : CameraShape) : Type 0 where
  pub eye_axes : length camera.eye ≡ 3
  pub toward_axes : length camera.toward ≡ 3
  pub right_axes : length camera.right ≡ 3
  pub up_axes : length camera.up ≡ 3
  pub near : All (λ z. unsigned_abs z ≤ 2 ^ 39) camera.eye
  pub ahead : All (λ z. unsigned_abs z ≤ 2 ^ 16) camera.toward
  pub aside : All (λ z. unsigned_abs z ≤ 2 ^ 16) camera.right
  pub above : All (λ z. unsigned_abs z ≤ 2 ^ 16) camera.up
  pub wide : 1 ≤ camera.width
  pub width : camera.width ≤ 4096
  pub high : 1 ≤ camera.height
  pub height : camera.height ≤ 4096
  pub some : 1 ≤ camera.far
  pub far : camera.far ≤ 2 ^ 40

-- how far the middle of a column lies right of the picture's middle, in half pixels
abbrev pub rightward : CameraShape → ℕ → ℤ
rightward camera column = pos (2 * column + 1) -ℤ pos camera.width

-- how far the middle of a row, counted from the top, lies above the picture's middle
abbrev pub upward : CameraShape → ℕ → ℤ
upward camera row = pos camera.height -ℤ pos (2 * row + 1)

abbrev pub axis_of : List ℤ → ℕ → ℤ
axis_of vector axis = slice_index_or vector axis (pos 0)

-- from a vector so many half pixels to the right and up: along an axis, and along all
abbrev pub moved_along : CameraShape → List ℤ → ℕ → ℤ → ℤ → ℤ
moved_along camera vector axis a b = axis_of vector axis +ℤ ((a *ℤ axis_of camera.right axis) +ℤ (b *ℤ axis_of camera.up axis))

abbrev pub moved : CameraShape → List ℤ → ℤ → ℤ → List ℤ
moved camera vector a b = moved_along camera vector 0 a b ∷ moved_along camera vector 1 a b ∷ moved_along camera vector 2 a b ∷ []

-- the ray through the middle of a pixel: rays of a parallel camera go the same way from beside the eye, those of a pinhole camera go beside each other from the eye
unfoldable pub ray_by : CameraKind → CameraShape → ℤ → ℤ → Result RayShape RayFault
ray_by Parallel camera a b = ray_from (moved camera camera.eye a b) camera.toward
ray_by Pinhole camera a b = ray_from camera.eye (moved camera camera.toward a b)

abbrev pub pixel_ray : CameraShape → ℕ → ℕ → Result RayShape RayFault
pixel_ray camera column row = ray_by camera.kind camera (rightward camera column) (upward camera row)

-- the ray of a camera's pixel is refused for nothing but a direction of zero
abbrev pub IsRefusedOnlyStill : Type 0
IsRefusedOnlyStill = (camera : CameraShape) (column row : ℕ) → IsCamera camera → column < camera.width → row < camera.height → IfErr (pixel_ray camera column row) (λ fault. fault ≡ Zero)
