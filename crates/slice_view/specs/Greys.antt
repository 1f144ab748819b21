-- The greys of a view's pixels.
use Rattle.std.specs.Prelude.{◌≡◌, ℕ, suc, ◌-◌, ◌*◌, ◌/◌, ◌%◌, nat_lt, if◌then◌else◌, ⊤, List, [], ◌∷◌, Option, None, Some, Result, Ok, Err}
use Rattle.svo_base.specs.GridShape.{GridShape}
use Rattle.octree_specs.specs.Cells.{Cell}
use Rattle.ray_fraction.specs.RayShape.{RayShape}
use Rattle.ray_fraction.specs.declared.rays.RayFault.{RayFault}
use Rattle.ray_walk.specs.Answers.{IsFirst}
use Rattle.ray_walk.specs.declared.hits.Hit.{Hit}
use Rattle.slice_view.specs.Cameras.{CameraShape, pixel_ray}

-- the grey of a hit at the time n / m: 255 at once, the less the later, and 1 beyond the far time
unfoldable pub grey_at : ℕ → ℕ → ℕ → ℕ
grey_at far n m = if nat_lt (far * m) n then 1 else (255 - 254 * n / (far * m))

-- nothing is black
abbrev pub grey_of : ℕ → Option Hit → ℕ
grey_of far None = 0
grey_of far (Some hit) = grey_at far hit.time.n hit.time.m

-- the grey of a ray's first hit
pub record IsGreyOfRay (grid : GridShape) (cells : List Cell) (far : ℕ) (ray : RayShape) (grey : ℕ) : Type 0 where
  pub hit : Option Hit
  pub first : IsFirst ray grid cells hit
  pub grey_is : grey ≡ grey_of far hit

-- a pixel without a direction is black
abbrev pub IsGreyOf : GridShape → List Cell → ℕ → Result RayShape RayFault → ℕ → Type 0
IsGreyOf grid cells far (Err fault) grey = grey ≡ 0
IsGreyOf grid cells far (Ok ray) grey = IsGreyOfRay grid cells far ray grey

-- pixels are counted row by row, from the top and from the left
abbrev pub IsGrey : CameraShape → GridShape → List Cell → ℕ → ℕ → Type 0
IsGrey camera grid cells pixel grey = IsGreyOf grid cells camera.far (pixel_ray camera (pixel % camera.width) (pixel / camera.width)) grey

-- the greys of the pixels from one on
unfoldable pub AreGreys : CameraShape → GridShape → List Cell → ℕ → List ℕ → Type 0
AreGreys camera grid cells pixel [] = ⊤
AreGreys camera grid cells pixel (grey ∷ greys) = IsGrey camera grid cells pixel grey × AreGreys camera grid cells (suc pixel) greys
