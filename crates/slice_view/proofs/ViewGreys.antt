-- The grey of a pixel is that of its ray.
use Rattle.std.proofs.Common.{◌≡◌, ℕ, ◌/◌, ◌%◌, List, Result, Ok, Err, IfOk, subst}
use Rattle.svo_base.specs.GridShape.{GridShape}
use Rattle.octree_specs.specs.Cells.{Cell}
use Rattle.ray_fraction.specs.RayShape.{RayShape}
use Rattle.node_check.specs.declared.walking.WalkFault.{WalkFault}
use Rattle.slice_view.specs.Cameras.{CameraShape, pixel_ray}
use Rattle.slice_view.specs.Greys.{IsGrey, IsGreyOf, IsGreyOfRay}

pub grey_shown : (camera : CameraShape) (grid : GridShape) (cells : List Cell) (pixel width far : ℕ) (ray : RayShape) (result : Result ℕ WalkFault) → width ≡ camera.width → far ≡ camera.far
    → Ok ray ≡ pixel_ray camera (pixel % width) (pixel / width) → IfOk result (IsGreyOfRay grid cells far ray) → IfOk result (IsGrey camera grid cells pixel)
grey_shown camera grid cells pixel width far ray (Ok grey) wide limit along shown =
    subst (λ r. IsGreyOf grid cells camera.far r grey) (subst (λ w. Ok ray ≡ pixel_ray camera (pixel % w) (pixel / w)) wide along) (subst (λ f. IsGreyOfRay grid cells f ray grey) limit shown)
grey_shown camera grid cells pixel width far ray (Err fault) wide limit along shown = tt
