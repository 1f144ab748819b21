-- What it is for a triangle to be prepared.
use Rattle.std.specs.Prelude.{◌≡◌, true, false, pos}
use Rattle.svo_base.specs.declared.shapes.Triangle.{Triangle}
use Rattle.tri_cube.specs.declared.prepared.Form.{Form}
use Rattle.tri_cube.specs.declared.prepared.Form.TheVariants.{Near, Wide}
use Rattle.tri_cube.specs.declared.prepared.PreparedTriangle.TheInside.{Inside}
use Rattle.tri_cube.specs.declared.small.NearForm.{NearForm}
use Rattle.tri_cube.specs.declared.wide.WideForm.{WideForm}
use Rattle.tri_cube.specs.Near.{is_small, moved}
use Rattle.tri_cube.specs.Planes.{plane_form}
use Rattle.tri_cube.specs.Views.{box_of, plane_of, outline_x, outline_y, outline_z}

-- the plane and the outlines are those of the triangle
pub record IsWide (t : Triangle) (f : WideForm) : Type 0 where
  pub plane : f.plane ≡ plane_of t
  pub x : f.x ≡ outline_x t
  pub y : f.y ≡ outline_y t
  pub z : f.z ≡ outline_z t

pub record IsNearForm (t : Triangle) (f : NearForm) : Type 0 where
  pub plane : plane_form f.plane (pos 0) ≡ plane_of t
  pub x : f.x ≡ outline_x t
  pub y : f.y ≡ outline_y t
  pub z : f.z ≡ outline_z t

-- a small triangle is seen from its first corner
abbrev pub IsForm : Triangle → Form → Type 0
IsForm t (Near f) = (is_small t ≡ true) × IsNearForm (moved t) f
IsForm t (Wide f) = (is_small t ≡ false) × IsWide t f

-- the fields are those of the triangle
pub record IsPrepared (p : Inside) : Type 0 where
  pub extents : p.extents ≡ box_of p.triangle
  pub form : IsForm p.triangle p.form
