-- The parts are made of the triangle alone; a number of the normal is the area of the outline that is seen along its axis.
use Rattle.std.proofs.Common.{◌∙◌, ap}
use Rattle.octree_specs.specs.Vectors.{dot_of}
use Rattle.tri_cube.specs.Edges.{corner}
use Rattle.tri_cube.specs.Outlines.{area_of}
use Rattle.tri_cube.specs.Planes.{plane_form}
use Rattle.tri_cube.specs.Views.{plane_of}
use Rattle.tri_cube.proofs.wide.WideForm.new.Goals as goal

pub along_x-requires : goal.along_x-requires
unfolding area_of
along_x-requires c = ap (λ v. v.x) c.normal-normal.ensures.value

pub along_y-requires : goal.along_y-requires
unfolding area_of
along_y-requires c = ap (λ v. v.y) c.normal-normal.ensures.value

pub along_z-requires : goal.along_z-requires
unfolding area_of
along_z-requires c = ap (λ v. v.z) c.normal-normal.ensures.value

pub returns : goal.returns
unfolding plane_of
returns c = record {
  plane = c.new.ensures ∙ ap (λ n. plane_form n (dot_of n (corner c.args.triangle.now.a))) c.normal-normal.ensures.value;
  x = c.along_x.ensures;
  y = c.along_y.ensures;
  z = c.along_z.ensures;
}
