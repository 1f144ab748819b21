use Rattle.std.proofs.Common.{ap, subst}
use Rattle.tri_cube.specs.Outlines.{area_of}
use Rattle.tri_cube.specs.Prepared.{IsNearForm}
use Rattle.tri_cube.proofs.NearCorner.{normal_near, plane_near}
use Rattle.tri_cube.proofs.small.NearForm.new.Goals as goal

pub along_x-requires-clause-area : goal.along_x-requires-clause-area
unfolding area_of
along_x-requires-clause-area c = ap (λ v. v.x) (normal_near c.args.triangle.now c.moved-near.result c.new-plane.result c.moved-near.ensures.value c.new-plane.ensures)

pub along_y-requires-clause-area : goal.along_y-requires-clause-area
unfolding area_of
along_y-requires-clause-area c = ap (λ v. v.y) (normal_near c.args.triangle.now c.moved-near.result c.new-plane.result c.moved-near.ensures.value c.new-plane.ensures)

pub along_z-requires-clause-area : goal.along_z-requires-clause-area
unfolding area_of
along_z-requires-clause-area c = ap (λ v. v.z) (normal_near c.args.triangle.now c.moved-near.result c.new-plane.result c.moved-near.ensures.value c.new-plane.ensures)

pub returns : goal.returns
returns c =
    subst (λ t. IsNearForm t (record { plane = c.new-plane.result; x = c.along_x.result; y = c.along_y.result; z = c.along_z.result })) c.moved-near.ensures.value
    (record {
      plane = plane_near c.args.triangle.now c.moved-near.result c.new-plane.result c.moved-near.ensures.value c.new-plane.ensures;
      x = c.along_x.ensures;
      y = c.along_y.ensures;
      z = c.along_z.ensures;
    })
