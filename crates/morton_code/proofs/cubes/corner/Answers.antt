use Rattle.std.proofs.Common.{refl}
use Rattle.morton_code.proofs.Sides.{planes_kept, planes_near}
use Rattle.morton_code.proofs.cubes.corner.Goals as goal

pub returns-clause-value : goal.returns-clause-value
returns-clause-value c =
    rw (planes_kept _ _ _ c.plane.ensures.near c.plane-2.ensures.near c.plane-3.ensures.near, c.plane.ensures.value, c.plane-2.ensures.value, c.plane-3.ensures.value) refl

pub returns-clause-near : goal.returns-clause-near
returns-clause-near c = planes_near c.plane.result c.plane-2.result c.plane-3.result c.plane.ensures.near c.plane-2.ensures.near c.plane-3.ensures.near
