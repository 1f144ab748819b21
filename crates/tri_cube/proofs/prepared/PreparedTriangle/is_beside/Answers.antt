-- The form is that of the triangle, which is the value that is seen.
use Rattle.std.proofs.Common.{◌∙◌, ap}
use Rattle.tri_cube.specs.Near.{is_passed}
use Rattle.tri_cube.proofs.Clipping.{near_passes, wide_passes}
use Rattle.tri_cube.proofs.prepared.PreparedTriangle.is_beside.Goals as goal

pub returns-in-Near : goal.returns-in-Near
returns-in-Near c =
    near_passes c.self.inside.triangle c.self.inside.extents c.args.extents.now c.self.inside.form c.in-Near.form c.misses.result c.self.invariant.form c.in-Near.is c.self.invariant.extents
    (rw c.new.ensures at c.misses.ensures)
    ∙ ap (λ t. is_passed t c.args.extents.now) c.self.view_is

pub returns-in-Wide : goal.returns-in-Wide
returns-in-Wide c =
    wide_passes c.self.inside.triangle c.args.extents.now c.self.inside.form c.in-Wide.form c.misses-in-Wide.result c.self.invariant.form c.in-Wide.is c.misses-in-Wide.ensures
    ∙ ap (λ t. is_passed t c.args.extents.now) c.self.view_is
