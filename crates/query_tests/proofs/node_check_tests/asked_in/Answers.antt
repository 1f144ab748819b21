-- Codes below 8 are those of cells in any grid.
use Rattle.std.proofs.Common.{ap, subst, sym, ◌<◌, ◌^◌}
use Rattle.node_file.specs.FileView.{FileView}
use Rattle.node_check.proofs.SmallCodes.{within_grid}
use Rattle.query_tests.proofs.node_check_tests.asked_in.Goals as goal

pub has-requires : goal.has-requires
has-requires g c = within_grid c.args.code c.in-Ok.grid.depth c.requires.code c.depth.ensures.limits.halved

pub face_of-requires : goal.face_of-requires
face_of-requires g c =
    subst (λ d. c.args.code < 8 ^ d) (sym (ap (λ (f : FileView). f.grid.depth) c.in_ok-filled.ensures.same)) (within_grid c.args.code c.in-Ok.grid.depth c.requires.code c.depth.ensures.limits.halved)
