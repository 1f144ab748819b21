-- The axis is the first that separates, so no point is shared.
use Rattle.std.proofs.Common.{sym, ◌∙◌}
use Rattle.tri_cube.proofs.FirstAxis.{separated_apart}
use Rattle.tri_cube.proofs.verdicts.why.Goals as goal

pub returns-in-Some : goal.returns-in-Some
returns-in-Some c =
    let first = sym c.first_axis.ensures ∙ c.in-Some.is in
    (separated_apart c.args.triangle.now c.args.cube.now c.in-Some.number first, first)
