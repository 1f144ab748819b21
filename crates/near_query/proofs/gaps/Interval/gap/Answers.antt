use Rattle.std.proofs.Common.{arith}
use Rattle.std.proofs.lemmas.Int.{ints, to_z-of_z}
use Rattle.near_query.proofs.gaps.Interval.gap.Goals as goal

pub returns-clause-within : goal.returns-clause-within
returns-clause-within c =
    let below = c.difference-below.ensures.within in
    let above = c.difference-above.ensures.within in
    grind (arith, ints, to_z-of_z)
