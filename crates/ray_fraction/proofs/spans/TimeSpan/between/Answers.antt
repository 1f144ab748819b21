use Rattle.std.proofs.Common.{arith}
use Rattle.ray_fraction.proofs.Order.{up_to_trans}
use Rattle.ray_fraction.proofs.spans.TimeSpan.between.Goals as goal

pub returns-then-is_after-clause-times : goal.returns-then-is_after-clause-times
returns-then-is_after-clause-times c = λ n m some.
    let from = c.args.from in
    let until = c.args.until in
    let order = c.is_after.ensures.0 c.if-is_after.true in
    (λ h. absurd h, λ both. let up = up_to_trans from.n from.m n m until.n until.m some both.0 both.1 in omega (arith, order, up))
