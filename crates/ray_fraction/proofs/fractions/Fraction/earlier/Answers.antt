use Rattle.std.proofs.Common.{◌*◌, arith}
use Rattle.ray_fraction.proofs.Order.{up_to_trans, not_less}
use Rattle.ray_fraction.proofs.fractions.Fraction.earlier.Goals as goal

pub returns-then-is_after : goal.returns-then-is_after
returns-then-is_after c = λ n m.
    let a = c.args.self.now in
    let b = c.args.other.now in
    let order = c.is_after.ensures.0 c.if-is_after.true in
    (λ h. (up_to_trans n m b.n b.m a.n a.m b.some h (omega (arith, order)), h), λ both. both.1)

pub returns-else-is_after : goal.returns-else-is_after
returns-else-is_after c = λ n m.
    let a = c.args.self.now in
    let b = c.args.other.now in
    let order = not_less c.is_after.result (b.n * a.m) (a.n * b.m) c.is_after.ensures.1 c.if-is_after.false in
    (λ h. (h, up_to_trans n m a.n a.m b.n b.m a.some h order), λ both. both.0)
