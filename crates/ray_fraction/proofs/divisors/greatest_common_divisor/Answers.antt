use Rattle.std.proofs.Common.{arith}
use Rattle.std.proofs.lemmas.Nat.Gcd.{IsGcd-from_mod, IsGcd-from_zero}
use Rattle.ray_fraction.proofs.divisors.greatest_common_divisor.Goals as goal

pub loop-y-preserved : goal.loop-y-preserved
loop-y-preserved c = (λ g rest. c.loop-y.invariant.0 g (IsGcd-from_mod c.loop-y.x c.loop-y.y g rest), omega arith)

pub returns-clause-divisor : goal.returns-clause-divisor
returns-clause-divisor c = c.loop-y.invariant.0 c.loop-y.x (IsGcd-from_zero c.loop-y.x c.loop-y.y (omega arith))
