use Rattle.solid_parity.proofs.Paired.{agree_from_below}
use Rattle.solid_parity.proofs.laws.parity_agrees_from_below.Goals as goal

pub returns : goal.returns
returns c = agree_from_below
