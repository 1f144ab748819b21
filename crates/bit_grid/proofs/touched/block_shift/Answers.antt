use Rattle.std.proofs.Common.{arith}
use Rattle.bit_grid.proofs.BlocksLemmas.{log_shallow, log_covers}
use Rattle.bit_grid.proofs.touched.block_shift.Goals as goal

pub returns-in-Some-clause-shallow : goal.returns-in-Some-clause-shallow
returns-in-Some-clause-shallow c = log_shallow c.args.slots c.in-Some.log c.saturating_sub.result c.requires c.in-Some.ensures.power_le c.saturating_sub.ensures

pub returns-in-Some-clause-covered : goal.returns-in-Some-clause-covered
returns-in-Some-clause-covered c = log_covers c.args.slots c.in-Some.log c.saturating_sub.result (omega (arith, c.in-Some.ensures.next_power_gt)) c.saturating_sub.ensures
