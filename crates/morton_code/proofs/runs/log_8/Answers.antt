use Rattle.morton_code.proofs.Heights.{power_below, power_above}
use Rattle.morton_code.proofs.runs.log_8.Goals as goal

pub returns-clause-power : goal.returns-clause-power
returns-clause-power c = power_below c.args.number c.ilog2.result c.ilog2.ensures.power_le

pub returns-clause-greatest : goal.returns-clause-greatest
returns-clause-greatest c = power_above c.args.number c.ilog2.result c.ilog2.ensures.next_power_gt
