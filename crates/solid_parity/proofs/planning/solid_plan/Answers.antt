use Rattle.solid_parity.proofs.NarrowPlans.{narrow_plans}
use Rattle.solid_parity.proofs.planning.solid_plan.Goals as goal

pub returns-clause-narrow : goal.returns-clause-narrow
returns-clause-narrow c = narrow_plans c.args.depth _ c.plan.result c.plan.ensures.plan
