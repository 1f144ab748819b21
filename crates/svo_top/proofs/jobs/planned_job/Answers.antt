-- The plan is for the depth of the grid.
use Rattle.std.proofs.Common.{◌∙◌, sym}
use Rattle.build_core.proofs.ValidPlans.{planned}
use Rattle.svo_top.proofs.jobs.planned_job.Goals as goal

pub returns-in-Ok-clause-is : goal.returns-in-Ok-clause-is
returns-in-Ok-clause-is c = record {
  planned = c.in-Ok.ensures.valid;
  depth = sym ((planned c.depth_of.result _ c.in-Ok.plan (sym c.plan.ensures.plan ∙ c.in-Ok.is)).depth_is ∙ c.depth_of.ensures);
  decimals = c.requires.decimals;
}
