use Rattle.std.proofs.Common.{◌∙◌, ap, Some, subst, sym}
use Rattle.dev_traits.specs.Change.{change_of, scratch_change_of}
use Rattle.svo_top.proofs.MadeSums.{made_built, made_spilled, never_rose}
use Rattle.svo_top.proofs.summing.build_made.Goals as goal

pub returns-in-Ok : goal.returns-in-Ok
returns-in-Ok g c = made_built c.args.words.now c.args.job.now _ _ _ c.requires.named (ap Some c.requires.text) c.in-Ok.built c.in-Ok.ensures.builds

pub returns-in-Err : goal.returns-in-Err
returns-in-Err g c = made_spilled c.args.words.now c.args.job.now _ _ _ c.requires.named (ap Some c.requires.text) never_rose never_rose c.in-Err.field-0 _ c.in-Err.ensures.builds
