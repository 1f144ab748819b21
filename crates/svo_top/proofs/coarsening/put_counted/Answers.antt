-- What is put out is of each map that the words stand for.
use Rattle.node_file.specs.declared.records.Totals.{Totals}
use Rattle.svo_top.proofs.MergedPairs.{coarse_stop}
use Rattle.svo_top.proofs.coarsening.put_counted.Goals as goal

pub returns-in-Err-clause-told : goal.returns-in-Err-clause-told
returns-in-Err-clause-told g c = coarse_stop Totals (Unit {0}) (g.R.Records.file c.args.nodes.now) c.args.levels _ _ c.in-Err.stop c.in-Err.ensures.told
