-- How a merge ends is read off its ending.
use Rattle.dev_traits.specs.Change.{change_of}
use Rattle.svo_top.proofs.MergedPairs.{stops_of}
use Rattle.svo_top.proofs.merging.merge_files.Goals as goal

pub returns-clause-stops : goal.returns-clause-stops
returns-clause-stops g c =
    let out = change_of g.O.ByteSink.written g.O.ByteSink.faults c.args.out.now c.merge_named.new.out in
    stops_of out _ _ c.merge_named.result c.merge_named.ensures.ends

pub returns-clause-write : goal.returns-clause-write
returns-clause-write g c = c.merge_named.ensures.ends.written

pub returns-clause-nodes : goal.returns-clause-nodes
returns-clause-nodes g c = c.merge_named.ensures.ends.looked
