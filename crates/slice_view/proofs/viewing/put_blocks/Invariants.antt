-- The greys so far were put out; the pixels that are left become fewer.
use Rattle.std.proofs.Common.{◌≡◌, ◌-◌, ◌≤◌, List}
use Rattle.octree_specs.specs.Cells.{Cell}
use Rattle.ray_walk.specs.Answers.{TellsCells}
use Rattle.slice_view.proofs.ViewPuts.{PutSoFar}
use Rattle.slice_view.proofs.viewing.put_blocks.Given as goal

abbrev pub invariant-loop-from : goal.invariant-loop-from
invariant-loop-from g l = record {
  told : (cells : List Cell) → TellsCells (g.R.Records.file l.fn.nodes) cells → PutSoFar l.camera (g.R.Records.file l.fn.nodes).grid cells l.from (g.O.ByteSink.written l.fn.out) (g.O.ByteSink.written l.out);
  within : l.from ≤ l.count;
  same : g.R.Records.file l.nodes ≡ g.R.Records.file l.fn.nodes;
  lender : g.R.Records.lender l.nodes ≡ g.R.Records.lender l.fn.nodes;
  later : g.R.Records.faults l.fn.nodes ≤ g.R.Records.faults l.nodes;
  out_later : g.O.ByteSink.faults l.fn.out ≤ g.O.ByteSink.faults l.out;
}

abbrev pub decreases-loop-from : goal.decreases-loop-from
decreases-loop-from g l = l.count - l.from
