-- The greys of the pixels so far are in the block.
use Rattle.std.proofs.Common.{◌≡◌, ◌+◌, ◌≤◌, List, length}
use Rattle.octree_specs.specs.Cells.{Cell}
use Rattle.ray_walk.specs.Answers.{TellsCells}
use Rattle.slice_view.specs.Greys.{AreGreys}
use Rattle.slice_view.proofs.viewing.fill.Given as goal

abbrev pub invariant-loop-pixel : goal.invariant-loop-pixel
invariant-loop-pixel g l = record {
  shown : (cells : List Cell) → TellsCells (g.R.Records.file l.fn.nodes) cells → AreGreys l.camera (g.R.Records.file l.fn.nodes).grid cells l.from l.block.items;
  full : l.from + length l.block.items ≡ l.pixel;
  same : g.R.Records.file l.nodes ≡ g.R.Records.file l.fn.nodes;
  lender : g.R.Records.lender l.nodes ≡ g.R.Records.lender l.fn.nodes;
  later : g.R.Records.faults l.fn.nodes ≤ g.R.Records.faults l.nodes;
}
