-- The root is read, and kept at each height.
use Rattle.std.proofs.Common.{ap, ◌∙◌}
use Rattle.svo_base.specs.GridShape.{GridShape}
use Rattle.node_check.proofs.cursor.CellWalk.new.Goals as goal

pub returns-clause-on : goal.returns-clause-on
returns-clause-on g c = record {
  framed = c.grid.ensures.framed;
  deep = c.depth-depth.ensures.value ∙ ap (λ (s : GridShape). s.depth) c.grid.ensures.value;
  root = c.in_ok-root.ensures.word;
  last = c.in_ok-root.ensures.last;
  kept = c.at.ensures (g.R.Records.file c.args.nodes.now).words (g.R.Records.file c.args.nodes.now).totals.records c.in_ok-root.ensures.word;
}
