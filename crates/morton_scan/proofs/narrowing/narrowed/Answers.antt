use Rattle.morton_scan.proofs.SmallerNodes.{narrowed_child, narrowed_on}
use Rattle.morton_scan.proofs.narrowing.narrowed.Goals as goal

pub loop-octant-preserved : goal.loop-octant-preserved
loop-octant-preserved c = (
  c.child-node.ensures.node,
  λ t is_bounds. narrowed_on c.args.grid.now t c.args.whole.now c.loop-octant.node c.child-node.result (c.loop-octant.invariant.1 t is_bounds)
      (narrowed_child c.args.grid.now t c.loop-octant.node c.child-node.result c.in-Some.octant c.loop-octant.invariant.0 c.in-Some.ensures.above c.in-Some.ensures.octant
      c.child-node.ensures.height c.child-node.ensures.code (c.in-Some.ensures.only t is_bounds)),
)
