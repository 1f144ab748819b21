use Rattle.std.proofs.Common.{arith}
use Rattle.morton_scan.proofs.Levels.{child_small}
use Rattle.morton_scan.proofs.Planes.{child_is_node}
use Rattle.morton_scan.proofs.nodes.Node.child.Goals as goal

pub overflow_mul-result : goal.overflow_mul-result
overflow_mul-result c = omega (arith, child_small c.args.grid.now c.args.self.now c.args.octant c.requires.node c.requires.above c.requires.octant)

pub overflow_add-result : goal.overflow_add-result
overflow_add-result c = omega (arith, child_small c.args.grid.now c.args.self.now c.args.octant c.requires.node c.requires.above c.requires.octant)

pub returns-clause-node : goal.returns-clause-node
returns-clause-node c =
    child_is_node c.args.grid.now c.args.self.now c.args.octant c.side-side.result _ _ _ c.plane-x.result c.plane-y.result c.plane-z.result c.plane.result c.plane-2.result c.plane-3.result
    c.side-side.ensures.limits c.requires.node c.requires.above c.requires.octant c.side-side.ensures.value (omega arith) (omega arith) (omega arith)
    c.plane-x.ensures.value c.plane-y.ensures.value c.plane-z.ensures.value c.plane.ensures.value c.plane-2.ensures.value c.plane-3.ensures.value
