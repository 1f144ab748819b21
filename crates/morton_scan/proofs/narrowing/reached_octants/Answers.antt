use Rattle.std.proofs.Common.{◌≡◌, ◌-◌, ap, ◌∙◌, arith}
use Rattle.octree_specs.specs.NodeCube.{node_cube}
use Rattle.morton_scan.specs.Reaching.{octants_of}
use Rattle.morton_scan.proofs.ReachedOctants.{unmet_octant}
use Rattle.morton_scan.proofs.narrowing.reached_octants.Goals as goal

pub returns-clause-unmet : goal.returns-clause-unmet
returns-clause-unmet c t is_bounds octant below fails =
    unmet_octant c.args.grid.now t c.args.node.now c.child.result c.args.bounds.now c.new.result octant c.requires.node c.requires.above below is_bounds
    c.child.ensures.node c.child.ensures.height c.child.ensures.code c.new.ensures fails

pub returns-clause-halves : goal.returns-clause-halves
returns-clause-halves c =
    let grid = c.args.grid.now in
    let child = c.child.result in
    let height : child.height ≡ c.args.node.now.height - 1 = omega (arith, c.child.ensures.height) in
    c.new.ensures ∙ ap (octants_of c.args.bounds.now) (c.child.ensures.node.is_cube ∙ (λ i. node_cube grid (grid.depth - height i) (c.child.ensures.code i)))
