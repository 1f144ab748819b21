use Rattle.std.proofs.Common.{◌≡◌, ◌+◌, ◌-◌, arith, ap, ◌∙◌}
use Rattle.octree_specs.specs.NodeCube.{node_cube}
use Rattle.ray_fraction.specs.Crossings.{box_of}
use Rattle.near_query.proofs.Halving.{halved}
use Rattle.near_query.proofs.measures.Measure.octants.Goals as goal

pub returns : goal.returns
returns c =
    let point = c.args.self.now.point in
    let grid = c.args.self.now.grid in
    let cube = c.cube_of-cube.result in
    let level : c.depth.result - c.args.height ≡ grid.depth - ((c.args.height - 1) + 1) = ap (λ d. d - c.args.height) c.depth.ensures.value ∙ omega (arith, c.requires.above) in
    let is : cube ≡ box_of grid ((c.args.height - 1) + 1) c.args.code = c.cube_of-cube.ensures.cube ∙ ap (λ l. node_cube grid l c.args.code) level in
    record {
      x = halved point grid (c.args.height - 1) c.args.code 0 cube c.new.result (omega (arith, c.requires.above, c.requires.within)) (omega arith) is c.new.ensures.value;
      y = halved point grid (c.args.height - 1) c.args.code 1 cube c.new-2.result (omega (arith, c.requires.above, c.requires.within)) (omega arith) is c.new-2.ensures.value;
      z = halved point grid (c.args.height - 1) c.args.code 2 cube c.new-3.result (omega (arith, c.requires.above, c.requires.within)) (omega arith) is c.new-3.ensures.value;
      small_x = c.new.ensures.small;
      small_y = c.new-2.ensures.small;
      small_z = c.new-3.ensures.small;
    }
