-- What a walk keeps of a node.
use Rattle.std.specs.Prelude.{◌≡◌, ℕ, ◌+◌, ◌-◌, ◌*◌, ◌^◌, ◌<◌, ◌≤◌}
use Rattle.svo_base.specs.GridShape.{GridShape}
use Rattle.octree_specs.specs.Meeting.{HasPlanes}
use Rattle.octree_specs.specs.NodeCube.{node_cube}
use Rattle.morton_scan.specs.declared.nodes.Node.{Node}

-- the node stands in the grid, whose codes have at most 60 bits, and has its cube
pub record IsNode (grid : GridShape) (node : Node) : Type 0 where
  pub shallow : grid.depth ≤ 20
  pub within : node.height ≤ grid.depth
  pub below : node.code < 8 ^ (grid.depth - node.height)
  pub is_cube : node.cube ≡ node_cube grid (grid.depth - node.height) node.code
  pub planes : HasPlanes node.cube

-- all cells under a node have slots, of which there are so many from the first code on
pub record HasSlots (first count height code : ℕ) : Type 0 where
  pub from : first ≤ code * 8 ^ height
  pub to : (code + 1) * 8 ^ height ≤ first + count
