-- A node whose cells that a triangle meets all lie under a smaller one.
use Rattle.std.specs.Prelude.{◌≡◌, ℕ, ◌+◌, ◌-◌, ◌*◌, ◌<◌, ◌≤◌, Bool, true}
use Rattle.svo_base.specs.GridShape.{GridShape}
use Rattle.svo_base.specs.declared.shapes.Triangle.{Triangle}
use Rattle.octree_specs.specs.Meeting.{Meets}
use Rattle.octree_specs.specs.NodeCube.{node_cube}
use Rattle.octree_specs.specs.Parts.{passing}
use Rattle.morton_scan.specs.Nodes.{HasSlots}
use Rattle.morton_scan.specs.Putting.{MetUnder}
use Rattle.morton_scan.specs.Reaching.{octants_of, has_octant, HasOther}
use Rattle.svo_base.specs.declared.boxes.Bounds.{Bounds}
use Rattle.morton_scan.specs.declared.nodes.Node.{Node}
use Rattle.morton_scan.specs.declared.octants.Octants.{Octants}

-- the triangle does not meet a node's child at this place among its siblings
abbrev pub IsChildUnmet : GridShape → Triangle → Node → ℕ → Type 0
IsChildUnmet grid t node octant = Meets t (node_cube grid (grid.depth - (node.height - 1)) (8 * node.code + octant)) → ⊥

-- the cells under both that the triangle meets are the same, those of the smaller one have slots where those of the greater one have, and no more nodes pass a test under it
pub record IsNarrowed (grid : GridShape) (t : Triangle) (whole narrow : Node) : Type 0 where
  pub lower : narrow.height ≤ whole.height
  pub there : (code : ℕ) → MetUnder grid t whole.height whole.code (whole.code + 1) code → MetUnder grid t narrow.height narrow.code (narrow.code + 1) code
  pub back : (code : ℕ) → MetUnder grid t narrow.height narrow.code (narrow.code + 1) code → MetUnder grid t whole.height whole.code (whole.code + 1) code
  pub slots : (first count : ℕ) → HasSlots first count whole.height whole.code → HasSlots first count narrow.height narrow.code
  pub fewer : (test : ℕ → ℕ → Bool) → passing test narrow.height narrow.code ≤ passing test whole.height whole.code

-- which children of a node a box reaches: its last child begins in the middle
abbrev pub reached_of : GridShape → Bounds → Node → Octants
reached_of grid bounds node = octants_of bounds (node_cube grid (grid.depth - (node.height - 1)) (8 * node.code + 7))

-- no child of the node is reached alone: beside each one that is reached there is another
pub record IsSmallest (grid : GridShape) (bounds : Bounds) (node : Node) : Type 0 where
  pub others : 0 < node.height → (octant : ℕ) → octant < 8 → has_octant (reached_of grid bounds node) octant ≡ true → HasOther (reached_of grid bounds node) octant
