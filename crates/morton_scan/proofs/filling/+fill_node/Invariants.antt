-- The height falls. The children so far have their faces, by so many tests.
use Rattle.std.proofs.Common.{ℕ, Bool, ◌+◌, ◌-◌, ◌*◌, ◌≤◌}
use Rattle.bit_grid.specs.Touched.{AreTouched}
use Rattle.octree_specs.specs.Parts.{PassWhereMet}
use Rattle.morton_scan.specs.Putting.{ArePut, MetUnder}
use Rattle.morton_scan.proofs.Counting.{passing_children}
use Rattle.morton_scan.proofs.filling.+fill_node.Given as goal

abbrev pub decreases-fill_node : goal.decreases-fill_node
decreases-fill_node g l = l.whole.now.height

abbrev pub invariant-loop-octant : goal.invariant-loop-octant
invariant-loop-octant g l =
    ArePut (MetUnder l.grid l.put.triangle (l.node.height - 1) (8 * l.node.code) (8 * l.node.code + l.octant)) l.put.first l.put.face l.fn.slots l.slots
    × AreTouched l.slots l.blocks
    × ((test : ℕ → ℕ → Bool) → PassWhereMet l.grid l.put.triangle test → l.tests ≤ l.fn.tests + 1 + l.octant + 8 * passing_children test (l.node.height - 1) l.node.code l.octant)
