-- The height falls, and the node may take the first one's place.
use Rattle.std.proofs.Common.{◌≡◌}
use Rattle.svo_base.specs.declared.shapes.Triangle.{Triangle}
use Rattle.morton_scan.specs.Narrowing.{IsNarrowed}
use Rattle.morton_scan.specs.Nodes.{IsNode}
use Rattle.svo_base.specs.Boxes.{bounds_of}
use Rattle.morton_scan.proofs.narrowing.narrowed.Given as goal

abbrev pub invariant-loop-octant : goal.invariant-loop-octant
invariant-loop-octant l = IsNode l.grid l.node × ((t : Triangle) → l.bounds ≡ bounds_of t → IsNarrowed l.grid t l.whole l.node)

abbrev pub decreases-loop-octant : goal.decreases-loop-octant
decreases-loop-octant l = l.node.height
