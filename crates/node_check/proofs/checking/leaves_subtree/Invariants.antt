-- The leaves before the place are lawful, and what is left of them says what all come to.
use Rattle.std.proofs.Common.{◌*◌, ◌≤◌}
use Rattle.octree_specs.specs.Checking.{rule_of}
use Rattle.node_check.specs.Verdicts.{leaf_among}
use Rattle.node_check.proofs.Recursion.{IsLeft}
use Rattle.node_check.proofs.checking.leaves_subtree.Given as goal

abbrev pub invariant-loop-place : goal.invariant-loop-place
invariant-loop-place l = record {
  left : IsLeft (leaf_among (rule_of l.format) l.siblings l.base) l.base l.count l.at l.place l.at l.cells;
  few : l.cells ≤ 8 * l.place;
}
