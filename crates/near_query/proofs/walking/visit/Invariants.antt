-- What holds after so many children, whatever the words are, and where they lead to cells.
use Rattle.std.proofs.Common.{ℕ, List}
use Rattle.octree_specs.specs.Cells.{Cell}
use Rattle.near_query.specs.Frontiers.{IsOnTree}
use Rattle.near_query.proofs.Seeing.{IsTold}
use Rattle.near_query.proofs.UnderWay.{IsUnderWay}
use Rattle.near_query.proofs.walking.visit.Given as goal

abbrev pub invariant-loop-place : goal.invariant-loop-place
invariant-loop-place l =
    IsUnderWay l.measure.point l.measure.grid l.node l.fn.waiting l.place l.best l.waiting
    × ((words : List ℕ) (cells : List Cell) → IsOnTree words cells l.node l.word → IsTold words cells l.measure.point l.measure.grid l.node l.fn.known l.fn.waiting l.place l.best l.waiting)
