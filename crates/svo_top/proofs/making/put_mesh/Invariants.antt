use Rattle.std.proofs.Common.{◌≡◌, ◌≤◌, length}
use Rattle.svo_top.proofs.MadeBlocks.{IsPutting}
use Rattle.svo_top.proofs.making.put_mesh.Given as goal

abbrev pub invariant-loop-block : goal.invariant-loop-block
invariant-loop-block g l =
    IsPutting (g.O.ByteSink.written l.initial.out) (g.O.ByteSink.written l.out) l.initial.mesh l.mesh
    × (g.O.ByteSink.faults l.initial.out ≤ g.O.ByteSink.faults l.out)
    × (length l.block ≡ 4096)

abbrev pub decreases-loop-block : goal.decreases-loop-block
decreases-loop-block g l = length l.mesh
