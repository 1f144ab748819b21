-- The streams stay started.
use Rattle.std.proofs.Common.{◌≡◌}
use Rattle.build_tests.proofs.tri_partition_tests.fill.Given as goal

abbrev pub invariant-loop-face : goal.invariant-loop-face
invariant-loop-face g l = record { started : g.S.Scratch.started l.scratch ≡ 3 }
