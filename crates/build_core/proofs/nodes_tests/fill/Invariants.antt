-- All streams stay started.
use Rattle.std.proofs.Common.{◌≡◌}
use Rattle.build_core.proofs.nodes_tests.fill.Given as goal

abbrev pub invariant-loop-stream : goal.invariant-loop-stream
invariant-loop-stream g l = record { started : g.S.Scratch.started l.scratch ≡ 9 }
