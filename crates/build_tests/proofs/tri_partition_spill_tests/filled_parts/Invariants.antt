-- The streams stay started.
use Rattle.std.proofs.Common.{◌≡◌}
use Rattle.build_tests.proofs.tri_partition_spill_tests.filled_parts.Given as goal

abbrev pub invariant-loop-part : goal.invariant-loop-part
invariant-loop-part g l = record { started : g.S.Scratch.started l.scratch ≡ g.S.Scratch.started l.fn.scratch }
