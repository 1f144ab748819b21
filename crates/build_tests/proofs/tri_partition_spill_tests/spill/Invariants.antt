-- The partition keeps its split.
use Rattle.std.proofs.Common.{◌≡◌}
use Rattle.build_tests.proofs.tri_partition_spill_tests.spill.Given as goal

abbrev pub invariant-loop-corners : goal.invariant-loop-corners
invariant-loop-corners g l = record {
  split : l.partition.split ≡ l.fn.split;
  started : g.S.Scratch.started l.scratch ≡ g.S.Scratch.started l.fn.scratch;
}
