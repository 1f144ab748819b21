-- The parcels so far were appended.
use Rattle.std.proofs.Common.{◌≡◌, ◌≤◌, ◌-◌, length, take}
use Rattle.tri_partition.specs.Partitioning.{appended_known}
use Rattle.tri_partition.proofs.pool.append_runs.Given as goal

abbrev pub invariant-loop-from : goal.invariant-loop-from
invariant-loop-from g l = record {
  within : l.from ≤ length l.parcels;
  appended : g.S.Scratch.told l.scratch ≡ appended_known (g.S.Scratch.told l.fn.scratch) (take l.from l.parcels);
  started : g.S.Scratch.started l.scratch ≡ g.S.Scratch.started l.fn.scratch;
  asked : g.S.Scratch.asked l.scratch ≡ g.S.Scratch.asked l.fn.scratch;
  later : g.S.Scratch.faults l.fn.scratch ≤ g.S.Scratch.faults l.scratch;
}

abbrev pub decreases-loop-from : goal.decreases-loop-from
decreases-loop-from g l = length l.parcels - l.from
