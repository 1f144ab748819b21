-- A parcel for each part of the row so far.
use Rattle.std.proofs.Common.{◌≡◌, ◌≤◌, ◌-◌, map}
use Rattle.std.specs.List.{range_with_len}
use Rattle.tri_partition.specs.Partitioning.{Spills}
use Rattle.tri_partition.specs.PartRanges.{parcel_to}
use Rattle.tri_partition.proofs.waiting.WaitingParcels.add_row.Given as goal

abbrev pub invariant-loop-x : goal.invariant-loop-x
invariant-loop-x g l = record {
  from : l.xs.from ≤ l.x;
  most : l.x - l.xs.from ≤ l.xs.to - l.xs.from;
  added : Spills (g.S.Scratch.told l.fn.scratch) (g.S.Scratch.told l.scratch) l.fn.self.waiting (map (parcel_to l.fn.self.levels l.fn.self.before l.parcel l.z l.y) (range_with_len l.xs.from (l.x - l.xs.from))) l.self.waiting;
  levels : l.self.levels ≡ l.fn.self.levels;
  before : l.self.before ≡ l.fn.self.before;
  started : g.S.Scratch.started l.scratch ≡ g.S.Scratch.started l.fn.scratch;
  asked : g.S.Scratch.asked l.scratch ≡ g.S.Scratch.asked l.fn.scratch;
  later : g.S.Scratch.faults l.fn.scratch ≤ g.S.Scratch.faults l.scratch;
}
