-- A parcel for each part of the rows so far.
use Rattle.std.proofs.Common.{◌≡◌, ◌≤◌, ◌-◌}
use Rattle.std.specs.List.{flat_map, range_with_len}
use Rattle.tri_partition.specs.Partitioning.{Spills}
use Rattle.tri_partition.specs.PartRanges.{row_parcels}
use Rattle.tri_partition.proofs.waiting.WaitingParcels.add_layer.Given as goal

abbrev pub invariant-loop-y : goal.invariant-loop-y
invariant-loop-y g l = record {
  from : l.ys.from ≤ l.y;
  most : l.y - l.ys.from ≤ l.ys.to - l.ys.from;
  added : Spills (g.S.Scratch.told l.fn.scratch) (g.S.Scratch.told l.scratch) l.fn.self.waiting (flat_map (row_parcels l.fn.self.levels l.fn.self.before l.parcel l.xs l.z) (range_with_len l.ys.from (l.y - l.ys.from))) l.self.waiting;
  levels : l.self.levels ≡ l.fn.self.levels;
  before : l.self.before ≡ l.fn.self.before;
  started : g.S.Scratch.started l.scratch ≡ g.S.Scratch.started l.fn.scratch;
  asked : g.S.Scratch.asked l.scratch ≡ g.S.Scratch.asked l.fn.scratch;
  later : g.S.Scratch.faults l.fn.scratch ≤ g.S.Scratch.faults l.scratch;
}
