-- A parcel for each part of the layers so far.
use Rattle.std.proofs.Common.{◌≡◌, ◌≤◌, ◌-◌}
use Rattle.std.specs.List.{flat_map, range_with_len}
use Rattle.tri_partition.specs.Partitioning.{Spills}
use Rattle.tri_partition.specs.PartRanges.{layer_parcels}
use Rattle.tri_partition.proofs.waiting.WaitingParcels.add_box.Given as goal

abbrev pub invariant-loop-z : goal.invariant-loop-z
invariant-loop-z g l = record {
  from : l.zs.from ≤ l.z;
  most : l.z - l.zs.from ≤ l.zs.to - l.zs.from;
  added : Spills (g.S.Scratch.told l.fn.scratch) (g.S.Scratch.told l.scratch) l.fn.self.waiting (flat_map (layer_parcels l.fn.self.levels l.fn.self.before l.parcel l.xs l.ys) (range_with_len l.zs.from (l.z - l.zs.from))) l.self.waiting;
  levels : l.self.levels ≡ l.fn.self.levels;
  before : l.self.before ≡ l.fn.self.before;
  started : g.S.Scratch.started l.scratch ≡ g.S.Scratch.started l.fn.scratch;
  asked : g.S.Scratch.asked l.scratch ≡ g.S.Scratch.asked l.fn.scratch;
  later : g.S.Scratch.faults l.fn.scratch ≤ g.S.Scratch.faults l.scratch;
}
