-- The bytes of the parcels so far.
use Rattle.std.proofs.Common.{◌≡◌, ◌*◌, length, take}
use Rattle.std.specs.List.{flat_map}
use Rattle.tri_partition.specs.Partitioning.{bytes_of}
use Rattle.tri_partition.proofs.pieces.write_parcels.Given as goal

abbrev pub invariant-loop-parcel : goal.invariant-loop-parcel
invariant-loop-parcel l = record {
  used : l.used ≡ 40 * l.parcel-index;
  written : take l.used l.block ≡ flat_map bytes_of (take l.parcel-index l.parcels);
  room : length l.block ≡ length l.fn.block;
}
