-- Coordinates and the face.
use Rattle.std.proofs.Common.{◌≡◌, length, rules}
use Rattle.tri_partition.proofs.PieceBytes.{parcel_written}
use Rattle.tri_partition.proofs.pieces.parcel_bytes.Goals as goal

pub returns : goal.returns
returns c =
    let nine : length c.args.parcel.now.corners ≡ 9 = search rules in
    parcel_written c.args.parcel.now c.write_i32_into.new.dst c.write_u32.new.buf nine c.write_i32_into.auto.dst c.write_i32_into.ensures c.write_u32.ensures
