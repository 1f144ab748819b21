-- Nine numbers, each where it stands.
use Rattle.std.proofs.Common.{◌≡◌, ◌-◌, ℕ, pos, List, length, take, drop, arith, sym, ap, ◌∙◌}
use Rattle.std.specs.Int.{w32, cast_signed}
use Rattle.std.proofs.lemmas.List.{length-take-le, take_all, length-drop}
use Rattle.byteorder.specs.Endian.{little_number}
use Rattle.room_plan.proofs.Numbers.{number_in_front}
use Rattle.tri_partition.proofs.Numbers.{parcel_is}
use Rattle.tri_partition.proofs.pieces.read_parcel.Goals as goal

pub slice_bounds-read_i32_into-end : goal.slice_bounds-read_i32_into-end
slice_bounds-read_i32_into-end c = sym (length-take-le 36 c.args.bytes.now (omega (arith, c.requires)))

pub read_i32_into-requires : goal.read_i32_into-requires
read_i32_into-requires c = length-take-le 36 c.args.bytes.now (omega (arith, c.requires))

pub returns-clause-faced : goal.returns-clause-faced
returns-clause-faced c =
    let bytes : List ℕ = c.args.bytes.now in
    let last : take (length bytes - 36) (drop 36 bytes) ≡ drop 36 bytes = take_all (length bytes - 36) (drop 36 bytes) (omega (arith, length-drop 36 bytes)) in
    parcel_is (record { corners = c.read_i32_into.new.dst; face = c.read_u32.result; part = c.args.part }) bytes
    (λ k lt. c.read_i32_into.ensures (pos 0) k (omega (arith, lt, c.read_i32_into.auto.dst))
    ∙ ap (cast_signed w32) (number_in_front 36 k bytes (omega arith) (omega (arith, c.requires))))
    (c.read_u32.ensures ∙ ap (little_number 4) last)
