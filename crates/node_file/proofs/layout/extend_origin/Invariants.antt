-- The components so far are added.
use Rattle.std.proofs.Common.{◌≡◌, ◌++◌, ◌*◌, take}
use Rattle.std.specs.List.{flat_map}
use Rattle.std.specs.Int.{w64, cast_unsigned, to_le_bytes}
use Rattle.arrayvec.specs.ArrayVec.{array_vec_len}
use Rattle.node_file.proofs.layout.extend_origin.Given as goal

abbrev pub invariant-loop-component : goal.invariant-loop-component
invariant-loop-component l = record {
  items : l.bytes.items ≡ l.fn.bytes.items ++ flat_map (λ o. to_le_bytes w64 (cast_unsigned w64 o)) (take l.component-index l.origin);
  len : array_vec_len l.bytes ≡ 8 * l.component-index;
}
