-- One component more.
use Rattle.std.proofs.Common.{◌≡◌, ap, ◌∙◌, ℤ, pos, take, get_or, length, ◌<◌, rules, arith}
use Rattle.std.specs.Int.{w64, cast_unsigned, to_le_bytes}
use Rattle.std.proofs.Math.Facts.{of_z-to_z, Fits-of_z}
use Rattle.std.proofs.Common.{to_z, SFits}
use Rattle.std.proofs.lemmas.List.{take_more, flat_map_more}
use Rattle.node_file.proofs.layout.extend_origin.Goals as goal

pub loop-component-preserved : goal.loop-component-preserved
loop-component-preserved c =
    let component : ℤ = get_or c.args.origin.now c.loop-component.component-index (pos 0) in
    let fits : SFits w64 component = search rules in
    let same : cast_unsigned w64 (to_z w64 (cast_unsigned w64 component)) ≡ cast_unsigned w64 component = of_z-to_z (Fits-of_z fits) in
    let piece : c.to_le_bytes.result ≡ to_le_bytes w64 (cast_unsigned w64 (to_z w64 (cast_unsigned w64 component))) = c.to_le_bytes.ensures in
    let within : c.loop-component.component-index < length c.args.origin.now = omega arith in
    record {
      items =
          c.extend.ensures.items
          ∙ rw (piece, same, c.loop-component.invariant.items, take_more c.args.origin.now c.loop-component.component-index (pos 0) within)
          (flat_map_more (λ (o : ℤ). to_le_bytes w64 (cast_unsigned w64 o)) c.args.bytes.now.items (take c.loop-component.component-index c.args.origin.now) component);
      len = omega (arith, c.extend.ensures.len, c.loop-component.invariant.len, ap length piece);
    }
