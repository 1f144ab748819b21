use Rattle.std.proofs.Common.{◌≡◌, ◌+◌, ◌-◌, ◌*◌, ◌/◌, ◌%◌, ◌^◌, arith, ap, ◌∙◌}
use Rattle.std.specs.Prelude.{count_ones, bit_and}
use Rattle.std.proofs.lemmas.Nat.{one_shl, and_mask}
use Rattle.ray_walk.proofs.spots.child_number.Goals as goal

pub returns : goal.returns
returns c =
    let one : 1 * 2 ^ c.args.place % 2 ^ 64 ≡ 2 ^ c.args.place = one_shl c.args.place 64 (omega (arith, c.requires)) in
    ap (λ n. c.args.word / 256 + n) (c.from.ensures ∙ (ap (λ p. count_ones (bit_and c.args.word (p - 1))) one ∙ ap count_ones (and_mask c.args.word c.args.place)))
