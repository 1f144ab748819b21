use Rattle.std.proofs.Common.{◌+◌, ◌-◌, ◌*◌, ◌^◌, ◌++◌, ◌≤◌, length, arith, ap, sym, ◌∙◌}
use Rattle.std.specs.Prelude.{◌==◌}
use Rattle.std.specs.Str.Parse.{digits_value}
use Rattle.ply_text.specs.NumeralParts.{capped}
use Rattle.ply_text.proofs.CappedSizes.{capped_times}
use Rattle.ply_text.proofs.Quotients.{raised_quotient, lowered_quotient}
use Rattle.ply_text.proofs.sizes.scale.Goals as goal

pub returns-then-up-down-clause-size : goal.returns-then-up-down-clause-size
returns-then-up-down-clause-size c =
    let value = digits_value 10 (c.args.parts.now.whole.now ++ c.args.parts.now.fraction.now) in
    let up = c.args.decimals + c.args.parts.now.tens.up in
    let down = length c.args.parts.now.fraction.now + c.args.parts.now.tens.down in
    c.multiplied.ensures
    ∙ ap (λ size. capped (size * 10 ^ (up - down))) c.value_of.ensures
    ∙ capped_times value (up - down)
    ∙ ap capped (sym (raised_quotient value up down c.if-up-down.true).0)

pub returns-then-up-down-clause-is_whole : goal.returns-then-up-down-clause-is_whole
returns-then-up-down-clause-is_whole c =
    let value = digits_value 10 (c.args.parts.now.whole.now ++ c.args.parts.now.fraction.now) in
    let up = c.args.decimals + c.args.parts.now.tens.up in
    let down = length c.args.parts.now.fraction.now + c.args.parts.now.tens.down in
    sym (ap (λ rest. rest == 0) (raised_quotient value up down c.if-up-down.true).1)

pub returns-else-up-down-clause-size : goal.returns-else-up-down-clause-size
returns-else-up-down-clause-size c =
    let value = digits_value 10 (c.args.parts.now.whole.now ++ c.args.parts.now.fraction.now) in
    let up = c.args.decimals + c.args.parts.now.tens.up in
    let down = length c.args.parts.now.fraction.now + c.args.parts.now.tens.down in
    let few : up ≤ down = omega (arith, c.if-up-down.false) in
    c.divided.ensures.size ∙ ap capped (sym (lowered_quotient value up down few).0)

pub returns-else-up-down-clause-is_whole : goal.returns-else-up-down-clause-is_whole
returns-else-up-down-clause-is_whole c =
    let value = digits_value 10 (c.args.parts.now.whole.now ++ c.args.parts.now.fraction.now) in
    let up = c.args.decimals + c.args.parts.now.tens.up in
    let down = length c.args.parts.now.fraction.now + c.args.parts.now.tens.down in
    let few : up ≤ down = omega (arith, c.if-up-down.false) in
    c.divided.ensures.is_whole ∙ sym (lowered_quotient value up down few).1
