use Rattle.std.proofs.Common.{ap, ◌∙◌}
use Rattle.std.specs.Str.Parse.{digits_value_after}
use Rattle.ply_text.specs.NumeralParts.{capped}
use Rattle.ply_text.proofs.DigitRuns.{AllDigits-front, AllDigits-back}
use Rattle.ply_text.proofs.CappedSizes.{capped_parts}
use Rattle.ply_text.proofs.sizes.value_of.Goals as goal

pub value_after-requires-clause-digits : goal.value_after-requires-clause-digits
value_after-requires-clause-digits c = AllDigits-front c.args.whole.now c.args.fraction.now c.requires

pub value_after-requires-2-clause-digits : goal.value_after-requires-2-clause-digits
value_after-requires-2-clause-digits c = AllDigits-back c.args.whole.now c.args.fraction.now c.requires

pub returns : goal.returns
returns c =
    c.value_after-2.ensures
    ∙ ap (λ before. capped (digits_value_after 10 before c.args.fraction.now)) c.value_after.ensures
    ∙ capped_parts c.args.whole.now c.args.fraction.now
