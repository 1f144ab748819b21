use Rattle.std.proofs.Common.{◌++◌, length, drop, ap, sym, subst, ◌-◌, ◌∙◌}
use Rattle.std.specs.List.{list_all}
use Rattle.std.specs.Prelude.{◌==◌}
use Rattle.std.specs.Str.Parse.{AllDigits, digits_value}
use Rattle.ply_text.specs.NumeralParts.{capped}
use Rattle.ply_text.proofs.DigitRuns.{AllDigits-take, AllDigits-drop}
use Rattle.ply_text.proofs.Quotients.{cut_digits, zeros_value}
use Rattle.ply_text.proofs.sizes.divided.Goals as goal

pub value_of-requires : goal.value_of-requires
value_of-requires c = subst (AllDigits 10) (sym c.without_last.ensures.kept) (AllDigits-take (length (c.args.whole.now ++ c.args.fraction.now) - c.args.tens) (c.args.whole.now ++ c.args.fraction.now) c.requires)

pub returns-clause-size : goal.returns-clause-size
returns-clause-size c =
    let quotient = (cut_digits (c.args.whole.now ++ c.args.fraction.now) c.args.tens c.requires).0 in
    c.value_of.ensures ∙ ap (λ l. capped (digits_value 10 l)) c.without_last.ensures.kept ∙ ap capped quotient

pub returns-clause-is_whole : goal.returns-clause-is_whole
returns-clause-is_whole c =
    let rest = (cut_digits (c.args.whole.now ++ c.args.fraction.now) c.args.tens c.requires).1 in
    c.are_zeros.ensures
    ∙ ap (list_all (λ digit. digit == 48)) c.without_last.ensures.cut
    ∙ zeros_value (drop (length (c.args.whole.now ++ c.args.fraction.now) - c.args.tens) (c.args.whole.now ++ c.args.fraction.now)) (AllDigits-drop (length (c.args.whole.now ++ c.args.fraction.now) - c.args.tens) (c.args.whole.now ++ c.args.fraction.now) c.requires)
    ∙ ap (λ value. value == 0) rest
