use Rattle.std.proofs.Common.{Some, ap, ◌∙◌, ◌∷◌}
use Rattle.ply_text.specs.Scaled.{unless_minus, if_minus}
use Rattle.ply_text.proofs.numerals.read_exponent.Goals as goal

pub returns-clause-found : goal.returns-clause-found
returns-clause-found c =
    let count = c.in_ok-sign.ensures.found in
    record {
      exponent = Some (record { letter = c.in-Some.letter.now; sign = c.in_ok-sign.sign; digits = count.digits });
      good = record { letter = c.if-not-is_exponent_letter.ensures; power = count.good };
      spelled = c.in-Some.ensures.cases.0 ∙ ap (λ rest. c.in-Some.letter.now ∷ rest) count.spelled;
      up = c.tens_of.ensures.up ∙ ap (unless_minus c.in_ok-sign.sign) count.number;
      down = c.tens_of.ensures.down ∙ ap (if_minus c.in_ok-sign.sign) count.number;
    }
