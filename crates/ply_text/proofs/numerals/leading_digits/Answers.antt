use Rattle.std.proofs.lemmas.Int.Digits.{digits_more}
use Rattle.ply_text.proofs.numerals.leading_digits.Goals as goal

pub loop-at-preserved : goal.loop-at-preserved
loop-at-preserved c = digits_more 10 c.args.text.now c.loop-at.at c.loop-at-test.true c.loop-at.invariant c.if-not-is_ascii_digit.ensures.bound
