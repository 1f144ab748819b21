use Rattle.ply_text.proofs.NumeralLaws.{one_numeral}
use Rattle.ply_text.proofs.numbers.one_numeral.Goals as goal

pub returns : goal.returns
returns c = one_numeral
