use Rattle.ply_text.proofs.ReadNumbers.{bounds_read, number_read}
use Rattle.ply_text.proofs.numbers.read_decimal.Goals as goal

pub scale-quotient-requires-clause-within : goal.scale-quotient-requires-clause-within
scale-quotient-requires-clause-within c = bounds_read c.args.token.now c.in-Some.parts c.requires.short c.in-Some.ensures.found

pub returns-clause-reads : goal.returns-clause-reads
returns-clause-reads c =
    number_read c.args.token.now c.in-Some.parts c.args.decimals c.scale-quotient.result.size c.scale-quotient.result.is_whole c.args.cut c.settle.result c.in-Some.ensures.found c.scale-quotient.ensures.size c.scale-quotient.ensures.is_whole c.settle.ensures.number
