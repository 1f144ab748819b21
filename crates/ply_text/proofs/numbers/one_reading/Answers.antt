use Rattle.ply_text.proofs.FixedNumbers.{fixed_reads}
use Rattle.ply_text.proofs.numbers.one_reading.Goals as goal

pub returns : goal.returns
returns c = fixed_reads
