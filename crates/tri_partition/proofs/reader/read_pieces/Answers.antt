-- A size is a number of whole pieces, of at most what fits and what is left.
use Rattle.std.proofs.Common.{◌/◌, arith}
use Rattle.tri_partition.proofs.reader.read_pieces.Goals as goal

pub returns-clause-size : goal.returns-clause-size
returns-clause-size g c = (omega (arith, c.min.ensures), omega (arith, c.min.ensures), (c.min.result / 40, omega arith))
