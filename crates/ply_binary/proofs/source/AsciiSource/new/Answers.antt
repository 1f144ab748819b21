use Rattle.std.proofs.Common.{arith}
use Rattle.ply_reader.specs.Declarations.{declared}
use Rattle.ply_binary.proofs.source.AsciiSource.new.Goals as goal

pub invariant_of-result : goal.invariant_of-result
invariant_of-result g c = record { within = omega arith; inside = c.new-3.ensures.inside (declared c.new-2.result) }
