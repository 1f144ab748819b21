use Rattle.std.proofs.Math.Logic.{∥∥₁_map}
use Rattle.ply_binary.proofs.Readings.{since_read}
use Rattle.ply_binary.proofs.reading.AsciiReadingByteSource.read.Goals as goal

pub invariant_of-self : goal.invariant_of-self
invariant_of-self g c = record { since = ∥∥₁_map c.args.self.now.since (λ since. since_read g.S.Start.told c.args.self.now.source c.read.new.self c.read.result c.read.new.into since c.read.ensures.moves) }
