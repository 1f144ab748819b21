use Rattle.ply_binary.proofs.Readings.{since_now, rest_now}
use Rattle.ply_binary.proofs.reading.AsciiReading.new.Goals as goal

pub invariant_of-result : goal.invariant_of-result
invariant_of-result g c = record { since = ∣ since_now g.S.Start.told c.args.source c.requires.start c.requires.text ∣₁ }

pub returns-clause-rest : goal.returns-clause-rest
returns-clause-rest g c = rest_now g.S.Start.told c.args.source c.requires.start c.requires.text
