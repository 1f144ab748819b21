-- Both files are framed.
use Rattle.node_merge.proofs.Turns.{turn_framed}
use Rattle.node_merge.proofs.pairs.Pair.frame.Goals as goal

pub returns-in-First-clause-framed : goal.returns-in-First-clause-framed
returns-in-First-clause-framed g c = turn_framed c.args.turn c.args.self.now

pub returns-in-Second-clause-framed : goal.returns-in-Second-clause-framed
returns-in-Second-clause-framed g c = turn_framed c.args.turn c.args.self.now
