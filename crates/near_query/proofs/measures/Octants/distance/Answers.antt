use Rattle.near_query.proofs.Halving.{added_up}
use Rattle.near_query.proofs.measures.Octants.distance.Goals as goal

pub returns : goal.returns
returns c = added_up c.args.self.now c.args.place c.side.result c.side-2.result c.side-3.result c.requires.place c.side.ensures.value c.side-2.ensures.value c.side-3.ensures.value
