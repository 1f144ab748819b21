use Rattle.ray_fraction.proofs.Whereabouts.{have_no_gaps}
use Rattle.ray_fraction.proofs.laws.times_have_no_gaps.Goals as goal

pub returns : goal.returns
returns c = have_no_gaps
