use Rattle.ray_fraction.proofs.Whereabouts.{bounded_by_entries}
use Rattle.ray_fraction.proofs.laws.entries_bound_times.Goals as goal

pub returns : goal.returns
returns c = bounded_by_entries
