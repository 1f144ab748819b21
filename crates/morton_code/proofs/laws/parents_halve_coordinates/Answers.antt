use Rattle.morton_code.proofs.Children.{halves_coordinates}
use Rattle.morton_code.proofs.laws.parents_halve_coordinates.Goals as goal

pub returns : goal.returns
returns c = halves_coordinates
