use Rattle.morton_code.proofs.Children.{are_ranges}
use Rattle.morton_code.proofs.laws.nodes_are_ranges.Goals as goal

pub returns : goal.returns
returns c = are_ranges
