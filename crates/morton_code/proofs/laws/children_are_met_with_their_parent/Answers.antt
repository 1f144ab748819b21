use Rattle.morton_code.proofs.Children.{meet_together}
use Rattle.morton_code.proofs.laws.children_are_met_with_their_parent.Goals as goal

pub returns : goal.returns
returns c = meet_together
