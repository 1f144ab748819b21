use Rattle.morton_code.proofs.Children.{cover_parent}
use Rattle.morton_code.proofs.laws.children_cover_their_parent.Goals as goal

pub returns : goal.returns
returns c = cover_parent
