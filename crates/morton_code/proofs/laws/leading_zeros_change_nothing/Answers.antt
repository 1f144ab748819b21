use Rattle.morton_code.proofs.Children.{ignores_leading_zeros}
use Rattle.morton_code.proofs.laws.leading_zeros_change_nothing.Goals as goal

pub returns : goal.returns
returns c = ignores_leading_zeros
