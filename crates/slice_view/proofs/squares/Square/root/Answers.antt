-- All places are 0.
use Rattle.slice_view.proofs.ChildSquares.{root_square}
use Rattle.slice_view.proofs.squares.Square.root.Goals as goal

pub returns-clause-square : goal.returns-clause-square
returns-clause-square c = root_square c.args.axis c.args.depth
