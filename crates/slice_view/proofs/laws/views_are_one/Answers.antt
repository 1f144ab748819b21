use Rattle.slice_view.proofs.OneView as one
use Rattle.slice_view.proofs.laws.views_are_one.Goals as goal

pub returns : goal.returns
returns c = one.views_are_one
