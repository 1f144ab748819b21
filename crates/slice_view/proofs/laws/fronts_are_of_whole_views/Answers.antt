use Rattle.slice_view.proofs.OneView.{fronts_of_views}
use Rattle.slice_view.proofs.laws.fronts_are_of_whole_views.Goals as goal

pub returns : goal.returns
returns c = fronts_of_views
