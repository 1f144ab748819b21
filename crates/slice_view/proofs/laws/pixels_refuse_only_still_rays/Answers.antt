use Rattle.slice_view.proofs.StillRays.{refused_only_still}
use Rattle.slice_view.proofs.laws.pixels_refuse_only_still_rays.Goals as goal

pub returns : goal.returns
returns c = refused_only_still
