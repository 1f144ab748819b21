use Rattle.slice_view.proofs.ViewGreys.{grey_shown}
use Rattle.slice_view.proofs.pixels.grey.Goals as goal

pub returns-in-Ok-clause-grey : goal.returns-in-Ok-clause-grey
returns-in-Ok-clause-grey g c cells tells =
    grey_shown c.args.camera.now (g.R.Records.file c.args.nodes.now).grid cells c.args.pixel c.width-width.result c.far.result c.in-Ok.ray c.ray_grey.result c.width-width.ensures.value c.far.ensures.value
    c.in-Ok.ensures (c.ray_grey.ensures.grey cells tells)
