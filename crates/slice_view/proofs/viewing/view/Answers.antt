-- The header, and then the greys.
use Rattle.std.proofs.Common.{Ok, Err, sym, subst}
use Rattle.std.specs.Prelude.{⊤}
use Rattle.slice_view.specs.Views.{PutsView}
use Rattle.slice_view.proofs.ViewPuts.{err_is, header_of, puts_header, puts_view}
use Rattle.slice_view.proofs.viewing.view.Goals as goal

pub returns-in_err-put_header-clause-told : goal.returns-in_err-put_header-clause-told
returns-in_err-put_header-clause-told g c cells tells =
    let before = g.O.ByteSink.written c.args.out.now in
    let after = g.O.ByteSink.written c.put_header.new.out in
    subst (PutsView {T = ⊤} c.args.camera.now (g.R.Records.file c.args.nodes.now).grid cells before after) (sym (err_is c.from_residual.result c.in_err-put_header.field-0.0 c.from_residual.ensures))
    (puts_header c.args.camera.now (g.R.Records.file c.args.nodes.now).grid cells before after c.in_err-put_header.field-0.0
    (header_of c.args.camera.now c.width.result c.height.result before after (Err c.in_err-put_header.field-0.0) c.width.ensures.value c.height.ensures.value c.in_err-put_header.ensures.told))

pub returns-clause-told : goal.returns-clause-told
returns-clause-told g c cells tells =
    let before = g.O.ByteSink.written c.args.out.now in
    let middle = g.O.ByteSink.written c.put_header.new.out in
    puts_view c.args.camera.now (g.R.Records.file c.args.nodes.now).grid cells before middle (g.O.ByteSink.written c.put_pixels.new.out) c.put_pixels.result
    (header_of c.args.camera.now c.width.result c.height.result before middle (Ok tt) c.width.ensures.value c.height.ensures.value c.in_ok-put_header.ensures.told)
    (c.put_pixels.ensures.told cells tells)
