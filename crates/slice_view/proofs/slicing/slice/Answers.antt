-- The header, and then the samples.
use Rattle.std.proofs.Common.{◌≡◌, ◌^◌, sym, ap, subst, ◌∙◌}
use Rattle.svo_base.specs.GridShape.{GridShape}
use Rattle.morton_code.proofs.Heights.{eight_pos}
use Rattle.node_file.specs.FileView.{FileView}
use Rattle.node_check.specs.declared.stops.AnswerStop.TheVariants.{Walk}
use Rattle.node_check.proofs.Walks.{root_leads}
use Rattle.slice_view.proofs.PutBands.{PutAll}
use Rattle.slice_view.proofs.Stopping.{stop_is}
use Rattle.slice_view.proofs.WholeSlices.{PutSlice, header_stops, root_stops, samples_put}
use Rattle.slice_view.proofs.slicing.slice.Goals as goal

pub returns-in_err-put_header-clause-told : goal.returns-in_err-put_header-clause-told
returns-in_err-put_header-clause-told g c =
    let deep : c.depth-depth.result ≡ (g.R.Records.file c.args.nodes.now).grid.depth = c.depth-depth.ensures.value ∙ ap (λ (s : GridShape). s.depth) c.grid.ensures.value in
    subst (PutSlice (g.R.Records.file c.args.nodes.now).words (g.R.Records.file c.args.nodes.now).format (g.R.Records.file c.args.nodes.now).grid.depth c.args.axis c.args.at (g.O.ByteSink.written c.args.out.now) (g.O.ByteSink.written c.put_header.new.out))
    (sym (stop_is c.from_residual.result c.in_err-put_header.field-0.0 c.from_residual.ensures))
    (header_stops (g.R.Records.file c.args.nodes.now).format (g.R.Records.file c.args.nodes.now).grid.depth c.args.axis c.args.at c.power-width.result (c.power-width.ensures.value ∙ ap (λ n. 2 ^ n) deep) (g.R.Records.file c.args.nodes.now).words (g.O.ByteSink.written c.args.out.now) (g.O.ByteSink.written c.put_header.new.out)
    c.in_err-put_header.field-0.0 c.in_err-put_header.ensures.told)

pub returns-in_err-root-clause-told : goal.returns-in_err-root-clause-told
returns-in_err-root-clause-told g c =
    let deep : c.depth-depth.result ≡ (g.R.Records.file c.args.nodes.now).grid.depth = c.depth-depth.ensures.value ∙ ap (λ (s : GridShape). s.depth) c.grid.ensures.value in
    root_stops (g.R.Records.file c.args.nodes.now).format (g.R.Records.file c.args.nodes.now).grid.depth c.args.axis c.args.at c.power-width.result (c.power-width.ensures.value ∙ ap (λ n. 2 ^ n) deep) (g.R.Records.file c.args.nodes.now).words (g.O.ByteSink.written c.args.out.now) (g.O.ByteSink.written c.put_header.new.out)
    c.in_err-root.field-0.0 c.from_residual-in_err-root.result (stop_is c.from_residual-in_err-root.result (Walk c.in_err-root.field-0.0) c.from_residual-in_err-root.ensures) c.in_err-root.ensures.real c.in_ok-put_header.ensures.told

pub returns-clause-told : goal.returns-clause-told
returns-clause-told g c =
    let deep : c.depth-depth.result ≡ (g.R.Records.file c.args.nodes.now).grid.depth = c.depth-depth.ensures.value ∙ ap (λ (s : GridShape). s.depth) c.grid.ensures.value in
    samples_put (g.R.Records.file c.args.nodes.now).format (g.R.Records.file c.args.nodes.now).grid.depth c.args.axis c.args.at c.power-width.result (c.power-width.ensures.value ∙ ap (λ n. 2 ^ n) deep) (g.R.Records.file c.args.nodes.now).words (g.O.ByteSink.written c.args.out.now) (g.O.ByteSink.written c.put_header.new.out) (g.O.ByteSink.written c.put_samples.new.out)
    c.in_ok-root.root.number c.put_samples.result (root_leads (g.R.Records.file c.args.nodes.now) c.grid.ensures.framed 0 c.in_ok-root.root.number (eight_pos (g.R.Records.file c.args.nodes.now).grid.depth) c.in_ok-root.ensures.last) c.in_ok-put_header.ensures.told
    (subst (λ d. PutAll (g.R.Records.file c.args.nodes.now).words (g.R.Records.file c.args.nodes.now).format d c.args.axis c.args.at c.in_ok-root.root.number (g.O.ByteSink.written c.put_header.new.out) (g.O.ByteSink.written c.put_samples.new.out) c.put_samples.result) deep
    (subst (λ (f : FileView). PutAll f.words f.format c.depth-depth.result c.args.axis c.args.at c.in_ok-root.root.number (g.O.ByteSink.written c.put_header.new.out) (g.O.ByteSink.written c.put_samples.new.out) c.put_samples.result) c.in_ok-root.ensures.same c.put_samples.ensures.told))
