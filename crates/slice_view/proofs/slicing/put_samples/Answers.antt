-- Band after band, from the top.
use Rattle.std.proofs.Common.{◌-◌, ◌^◌, ◌<◌, Ok, Err, sym, ap, subst, ◌∙◌, arith}
use Rattle.node_file.specs.FileView.{FileView}
use Rattle.slice_view.proofs.PutBands.{PutAll, PutBand, put_more, put_stops, put_last, all_bands}
use Rattle.slice_view.proofs.Stopping.{stop_is}
use Rattle.slice_view.proofs.slicing.put_samples.Goals as goal

pub returns-in_err-put_band-clause-told : goal.returns-in_err-put_band-clause-told
returns-in_err-put_band-clause-told g c =
    subst
    (PutAll (g.R.Records.file c.args.nodes.now).words (g.R.Records.file c.args.nodes.now).format c.args.depth c.args.axis c.args.at c.args.root.now.number (g.O.ByteSink.written c.args.out.now) (g.O.ByteSink.written c.put_band.new.out))
    (sym (stop_is c.from_residual.result c.in_err-put_band.field-0.0 c.from_residual.ensures))
    (put_stops (g.R.Records.file c.args.nodes.now).format c.args.depth c.args.axis c.args.at c.args.root.now.number (g.R.Records.file c.args.nodes.now).words (g.O.ByteSink.written c.args.out.now) (g.O.ByteSink.written c.loop-number.out)
    (g.O.ByteSink.written c.put_band.new.out) c.loop-number.number c.band_of-band.result c.in_err-put_band.field-0.0 c.band_of-band.ensures.rows
    (subst (λ n. c.loop-number.number < n) (c.power-number-end.ensures.value ∙ ap (λ n. 2 ^ (c.args.depth - n)) c.band_height.ensures) c.loop-number-test.true) c.loop-number.invariant.given
    (subst (λ (f : FileView). PutBand f.words f.format c.band_of-band.result c.args.root.now.number (g.O.ByteSink.written c.loop-number.out) (g.O.ByteSink.written c.put_band.new.out) (Err c.in_err-put_band.field-0.0))
    c.loop-number.invariant.same c.in_err-put_band.ensures.told))

pub loop-number-preserved : goal.loop-number-preserved
loop-number-preserved g c = record {
  given = put_more (g.R.Records.file c.args.nodes.now).format c.args.depth c.args.axis c.args.at c.args.root.now.number (g.R.Records.file c.args.nodes.now).words (g.O.ByteSink.written c.args.out.now) (g.O.ByteSink.written c.loop-number.out)
      (g.O.ByteSink.written c.put_band.new.out) c.loop-number.number c.band_of-band.result c.band_of-band.ensures.rows c.loop-number.invariant.given
      (subst (λ (f : FileView). PutBand f.words f.format c.band_of-band.result c.args.root.now.number (g.O.ByteSink.written c.loop-number.out) (g.O.ByteSink.written c.put_band.new.out) (Ok tt))
      c.loop-number.invariant.same c.in_ok-put_band.ensures.told);
  looked = omega (arith, c.loop-number.invariant.looked, c.in_ok-put_band.ensures.looked);
  same = c.in_ok-put_band.ensures.same ∙ c.loop-number.invariant.same;
  lender = c.in_ok-put_band.ensures.lender ∙ c.loop-number.invariant.lender;
  later = omega (arith, c.loop-number.invariant.later, c.in_ok-put_band.ensures.cause.nodes_later);
  out_later = omega (arith, c.loop-number.invariant.out_later, c.in_ok-put_band.ensures.cause.out_later);
}

pub returns-clause-told : goal.returns-clause-told
returns-clause-told g c =
    put_last (g.R.Records.file c.args.nodes.now).format c.args.depth c.args.axis c.args.at c.args.root.now.number (g.R.Records.file c.args.nodes.now).words (g.O.ByteSink.written c.args.out.now) (g.O.ByteSink.written c.loop-number.out)
    c.loop-number.number (all_bands c.loop-number.number c.power-number-end.result c.args.depth c.band_height.result c.power-number-end.ensures.value c.band_height.ensures (omega (arith, c.loop-number-test.false, c.loop-number.auto.number-end))) c.loop-number.invariant.given
