-- A grey after another; a walk that failed is handed on.
use Rattle.std.proofs.Common.{◌≡◌, ◌+◌, ◌++◌, [], ◌∷◌, length, IfOk, refl, sym, ap, subst, ◌∙◌, rules, arith, length-append}
use Rattle.std.specs.Result.{IfErr}
use Rattle.node_file.specs.FileView.{FileView}
use Rattle.node_check.specs.declared.walking.WalkFault.TheVariants.{Failed}
use Rattle.ray_walk.specs.Answers.{TellsCells}
use Rattle.slice_view.specs.Greys.{IsGrey, AreGreys}
use Rattle.slice_view.proofs.ViewPuts.{err_is, greys_none, greys_one}
use Rattle.slice_view.proofs.viewing.fill.Goals as goal

pub loop-pixel-init : goal.loop-pixel-init
loop-pixel-init g c = record {
  shown = λ cells tells. subst (AreGreys c.args.camera.now (g.R.Records.file c.args.nodes.now).grid cells c.args.from) (sym c.requires.empty) (greys_none c.args.camera.now (g.R.Records.file c.args.nodes.now).grid cells c.args.from);
  full = ap (λ items. c.args.from + length items) c.requires.empty ∙ omega arith;
  same = refl;
  lender = refl;
  later = omega arith;
}

pub returns-in_err-sample-clause-sound : goal.returns-in_err-sample-clause-sound
returns-in_err-sample-clause-sound g c cells tells =
    let told = subst (λ (f : FileView). TellsCells f cells) (sym c.loop-pixel.invariant.same) tells in
    let cause : c.in_err-sample.field-0.0 ≡ Failed = subst (λ r. IfErr r (λ fault. fault ≡ Failed)) c.in_err-sample.was (c.grey.ensures.sound cells told) in
    rw (err_is c.from_residual.result c.in_err-sample.field-0.0 c.from_residual.ensures) cause

pub loop-pixel-preserved : goal.loop-pixel-preserved
loop-pixel-preserved g c =
    let camera = c.args.camera.now in
    let grid = (g.R.Records.file c.args.nodes.now).grid in
    let items : c.push.new.self.items ≡ c.loop-pixel.block.items ++ c.in_ok-sample.sample ∷ [] = search rules in
    record {
      shown = λ cells tells.
          let told = subst (λ (f : FileView). TellsCells f cells) (sym c.loop-pixel.invariant.same) tells in
          let grey : IsGrey camera (g.R.Records.file c.loop-pixel.nodes).grid cells c.loop-pixel.pixel c.in_ok-sample.sample = subst (λ r. IfOk r (IsGrey camera (g.R.Records.file c.loop-pixel.nodes).grid cells c.loop-pixel.pixel)) c.in_ok-sample.was (c.grey.ensures.grey cells told) in
          subst (AreGreys camera grid cells c.args.from) (sym items)
          (greys_one camera grid cells c.args.from c.loop-pixel.pixel c.loop-pixel.block.items c.in_ok-sample.sample c.loop-pixel.invariant.full (c.loop-pixel.invariant.shown cells tells)
          (subst (λ (f : FileView). IsGrey camera f.grid cells c.loop-pixel.pixel c.in_ok-sample.sample) c.loop-pixel.invariant.same grey));
      full = ap (λ xs. c.args.from + length xs) items ∙ (ap (λ n. c.args.from + n) (length-append c.loop-pixel.block.items (c.in_ok-sample.sample ∷ [])) ∙ omega (arith, c.loop-pixel.invariant.full));
      same = c.grey.ensures.same ∙ c.loop-pixel.invariant.same;
      lender = c.grey.ensures.lender ∙ c.loop-pixel.invariant.lender;
      later = omega (arith, c.loop-pixel.invariant.later, c.grey.ensures.later);
    }
