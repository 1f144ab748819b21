-- A block after another.
use Rattle.std.proofs.Common.{◌≡◌, ◌*◌, Ok, Err, refl, sym, subst, ◌∙◌, arith}
use Rattle.std.specs.Prelude.{⊤}
use Rattle.node_file.specs.FileView.{FileView}
use Rattle.ray_walk.specs.Answers.{TellsCells}
use Rattle.slice_view.specs.Views.{PutsGreys}
use Rattle.slice_view.proofs.ViewPuts.{err_is, puts_none, puts_more, puts_longer}
use Rattle.slice_view.proofs.viewing.put_blocks.Goals as goal

pub loop-from-init : goal.loop-from-init
loop-from-init g c = record {
  told = λ cells tells. puts_none c.args.camera.now (g.R.Records.file c.args.nodes.now).grid cells 0 (g.O.ByteSink.written c.args.out.now);
  within = omega arith;
  same = refl;
  lender = refl;
  later = omega arith;
  out_later = omega arith;
}

pub returns-in_err-put_block-clause-told : goal.returns-in_err-put_block-clause-told
returns-in_err-put_block-clause-told g c cells tells =
    let camera = c.args.camera.now in
    let grid = (g.R.Records.file c.args.nodes.now).grid in
    let before = g.O.ByteSink.written c.args.out.now in
    let middle = g.O.ByteSink.written c.loop-from.out in
    let after = g.O.ByteSink.written c.put_block.new.out in
    let told = subst (λ (f : FileView). TellsCells f cells) (sym c.loop-from.invariant.same) tells in
    let stopped : PutsGreys {T = ⊤} camera grid cells c.loop-from.from c.min-end.result middle after (Err c.in_err-put_block.field-0.0) =
    subst (λ (f : FileView). PutsGreys {T = ⊤} camera f.grid cells c.loop-from.from c.min-end.result middle after (Err c.in_err-put_block.field-0.0)) c.loop-from.invariant.same
    (subst (PutsGreys {T = ⊤} camera (g.R.Records.file c.loop-from.nodes).grid cells c.loop-from.from c.min-end.result middle after) c.in_err-put_block.was (c.put_block.ensures.told cells told)) in
    subst (PutsGreys {T = ⊤} camera grid cells 0 (camera.width * camera.height) before after) (sym (err_is c.from_residual.result c.in_err-put_block.field-0.0 c.from_residual.ensures))
    (puts_longer camera grid cells 0 c.min-end.result (camera.width * camera.height) before after c.in_err-put_block.field-0.0 (omega (arith, c.min-end.ensures, c.size-count.ensures.value))
    (puts_more camera grid cells 0 c.loop-from.from c.min-end.result before middle after (Err c.in_err-put_block.field-0.0) (omega arith) (omega (arith, c.min-end.ensures, c.loop-from-test.true)) (c.loop-from.invariant.told cells tells) stopped))

pub loop-from-preserved : goal.loop-from-preserved
loop-from-preserved g c =
    let camera = c.args.camera.now in
    let grid = (g.R.Records.file c.args.nodes.now).grid in
    let before = g.O.ByteSink.written c.args.out.now in
    let middle = g.O.ByteSink.written c.loop-from.out in
    let after = g.O.ByteSink.written c.put_block.new.out in
    record {
      told = λ cells tells.
          let told = subst (λ (f : FileView). TellsCells f cells) (sym c.loop-from.invariant.same) tells in
          puts_more camera grid cells 0 c.loop-from.from c.min-end.result before middle after (Ok tt) (omega arith) (omega (arith, c.min-end.ensures, c.loop-from-test.true)) (c.loop-from.invariant.told cells tells)
          (subst (λ (f : FileView). PutsGreys {T = ⊤} camera f.grid cells c.loop-from.from c.min-end.result middle after (Ok tt)) c.loop-from.invariant.same
          (subst (PutsGreys {T = ⊤} camera (g.R.Records.file c.loop-from.nodes).grid cells c.loop-from.from c.min-end.result middle after) c.in_ok-put_block.was (c.put_block.ensures.told cells told)));
      within = omega (arith, c.min-end.ensures);
      same = c.put_block.ensures.same ∙ c.loop-from.invariant.same;
      lender = c.put_block.ensures.lender ∙ c.loop-from.invariant.lender;
      later = omega (arith, c.loop-from.invariant.later, c.put_block.ensures.cause.nodes_later);
      out_later = omega (arith, c.loop-from.invariant.out_later, c.put_block.ensures.cause.out_later);
    }

pub returns-clause-told : goal.returns-clause-told
returns-clause-told g c cells tells =
    let all : c.loop-from.from ≡ c.args.camera.now.width * c.args.camera.now.height = omega (arith, c.loop-from-test.false, c.loop-from.invariant.within, c.size-count.ensures.value) in
    subst (λ n. PutsGreys {T = ⊤} c.args.camera.now (g.R.Records.file c.args.nodes.now).grid cells 0 n (g.O.ByteSink.written c.args.out.now) (g.O.ByteSink.written c.loop-from.out) (Ok tt)) all (c.loop-from.invariant.told cells tells)
