-- A block of greys, or none where a read failed.
use Rattle.std.proofs.Common.{◌≡◌, ◌-◌, length, rules, sym, subst}
use Rattle.std.specs.Prelude.{⊤, OnOk}
use Rattle.std.specs.Result.{IfErr}
use Rattle.node_check.specs.Stops.{Puts}
use Rattle.node_check.specs.declared.stops.AnswerStop.TheVariants.{Walk}
use Rattle.node_check.specs.declared.walking.WalkFault.TheVariants.{Failed}
use Rattle.slice_view.specs.Greys.{AreGreys}
use Rattle.slice_view.specs.Views.{PutsGreys}
use Rattle.slice_view.proofs.ViewPuts.{err_is, puts_failed, puts_block}
use Rattle.slice_view.proofs.viewing.put_block.Goals as goal

pub returns-in_err-fill-clause-told : goal.returns-in_err-fill-clause-told
returns-in_err-fill-clause-told g c cells tells =
    let cause : c.in_err-fill.field-0.0 ≡ Failed = subst (λ r. IfErr r (λ fault. fault ≡ Failed)) c.in_err-fill.was (c.fill.ensures.sound cells tells) in
    subst (PutsGreys {T = ⊤} c.args.camera.now (g.R.Records.file c.args.nodes.now).grid cells c.args.from c.args.end (g.O.ByteSink.written c.args.out.now) (g.O.ByteSink.written c.args.out.now))
    (sym (err_is c.from_residual.result (Walk c.in_err-fill.field-0.0) c.from_residual.ensures))
    (puts_failed c.args.camera.now (g.R.Records.file c.args.nodes.now).grid cells c.args.from c.args.end (g.O.ByteSink.written c.args.out.now) c.in_err-fill.field-0.0 cause)

pub returns-clause-told : goal.returns-clause-told
returns-clause-told g c cells tells =
    let size : length c.fill.new.block.items ≡ c.args.end - c.args.from = subst (λ r. OnOk r (length c.fill.new.block.items ≡ c.args.end - c.args.from)) c.in_ok-fill.was c.fill.ensures.full in
    let bytes : c.as_slice.result.now ≡ c.fill.new.block.items = search rules in
    let shown : AreGreys c.args.camera.now (g.R.Records.file c.args.nodes.now).grid cells c.args.from c.fill.new.block.items =
    subst (λ r. OnOk r (AreGreys c.args.camera.now (g.R.Records.file c.args.nodes.now).grid cells c.args.from c.fill.new.block.items)) c.in_ok-fill.was (c.fill.ensures.told cells tells) in
    puts_block c.args.camera.now (g.R.Records.file c.args.nodes.now).grid cells c.args.from c.args.end (g.O.ByteSink.written c.args.out.now) (g.O.ByteSink.written c.put.new.out) c.fill.new.block.items c.put.result size shown
    (subst (λ bytes. Puts {T = ⊤} (g.O.ByteSink.written c.args.out.now) (g.O.ByteSink.written c.put.new.out) bytes c.put.result) bytes c.put.ensures.told)
