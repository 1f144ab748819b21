-- The root is painted in a black block, and the front of that is put.
use Rattle.std.proofs.Common.{take, arith, subst}
use Rattle.node_check.specs.Stops.{Puts}
use Rattle.slice_view.proofs.OneBand.{band_puts}
use Rattle.slice_view.proofs.slicing.put_band.Goals as goal

pub returns-clause-told : goal.returns-clause-told
returns-clause-told g c =
    band_puts (g.R.Records.file c.args.nodes.now).words (g.R.Records.file c.args.nodes.now).format c.args.band.now c.root-whole.result c.args.root.now.number c.paint.new.block (g.O.ByteSink.written c.args.out.now)
    (g.O.ByteSink.written c.put.new.out) c.put.result c.requires.band c.root-whole.ensures.height c.root-whole.ensures.code (omega (arith, c.in_ok-paint.ensures.room)) c.in_ok-paint.ensures.told
    (subst (λ n. Puts (g.O.ByteSink.written c.args.out.now) (g.O.ByteSink.written c.put.new.out) (take n c.paint.new.block) c.put.result) c.size.ensures.value c.put.ensures.told)
