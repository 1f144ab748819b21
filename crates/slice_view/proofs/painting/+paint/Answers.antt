-- A child that the band does not show, or that is not there, changes nothing; a cell gets its sample; any other child is painted itself.
use Rattle.std.proofs.Common.{◌≡◌, ◌+◌, ◌*◌, Ok, Err, sym, subst, ◌∙◌, arith}
use Rattle.std.proofs.Math.ListN.{set}
use Rattle.std.proofs.lemmas.Bool.{and_parts}
use Rattle.node_file.specs.FileView.{FileView}
use Rattle.node_check.specs.Walks.{has_child}
use Rattle.node_check.proofs.Walks.{err_is}
use Rattle.slice_view.specs.Bands.{crosses}
use Rattle.slice_view.proofs.Walked.{Painted, Under, IsChild, passed_painted, cell_added, node_added, all_painted, child_fails, under_fails}
use Rattle.slice_view.proofs.painting.+paint.Goals as goal

pub loop-place-preserved-then-not-is_entered : goal.loop-place-preserved-then-not-is_entered
loop-place-preserved-then-not-is_entered g t c =
    let is : IsChild c.args.band.now c.args.square.now.height c.args.square.now.code c.loop-place.place c.child-child.result =
    record { band_is = c.requires.band; square = c.child-child.ensures.square; height_is = c.child-child.ensures.height; code_is = c.child-child.ensures.code; octant = c.loop-place-test.true; high = omega (arith, c.requires.above) } in
    record {
      painted = passed_painted c.args.band.now (g.R.Records.file c.args.nodes.now).format (g.R.Records.file c.args.nodes.now).totals.records c.args.square.now.code c.args.node.now.number c.args.node.now.word
          (g.R.Records.file c.args.nodes.now).words c.args.square.now.height c.loop-place.place c.child-child.result c.args.block.now c.loop-place.block is c.requires.own (sym c.if-not-is_entered.ensures) c.loop-place.invariant.painted;
      looked = c.loop-place.invariant.looked;
      same = c.loop-place.invariant.same;
      lender = c.loop-place.invariant.lender;
      later = c.loop-place.invariant.later;
    }

pub loop-place-preserved-then-child-eq0 : goal.loop-place-preserved-then-child-eq0
loop-place-preserved-then-child-eq0 g t c =
    let is : IsChild c.args.band.now c.args.square.now.height c.args.square.now.code c.loop-place.place c.child-child.result =
    record { band_is = c.requires.band; square = c.child-child.ensures.square; height_is = c.child-child.ensures.height; code_is = c.child-child.ensures.code; octant = c.loop-place-test.true; high = omega (arith, c.requires.above) } in
    record {
      painted = subst
          (λ n. Painted (g.R.Records.file c.args.nodes.now).words c.args.band.now (g.R.Records.file c.args.nodes.now).format c.args.square.now.height c.args.square.now.code c.args.node.now.number c.args.block.now
          (set c.loop-place.block n 255) (8 * c.args.square.now.code + (c.loop-place.place + 1)))
          (sym c.sample.ensures.value)
          (cell_added c.args.band.now (g.R.Records.file c.args.nodes.now).format (g.R.Records.file c.args.nodes.now).totals.records c.args.square.now.code c.args.node.now.number c.args.node.now.word
          (g.R.Records.file c.args.nodes.now).words c.args.square.now.height c.loop-place.place c.child-child.result c.args.block.now c.loop-place.block is c.requires.own c.if-child-eq0.true
          (sym c.if-not-is_entered.ensures) (omega (arith, c.requires.room, c.loop-place.auto.block)) c.loop-place.invariant.painted);
      looked = c.loop-place.invariant.looked;
      same = c.loop-place.invariant.same;
      lender = c.loop-place.invariant.lender;
      later = c.loop-place.invariant.later;
    }

pub returns-in_err-next-clause-told : goal.returns-in_err-next-clause-told
returns-in_err-next-clause-told g t c =
    subst
    (λ r. Under (g.R.Records.file c.args.nodes.now).words c.args.band.now (g.R.Records.file c.args.nodes.now).format c.args.square.now.height c.args.square.now.code c.args.node.now.number c.args.block.now c.loop-place.block r)
    (sym (err_is c.from_residual.result c.in_err-next.field-0.0 c.from_residual.ensures))
    (child_fails c.args.band.now (g.R.Records.file c.args.nodes.now).format (g.R.Records.file c.args.nodes.now).totals.records c.args.square.now.code c.args.node.now.number c.args.node.now.word
    (g.R.Records.file c.args.nodes.now).words c.args.square.now.height c.loop-place.place c.args.block.now c.loop-place.block c.in_err-next.field-0.0 (omega (arith, c.child-child.ensures.height, c.if-child-eq0.false))
    c.loop-place-test.true c.requires.own
    (and_parts (has_child c.args.node.now.word c.loop-place.place) (crosses c.args.band.now c.child-child.result) (sym c.if-not-is_entered.ensures)).0 c.in_err-next.ensures.below)

pub returns-in_err-paint-clause-told : goal.returns-in_err-paint-clause-told
returns-in_err-paint-clause-told g t c =
    let is : IsChild c.args.band.now c.args.square.now.height c.args.square.now.code c.loop-place.place c.child-child.result =
    record { band_is = c.requires.band; square = c.child-child.ensures.square; height_is = c.child-child.ensures.height; code_is = c.child-child.ensures.code; octant = c.loop-place-test.true; high = omega (arith, c.requires.above) } in
    subst
    (λ r. Under (g.R.Records.file c.args.nodes.now).words c.args.band.now (g.R.Records.file c.args.nodes.now).format c.args.square.now.height c.args.square.now.code c.args.node.now.number c.args.block.now c.paint.new.block r)
    (sym (err_is c.from_residual-in_err-paint.result c.in_err-paint.field-0.0 c.from_residual-in_err-paint.ensures))
    (under_fails c.args.band.now (g.R.Records.file c.args.nodes.now).format (g.R.Records.file c.args.nodes.now).totals.records c.args.square.now.code c.args.node.now.number c.args.node.now.word
    (g.R.Records.file c.args.nodes.now).words c.args.square.now.height c.loop-place.place c.in_ok-next.next.number c.child-child.result c.args.block.now c.loop-place.block c.paint.new.block c.in_err-paint.field-0.0 is
    (omega (arith, c.child-child.ensures.height, c.if-child-eq0.false)) c.requires.own (sym c.if-not-is_entered.ensures) c.in_ok-next.ensures.number
    (subst (λ (f : FileView). Under f.words c.args.band.now f.format c.child-child.result.height c.child-child.result.code c.in_ok-next.next.number c.loop-place.block c.paint.new.block (Err c.in_err-paint.field-0.0))
    (c.in_ok-next.ensures.same ∙ c.loop-place.invariant.same) c.in_err-paint.ensures.told))

pub loop-place-preserved : goal.loop-place-preserved
loop-place-preserved g t c =
    let is : IsChild c.args.band.now c.args.square.now.height c.args.square.now.code c.loop-place.place c.child-child.result =
    record { band_is = c.requires.band; square = c.child-child.ensures.square; height_is = c.child-child.ensures.height; code_is = c.child-child.ensures.code; octant = c.loop-place-test.true; high = omega (arith, c.requires.above) } in
    record {
      painted = node_added c.args.band.now (g.R.Records.file c.args.nodes.now).format (g.R.Records.file c.args.nodes.now).totals.records c.args.square.now.code c.args.node.now.number c.args.node.now.word
          (g.R.Records.file c.args.nodes.now).words c.args.square.now.height c.loop-place.place c.in_ok-next.next.number c.child-child.result c.args.block.now c.loop-place.block c.paint.new.block is
          (omega (arith, c.child-child.ensures.height, c.if-child-eq0.false)) c.requires.own (sym c.if-not-is_entered.ensures) c.in_ok-next.ensures.number
          (subst (λ (f : FileView). Under f.words c.args.band.now f.format c.child-child.result.height c.child-child.result.code c.in_ok-next.next.number c.loop-place.block c.paint.new.block (Ok tt))
          (c.in_ok-next.ensures.same ∙ c.loop-place.invariant.same) c.in_ok-paint.ensures.told)
          c.loop-place.invariant.painted;
      looked = omega (arith, c.loop-place.invariant.looked, c.in_ok-next.ensures.looked, c.in_ok-paint.ensures.looked);
      same = c.in_ok-paint.ensures.same ∙ (c.in_ok-next.ensures.same ∙ c.loop-place.invariant.same);
      lender = c.in_ok-paint.ensures.lender ∙ (c.in_ok-next.ensures.lender ∙ c.loop-place.invariant.lender);
      later = omega (arith, c.loop-place.invariant.later, c.in_ok-next.ensures.cause.later, c.in_ok-paint.ensures.cause.later);
    }

pub returns-clause-told : goal.returns-clause-told
returns-clause-told g t c =
    all_painted c.args.band.now (g.R.Records.file c.args.nodes.now).format (g.R.Records.file c.args.nodes.now).totals.records c.args.square.now.code c.args.node.now.number c.args.node.now.word
    (g.R.Records.file c.args.nodes.now).words c.args.square.now.height c.args.block.now c.loop-place.block (omega (arith, c.requires.above))
    (subst
    (λ n. Painted (g.R.Records.file c.args.nodes.now).words c.args.band.now (g.R.Records.file c.args.nodes.now).format c.args.square.now.height c.args.square.now.code c.args.node.now.number c.args.block.now c.loop-place.block
    (8 * c.args.square.now.code + n))
    (let done : c.loop-place.place ≡ 8 = omega (arith, c.loop-place-test.false, c.loop-place.auto.place-end) in done) c.loop-place.invariant.painted)
