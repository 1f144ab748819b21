use Rattle.std.proofs.Common.{arith}
use Rattle.solid_parity.proofs.PassDown.{column_settled, all_settled}
use Rattle.solid_parity.proofs.settling.settle.Goals as goal

pub loop-mark-preserved : goal.loop-mark-preserved
loop-mark-preserved c =
    let next = c.in-Some.ensures in
    let within = c.requires.kept.marked.within c.in-Some.mark next.found in (
      omega (arith, within.1, c.requires.kept.small),
      column_settled _ c.loop-mark.at c.in-Some.mark c.args.slots.now c.loop-mark.slots c.settle_column.new.slots c.args.marks.now c.requires.kept.small c.requires.kept.marked next c.loop-mark.invariant.1
          c.settle_column.ensures.settled c.settle_column.ensures.others,
      c.settle_column.ensures.touched,
    )

pub returns-clause-settled : goal.returns-clause-settled
returns-clause-settled c =
    all_settled _ c.loop-mark.at c.args.slots.now c.loop-mark.slots c.args.marks.now c.requires.kept.small c.requires.kept.marked c.in_default.ensures c.loop-mark.invariant.1
