use Rattle.std.proofs.Common.{arith}
use Rattle.solid_parity.proofs.Counts.{row_none, row_next, row_all}
use Rattle.solid_parity.proofs.notes.note_row.Goals as goal

pub loop-x-init : goal.loop-x-init
loop-x-init c = (omega arith, omega arith, row_none c.args.columns.now c.args.shape.now c.args.xs.now c.args.y c.args.slots.now c.requires.xs, c.requires.kept)

pub loop-x-preserved : goal.loop-x-preserved
loop-x-preserved c = (
  omega (arith, c.loop-x.invariant.0),
  omega (arith, c.loop-x.invariant.0, c.loop-x-test.true),
  row_next c.args.columns.now c.args.shape.now c.args.y c.loop-x.x c.args.slots.now c.loop-x.slots c.mark_column.new.slots c.loop-x.invariant.2 c.mark_column.ensures.counted,
  c.mark_column.ensures.kept,
)

pub returns-clause-counted : goal.returns-clause-counted
returns-clause-counted c =
    row_all c.args.columns.now c.args.shape.now c.args.xs.now c.args.y c.loop-x.x c.args.slots.now c.loop-x.slots c.requires.xs (omega (arith, c.loop-x-test.false)) c.loop-x.invariant.2
