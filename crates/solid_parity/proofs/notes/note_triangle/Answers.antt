use Rattle.std.proofs.Common.{arith, subst, sym}
use Rattle.solid_parity.specs.Spans.{AreAcross}
use Rattle.solid_parity.proofs.BoxColumns.{across_from, row_before, row_behind}
use Rattle.solid_parity.proofs.Counts.{rows_none, rows_next, rows_all}
use Rattle.solid_parity.proofs.notes.note_triangle.Goals as goal

pub loop-y-init : goal.loop-y-init
loop-y-init c = (
  omega arith,
  omega arith,
  rows_none c.args.columns.now c.args.triangle.now c.ys-ys.result.from c.args.slots.now (row_before c.args.columns.now c.args.triangle.now c.of_triangle-bounds.result c.ys-ys.result c.of_triangle-bounds.ensures c.ys-ys.ensures),
  c.requires.kept,
)

pub note_row-requires-clause-xs : goal.note_row-requires-clause-xs
note_row-requires-clause-xs c =
    subst (λ t. AreAcross c.args.columns.now t c.xs-xs.result) (sym c.new-shape.ensures)
    (across_from c.args.columns.now c.args.triangle.now c.of_triangle-bounds.result c.xs-xs.result c.of_triangle-bounds.ensures c.xs-xs.ensures)

pub loop-y-preserved : goal.loop-y-preserved
loop-y-preserved c = (
  omega (arith, c.loop-y.invariant.0),
  omega (arith, c.loop-y.invariant.0, c.loop-y-test.true),
  rows_next c.args.columns.now c.args.triangle.now c.loop-y.y c.args.slots.now c.loop-y.slots c.note_row.new.slots c.loop-y.invariant.2
      (rw (← c.new-shape.ensures) c.note_row.ensures.counted),
  c.note_row.ensures.kept,
)

pub returns-clause-counted : goal.returns-clause-counted
returns-clause-counted c =
    rows_all c.args.columns.now c.args.triangle.now c.ys-ys.result.to c.loop-y.y c.args.slots.now c.loop-y.slots
    (row_behind c.args.columns.now c.args.triangle.now c.of_triangle-bounds.result c.ys-ys.result c.of_triangle-bounds.ensures c.ys-ys.ensures)
    (omega (arith, c.loop-y-test.false)) c.loop-y.invariant.2
