use Rattle.std.proofs.Common.{◌-◌, arith}
use Rattle.solid_parity.proofs.Highest.{place_within}
use Rattle.solid_parity.proofs.PassDown.{settled_cell, at_bottom}
use Rattle.solid_parity.proofs.settling.settle_column.Goals as goal

pub settle_cell-is_odd-requires-clause-place : goal.settle_cell-is_odd-requires-clause-place
settle_cell-is_odd-requires-clause-place c =
    place_within (c.args.columns.now.grid.depth - c.args.columns.now.split) c.args.x c.args.y (c.loop-z.z - 1) c.encode.result _ (omega (arith, c.side-z.ensures.value, c.side-z.ensures.short))
    c.requires.x c.requires.y (omega (arith, c.loop-z-test.true, c.loop-z.invariant.0.within)) c.encode.ensures.code (omega (arith, c.requires.slots, c.loop-z.auto.slots))

pub loop-z-preserved : goal.loop-z-preserved
loop-z-preserved c = (
  settled_cell _ c.args.x c.args.y c.loop-z.z (c.loop-z.z - 1) c.encode.result c.args.slots.now c.loop-z.slots c.settle_cell-is_odd.new.slots c.loop-z.is_odd c.settle_cell-is_odd.result
      (omega (arith, c.side-z.ensures.value, c.side-z.ensures.short)) c.requires.x c.requires.y (omega (arith, c.loop-z-test.true)) c.encode.ensures.code c.loop-z.invariant.0
      c.settle_cell-is_odd.ensures.this c.settle_cell-is_odd.ensures.others c.settle_cell-is_odd.ensures.odd,
  c.settle_cell-is_odd.ensures.touched,
)

pub returns-clause-settled : goal.returns-clause-settled
returns-clause-settled c =
    at_bottom _ c.args.x c.args.y c.loop-z.z c.args.slots.now c.loop-z.slots c.loop-z.is_odd (omega (arith, c.loop-z-test.false)) c.loop-z.invariant.0
