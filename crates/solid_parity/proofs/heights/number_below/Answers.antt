use Rattle.std.proofs.Common.{◌+◌, ◌-◌, ◌/◌, arith, sym}
use Rattle.solid_parity.proofs.Descending.{above_lower, not_above_higher}
use Rattle.solid_parity.proofs.heights.number_below.Goals as goal

pub loop-from-preserved-then-is_above : goal.loop-from-preserved-then-is_above
loop-from-preserved-then-is_above c =
    let middle = c.loop-from.from + (c.loop-from.to - c.loop-from.from) / 2 in
    let kept = c.loop-from.invariant in (
      (omega (arith, c.loop-from-test.true), kept.0.1),
      (λ place below. above_lower c.args.heights.now place middle (omega (arith, below)) (sym c.if-is_above.ensures), kept.1.1),
    )

pub loop-from-preserved : goal.loop-from-preserved
loop-from-preserved c =
    let middle = c.loop-from.from + (c.loop-from.to - c.loop-from.from) / 2 in
    let kept = c.loop-from.invariant in (
      (omega arith, omega (arith, kept.0, c.loop-from-test.true)),
      (kept.1.0, λ place above within. not_above_higher c.args.heights.now middle place above (sym c.if-is_above.ensures)),
    )
