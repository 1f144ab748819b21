use Rattle.std.proofs.Common.{arith, rules}
use Rattle.bit_grid.proofs.SlotsLemmas.{none_after, next_after}
use Rattle.bit_grid.proofs.slots.next_slot.Goals as goal

pub returns-in_err-step : goal.returns-in_err-step
returns-in_err-step c = rw c.from_residual.ensures (none_after c.args.slots.now c.args.from c.in_err-step.ensures.none)

pub returns : goal.returns
returns c =
    next_after c.args.slots.now c.args.from c.in_ok-step.step (omega (arith, c.if-start-slots.false))
    (search rules) c.in_ok-step.ensures.some c.in_ok-step.ensures.before
