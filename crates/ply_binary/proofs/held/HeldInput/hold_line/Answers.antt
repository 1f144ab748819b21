use Rattle.std.proofs.Common.{arith}
use Rattle.ply_binary.proofs.HeldBytes.{HoldsMore-trans}
use Rattle.ply_binary.proofs.held.HeldInput.hold_line.Goals as goal

pub returns-in_err-more-clause-holds : goal.returns-in_err-more-clause-holds
returns-in_err-more-clause-holds g c = HoldsMore-trans c.reads.invariant.holds c.more.ensures.holds

pub returns-then-not-branch-clause-holds : goal.returns-then-not-branch-clause-holds
returns-then-not-branch-clause-holds g c = HoldsMore-trans c.reads.invariant.holds c.more.ensures.holds

pub reads-preserved : goal.reads-preserved
reads-preserved g c = record {
  holds = HoldsMore-trans c.reads.invariant.holds c.more.ensures.holds;
  later = omega (arith, c.reads.invariant.later, c.more.ensures.cause.later);
}
