use Rattle.std.proofs.Common.{sym, subst, inl, inr, ⊎_elim}
use Rattle.dev_traits.specs.Change.{change_of, scratch_change_of}
use Rattle.svo_top.specs.CommandRuns.{IsForgotten}
use Rattle.svo_top.specs.declared.outcome.Status.{Status}
use Rattle.svo_top.proofs.WordCauses.{does}
use Rattle.svo_top.proofs.running.run.Goals as goal

pub returns-clause-does : goal.returns-clause-does
returns-clause-does g c =
    let input = change_of g.I.ByteSource.rest g.I.ByteSource.faults c.args.input.now c.carry_out-ending.new.input in
    let out = change_of g.O.ByteSink.written g.O.ByteSink.faults c.args.out.now c.carry_out-ending.new.out in
    let scratch = scratch_change_of g.S.Scratch.told g.S.Scratch.asked g.S.Scratch.faults c.args.scratch.now c.carry_out-ending.new.scratch in
    let nodes = change_of g.N.NodeStore.files g.N.NodeStore.faults c.args.nodes.now c.carry_out-ending.new.nodes in
    let err = change_of g.E.ByteSink.written g.E.ByteSink.faults c.args.err.now c.report.new.err in
    λ command means.
    let Forgotten : Status → Type 0 = λ status. IsForgotten input out scratch nodes status in
    ⊎_elim (λ forgotten. inl (subst Forgotten (sym c.status.ensures) forgotten))
    (λ carries_out. inr (does input out scratch nodes err c.carry_out-ending.result c.report.ensures.says c.report.ensures.silent c.status.result c.status.ensures command carries_out))
    (c.carry_out-ending.ensures.carries_out command means)
