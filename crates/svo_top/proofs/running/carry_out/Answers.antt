use Rattle.std.proofs.Common.{refl, sym, subst, inl, inr}
use Rattle.dev_traits.specs.Change.{change_of, scratch_change_of}
use Rattle.svo_top.specs.Causes.{UsageCauses, RangeCauses, RefusalCauses}
use Rattle.svo_top.specs.Endings.{status_of}
use Rattle.svo_top.specs.CommandRuns.{IsForgotten}
use Rattle.svo_top.specs.declared.outcome.Status.{Status}
use Rattle.svo_top.proofs.WordCauses.{usage_of_fault, range_of_fault, refusal_of_fault, forgotten, carries_out_of, usage_of, range_causes, refusal_causes, devices_kept}
use Rattle.svo_top.proofs.running.carry_out.Goals as goal

pub returns-in-Err-clause-usage : goal.returns-in-Err-clause-usage
returns-in-Err-clause-usage g c =
    let P : Status → Type 0 = λ status. UsageCauses c.args.words.now status in
    subst P (sym c.status_of_fault.ensures) (usage_of_fault c.args.words.now c.in-Err.fault c.in-Err.ensures)

pub returns-in-Err-clause-range : goal.returns-in-Err-clause-range
returns-in-Err-clause-range g c =
    let P : Status → Type 0 = λ status. RangeCauses c.args.words.now status in
    subst P (sym c.status_of_fault.ensures) (range_of_fault c.args.words.now c.in-Err.fault c.in-Err.ensures)

pub returns-in-Err-clause-refusal : goal.returns-in-Err-clause-refusal
returns-in-Err-clause-refusal g c =
    let P : Status → Type 0 = λ status. RefusalCauses c.args.words.now status in
    subst P (sym c.status_of_fault.ensures) (refusal_of_fault c.args.words.now c.in-Err.fault c.in-Err.ensures)

pub returns-in-Err-clause-carries_out : goal.returns-in-Err-clause-carries_out
returns-in-Err-clause-carries_out g c =
    let input = change_of g.I.ByteSource.rest g.I.ByteSource.faults c.args.input.now c.args.input.now in
    let out = change_of g.O.ByteSink.written g.O.ByteSink.faults c.args.out.now c.args.out.now in
    let scratch = scratch_change_of g.S.Scratch.told g.S.Scratch.asked g.S.Scratch.faults c.args.scratch.now c.args.scratch.now in
    let nodes = change_of g.N.NodeStore.files g.N.NodeStore.faults c.args.nodes.now c.args.nodes.now in
    λ command means.
    let P : Status → Type 0 = λ status. IsForgotten input out scratch nodes status in
    inl (subst P (sym c.status_of_fault.ensures) (forgotten c.args.words.now c.in-Err.fault c.in-Err.ensures input out scratch nodes ((refl, refl), (refl, refl), ((refl, refl), refl)) (refl, refl) command means))

pub returns-in-Ok-clause-usage : goal.returns-in-Ok-clause-usage
returns-in-Ok-clause-usage g c =
    let input = change_of g.I.ByteSource.rest g.I.ByteSource.faults c.args.input.now c.carry_out_command.new.input in
    let out = change_of g.O.ByteSink.written g.O.ByteSink.faults c.args.out.now c.carry_out_command.new.out in
    let scratch = scratch_change_of g.S.Scratch.told g.S.Scratch.asked g.S.Scratch.faults c.args.scratch.now c.carry_out_command.new.scratch in
    let nodes = change_of g.N.NodeStore.files g.N.NodeStore.faults c.args.nodes.now c.carry_out_command.new.nodes in
    usage_of c.args.words.now c.in-Ok.command c.in-Ok.ensures input out scratch nodes (status_of c.carry_out_command.result) c.carry_out_command.ensures.stops

pub returns-in-Ok-clause-range : goal.returns-in-Ok-clause-range
returns-in-Ok-clause-range g c =
    let input = change_of g.I.ByteSource.rest g.I.ByteSource.faults c.args.input.now c.carry_out_command.new.input in
    let out = change_of g.O.ByteSink.written g.O.ByteSink.faults c.args.out.now c.carry_out_command.new.out in
    let scratch = scratch_change_of g.S.Scratch.told g.S.Scratch.asked g.S.Scratch.faults c.args.scratch.now c.carry_out_command.new.scratch in
    let nodes = change_of g.N.NodeStore.files g.N.NodeStore.faults c.args.nodes.now c.carry_out_command.new.nodes in
    range_causes c.args.words.now c.in-Ok.command c.in-Ok.ensures input out scratch nodes (status_of c.carry_out_command.result) c.carry_out_command.ensures.stops

pub returns-in-Ok-clause-refusal : goal.returns-in-Ok-clause-refusal
returns-in-Ok-clause-refusal g c =
    let input = change_of g.I.ByteSource.rest g.I.ByteSource.faults c.args.input.now c.carry_out_command.new.input in
    let out = change_of g.O.ByteSink.written g.O.ByteSink.faults c.args.out.now c.carry_out_command.new.out in
    let scratch = scratch_change_of g.S.Scratch.told g.S.Scratch.asked g.S.Scratch.faults c.args.scratch.now c.carry_out_command.new.scratch in
    let nodes = change_of g.N.NodeStore.files g.N.NodeStore.faults c.args.nodes.now c.carry_out_command.new.nodes in
    refusal_causes c.args.words.now c.in-Ok.command c.in-Ok.ensures input out scratch nodes (status_of c.carry_out_command.result) c.carry_out_command.ensures.stops

pub returns-in-Ok-clause-carries_out : goal.returns-in-Ok-clause-carries_out
returns-in-Ok-clause-carries_out g c =
    let input = change_of g.I.ByteSource.rest g.I.ByteSource.faults c.args.input.now c.carry_out_command.new.input in
    let out = change_of g.O.ByteSink.written g.O.ByteSink.faults c.args.out.now c.carry_out_command.new.out in
    let scratch = scratch_change_of g.S.Scratch.told g.S.Scratch.asked g.S.Scratch.faults c.args.scratch.now c.carry_out_command.new.scratch in
    let nodes = change_of g.N.NodeStore.files g.N.NodeStore.faults c.args.nodes.now c.carry_out_command.new.nodes in
    λ command means. inr (carries_out_of c.args.words.now c.in-Ok.command c.in-Ok.ensures input out scratch nodes c.carry_out_command.result c.carry_out_command.ensures.carries_out command means)

pub returns-in-Ok-clause-keeps : goal.returns-in-Ok-clause-keeps
returns-in-Ok-clause-keeps g c =
    let input = change_of g.I.ByteSource.rest g.I.ByteSource.faults c.args.input.now c.carry_out_command.new.input in
    let out = change_of g.O.ByteSink.written g.O.ByteSink.faults c.args.out.now c.carry_out_command.new.out in
    let scratch = scratch_change_of g.S.Scratch.told g.S.Scratch.asked g.S.Scratch.faults c.args.scratch.now c.carry_out_command.new.scratch in
    let nodes = change_of g.N.NodeStore.files g.N.NodeStore.faults c.args.nodes.now c.carry_out_command.new.nodes in
    devices_kept c.args.words.now c.in-Ok.command c.in-Ok.ensures input out scratch nodes (status_of c.carry_out_command.result) c.carry_out_command.ensures.stops
