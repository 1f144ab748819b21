-- A stop of either half is one of the build; both halves make the file.
use Rattle.std.proofs.Common.{◌∙◌, List, ℕ, Option, MatchResult, subst, sym, refl, arith}
use Rattle.std.specs.Prelude.{IfErr}
use Rattle.build_core.specs.declared.jobs.Built.{Built}
use Rattle.build_core.specs.Building.{Devices, HasBuilt, StopsBuild, StopsInTime, spill_fault, nodes_fault}
use Rattle.build_core.proofs.ValidPlans.{valid_sizes}
use Rattle.build_core.proofs.BuiltFiles.{file_built, nodes_stop, nodes_in_time, spill_stop, spill_in_time, build_answer, late_answer}
use Rattle.build_core.proofs.building.build_parts.Goals as goal

pub spill-requires-clause-window : goal.spill-requires-clause-window
spill-requires-clause-window g c = omega (arith, (valid_sizes c.args.job.now.plan c.requires.job.planned).window, c.requires.room.window)

pub spill-requires-clause-pool : goal.spill-requires-clause-pool
spill-requires-clause-pool g c = omega (arith, (valid_sizes c.args.job.now.plan c.requires.job.planned).pool, c.requires.room.pool)

pub write_nodes-requires-clause-split : goal.write_nodes-requires-clause-split
write_nodes-requires-clause-split g c = omega (arith, (valid_sizes c.args.job.now.plan c.requires.job.planned).within, c.in_ok-spilled.ensures.spills.is.depth)

pub write_nodes-requires-clause-few : goal.write_nodes-requires-clause-few
write_nodes-requires-clause-few g c = (valid_sizes c.args.job.now.plan c.requires.job.planned).split

pub write_nodes-requires-clause-slots : goal.write_nodes-requires-clause-slots
write_nodes-requires-clause-slots g c =
    let slots = (valid_sizes c.args.job.now.plan c.requires.job.planned).slots in
    rw c.in_ok-spilled.ensures.spills.is.depth (omega (arith, slots, c.requires.room.slots))

pub part_count-requires : goal.part_count-requires
part_count-requires g c = (valid_sizes c.args.job.now.plan c.requires.job.planned).split

pub returns-in_err-spilled-clause-builds : goal.returns-in_err-spilled-clause-builds
returns-in_err-spilled-clause-builds g c =
    let d : Devices = record {
      read_before = g.I.ByteSource.rest c.args.input.now;
      read_after = g.I.ByteSource.rest c.spill.new.input;
      written_before = g.O.ByteSink.written c.args.out.now;
      written_after = g.O.ByteSink.written c.args.out.now;
      faults_before = g.O.ByteSink.faults c.args.out.now;
      faults_after = g.O.ByteSink.faults c.args.out.now;
      streams = g.S.Scratch.told c.spill.new.scratch;
    } in
    let stop = c.in_err-spilled.field-0.0 in
    build_answer (HasBuilt c.args.job.now d c.args.moves.now c.args.moves.now c.args.tests.now c.args.tests.now) c.args.job.now d c.from_residual.result (spill_fault stop) c.from_residual.ensures
    (spill_stop c.args.job.now d stop c.in_err-spilled.ensures.spills (refl, refl))

pub returns-in_err-totals-clause-builds : goal.returns-in_err-totals-clause-builds
returns-in_err-totals-clause-builds g c =
    let job = c.args.job.now in
    let d : Option (List (List ℕ)) → Devices = λ streams. record {
      read_before = g.I.ByteSource.rest c.args.input.now;
      read_after = g.I.ByteSource.rest c.spill.new.input;
      written_before = g.O.ByteSink.written c.args.out.now;
      written_after = g.O.ByteSink.written c.write_nodes.new.out;
      faults_before = g.O.ByteSink.faults c.args.out.now;
      faults_after = g.O.ByteSink.faults c.write_nodes.new.out;
      streams = streams;
    } in
    let stop = c.in_err-totals.field-0.0 in
    subst (λ streams. MatchResult c.from_residual-in_err-totals.result (HasBuilt job (d streams) c.args.moves.now c.write_nodes.new.moves c.args.tests.now c.write_nodes.new.tests) (StopsBuild job (d streams))) (sym c.write_nodes.ensures.told)
    (build_answer (HasBuilt job (d (g.S.Scratch.told c.spill.new.scratch)) c.args.moves.now c.write_nodes.new.moves c.args.tests.now c.write_nodes.new.tests) job (d (g.S.Scratch.told c.spill.new.scratch))
    c.from_residual-in_err-totals.result (nodes_fault stop) c.from_residual-in_err-totals.ensures
    (nodes_stop job (d (g.S.Scratch.told c.spill.new.scratch)) c.in_ok-spilled.spilled c.args.moves.now c.write_nodes.new.moves stop c.write_nodes.ensures.limits c.in_ok-spilled.ensures.spills c.write_nodes.ensures.front))

pub returns-in_err-spilled-clause-in_time : goal.returns-in_err-spilled-clause-in_time
returns-in_err-spilled-clause-in_time g c =
    let d : Devices = record {
      read_before = g.I.ByteSource.rest c.args.input.now;
      read_after = g.I.ByteSource.rest c.spill.new.input;
      written_before = g.O.ByteSink.written c.args.out.now;
      written_after = g.O.ByteSink.written c.args.out.now;
      faults_before = g.O.ByteSink.faults c.args.out.now;
      faults_after = g.O.ByteSink.faults c.args.out.now;
      streams = g.S.Scratch.told c.spill.new.scratch;
    } in
    let stop = c.in_err-spilled.field-0.0 in
    late_answer c.args.job.now d c.args.moves.now c.args.moves.now c.args.tests.now c.args.tests.now c.from_residual.result (spill_fault stop) c.from_residual.ensures
    (spill_in_time c.args.job.now d c.args.moves.now c.args.tests.now stop)

pub returns-in_err-totals-clause-in_time : goal.returns-in_err-totals-clause-in_time
returns-in_err-totals-clause-in_time g c =
    let job = c.args.job.now in
    let d : Option (List (List ℕ)) → Devices = λ streams. record {
      read_before = g.I.ByteSource.rest c.args.input.now;
      read_after = g.I.ByteSource.rest c.spill.new.input;
      written_before = g.O.ByteSink.written c.args.out.now;
      written_after = g.O.ByteSink.written c.write_nodes.new.out;
      faults_before = g.O.ByteSink.faults c.args.out.now;
      faults_after = g.O.ByteSink.faults c.write_nodes.new.out;
      streams = streams;
    } in
    let stop = c.in_err-totals.field-0.0 in
    let told = g.S.Scratch.told c.spill.new.scratch in
    subst (λ streams. IfErr c.from_residual-in_err-totals.result (StopsInTime job (d streams) c.args.moves.now c.write_nodes.new.moves c.args.tests.now c.write_nodes.new.tests)) (sym c.write_nodes.ensures.told)
    (late_answer job (d told) c.args.moves.now c.write_nodes.new.moves c.args.tests.now c.write_nodes.new.tests c.from_residual-in_err-totals.result (nodes_fault stop) c.from_residual-in_err-totals.ensures
    (nodes_in_time job (d told) c.in_ok-spilled.spilled c.args.moves.now c.write_nodes.new.moves c.args.tests.now c.write_nodes.new.tests stop
    c.write_nodes.ensures.limits c.in_ok-spilled.ensures.spills c.write_nodes.ensures.front c.write_nodes.ensures.tests))

pub returns-clause-builds : goal.returns-clause-builds
returns-clause-builds g c =
    let job = c.args.job.now in
    let d : Option (List (List ℕ)) → Devices = λ streams. record {
      read_before = g.I.ByteSource.rest c.args.input.now;
      read_after = g.I.ByteSource.rest c.spill.new.input;
      written_before = g.O.ByteSink.written c.args.out.now;
      written_after = g.O.ByteSink.written c.write_nodes.new.out;
      faults_before = g.O.ByteSink.faults c.args.out.now;
      faults_after = g.O.ByteSink.faults c.write_nodes.new.out;
      streams = streams;
    } in
    let spilled = c.in_ok-spilled.spilled in
    let totals = c.in_ok-totals.totals in
    let built : Built = record { grid = spilled.grid; faces = spilled.taken.faces; triangles = spilled.taken.triangles; cells = totals.cells; records = totals.records; parts = c.from.result } in
    subst (λ streams. HasBuilt job (d streams) c.args.moves.now c.write_nodes.new.moves c.args.tests.now c.write_nodes.new.tests built) (sym c.write_nodes.ensures.told)
    (file_built job (d (g.S.Scratch.told c.spill.new.scratch)) spilled totals c.from.result c.args.moves.now c.write_nodes.new.moves c.args.tests.now c.write_nodes.new.tests
    c.in_ok-spilled.ensures.spills c.in_ok-totals.ensures.file c.write_nodes.ensures.tests (c.from.ensures ∙ c.part_count.ensures))
