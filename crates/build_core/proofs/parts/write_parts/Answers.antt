use Rattle.std.proofs.Common.{◌≡◌, ◌+◌, ◌^◌, ◌<◌, [], arith, subst, ◌∙◌}
use Rattle.build_core.specs.Pushing.{PushesOn}
use Rattle.build_core.specs.ScratchParts.{HasPartsOf}
use Rattle.build_core.proofs.PartsPushed.{parts_next, parts_left, parts_tests, tests_rise, all_codes}
use Rattle.build_core.proofs.PushedOn.{leaves_front}
use Rattle.build_core.proofs.parts.write_parts.Goals as goal

pub returns-in_err-write_part-clause-front : goal.returns-in_err-write_part-clause-front
returns-in_err-write_part-clause-front g c = λ start has.
    let below : c.loop-part.part < 8 ^ c.args.split = omega (arith, c.loop-part-test.true, c.part_count-part-end.ensures) in
    parts_left c.args.grid.now c.args.split c.loop-part.part (g.S.Scratch.told c.args.scratch.now) (g.S.Scratch.told c.loop-part.scratch) c.loop-part.invariant.told c.requires.split below start
    c.loop-part.queues c.loop-part.writer (g.O.ByteSink.written c.write_part.new.writer.sink.now) c.args.moves.now c.loop-part.moves c.write_part.new.moves (c.write_part.ensures.front start) (c.loop-part.invariant.pushed start has)

pub loop-part-preserved : goal.loop-part-preserved
loop-part-preserved g c =
    let before = c.loop-part.invariant in
    let below : c.loop-part.part < 8 ^ c.args.split = omega (arith, c.loop-part-test.true, c.part_count-part-end.ensures) in
    record {
      pushed = λ start has.
          parts_next c.args.grid.now c.args.split c.loop-part.part (g.S.Scratch.told c.args.scratch.now) (g.S.Scratch.told c.loop-part.scratch) before.told c.requires.split below start
          c.loop-part.queues c.write_part.new.queues c.loop-part.writer c.write_part.new.writer c.args.moves.now c.loop-part.moves c.write_part.new.moves (c.in_ok-write_part.ensures.pushed start) (before.pushed start has);
      tests = λ test each faced parts.
          parts_tests c.args.grid.now c.args.split c.loop-part.part (g.S.Scratch.told c.args.scratch.now) (g.S.Scratch.told c.loop-part.scratch) before.told c.requires.split below c.requires.pushed.0
          test faced c.args.tests.now c.loop-part.tests c.write_part.new.tests parts (before.tests test each faced parts) (c.write_part.ensures.tests test each faced);
      empty = c.in_ok-write_part.ensures.empty;
      length_is = c.write_part.ensures.length ∙ before.length_is;
      sink = c.write_part.ensures.sink ∙ before.sink;
      told = c.write_part.ensures.told ∙ before.told;
      started = c.write_part.ensures.started ∙ before.started;
      asked = c.write_part.ensures.asked ∙ before.asked;
      read_later = omega (arith, c.write_part.ensures.read_later, before.read_later);
      put_later = omega (arith, c.write_part.ensures.put_later, before.put_later);
    }

pub returns-clause-pushed : goal.returns-clause-pushed
returns-clause-pushed g c = λ start has.
    let last : c.loop-part.part ≡ 8 ^ c.args.split = omega (arith, c.loop-part-test.false, c.loop-part.auto.part-end, c.part_count-part-end.ensures) in
    subst (λ to. PushesOn c.args.grid.now start 0 to [] (HasPartsOf c.args.grid.now c.args.split (g.S.Scratch.told c.args.scratch.now)) c.loop-part.queues c.loop-part.writer c.args.moves.now c.loop-part.moves)
    (all_codes c.args.grid.now c.args.split c.loop-part.part c.requires.split last) (c.loop-part.invariant.pushed start has)

pub returns-clause-front : goal.returns-clause-front
returns-clause-front g c = λ start has.
    let last : c.loop-part.part ≡ 8 ^ c.args.split = omega (arith, c.loop-part-test.false, c.loop-part.auto.part-end, c.part_count-part-end.ensures) in
    leaves_front c.args.grid.now start 0 (8 ^ c.args.grid.now.depth) [] (HasPartsOf c.args.grid.now c.args.split (g.S.Scratch.told c.args.scratch.now)) c.loop-part.queues c.loop-part.writer c.args.moves.now c.loop-part.moves
    (subst (λ to. PushesOn c.args.grid.now start 0 to [] (HasPartsOf c.args.grid.now c.args.split (g.S.Scratch.told c.args.scratch.now)) c.loop-part.queues c.loop-part.writer c.args.moves.now c.loop-part.moves)
    (all_codes c.args.grid.now c.args.split c.loop-part.part c.requires.split last) (c.loop-part.invariant.pushed start has))

pub returns-in_err-write_part-clause-tests : goal.returns-in_err-write_part-clause-tests
returns-in_err-write_part-clause-tests g c = λ test each faced parts.
    let before = c.loop-part.invariant in
    let below : c.loop-part.part < 8 ^ c.args.split = omega (arith, c.loop-part-test.true, c.part_count-part-end.ensures) in
    let few = parts_tests c.args.grid.now c.args.split c.loop-part.part (g.S.Scratch.told c.args.scratch.now) (g.S.Scratch.told c.loop-part.scratch) before.told c.requires.split below c.requires.pushed.0
    test faced c.args.tests.now c.loop-part.tests c.write_part.new.tests parts (before.tests test each faced parts) (c.write_part.ensures.tests test each faced) in
    omega (arith, few, tests_rise c.args.grid.now c.args.split (c.loop-part.part + 1) (8 ^ c.args.split) test faced (omega (arith, below)))
