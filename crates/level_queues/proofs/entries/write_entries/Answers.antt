-- One entry more.
use Rattle.std.proofs.Common.{arith, ◌≡◌, ◌^◌, ◌*◌, ◌%◌, ◌+◌, ◌<◌, ℕ, List, [], ◌∷◌, ◌++◌, drop, take, length, refl, sym, ap, subst, ◌∙◌, append-nil}
use Rattle.std.specs.Int.{w64, to_le_bytes}
use Rattle.std.specs.Io.KnownBytes.{append_known}
use Rattle.node_file.specs.Writing.{given, waiting}
use Rattle.room_plan.specs.declared.queues.QueueEntry.{QueueEntry}
use Rattle.level_queues.specs.GivenWords.{with_words, words_in}
use Rattle.level_queues.specs.Fronts.{GrewByWords}
use Rattle.level_queues.proofs.Continuing.{IsFrontOf}
use Rattle.level_queues.proofs.Grown.{grew_nothing, grew_waiting, grew_longer, grew_twice, fewer_words}
use Rattle.level_queues.proofs.Wording.{with-none, with-more, run_bits, run_words, bit_small, bit_whole}
use Rattle.level_queues.proofs.entries.write_entries.Goals as goal

pub loop-at-init : goal.loop-at-init
loop-at-init g c = record { bits = refl; within = omega arith; given = sym (with-none (given c.args.writer.now)); records = omega arith; sink = refl; front = grew_nothing (g.O.ByteSink.written c.args.writer.now.sink.now) (waiting c.args.writer.now) []; faults = omega arith }

pub loop-at-preserved : goal.loop-at-preserved
loop-at-preserved g c =
    let entries : List QueueEntry = c.args.queues.now.entries in
    let inside : c.args.from + c.loop-at.at < length entries = omega (arith, c.requires.inside, c.loop-at-test.true) in
    let entry : QueueEntry = c.get-entry.result in
    let none : QueueEntry = record { word = 0; state = 0 } in
    let bit : (1 * 2 ^ (entry.state % 8)) % 18446744073709551616 ≡ 2 ^ (entry.state % 8) = bit_whole entry.state in
    record {
      bits = ap (λ b. c.loop-at.bits + b) bit ∙ (ap (λ b. b + 2 ^ (entry.state % 8)) c.loop-at.invariant.bits ∙ sym (run_bits entries c.args.from c.loop-at.at entry none inside c.get-entry.ensures));
      within = omega (arith, bit, bit_small entry.state, c.loop-at.invariant.within);
      given =
          c.in_ok-add.ensures.given
          ∙ (ap (λ told. append_known told (to_le_bytes w64 entry.word)) c.loop-at.invariant.given
          ∙ (with-more (given c.args.writer.now) (words_in (take c.loop-at.at (drop c.args.from entries))) entry.word
          ∙ ap (with_words (given c.args.writer.now)) (sym (run_words entries c.args.from c.loop-at.at entry none inside c.get-entry.ensures))));
      records = omega (arith, c.in_ok-add.ensures.records, c.loop-at.invariant.records);
      sink = c.add.ensures.sink ∙ c.loop-at.invariant.sink;
      front =
          subst (GrewByWords (g.O.ByteSink.written c.args.writer.now.sink.now) (g.O.ByteSink.written c.add.new.self.sink.now) (waiting c.args.writer.now)) (sym (run_words entries c.args.from c.loop-at.at entry none inside c.get-entry.ensures))
          (grew_twice (g.O.ByteSink.written c.args.writer.now.sink.now) (g.O.ByteSink.written c.loop-at.writer.sink.now) (g.O.ByteSink.written c.add.new.self.sink.now) (waiting c.args.writer.now) (waiting c.loop-at.writer)
          (words_in (take c.loop-at.at (drop c.args.from entries))) (entry.word ∷ []) c.loop-at.invariant.front c.loop-at.invariant.given
          (grew_waiting (g.O.ByteSink.written c.loop-at.writer.sink.now) (g.O.ByteSink.written c.add.new.self.sink.now) (waiting c.loop-at.writer) (entry.word ∷ []) c.add.ensures.front));
      faults = omega (arith, c.add.ensures.cause.later, c.loop-at.invariant.faults);
    }

pub returns-in_err-add-clause-front : goal.returns-in_err-add-clause-front
returns-in_err-add-clause-front g c =
    let run : List QueueEntry = drop c.args.from c.args.queues.now.entries in
    let words : List ℕ = words_in (take c.loop-at.at run) in
    grew_longer (g.O.ByteSink.written c.args.writer.now.sink.now) (g.O.ByteSink.written c.add.new.self.sink.now) (waiting c.args.writer.now) (words ++ []) (words_in (take c.args.count run))
    (grew_twice (g.O.ByteSink.written c.args.writer.now.sink.now) (g.O.ByteSink.written c.loop-at.writer.sink.now) (g.O.ByteSink.written c.add.new.self.sink.now) (waiting c.args.writer.now) (waiting c.loop-at.writer)
    words [] c.loop-at.invariant.front c.loop-at.invariant.given
    (grew_waiting (g.O.ByteSink.written c.loop-at.writer.sink.now) (g.O.ByteSink.written c.add.new.self.sink.now) (waiting c.loop-at.writer) [] c.add.ensures.front))
    (subst (λ l. IsFrontOf l (words_in (take c.args.count run))) (sym (append-nil words)) (fewer_words run c.loop-at.at c.args.count (omega (arith, c.loop-at-test.true))))
