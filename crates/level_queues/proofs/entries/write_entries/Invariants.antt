-- The words and bits so far.
use Rattle.std.proofs.Common.{◌≡◌, ◌≤◌, ◌+◌, ◌*◌, take, drop}
use Rattle.node_file.specs.Writing.{given, waiting}
use Rattle.level_queues.specs.Fronts.{GrewByWords}
use Rattle.level_queues.specs.GivenWords.{with_words, words_in}
use Rattle.level_queues.specs.Queued.{bits_of}
use Rattle.level_queues.proofs.entries.write_entries.Given as goal

abbrev pub invariant-loop-at : goal.invariant-loop-at
invariant-loop-at g l = record {
  bits : l.bits ≡ bits_of (take l.at (drop l.from l.queues.entries));
  within : l.bits ≤ 256 * l.at;
  given : given l.writer ≡ with_words (given l.fn.writer) (words_in (take l.at (drop l.from l.queues.entries)));
  records : l.writer.records ≡ l.fn.writer.records + l.at;
  sink : l.writer.sink.ghost_name ≡ l.fn.writer.sink.ghost_name;
  front : GrewByWords (g.O.ByteSink.written l.fn.writer.sink.now) (g.O.ByteSink.written l.writer.sink.now) (waiting l.fn.writer) (words_in (take l.at (drop l.from l.queues.entries)));
  faults : g.O.ByteSink.faults l.fn.writer.sink.now ≤ g.O.ByteSink.faults l.writer.sink.now;
}
