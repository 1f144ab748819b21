-- A height is closed, and the next one's queue has room for the parent.
use Rattle.std.proofs.Common.{ℕ, ◌+◌, ◌*◌, ◌/◌, ◌^◌, ◌<◌, get_or, set, ap, ◌∙◌, arith, add-one}
use Rattle.level_queues.specs.GivenWords.{words_in}
use Rattle.level_queues.specs.Queued.{queue_of, bits_of}
use Rattle.level_queues.proofs.Turns.{AreRows, are_rows, few_given, room_next, close_fields, length-queue}
use Rattle.level_queues.proofs.levels.LevelQueues.close.Goals as goal

pub write_row-requires-clause-few : goal.write_row-requires-clause-few
write_row-requires-clause-few g c =
    let now = c.args.self.now in
    let are : AreRows now.depth now.queues.entries now.counts = are_rows now in
    let low : c.args.height < now.depth = omega (arith, c.requires.height) in
    omega (arith, c.requires.queued.2.count, few_given now.depth now.queues.entries now.counts are c.requires.queued.0 c.args.height now.last c.requires.queued.1 low c.requires.queued.2.queued)

pub put-requires-clause-room : goal.put-requires-clause-room
put-requires-clause-room g c =
    let now = c.args.self.now in
    let are : AreRows now.depth now.queues.entries now.counts = are_rows now in
    let room : get_or (set now.counts c.args.height 0) (c.args.height + 1) 0 < 8 =
    room_next now.depth now.queues.entries now.counts are c.requires.queued.0 c.args.height now.last c.requires.queued.1 c.requires.height c.requires.queued.2.queued in
    omega (arith, room, ap (λ counts. get_or counts (c.args.height + 1) 0) c.in_ok-word.ensures.counts)

pub returns-clause-queued : goal.returns-clause-queued
returns-clause-queued g c = λ leaves words is.
    let now = c.args.self.now in
    let are : AreRows now.depth now.queues.entries now.counts = are_rows now in
    let height : ℕ = c.args.height in
    record {
      more = words_in (queue_of now.queues.entries now.counts height);
      grown = c.in_ok-word.ensures.given;
      holds = record {
        queued =
            close_fields now.depth now.queues.entries now.counts are leaves height now.last words (record { word = c.in_ok-word.word; state = c.ancestor-state.result })
            (height + 1) c.put.new.self.depth c.put.new.self.last c.write_row.new.self.queues.entries c.put.new.self.queues.entries c.write_row.new.self.counts c.put.new.self.counts
            (add-one height) c.requires.height is.queued
            (c.in_ok-word.ensures.word ∙ ap (λ n. bits_of (queue_of now.queues.entries now.counts height) + 256 * n) is.count)
            (c.ancestor-state.ensures ∙ ap (λ n. n / 8 ^ (height + 1)) c.write_row.ensures.last)
            (ap (λ q. q.entries) c.write_row.ensures.queues) c.in_ok-word.ensures.counts c.put.ensures.entries c.put.ensures.counts
            (c.put.ensures.depth ∙ c.write_row.ensures.depth) (c.put.ensures.last ∙ c.write_row.ensures.last);
        count = omega (arith, c.put.ensures.words, c.in_ok-word.ensures.words, is.count, length-queue now.depth now.queues.entries now.counts are words height (omega (arith, c.requires.height)));
        cells = c.put.ensures.cells ∙ (c.write_row.ensures.cells ∙ is.cells);
      };
    }
