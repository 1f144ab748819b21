-- All is closed but the root.
use Rattle.std.proofs.Common.{◌≡◌, ◌-◌, ◌+◌, ◌*◌, ◌/◌, ◌^◌, suc, ◌++◌, ℕ, length, ap, ◌∙◌, subst, arith}
use Rattle.std.proofs.lemmas.List.{length-map}
use Rattle.octree_specs.specs.Cells.{Cell}
use Rattle.octree_specs.specs.Formats.{face_leaves, file_words}
use Rattle.node_file.specs.Writing.{given, waiting}
use Rattle.level_queues.specs.GivenWords.{words_in}
use Rattle.level_queues.specs.Queued.{queue_of, bits_of, written_of}
use Rattle.level_queues.specs.Pushed.{IsQueuedAt, lowest_of, GoesOn}
use Rattle.level_queues.proofs.Ahead.{end_toward}
use Rattle.level_queues.proofs.Grown.{toward_longer, toward_root, grew_row}
use Rattle.level_queues.proofs.PushedCells.{lowest_within}
use Rattle.level_queues.proofs.Ending.{goes_to_root, count_words}
use Rattle.level_queues.proofs.Onward.{goes_further}
use Rattle.level_queues.proofs.Turns.{AreRows, are_rows, few_given}
use Rattle.level_queues.proofs.levels.LevelQueues.finish.Goals as goal

pub close_below-requires-clause-queued : goal.close_below-requires-clause-queued
close_below-requires-clause-queued g c = (face_leaves c.requires.queued.0, c.requires.queued.1, c.requires.queued.2)

pub write_row-requires-clause-few : goal.write_row-requires-clause-few
write_row-requires-clause-few g c =
    let after = c.close_below.new.self in
    let are : AreRows after.depth after.queues.entries after.counts = are_rows after in
    let on = c.in_ok-close_below.ensures.queued (face_leaves c.requires.queued.0) c.requires.queued.1 c.requires.queued.2 in
    omega (arith, on.holds.count, few_given after.depth after.queues.entries after.counts are (face_leaves c.requires.queued.0) (c.args.self.now.depth - 1) after.last _ (omega (arith, c.close_below.ensures.depth, c.args.self.now.least)) on.holds.queued)

pub returns-clause-words : goal.returns-clause-words
returns-clause-words g c = λ cells words is.
    let now = c.args.self.now in
    let after = c.close_below.new.self in
    let top : ℕ = now.depth - 1 in
    let are : AreRows after.depth after.queues.entries after.counts = are_rows after in
    let deep : after.depth ≡ now.depth = c.close_below.ensures.depth in
    goes_further words (given c.args.writer.now) (given c.close_below.new.writer) (given c.add.new.self) (IsQueuedAt (face_leaves cells) top after) (λ all. all ≡ file_words 2 now.depth cells)
    (c.in_ok-close_below.ensures.queued (face_leaves cells) words is)
    (λ all at. subst (λ depth. GoesOn all (given c.close_below.new.writer) (given c.add.new.self) (λ whole. whole ≡ file_words 2 depth cells)) deep
    (goes_to_root after.depth after.queues.entries after.counts are cells top after.last all (omega (arith, deep, now.least)) after.inside at.queued
    (given c.close_below.new.writer) (given c.write_row.new.writer) (given c.add.new.self) c.in_ok-root.root
    (c.in_ok-root.ensures.word ∙ ap (λ n. bits_of (queue_of after.queues.entries after.counts top) + 256 * n) at.count)
    c.in_ok-root.ensures.given c.in_ok-add.ensures.given))

pub returns-clause-totals : goal.returns-clause-totals
returns-clause-totals g c = λ cells words is.
    let now = c.args.self.now in
    let after = c.close_below.new.self in
    let top : ℕ = now.depth - 1 in
    let are : AreRows after.depth after.queues.entries after.counts = are_rows after in
    let deep : after.depth ≡ now.depth = c.close_below.ensures.depth in
    let on = c.in_ok-close_below.ensures.queued (face_leaves cells) words is in
    let records : c.write_row.new.self.words + 1 ≡ length (file_words 2 now.depth cells) =
    omega (
      arith,
      c.in_ok-root.ensures.words,
      on.holds.count,
      ap (λ depth. length (file_words 2 depth cells)) deep,
      count_words after.depth after.queues.entries after.counts are cells top after.last (words ++ on.more) (omega (arith, deep, now.least)) after.inside on.holds.queued,
    ) in
    let many : length (face_leaves cells) ≡ length cells = length-map cells (λ (cell : Cell). record { node = cell.code; word = 1 + 256 * cell.face }) in
    let count : c.write_row.new.self.cells ≡ length cells =
    omega (arith, c.write_row.ensures.cells, on.holds.cells, many) in
    λ i. record { records = records i; cells = count i }

pub returns-in_err-close_below-clause-front : goal.returns-in_err-close_below-clause-front
returns-in_err-close_below-clause-front g c = λ cells words is.
    let now = c.args.self.now in
    let top : ℕ = now.depth - 1 in
    toward_longer words (written_of (face_leaves cells) (now.depth - suc top) top (now.last / 8 ^ suc top)) (file_words 2 now.depth cells)
    (g.O.ByteSink.written c.args.writer.now.sink.now) (g.O.ByteSink.written c.close_below.new.writer.sink.now) (waiting c.args.writer.now) (c.close_below.ensures.front (face_leaves cells) words is)
    (end_toward now.depth now.last (lowest_of now) top cells (queue_of now.queues.entries now.counts) words (lowest_within now.cells top) (omega (arith, now.least)) now.inside is.queued)

pub returns-in_err-root-clause-front : goal.returns-in_err-root-clause-front
returns-in_err-root-clause-front g c = λ cells words is.
    let now = c.args.self.now in
    let after = c.close_below.new.self in
    let top : ℕ = now.depth - 1 in
    let on = c.in_ok-close_below.ensures.queued (face_leaves cells) words is in
    toward_root cells now.depth now.last after.depth after.last top (queue_of after.queues.entries after.counts) words on.more
    (g.O.ByteSink.written c.args.writer.now.sink.now) (g.O.ByteSink.written c.close_below.new.writer.sink.now) (g.O.ByteSink.written c.write_row.new.writer.sink.now) (waiting c.args.writer.now) (waiting c.close_below.new.writer)
    c.close_below.ensures.depth c.close_below.ensures.last (omega (arith, now.least)) now.inside on.holds.queued (c.close_below.ensures.front (face_leaves cells) words is) on.grown
    c.write_row.ensures.front

pub returns-in_err-add-clause-front : goal.returns-in_err-add-clause-front
returns-in_err-add-clause-front g c = λ cells words is.
    let now = c.args.self.now in
    let after = c.close_below.new.self in
    let top : ℕ = now.depth - 1 in
    let on = c.in_ok-close_below.ensures.queued (face_leaves cells) words is in
    toward_root cells now.depth now.last after.depth after.last top (queue_of after.queues.entries after.counts) words on.more
    (g.O.ByteSink.written c.args.writer.now.sink.now) (g.O.ByteSink.written c.close_below.new.writer.sink.now) (g.O.ByteSink.written c.add.new.self.sink.now) (waiting c.args.writer.now) (waiting c.close_below.new.writer)
    c.close_below.ensures.depth c.close_below.ensures.last (omega (arith, now.least)) now.inside on.holds.queued (c.close_below.ensures.front (face_leaves cells) words is) on.grown
    (grew_row (g.O.ByteSink.written c.close_below.new.writer.sink.now) (g.O.ByteSink.written c.write_row.new.writer.sink.now) (g.O.ByteSink.written c.add.new.self.sink.now) (waiting c.close_below.new.writer) (waiting c.write_row.new.writer)
    (words_in (queue_of after.queues.entries after.counts top)) c.write_row.ensures.front c.in_ok-root.ensures.given c.add.ensures.front)

pub returns-clause-front : goal.returns-clause-front
returns-clause-front g c = λ cells words is.
    let now = c.args.self.now in
    let after = c.close_below.new.self in
    let top : ℕ = now.depth - 1 in
    let on = c.in_ok-close_below.ensures.queued (face_leaves cells) words is in
    toward_root cells now.depth now.last after.depth after.last top (queue_of after.queues.entries after.counts) words on.more
    (g.O.ByteSink.written c.args.writer.now.sink.now) (g.O.ByteSink.written c.close_below.new.writer.sink.now) (g.O.ByteSink.written c.add.new.self.sink.now) (waiting c.args.writer.now) (waiting c.close_below.new.writer)
    c.close_below.ensures.depth c.close_below.ensures.last (omega (arith, now.least)) now.inside on.holds.queued (c.close_below.ensures.front (face_leaves cells) words is) on.grown
    (grew_row (g.O.ByteSink.written c.close_below.new.writer.sink.now) (g.O.ByteSink.written c.write_row.new.writer.sink.now) (g.O.ByteSink.written c.add.new.self.sink.now) (waiting c.close_below.new.writer) (waiting c.write_row.new.writer)
    (words_in (queue_of after.queues.entries after.counts top)) c.write_row.ensures.front c.in_ok-root.ensures.given c.add.ensures.front)
