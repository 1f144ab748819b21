-- All that the cell leaves is closed, and the lowest queue has room for the cell.
use Rattle.std.proofs.Common.{suc, ◌-◌, ◌+◌, ◌*◌, ◌/◌, ◌^◌, ◌==◌, cond, ◌++◌, ◌∷◌, List, [], ℕ, length, ap, ◌∙◌, arith}
use Rattle.std.proofs.lemmas.List.{length-append}
use Rattle.octree_specs.specs.Cells.{Cell}
use Rattle.octree_specs.specs.Formats.{face_leaves, file_words}
use Rattle.octree_specs.specs.Octree.{Leaf}
use Rattle.node_file.specs.Writing.{given, waiting}
use Rattle.level_queues.specs.Queued.{queue_of, written_of}
use Rattle.level_queues.specs.Pushed.{IsQueuedAt, IsQueued, lowest_of}
use Rattle.level_queues.proofs.Ahead.{cell_toward}
use Rattle.level_queues.proofs.Grown.{toward_longer}
use Rattle.level_queues.proofs.Onward.{goes_nowhere, goes_further}
use Rattle.level_queues.proofs.Turns.{AreRows, are_rows}
use Rattle.level_queues.proofs.PushedCells.{IsBehind, face_leaves-more, lowest_later, room_pushed, put_pushed}
use Rattle.level_queues.proofs.levels.LevelQueues.push.Goals as goal

pub close_below-requires-clause-queued : goal.close_below-requires-clause-queued
close_below-requires-clause-queued g c = (face_leaves c.requires.queued.0, c.requires.queued.1, c.requires.queued.2)

pub put_cell-requires-clause-room : goal.put_cell-requires-clause-room
put_cell-requires-clause-room g c =
    let after = c.close_below.new.self in
    let target : ℕ = c.target-target.result in
    let are : AreRows after.depth after.queues.entries after.counts = are_rows after in
    let leaves : List Leaf = face_leaves c.requires.queued.0 in
    let on = c.in_ok-close_below.ensures.queued leaves c.requires.queued.1 c.requires.queued.2 in
    let behind : IsBehind after.cells after.last c.args.code target =
    rw (c.close_below.ensures.cells, c.close_below.ensures.last) (record { later = c.requires.after; same = c.target-target.ensures.same; apart = c.target-target.ensures.apart }) in
    room_pushed after.depth after.queues.entries after.counts are leaves target after.last after.cells _ (omega (arith, c.target-target.ensures.within, c.close_below.ensures.depth))
    on.holds.queued on.holds.cells (record { node = c.args.code; word = 1 + 256 * c.args.face }) behind

pub returns-clause-queued : goal.returns-clause-queued
returns-clause-queued g c = λ cells words is.
    let after = c.close_below.new.self in
    let pushed = c.put_cell.new.self in
    let target : ℕ = c.target-target.result in
    let cell : Cell = record { code = c.args.code; face = c.args.face } in
    let leaf : Leaf = record { node = c.args.code; word = 1 + 256 * c.args.face } in
    let are : AreRows after.depth after.queues.entries after.counts = are_rows after in
    let behind : IsBehind after.cells after.last c.args.code target =
    rw (c.close_below.ensures.cells, c.close_below.ensures.last) (record { later = c.requires.after; same = c.target-target.ensures.same; apart = c.target-target.ensures.apart }) in
    goes_further words (given c.args.writer.now) (given c.close_below.new.writer) (given c.close_below.new.writer) (IsQueuedAt (face_leaves cells) target after) (IsQueued (cells ++ cell ∷ []) pushed)
    (c.in_ok-close_below.ensures.queued (face_leaves cells) words is)
    (λ all at. goes_nowhere all (given c.close_below.new.writer) (IsQueued (cells ++ cell ∷ []) pushed) (record {
      queued = rw (face_leaves-more cells cell, c.put_cell.ensures.last)
          (put_pushed after.depth after.queues.entries after.counts are (face_leaves cells) target after.last after.cells all (omega (arith, c.target-target.ensures.within, c.close_below.ensures.depth))
          at.queued at.cells leaf behind pushed.depth (lowest_of pushed) pushed.queues.entries pushed.counts
          c.put_cell.ensures.entries c.put_cell.ensures.counts c.put_cell.ensures.depth
          (ap (λ n. cond (n == 0) (pushed.depth - 1) 0) c.put_cell.ensures.cells ∙ lowest_later after.cells (pushed.depth - 1)));
      count = c.put_cell.ensures.words ∙ at.count;
      cells = omega (arith, c.put_cell.ensures.cells, at.cells, ap length (face_leaves-more cells cell), length-append (face_leaves cells) (leaf ∷ []));
    }))

pub returns-in_err-close_below-clause-front : goal.returns-in_err-close_below-clause-front
returns-in_err-close_below-clause-front g c = λ cells words is later ascend.
    let now = c.args.self.now in
    let target : ℕ = c.target-target.result in
    let cell : Cell = record { code = c.args.code; face = c.args.face } in
    let behind : IsBehind now.cells now.last c.args.code target = record { later = c.requires.after; same = c.target-target.ensures.same; apart = c.target-target.ensures.apart } in
    toward_longer words (written_of (face_leaves cells) (now.depth - suc target) target (now.last / 8 ^ suc target)) (file_words 2 now.depth (cells ++ cell ∷ later))
    (g.O.ByteSink.written c.args.writer.now.sink.now) (g.O.ByteSink.written c.close_below.new.writer.sink.now) (waiting c.args.writer.now) (c.close_below.ensures.front (face_leaves cells) words is)
    (cell_toward now.depth now.last (lowest_of now) target now.cells cells cell later (queue_of now.queues.entries now.counts) words
    c.target-target.ensures.reached c.target-target.ensures.within is.cells behind c.requires.inside ascend is.queued)

pub returns-clause-front : goal.returns-clause-front
returns-clause-front g c = λ cells words is later ascend.
    let now = c.args.self.now in
    let target : ℕ = c.target-target.result in
    let cell : Cell = record { code = c.args.code; face = c.args.face } in
    let behind : IsBehind now.cells now.last c.args.code target = record { later = c.requires.after; same = c.target-target.ensures.same; apart = c.target-target.ensures.apart } in
    toward_longer words (written_of (face_leaves cells) (now.depth - suc target) target (now.last / 8 ^ suc target)) (file_words 2 now.depth (cells ++ cell ∷ later))
    (g.O.ByteSink.written c.args.writer.now.sink.now) (g.O.ByteSink.written c.close_below.new.writer.sink.now) (waiting c.args.writer.now) (c.close_below.ensures.front (face_leaves cells) words is)
    (cell_toward now.depth now.last (lowest_of now) target now.cells cells cell later (queue_of now.queues.entries now.counts) words
    c.target-target.ensures.reached c.target-target.ensures.within is.cells behind c.requires.inside ascend is.queued)
