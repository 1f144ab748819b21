use Rattle.std.proofs.Common.{rules, [], arith, ◌∙◌}
use Rattle.octree_specs.specs.OctreeFile.{image_of}
use Rattle.node_file.specs.Waiting.{GrewByFront}
use Rattle.level_queues.specs.PushedFiles.{HasPushed}
use Rattle.level_queues.proofs.PushedFiles.{none_pushed}
use Rattle.build_core.specs.PutFiles.{HasPutFront}
use Rattle.build_core.proofs.FilesPut.{front_left, front_of_all, all_ended, all_closed, all_put}
use Rattle.build_core.proofs.nodes.write_nodes.Goals as goal

pub write_parts-requires-clause-pushed : goal.write_parts-requires-clause-pushed
write_parts-requires-clause-pushed g c = (
  g.O.ByteSink.written c.args.out.now,
  none_pushed c.args.grid.now (g.O.ByteSink.written c.args.out.now) c.new-queues.result c.in-Ok.writer c.new-queues.ensures.queued (c.new-queues.ensures.depth ∙ c.depth.ensures.value)
      c.in-Ok.ensures.given c.in-Ok.ensures.unwritten c.in-Ok.ensures.records,
)

pub returns-in_err-write_parts-clause-front : goal.returns-in_err-write_parts-clause-front
returns-in_err-write_parts-clause-front g c =
    let start = g.O.ByteSink.written c.args.out.now in
    let none : HasPushed c.args.grid.now start 0 [] c.new-queues.result c.in-Ok.writer =
    none_pushed c.args.grid.now start c.new-queues.result c.in-Ok.writer c.new-queues.ensures.queued (c.new-queues.ensures.depth ∙ c.depth.ensures.value)
    c.in-Ok.ensures.given c.in-Ok.ensures.unwritten c.in-Ok.ensures.records in
    let left : HasPutFront c.args.grid.now c.args.split (g.S.Scratch.told c.args.scratch.now) start (g.O.ByteSink.written c.write_parts.new.writer.sink.now) c.args.moves.now c.write_parts.new.moves =
    front_left c.args.grid.now c.args.split start (g.O.ByteSink.written c.write_parts.new.writer.sink.now) (g.S.Scratch.told c.args.scratch.now) c.args.moves.now c.write_parts.new.moves (c.write_parts.ensures.front start none) in
    record {
      some = record { cells = left.some.cells; are = left.some.are; front = (left.some.front.0, search (rules, left.some.front.1)); few_moves = left.some.few_moves };
      filled = λ faced parts.
          let of_all = left.filled faced parts in
          record { cells = of_all.cells; are = of_all.are; front = (of_all.front.0, search (rules, of_all.front.1)); few_moves = of_all.few_moves };
    }

pub finish-requires-clause-queued : goal.finish-requires-clause-queued
finish-requires-clause-queued g c =
    let start = g.O.ByteSink.written c.args.out.now in
    let none : HasPushed c.args.grid.now start 0 [] c.new-queues.result c.in-Ok.writer =
    none_pushed c.args.grid.now start c.new-queues.result c.in-Ok.writer c.new-queues.ensures.queued (c.new-queues.ensures.depth ∙ c.depth.ensures.value)
    c.in-Ok.ensures.given c.in-Ok.ensures.unwritten c.in-Ok.ensures.records in
    let on = c.in_ok-write_parts.ensures.pushed start none in
    (on.more, on.pushed.queued.more, on.pushed.queued.holds)

pub finish-requires-clause-records : goal.finish-requires-clause-records
finish-requires-clause-records g c =
    let start = g.O.ByteSink.written c.args.out.now in
    let none : HasPushed c.args.grid.now start 0 [] c.new-queues.result c.in-Ok.writer =
    none_pushed c.args.grid.now start c.new-queues.result c.in-Ok.writer c.new-queues.ensures.queued (c.new-queues.ensures.depth ∙ c.depth.ensures.value)
    c.in-Ok.ensures.given c.in-Ok.ensures.unwritten c.in-Ok.ensures.records in
    (c.in_ok-write_parts.ensures.pushed start none).pushed.records

pub returns-in_default-clause-front : goal.returns-in_default-clause-front
returns-in_default-clause-front g c =
    let start = g.O.ByteSink.written c.args.out.now in
    let none : HasPushed c.args.grid.now start 0 [] c.new-queues.result c.in-Ok.writer =
    none_pushed c.args.grid.now start c.new-queues.result c.in-Ok.writer c.new-queues.ensures.queued (c.new-queues.ensures.depth ∙ c.depth.ensures.value)
    c.in-Ok.ensures.given c.in-Ok.ensures.unwritten c.in-Ok.ensures.records in
    let on = c.in_ok-write_parts.ensures.pushed start none in
    let told = g.S.Scratch.told c.args.scratch.now in
    let ended : GrewByFront start (g.O.ByteSink.written c.finish.new.writer.sink.now) (image_of 2 c.args.grid.now on.more) =
    all_ended c.args.grid.now c.args.split told start c.write_parts.new.queues c.write_parts.new.writer c.args.moves.now c.write_parts.new.moves on (g.O.ByteSink.written c.finish.new.writer.sink.now) c.finish.ensures.front in
    front_of_all c.args.grid.now c.args.split told start c.write_parts.new.queues c.write_parts.new.writer c.args.moves.now c.write_parts.new.moves on _ c.finish.new.moves c.finish.ensures.moves (ended.0, search (rules, ended.1))

pub returns-in-Ok-finish-2-clause-file : goal.returns-in-Ok-finish-2-clause-file
returns-in-Ok-finish-2-clause-file g c =
    let start = g.O.ByteSink.written c.args.out.now in
    let none : HasPushed c.args.grid.now start 0 [] c.new-queues.result c.in-Ok.writer =
    none_pushed c.args.grid.now start c.new-queues.result c.in-Ok.writer c.new-queues.ensures.queued (c.new-queues.ensures.depth ∙ c.depth.ensures.value)
    c.in-Ok.ensures.given c.in-Ok.ensures.unwritten c.in-Ok.ensures.records in
    let on = c.in_ok-write_parts.ensures.pushed start none in
    let told = g.S.Scratch.told c.args.scratch.now in
    let whole = c.in-Ok-finish-2.ensures.whole in
    all_put c.args.grid.now c.args.split told start c.write_parts.new.queues c.write_parts.new.writer c.args.moves.now c.write_parts.new.moves on c.finish.new.writer c.in-Ok-finish.totals
    c.in-Ok-finish.ensures.words c.in-Ok-finish.ensures.totals c.in-Ok-finish.ensures.records
    _ c.finish.new.moves (search (rules, whole)) c.finish.ensures.moves

pub returns-in-Ok-finish-2-clause-front : goal.returns-in-Ok-finish-2-clause-front
returns-in-Ok-finish-2-clause-front g c =
    let start = g.O.ByteSink.written c.args.out.now in
    let none : HasPushed c.args.grid.now start 0 [] c.new-queues.result c.in-Ok.writer =
    none_pushed c.args.grid.now start c.new-queues.result c.in-Ok.writer c.new-queues.ensures.queued (c.new-queues.ensures.depth ∙ c.depth.ensures.value)
    c.in-Ok.ensures.given c.in-Ok.ensures.unwritten c.in-Ok.ensures.records in
    let on = c.in_ok-write_parts.ensures.pushed start none in
    let told = g.S.Scratch.told c.args.scratch.now in
    let ended : GrewByFront start (g.O.ByteSink.written c.finish.new.writer.sink.now) (image_of 2 c.args.grid.now on.more) =
    all_ended c.args.grid.now c.args.split told start c.write_parts.new.queues c.write_parts.new.writer c.args.moves.now c.write_parts.new.moves on (g.O.ByteSink.written c.finish.new.writer.sink.now) c.finish.ensures.front in
    let closed : GrewByFront start (g.O.ByteSink.written c.finish-2.new.self.0) (image_of 2 c.args.grid.now on.more) =
    all_closed c.args.grid.now c.args.split told start c.write_parts.new.queues c.write_parts.new.writer c.args.moves.now c.write_parts.new.moves on c.finish.new.writer c.in-Ok-finish.totals
    c.in-Ok-finish.ensures.words c.in-Ok-finish.ensures.totals c.in-Ok-finish.ensures.records (g.O.ByteSink.written c.finish-2.new.self.0) ended c.finish-2.ensures.front in
    front_of_all c.args.grid.now c.args.split told start c.write_parts.new.queues c.write_parts.new.writer c.args.moves.now c.write_parts.new.moves on _ c.finish.new.moves c.finish.ensures.moves (closed.0, search (rules, closed.1))

pub returns-in-Err-finish-clause-front : goal.returns-in-Err-finish-clause-front
returns-in-Err-finish-clause-front g c =
    let start = g.O.ByteSink.written c.args.out.now in
    let none : HasPushed c.args.grid.now start 0 [] c.new-queues.result c.in-Ok.writer =
    none_pushed c.args.grid.now start c.new-queues.result c.in-Ok.writer c.new-queues.ensures.queued (c.new-queues.ensures.depth ∙ c.depth.ensures.value)
    c.in-Ok.ensures.given c.in-Ok.ensures.unwritten c.in-Ok.ensures.records in
    let on = c.in_ok-write_parts.ensures.pushed start none in
    let told = g.S.Scratch.told c.args.scratch.now in
    let ended : GrewByFront start (g.O.ByteSink.written c.finish.new.writer.sink.now) (image_of 2 c.args.grid.now on.more) =
    all_ended c.args.grid.now c.args.split told start c.write_parts.new.queues c.write_parts.new.writer c.args.moves.now c.write_parts.new.moves on (g.O.ByteSink.written c.finish.new.writer.sink.now) c.finish.ensures.front in
    let closed : GrewByFront start (g.O.ByteSink.written c.finish-2.new.self.0) (image_of 2 c.args.grid.now on.more) =
    all_closed c.args.grid.now c.args.split told start c.write_parts.new.queues c.write_parts.new.writer c.args.moves.now c.write_parts.new.moves on c.finish.new.writer c.in-Ok-finish.totals
    c.in-Ok-finish.ensures.words c.in-Ok-finish.ensures.totals c.in-Ok-finish.ensures.records (g.O.ByteSink.written c.finish-2.new.self.0) ended c.finish-2.ensures.front in
    front_of_all c.args.grid.now c.args.split told start c.write_parts.new.queues c.write_parts.new.writer c.args.moves.now c.write_parts.new.moves on _ c.finish.new.moves c.finish.ensures.moves (closed.0, search (rules, closed.1))
