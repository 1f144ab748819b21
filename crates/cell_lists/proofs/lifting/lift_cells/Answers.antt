-- The cells are pushed, and then the queues and the writer are finished.
use Rattle.std.proofs.Common.{rules, [], Err, subst, ◌∙◌}
use Rattle.svo_base.specs.GridShape.{GridShape}
use Rattle.node_file.specs.FileView.{FileView}
use Rattle.node_check.specs.declared.stops.AnswerStop.TheVariants.{WriteFault}
use Rattle.level_queues.specs.PushedFiles.{HasPushed}
use Rattle.level_queues.proofs.PushedFiles.{none_pushed}
use Rattle.cell_lists.specs.Lifted.{PushesAll}
use Rattle.cell_lists.proofs.Lifts.{first_put, ended_put, closed_put, all_put, put_as, few_moves}
use Rattle.cell_lists.proofs.lifting.lift_cells.Goals as goal

pub push_cells-requires-clause-pushed : goal.push_cells-requires-clause-pushed
push_cells-requires-clause-pushed g c =
    let file : FileView = g.R.Records.file c.args.nodes.now in
    let start = g.O.ByteSink.written c.args.out.now in
    let none : HasPushed file.grid start 0 [] c.new-queues.result c.in-Ok.writer =
    subst (λ (shape : GridShape). HasPushed shape start 0 [] c.new-queues.result c.in-Ok.writer) c.requires.grid
    (none_pushed c.args.grid.now start c.new-queues.result c.in-Ok.writer c.new-queues.ensures.queued (c.new-queues.ensures.depth ∙ c.depth.ensures.value)
    c.in-Ok.ensures.given c.in-Ok.ensures.unwritten c.in-Ok.ensures.records) in
    (start, none)

pub returns-in-Err-push_cells-clause-told : goal.returns-in-Err-push_cells-clause-told
returns-in-Err-push_cells-clause-told g c =
    let file : FileView = g.R.Records.file c.args.nodes.now in
    let start = g.O.ByteSink.written c.args.out.now in
    let none : HasPushed file.grid start 0 [] c.new-queues.result c.in-Ok.writer =
    subst (λ (shape : GridShape). HasPushed shape start 0 [] c.new-queues.result c.in-Ok.writer) c.requires.grid
    (none_pushed c.args.grid.now start c.new-queues.result c.in-Ok.writer c.new-queues.ensures.queued (c.new-queues.ensures.depth ∙ c.depth.ensures.value)
    c.in-Ok.ensures.given c.in-Ok.ensures.unwritten c.in-Ok.ensures.records) in
    put_as (Unit {0}) file start _ (g.O.ByteSink.written c.push_cells.new.writer.sink.now) (Err c.in-Err-push_cells.stop) (search rules)
    (first_put (Unit {0}) file start (g.O.ByteSink.written c.push_cells.new.writer.sink.now) c.in-Err-push_cells.stop c.in-Err-push_cells.ensures.unrefused (c.in-Err-push_cells.ensures.front start none))

pub finish-requires-clause-queued : goal.finish-requires-clause-queued
finish-requires-clause-queued g c =
    let file : FileView = g.R.Records.file c.args.nodes.now in
    let start = g.O.ByteSink.written c.args.out.now in
    let none : HasPushed file.grid start 0 [] c.new-queues.result c.in-Ok.writer =
    subst (λ (shape : GridShape). HasPushed shape start 0 [] c.new-queues.result c.in-Ok.writer) c.requires.grid
    (none_pushed c.args.grid.now start c.new-queues.result c.in-Ok.writer c.new-queues.ensures.queued (c.new-queues.ensures.depth ∙ c.depth.ensures.value)
    c.in-Ok.ensures.given c.in-Ok.ensures.unwritten c.in-Ok.ensures.records) in
    let on : PushesAll file start c.push_cells.new.queues c.push_cells.new.writer = c.in-Ok-push_cells.ensures.pushed start none in
    (on.cells, on.pushed.queued.more, on.pushed.queued.holds)

pub finish-requires-clause-records : goal.finish-requires-clause-records
finish-requires-clause-records g c =
    let file : FileView = g.R.Records.file c.args.nodes.now in
    let start = g.O.ByteSink.written c.args.out.now in
    let none : HasPushed file.grid start 0 [] c.new-queues.result c.in-Ok.writer =
    subst (λ (shape : GridShape). HasPushed shape start 0 [] c.new-queues.result c.in-Ok.writer) c.requires.grid
    (none_pushed c.args.grid.now start c.new-queues.result c.in-Ok.writer c.new-queues.ensures.queued (c.new-queues.ensures.depth ∙ c.depth.ensures.value)
    c.in-Ok.ensures.given c.in-Ok.ensures.unwritten c.in-Ok.ensures.records) in
    (c.in-Ok-push_cells.ensures.pushed start none).pushed.records

pub returns-in_default-clause-told : goal.returns-in_default-clause-told
returns-in_default-clause-told g c =
    let file : FileView = g.R.Records.file c.args.nodes.now in
    let start = g.O.ByteSink.written c.args.out.now in
    let none : HasPushed file.grid start 0 [] c.new-queues.result c.in-Ok.writer =
    subst (λ (shape : GridShape). HasPushed shape start 0 [] c.new-queues.result c.in-Ok.writer) c.requires.grid
    (none_pushed c.args.grid.now start c.new-queues.result c.in-Ok.writer c.new-queues.ensures.queued (c.new-queues.ensures.depth ∙ c.depth.ensures.value)
    c.in-Ok.ensures.given c.in-Ok.ensures.unwritten c.in-Ok.ensures.records) in
    let on : PushesAll file start c.push_cells.new.queues c.push_cells.new.writer = c.in-Ok-push_cells.ensures.pushed start none in
    put_as (Unit {0}) file start _ (g.O.ByteSink.written c.finish.new.writer.sink.now) (Err WriteFault) (search rules)
    (ended_put file start c.push_cells.new.queues c.push_cells.new.writer on (Unit {0}) (g.O.ByteSink.written c.finish.new.writer.sink.now) c.finish.ensures.front)

pub returns-in-Ok-finish-2-clause-told : goal.returns-in-Ok-finish-2-clause-told
returns-in-Ok-finish-2-clause-told g c =
    let file : FileView = g.R.Records.file c.args.nodes.now in
    let start = g.O.ByteSink.written c.args.out.now in
    let none : HasPushed file.grid start 0 [] c.new-queues.result c.in-Ok.writer =
    subst (λ (shape : GridShape). HasPushed shape start 0 [] c.new-queues.result c.in-Ok.writer) c.requires.grid
    (none_pushed c.args.grid.now start c.new-queues.result c.in-Ok.writer c.new-queues.ensures.queued (c.new-queues.ensures.depth ∙ c.depth.ensures.value)
    c.in-Ok.ensures.given c.in-Ok.ensures.unwritten c.in-Ok.ensures.records) in
    let on : PushesAll file start c.push_cells.new.queues c.push_cells.new.writer = c.in-Ok-push_cells.ensures.pushed start none in
    let whole = c.in-Ok-finish-2.ensures.whole in
    all_put file start c.push_cells.new.queues c.push_cells.new.writer on c.finish.new.writer c.in-Ok-finish.totals
    c.in-Ok-finish.ensures.words c.in-Ok-finish.ensures.totals c.in-Ok-finish.ensures.records (Unit {0}) tt _ (search (rules, whole))

pub returns-in-Ok-finish-2-clause-moves : goal.returns-in-Ok-finish-2-clause-moves
returns-in-Ok-finish-2-clause-moves g c =
    let file : FileView = g.R.Records.file c.args.nodes.now in
    let start = g.O.ByteSink.written c.args.out.now in
    let none : HasPushed file.grid start 0 [] c.new-queues.result c.in-Ok.writer =
    subst (λ (shape : GridShape). HasPushed shape start 0 [] c.new-queues.result c.in-Ok.writer) c.requires.grid
    (none_pushed c.args.grid.now start c.new-queues.result c.in-Ok.writer c.new-queues.ensures.queued (c.new-queues.ensures.depth ∙ c.depth.ensures.value)
    c.in-Ok.ensures.given c.in-Ok.ensures.unwritten c.in-Ok.ensures.records) in
    let on : PushesAll file start c.push_cells.new.queues c.push_cells.new.writer = c.in-Ok-push_cells.ensures.pushed start none in
    few_moves file start c.push_cells.new.queues c.push_cells.new.writer on c.args.moves.now c.push_cells.new.moves c.finish.new.moves c.new-queues.result.depth c.new-queues.result.cells
    c.push_cells.ensures.depth c.in-Ok-push_cells.ensures.moves c.finish.ensures.moves

pub returns-in-Err-finish-clause-told : goal.returns-in-Err-finish-clause-told
returns-in-Err-finish-clause-told g c =
    let file : FileView = g.R.Records.file c.args.nodes.now in
    let start = g.O.ByteSink.written c.args.out.now in
    let none : HasPushed file.grid start 0 [] c.new-queues.result c.in-Ok.writer =
    subst (λ (shape : GridShape). HasPushed shape start 0 [] c.new-queues.result c.in-Ok.writer) c.requires.grid
    (none_pushed c.args.grid.now start c.new-queues.result c.in-Ok.writer c.new-queues.ensures.queued (c.new-queues.ensures.depth ∙ c.depth.ensures.value)
    c.in-Ok.ensures.given c.in-Ok.ensures.unwritten c.in-Ok.ensures.records) in
    let on : PushesAll file start c.push_cells.new.queues c.push_cells.new.writer = c.in-Ok-push_cells.ensures.pushed start none in
    put_as (Unit {0}) file start _ (g.O.ByteSink.written c.finish-2.new.self.0) (Err WriteFault) (search rules)
    (closed_put file start c.push_cells.new.queues c.push_cells.new.writer on c.finish.new.writer c.in-Ok-finish.totals
    c.in-Ok-finish.ensures.words c.in-Ok-finish.ensures.totals c.in-Ok-finish.ensures.records (Unit {0}) (g.O.ByteSink.written c.finish-2.new.self.0) c.finish.ensures.front c.finish-2.ensures.front)
