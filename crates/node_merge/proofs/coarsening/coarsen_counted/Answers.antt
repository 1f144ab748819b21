-- The cells are pushed, and then the queues and the writer are finished.
use Rattle.std.proofs.Common.{rules, ◌≤◌, [], Err, ap, ◌∙◌, arith}
use Rattle.svo_base.specs.GridShape.{GridShape}
use Rattle.node_file.specs.FileView.{FileView}
use Rattle.node_file.specs.declared.records.Totals.{Totals}
use Rattle.node_check.specs.declared.stops.AnswerStop.TheVariants.{WriteFault}
use Rattle.level_queues.specs.PushedFiles.{HasPushed}
use Rattle.level_queues.proofs.PushedFiles.{none_pushed}
use Rattle.node_merge.specs.Combined.{coarse_grid}
use Rattle.node_merge.specs.Maps.{IsCoarse, AreCoarseFaces}
use Rattle.node_merge.specs.Pushing.{PushesAll}
use Rattle.node_merge.proofs.MapFiles.{first_stop, ended_map, closed_map, whole_map, totals_map, moved_map, map_as}
use Rattle.node_merge.proofs.CoarseNodes.{covers_coarse}
use Rattle.node_merge.proofs.CoarsePushes.{begun_coarse}
use Rattle.node_merge.proofs.coarsening.coarsen_counted.Goals as goal

pub push_coarse-requires-clause-pushed : goal.push_coarse-requires-clause-pushed
push_coarse-requires-clause-pushed g c =
    let file : FileView = g.R.Records.file c.args.nodes.now in
    let grid : GridShape = coarse_grid c.args.levels file.grid in
    let least : 1 ≤ grid.depth = omega (arith, c.requires.levels) in
    let start = g.O.ByteSink.written c.args.out.now in
    let none : HasPushed grid start 0 [] c.new-queues.result c.in-Ok.writer =
    begun_coarse file c.args.levels c.coarser-grid.result start c.new-queues.result c.in-Ok.writer (c.coarser-grid.ensures.grid ∙ ap (coarse_grid c.args.levels) c.grid.ensures.value)
    (none_pushed c.coarser-grid.result start c.new-queues.result c.in-Ok.writer c.new-queues.ensures.queued (c.new-queues.ensures.depth ∙ c.depth.ensures.value)
    c.in-Ok.ensures.given c.in-Ok.ensures.unwritten c.in-Ok.ensures.records) in
    (start, none)

pub returns-in-Err-push_coarse-clause-told : goal.returns-in-Err-push_coarse-clause-told
returns-in-Err-push_coarse-clause-told g c =
    let file : FileView = g.R.Records.file c.args.nodes.now in
    let grid : GridShape = coarse_grid c.args.levels file.grid in
    let least : 1 ≤ grid.depth = omega (arith, c.requires.levels) in
    let start = g.O.ByteSink.written c.args.out.now in
    let none : HasPushed grid start 0 [] c.new-queues.result c.in-Ok.writer =
    begun_coarse file c.args.levels c.coarser-grid.result start c.new-queues.result c.in-Ok.writer (c.coarser-grid.ensures.grid ∙ ap (coarse_grid c.args.levels) c.grid.ensures.value)
    (none_pushed c.coarser-grid.result start c.new-queues.result c.in-Ok.writer c.new-queues.ensures.queued (c.new-queues.ensures.depth ∙ c.depth.ensures.value)
    c.in-Ok.ensures.given c.in-Ok.ensures.unwritten c.in-Ok.ensures.records) in
    map_as Totals grid (IsCoarse file c.args.levels) start _ (g.O.ByteSink.written c.push_coarse.new.writer.sink.now) (Err c.in-Err-push_coarse.stop) (search rules)
    (first_stop Totals grid start (g.O.ByteSink.written c.push_coarse.new.writer.sink.now) (AreCoarseFaces file c.args.levels) (IsCoarse file c.args.levels) c.in-Err-push_coarse.stop
    (covers_coarse file c.args.levels) c.in-Err-push_coarse.ensures.unrefused (c.push_coarse.ensures.front start none))

pub finish-requires-clause-queued : goal.finish-requires-clause-queued
finish-requires-clause-queued g c =
    let file : FileView = g.R.Records.file c.args.nodes.now in
    let grid : GridShape = coarse_grid c.args.levels file.grid in
    let least : 1 ≤ grid.depth = omega (arith, c.requires.levels) in
    let start = g.O.ByteSink.written c.args.out.now in
    let none : HasPushed grid start 0 [] c.new-queues.result c.in-Ok.writer =
    begun_coarse file c.args.levels c.coarser-grid.result start c.new-queues.result c.in-Ok.writer (c.coarser-grid.ensures.grid ∙ ap (coarse_grid c.args.levels) c.grid.ensures.value)
    (none_pushed c.coarser-grid.result start c.new-queues.result c.in-Ok.writer c.new-queues.ensures.queued (c.new-queues.ensures.depth ∙ c.depth.ensures.value)
    c.in-Ok.ensures.given c.in-Ok.ensures.unwritten c.in-Ok.ensures.records) in
    let on : PushesAll grid start (IsCoarse file c.args.levels) c.push_coarse.new.queues c.push_coarse.new.writer = c.in-Ok-push_coarse.ensures.pushed start none in
    (on.cells, on.pushed.queued.more, on.pushed.queued.holds)

pub finish-requires-clause-records : goal.finish-requires-clause-records
finish-requires-clause-records g c =
    let file : FileView = g.R.Records.file c.args.nodes.now in
    let grid : GridShape = coarse_grid c.args.levels file.grid in
    let least : 1 ≤ grid.depth = omega (arith, c.requires.levels) in
    let start = g.O.ByteSink.written c.args.out.now in
    let none : HasPushed grid start 0 [] c.new-queues.result c.in-Ok.writer =
    begun_coarse file c.args.levels c.coarser-grid.result start c.new-queues.result c.in-Ok.writer (c.coarser-grid.ensures.grid ∙ ap (coarse_grid c.args.levels) c.grid.ensures.value)
    (none_pushed c.coarser-grid.result start c.new-queues.result c.in-Ok.writer c.new-queues.ensures.queued (c.new-queues.ensures.depth ∙ c.depth.ensures.value)
    c.in-Ok.ensures.given c.in-Ok.ensures.unwritten c.in-Ok.ensures.records) in
    (c.in-Ok-push_coarse.ensures.pushed start none).pushed.records

pub returns-in_default-clause-told : goal.returns-in_default-clause-told
returns-in_default-clause-told g c =
    let file : FileView = g.R.Records.file c.args.nodes.now in
    let grid : GridShape = coarse_grid c.args.levels file.grid in
    let least : 1 ≤ grid.depth = omega (arith, c.requires.levels) in
    let start = g.O.ByteSink.written c.args.out.now in
    let none : HasPushed grid start 0 [] c.new-queues.result c.in-Ok.writer =
    begun_coarse file c.args.levels c.coarser-grid.result start c.new-queues.result c.in-Ok.writer (c.coarser-grid.ensures.grid ∙ ap (coarse_grid c.args.levels) c.grid.ensures.value)
    (none_pushed c.coarser-grid.result start c.new-queues.result c.in-Ok.writer c.new-queues.ensures.queued (c.new-queues.ensures.depth ∙ c.depth.ensures.value)
    c.in-Ok.ensures.given c.in-Ok.ensures.unwritten c.in-Ok.ensures.records) in
    let on : PushesAll grid start (IsCoarse file c.args.levels) c.push_coarse.new.queues c.push_coarse.new.writer = c.in-Ok-push_coarse.ensures.pushed start none in
    map_as Totals grid (IsCoarse file c.args.levels) start _ (g.O.ByteSink.written c.finish.new.writer.sink.now) (Err WriteFault) (search rules)
    (ended_map grid start (IsCoarse file c.args.levels) c.push_coarse.new.queues c.push_coarse.new.writer least on Totals (g.O.ByteSink.written c.finish.new.writer.sink.now) c.finish.ensures.front)

pub returns-in-Ok-finish-2-clause-told : goal.returns-in-Ok-finish-2-clause-told
returns-in-Ok-finish-2-clause-told g c =
    let file : FileView = g.R.Records.file c.args.nodes.now in
    let grid : GridShape = coarse_grid c.args.levels file.grid in
    let least : 1 ≤ grid.depth = omega (arith, c.requires.levels) in
    let start = g.O.ByteSink.written c.args.out.now in
    let none : HasPushed grid start 0 [] c.new-queues.result c.in-Ok.writer =
    begun_coarse file c.args.levels c.coarser-grid.result start c.new-queues.result c.in-Ok.writer (c.coarser-grid.ensures.grid ∙ ap (coarse_grid c.args.levels) c.grid.ensures.value)
    (none_pushed c.coarser-grid.result start c.new-queues.result c.in-Ok.writer c.new-queues.ensures.queued (c.new-queues.ensures.depth ∙ c.depth.ensures.value)
    c.in-Ok.ensures.given c.in-Ok.ensures.unwritten c.in-Ok.ensures.records) in
    let on : PushesAll grid start (IsCoarse file c.args.levels) c.push_coarse.new.queues c.push_coarse.new.writer = c.in-Ok-push_coarse.ensures.pushed start none in
    let whole = c.in-Ok-finish-2.ensures.whole in
    whole_map grid start (IsCoarse file c.args.levels) c.push_coarse.new.queues c.push_coarse.new.writer least on c.finish.new.writer c.in-Ok-finish.totals c.in-Ok-finish.ensures.words c.in-Ok-finish.ensures.totals c.in-Ok-finish.ensures.records Totals c.in-Ok-finish.totals _ (search (rules, whole))

pub returns-in-Ok-finish-2-clause-totals : goal.returns-in-Ok-finish-2-clause-totals
returns-in-Ok-finish-2-clause-totals g c =
    let file : FileView = g.R.Records.file c.args.nodes.now in
    let grid : GridShape = coarse_grid c.args.levels file.grid in
    let least : 1 ≤ grid.depth = omega (arith, c.requires.levels) in
    let start = g.O.ByteSink.written c.args.out.now in
    let none : HasPushed grid start 0 [] c.new-queues.result c.in-Ok.writer =
    begun_coarse file c.args.levels c.coarser-grid.result start c.new-queues.result c.in-Ok.writer (c.coarser-grid.ensures.grid ∙ ap (coarse_grid c.args.levels) c.grid.ensures.value)
    (none_pushed c.coarser-grid.result start c.new-queues.result c.in-Ok.writer c.new-queues.ensures.queued (c.new-queues.ensures.depth ∙ c.depth.ensures.value)
    c.in-Ok.ensures.given c.in-Ok.ensures.unwritten c.in-Ok.ensures.records) in
    let on : PushesAll grid start (IsCoarse file c.args.levels) c.push_coarse.new.queues c.push_coarse.new.writer = c.in-Ok-push_coarse.ensures.pushed start none in
    totals_map grid start (IsCoarse file c.args.levels) c.push_coarse.new.queues c.push_coarse.new.writer least on c.finish.new.writer c.in-Ok-finish.totals c.in-Ok-finish.ensures.words c.in-Ok-finish.ensures.totals c.in-Ok-finish.ensures.records

pub returns-in-Ok-finish-2-clause-moves : goal.returns-in-Ok-finish-2-clause-moves
returns-in-Ok-finish-2-clause-moves g c =
    let file : FileView = g.R.Records.file c.args.nodes.now in
    let grid : GridShape = coarse_grid c.args.levels file.grid in
    let least : 1 ≤ grid.depth = omega (arith, c.requires.levels) in
    let start = g.O.ByteSink.written c.args.out.now in
    let none : HasPushed grid start 0 [] c.new-queues.result c.in-Ok.writer =
    begun_coarse file c.args.levels c.coarser-grid.result start c.new-queues.result c.in-Ok.writer (c.coarser-grid.ensures.grid ∙ ap (coarse_grid c.args.levels) c.grid.ensures.value)
    (none_pushed c.coarser-grid.result start c.new-queues.result c.in-Ok.writer c.new-queues.ensures.queued (c.new-queues.ensures.depth ∙ c.depth.ensures.value)
    c.in-Ok.ensures.given c.in-Ok.ensures.unwritten c.in-Ok.ensures.records) in
    let on : PushesAll grid start (IsCoarse file c.args.levels) c.push_coarse.new.queues c.push_coarse.new.writer = c.in-Ok-push_coarse.ensures.pushed start none in
    moved_map grid start (IsCoarse file c.args.levels) c.push_coarse.new.queues c.push_coarse.new.writer least on c.args.moves.now c.push_coarse.new.moves c.finish.new.moves c.new-queues.result.depth c.new-queues.result.cells
    c.push_coarse.ensures.depth c.in-Ok-push_coarse.ensures.moves c.finish.ensures.moves

pub returns-clause-told : goal.returns-clause-told
returns-clause-told g c =
    let file : FileView = g.R.Records.file c.args.nodes.now in
    let grid : GridShape = coarse_grid c.args.levels file.grid in
    let least : 1 ≤ grid.depth = omega (arith, c.requires.levels) in
    let start = g.O.ByteSink.written c.args.out.now in
    let none : HasPushed grid start 0 [] c.new-queues.result c.in-Ok.writer =
    begun_coarse file c.args.levels c.coarser-grid.result start c.new-queues.result c.in-Ok.writer (c.coarser-grid.ensures.grid ∙ ap (coarse_grid c.args.levels) c.grid.ensures.value)
    (none_pushed c.coarser-grid.result start c.new-queues.result c.in-Ok.writer c.new-queues.ensures.queued (c.new-queues.ensures.depth ∙ c.depth.ensures.value)
    c.in-Ok.ensures.given c.in-Ok.ensures.unwritten c.in-Ok.ensures.records) in
    let on : PushesAll grid start (IsCoarse file c.args.levels) c.push_coarse.new.queues c.push_coarse.new.writer = c.in-Ok-push_coarse.ensures.pushed start none in
    map_as Totals grid (IsCoarse file c.args.levels) start _ (g.O.ByteSink.written c.finish-2.new.self.0) (Err WriteFault) (search rules)
    (closed_map grid start (IsCoarse file c.args.levels) c.push_coarse.new.queues c.push_coarse.new.writer least on c.finish.new.writer c.in-Ok-finish.totals c.in-Ok-finish.ensures.words c.in-Ok-finish.ensures.totals c.in-Ok-finish.ensures.records Totals (g.O.ByteSink.written c.finish-2.new.self.0) c.finish.ensures.front c.finish-2.ensures.front)
