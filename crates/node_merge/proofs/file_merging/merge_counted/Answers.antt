-- The cells are pushed, and then the queues and the writer are finished.
use Rattle.std.proofs.Common.{rules, [], Err, refl, subst, ◌∙◌}
use Rattle.svo_base.specs.GridShape.{GridShape}
use Rattle.node_file.specs.declared.records.Totals.{Totals}
use Rattle.node_check.specs.declared.stops.AnswerStop.TheVariants.{WriteFault}
use Rattle.level_queues.specs.PushedFiles.{HasPushed}
use Rattle.level_queues.proofs.PushedFiles.{none_pushed}
use Rattle.node_merge.specs.Maps.{IsMerged, AreMergedFaces}
use Rattle.node_merge.specs.Pushing.{PushesAll}
use Rattle.node_merge.specs.Sides.{turn_view}
use Rattle.node_merge.specs.declared.pairs.Turn.TheVariants.{First, Second}
use Rattle.node_merge.proofs.MapFiles.{first_stop, ended_map, closed_map, whole_map, totals_map, moved_map, map_as}
use Rattle.node_merge.proofs.MergedFaces.{covers_merged}
use Rattle.node_merge.proofs.file_merging.merge_counted.Goals as goal

pub push_merged-requires-clause-pushed : goal.push_merged-requires-clause-pushed
push_merged-requires-clause-pushed g c =
    let start = g.O.ByteSink.written c.args.out.now in
    let none : HasPushed (turn_view First c.args.pair.now).grid start 0 [] c.new-queues.result c.in-Ok.writer =
    subst (λ (shape : GridShape). HasPushed shape start 0 [] c.new-queues.result c.in-Ok.writer) c.frame.ensures.frame.1
    (none_pushed c.frame.result.now.grid start c.new-queues.result c.in-Ok.writer c.new-queues.ensures.queued (c.new-queues.ensures.depth ∙ c.depth.ensures.value)
    c.in-Ok.ensures.given c.in-Ok.ensures.unwritten c.in-Ok.ensures.records) in
    (start, none)

pub returns-in-Err-push_merged-clause-told : goal.returns-in-Err-push_merged-clause-told
returns-in-Err-push_merged-clause-told g c =
    let start = g.O.ByteSink.written c.args.out.now in
    let none : HasPushed (turn_view First c.args.pair.now).grid start 0 [] c.new-queues.result c.in-Ok.writer =
    subst (λ (shape : GridShape). HasPushed shape start 0 [] c.new-queues.result c.in-Ok.writer) c.frame.ensures.frame.1
    (none_pushed c.frame.result.now.grid start c.new-queues.result c.in-Ok.writer c.new-queues.ensures.queued (c.new-queues.ensures.depth ∙ c.depth.ensures.value)
    c.in-Ok.ensures.given c.in-Ok.ensures.unwritten c.in-Ok.ensures.records) in
    map_as Totals (turn_view First c.args.pair.now).grid (IsMerged c.args.kind (turn_view First c.args.pair.now) (turn_view Second c.args.pair.now)) start _ (g.O.ByteSink.written c.push_merged.new.writer.sink.now) (Err c.in-Err-push_merged.stop) (search rules)
    (first_stop Totals (turn_view First c.args.pair.now).grid start (g.O.ByteSink.written c.push_merged.new.writer.sink.now) (AreMergedFaces c.args.kind (turn_view First c.args.pair.now) (turn_view Second c.args.pair.now)) (IsMerged c.args.kind (turn_view First c.args.pair.now) (turn_view Second c.args.pair.now)) c.in-Err-push_merged.stop
    (covers_merged c.args.kind (turn_view First c.args.pair.now) (turn_view Second c.args.pair.now) (turn_view First c.args.pair.now).grid refl) c.in-Err-push_merged.ensures.unrefused (c.push_merged.ensures.front start none))

pub finish-requires-clause-queued : goal.finish-requires-clause-queued
finish-requires-clause-queued g c =
    let start = g.O.ByteSink.written c.args.out.now in
    let none : HasPushed (turn_view First c.args.pair.now).grid start 0 [] c.new-queues.result c.in-Ok.writer =
    subst (λ (shape : GridShape). HasPushed shape start 0 [] c.new-queues.result c.in-Ok.writer) c.frame.ensures.frame.1
    (none_pushed c.frame.result.now.grid start c.new-queues.result c.in-Ok.writer c.new-queues.ensures.queued (c.new-queues.ensures.depth ∙ c.depth.ensures.value)
    c.in-Ok.ensures.given c.in-Ok.ensures.unwritten c.in-Ok.ensures.records) in
    let on : PushesAll (turn_view First c.args.pair.now).grid start (IsMerged c.args.kind (turn_view First c.args.pair.now) (turn_view Second c.args.pair.now)) c.push_merged.new.queues c.push_merged.new.writer = c.in-Ok-push_merged.ensures.pushed start none in
    (on.cells, on.pushed.queued.more, on.pushed.queued.holds)

pub finish-requires-clause-records : goal.finish-requires-clause-records
finish-requires-clause-records g c =
    let start = g.O.ByteSink.written c.args.out.now in
    let none : HasPushed (turn_view First c.args.pair.now).grid start 0 [] c.new-queues.result c.in-Ok.writer =
    subst (λ (shape : GridShape). HasPushed shape start 0 [] c.new-queues.result c.in-Ok.writer) c.frame.ensures.frame.1
    (none_pushed c.frame.result.now.grid start c.new-queues.result c.in-Ok.writer c.new-queues.ensures.queued (c.new-queues.ensures.depth ∙ c.depth.ensures.value)
    c.in-Ok.ensures.given c.in-Ok.ensures.unwritten c.in-Ok.ensures.records) in
    (c.in-Ok-push_merged.ensures.pushed start none).pushed.records

pub returns-in_default-clause-told : goal.returns-in_default-clause-told
returns-in_default-clause-told g c =
    let start = g.O.ByteSink.written c.args.out.now in
    let none : HasPushed (turn_view First c.args.pair.now).grid start 0 [] c.new-queues.result c.in-Ok.writer =
    subst (λ (shape : GridShape). HasPushed shape start 0 [] c.new-queues.result c.in-Ok.writer) c.frame.ensures.frame.1
    (none_pushed c.frame.result.now.grid start c.new-queues.result c.in-Ok.writer c.new-queues.ensures.queued (c.new-queues.ensures.depth ∙ c.depth.ensures.value)
    c.in-Ok.ensures.given c.in-Ok.ensures.unwritten c.in-Ok.ensures.records) in
    let on : PushesAll (turn_view First c.args.pair.now).grid start (IsMerged c.args.kind (turn_view First c.args.pair.now) (turn_view Second c.args.pair.now)) c.push_merged.new.queues c.push_merged.new.writer = c.in-Ok-push_merged.ensures.pushed start none in
    map_as Totals (turn_view First c.args.pair.now).grid (IsMerged c.args.kind (turn_view First c.args.pair.now) (turn_view Second c.args.pair.now)) start _ (g.O.ByteSink.written c.finish.new.writer.sink.now) (Err WriteFault) (search rules)
    (ended_map (turn_view First c.args.pair.now).grid start (IsMerged c.args.kind (turn_view First c.args.pair.now) (turn_view Second c.args.pair.now)) c.push_merged.new.queues c.push_merged.new.writer c.frame.ensures.framed.limits.halved on Totals (g.O.ByteSink.written c.finish.new.writer.sink.now) c.finish.ensures.front)

pub returns-in-Ok-finish-2-clause-told : goal.returns-in-Ok-finish-2-clause-told
returns-in-Ok-finish-2-clause-told g c =
    let start = g.O.ByteSink.written c.args.out.now in
    let none : HasPushed (turn_view First c.args.pair.now).grid start 0 [] c.new-queues.result c.in-Ok.writer =
    subst (λ (shape : GridShape). HasPushed shape start 0 [] c.new-queues.result c.in-Ok.writer) c.frame.ensures.frame.1
    (none_pushed c.frame.result.now.grid start c.new-queues.result c.in-Ok.writer c.new-queues.ensures.queued (c.new-queues.ensures.depth ∙ c.depth.ensures.value)
    c.in-Ok.ensures.given c.in-Ok.ensures.unwritten c.in-Ok.ensures.records) in
    let on : PushesAll (turn_view First c.args.pair.now).grid start (IsMerged c.args.kind (turn_view First c.args.pair.now) (turn_view Second c.args.pair.now)) c.push_merged.new.queues c.push_merged.new.writer = c.in-Ok-push_merged.ensures.pushed start none in
    let whole = c.in-Ok-finish-2.ensures.whole in
    whole_map (turn_view First c.args.pair.now).grid start (IsMerged c.args.kind (turn_view First c.args.pair.now) (turn_view Second c.args.pair.now)) c.push_merged.new.queues c.push_merged.new.writer c.frame.ensures.framed.limits.halved on c.finish.new.writer c.in-Ok-finish.totals c.in-Ok-finish.ensures.words c.in-Ok-finish.ensures.totals c.in-Ok-finish.ensures.records Totals c.in-Ok-finish.totals _ (search (rules, whole))

pub returns-in-Ok-finish-2-clause-totals : goal.returns-in-Ok-finish-2-clause-totals
returns-in-Ok-finish-2-clause-totals g c =
    let start = g.O.ByteSink.written c.args.out.now in
    let none : HasPushed (turn_view First c.args.pair.now).grid start 0 [] c.new-queues.result c.in-Ok.writer =
    subst (λ (shape : GridShape). HasPushed shape start 0 [] c.new-queues.result c.in-Ok.writer) c.frame.ensures.frame.1
    (none_pushed c.frame.result.now.grid start c.new-queues.result c.in-Ok.writer c.new-queues.ensures.queued (c.new-queues.ensures.depth ∙ c.depth.ensures.value)
    c.in-Ok.ensures.given c.in-Ok.ensures.unwritten c.in-Ok.ensures.records) in
    let on : PushesAll (turn_view First c.args.pair.now).grid start (IsMerged c.args.kind (turn_view First c.args.pair.now) (turn_view Second c.args.pair.now)) c.push_merged.new.queues c.push_merged.new.writer = c.in-Ok-push_merged.ensures.pushed start none in
    totals_map (turn_view First c.args.pair.now).grid start (IsMerged c.args.kind (turn_view First c.args.pair.now) (turn_view Second c.args.pair.now)) c.push_merged.new.queues c.push_merged.new.writer c.frame.ensures.framed.limits.halved on c.finish.new.writer c.in-Ok-finish.totals c.in-Ok-finish.ensures.words c.in-Ok-finish.ensures.totals c.in-Ok-finish.ensures.records

pub returns-in-Ok-finish-2-clause-moves : goal.returns-in-Ok-finish-2-clause-moves
returns-in-Ok-finish-2-clause-moves g c =
    let start = g.O.ByteSink.written c.args.out.now in
    let none : HasPushed (turn_view First c.args.pair.now).grid start 0 [] c.new-queues.result c.in-Ok.writer =
    subst (λ (shape : GridShape). HasPushed shape start 0 [] c.new-queues.result c.in-Ok.writer) c.frame.ensures.frame.1
    (none_pushed c.frame.result.now.grid start c.new-queues.result c.in-Ok.writer c.new-queues.ensures.queued (c.new-queues.ensures.depth ∙ c.depth.ensures.value)
    c.in-Ok.ensures.given c.in-Ok.ensures.unwritten c.in-Ok.ensures.records) in
    let on : PushesAll (turn_view First c.args.pair.now).grid start (IsMerged c.args.kind (turn_view First c.args.pair.now) (turn_view Second c.args.pair.now)) c.push_merged.new.queues c.push_merged.new.writer = c.in-Ok-push_merged.ensures.pushed start none in
    moved_map (turn_view First c.args.pair.now).grid start (IsMerged c.args.kind (turn_view First c.args.pair.now) (turn_view Second c.args.pair.now)) c.push_merged.new.queues c.push_merged.new.writer c.frame.ensures.framed.limits.halved on c.args.moves.now c.push_merged.new.moves c.finish.new.moves c.new-queues.result.depth c.new-queues.result.cells
    c.push_merged.ensures.depth c.in-Ok-push_merged.ensures.moves c.finish.ensures.moves

pub returns-clause-told : goal.returns-clause-told
returns-clause-told g c =
    let start = g.O.ByteSink.written c.args.out.now in
    let none : HasPushed (turn_view First c.args.pair.now).grid start 0 [] c.new-queues.result c.in-Ok.writer =
    subst (λ (shape : GridShape). HasPushed shape start 0 [] c.new-queues.result c.in-Ok.writer) c.frame.ensures.frame.1
    (none_pushed c.frame.result.now.grid start c.new-queues.result c.in-Ok.writer c.new-queues.ensures.queued (c.new-queues.ensures.depth ∙ c.depth.ensures.value)
    c.in-Ok.ensures.given c.in-Ok.ensures.unwritten c.in-Ok.ensures.records) in
    let on : PushesAll (turn_view First c.args.pair.now).grid start (IsMerged c.args.kind (turn_view First c.args.pair.now) (turn_view Second c.args.pair.now)) c.push_merged.new.queues c.push_merged.new.writer = c.in-Ok-push_merged.ensures.pushed start none in
    map_as Totals (turn_view First c.args.pair.now).grid (IsMerged c.args.kind (turn_view First c.args.pair.now) (turn_view Second c.args.pair.now)) start _ (g.O.ByteSink.written c.finish-2.new.self.0) (Err WriteFault) (search rules)
    (closed_map (turn_view First c.args.pair.now).grid start (IsMerged c.args.kind (turn_view First c.args.pair.now) (turn_view Second c.args.pair.now)) c.push_merged.new.queues c.push_merged.new.writer c.frame.ensures.framed.limits.halved on c.finish.new.writer c.in-Ok-finish.totals c.in-Ok-finish.ensures.words c.in-Ok-finish.ensures.totals c.in-Ok-finish.ensures.records Totals (g.O.ByteSink.written c.finish-2.new.self.0) c.finish.ensures.front c.finish-2.ensures.front)
