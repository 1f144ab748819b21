-- A cell with a face is pushed, and one without is passed by.
use Rattle.std.proofs.Common.{◌-◌, ◌^◌, ◌≤◌, subst, arith}
use Rattle.std.specs.Prelude.{IfSome}
use Rattle.node_merge.specs.Maps.{IsMerged, AreMergedFaces}
use Rattle.node_merge.specs.Pushing.{IsNextFace}
use Rattle.node_merge.proofs.MergedFaces.{covers_merged}
use Rattle.node_merge.proofs.ToMaps.{to_passed, to_next, holds_first, holds_next}
use Rattle.node_merge.proofs.merging.put.Goals as goal

pub returns-in_default-clause-pushed : goal.returns-in_default-clause-pushed
returns-in_default-clause-pushed g c = λ kind first second grid start from low next on.
    to_passed grid start (AreMergedFaces kind first second) from c.args.code c.args.queues.now c.args.writer.now low
    (subst (IsNextFace (AreMergedFaces kind first second) from c.args.code) c.in_default.is next) on

pub returns-in_default-clause-front : goal.returns-in_default-clause-front
returns-in_default-clause-front g c = λ kind first second grid start from low below same next on.
    holds_first grid start (AreMergedFaces kind first second) (IsMerged kind first second) (covers_merged kind first second grid same) from c.args.queues.now c.args.writer.now
    (omega (arith, low, below)) on

pub returns-in_err-push-clause-front : goal.returns-in_err-push-clause-front
returns-in_err-push-clause-front g c = λ kind first second grid start from low below same next on.
    holds_next grid start (AreMergedFaces kind first second) (IsMerged kind first second) (covers_merged kind first second grid same) from c.args.code c.in-Some.face
    c.args.queues.now c.args.writer.now (g.O.ByteSink.written c.push.new.writer.sink.now) low below
    (subst (IsNextFace (AreMergedFaces kind first second) from c.args.code) c.in-Some.is next) c.push.ensures.front on

pub returns-clause-pushed : goal.returns-clause-pushed
returns-clause-pushed g c = λ kind first second grid start from low next on.
    to_next grid start (AreMergedFaces kind first second) from c.args.code c.in-Some.face c.args.queues.now c.push.new.self c.args.writer.now c.push.new.writer low
    (subst (λ o. IfSome o (λ face. face ≤ 2 ^ 32 - 2)) c.in-Some.is c.requires.small)
    (subst (IsNextFace (AreMergedFaces kind first second) from c.args.code) c.in-Some.is next)
    (record { queued = c.in_ok-push.ensures.queued; records = c.in_ok-push.ensures.records; depth = c.push.ensures.depth; last = c.in_ok-push.ensures.last; front = c.push.ensures.front }) on

pub returns-clause-front : goal.returns-clause-front
returns-clause-front g c = λ kind first second grid start from low below same next on.
    holds_next grid start (AreMergedFaces kind first second) (IsMerged kind first second) (covers_merged kind first second grid same) from c.args.code c.in-Some.face
    c.args.queues.now c.args.writer.now (g.O.ByteSink.written c.push.new.writer.sink.now) low below
    (subst (IsNextFace (AreMergedFaces kind first second) from c.args.code) c.in-Some.is next) c.push.ensures.front on
