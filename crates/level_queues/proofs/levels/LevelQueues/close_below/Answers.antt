-- One height more is closed.
use Rattle.std.proofs.Common.{◌≡◌, ◌+◌, ◌-◌, ◌/◌, ◌^◌, suc, ◌++◌, refl, sym, ◌∙◌, subst, arith}
use Rattle.node_file.specs.Writing.{given, waiting}
use Rattle.level_queues.specs.Fronts.{GrewToward}
use Rattle.level_queues.specs.Queued.{queue_of, written_of}
use Rattle.level_queues.specs.Pushed.{IsQueuedAt, lowest_of, GoesOn}
use Rattle.level_queues.proofs.Grown.{toward_none, toward_above}
use Rattle.level_queues.proofs.Onward.{goes_nowhere, goes_further}
use Rattle.level_queues.proofs.levels.LevelQueues.close_below.Goals as goal

pub loop-height-init : goal.loop-height-init
loop-height-init g c =
    let start : c.lowest-height.result ≡ lowest_of c.args.self.now = c.lowest-height.ensures in
    record {
      queued = λ leaves words is.
          goes_nowhere words (given c.args.writer.now) (IsQueuedAt leaves c.lowest-height.result c.args.self.now)
          (subst (λ h. IsQueuedAt leaves h c.args.self.now words) (sym start) is);
      records = c.requires.records;
      sink = refl;
      depth = refl;
      last = refl;
      cells = refl;
      placed = omega (arith, start);
      moves = omega (arith, start);
      front = λ leaves words is.
          let told = g.O.ByteSink.written c.args.writer.now.sink.now in
          let now = c.args.self.now in
          subst (λ h. GrewToward words (written_of leaves (now.depth - suc h) h (now.last / 8 ^ suc h)) told told (waiting c.args.writer.now)) (sym start)
          (subst (λ l. GrewToward words l told told (waiting c.args.writer.now)) is.queued.written (toward_none words told (waiting c.args.writer.now)));
      faults = omega arith;
    }

pub close-requires-clause-queued : goal.close-requires-clause-queued
close-requires-clause-queued g c =
    let on = c.loop-height.invariant.queued c.requires.queued.0 c.requires.queued.1 c.requires.queued.2 in
    (c.requires.queued.0, c.requires.queued.1 ++ on.more, on.holds)

pub loop-height-preserved : goal.loop-height-preserved
loop-height-preserved g c =
    let before = c.loop-height.invariant in
    record {
      queued = λ leaves words is.
          goes_further words (given c.args.writer.now) (given c.loop-height.writer) (given c.close.new.writer) (IsQueuedAt leaves c.loop-height.height c.loop-height.self) (IsQueuedAt leaves (c.loop-height.height + 1) c.close.new.self)
          (before.queued leaves words is) (c.in_ok-close.ensures.queued leaves);
      records = c.in_ok-close.ensures.records;
      sink = c.close.ensures.sink ∙ before.sink;
      depth = c.close.ensures.depth ∙ before.depth;
      last = c.close.ensures.last ∙ before.last;
      cells = c.close.ensures.cells ∙ before.cells;
      placed = omega (arith, c.close.ensures.placed, before.placed);
      moves = omega (arith, c.close.ensures.moves, before.moves);
      front = λ leaves words is.
          let on = before.queued leaves words is in
          toward_above leaves c.args.self.now.depth c.args.self.now.last c.loop-height.self.depth c.loop-height.self.last c.loop-height.height (c.loop-height.height + 1)
          (queue_of c.loop-height.self.queues.entries c.loop-height.self.counts) words on.more (g.O.ByteSink.written c.args.writer.now.sink.now) (g.O.ByteSink.written c.loop-height.writer.sink.now) (g.O.ByteSink.written c.close.new.writer.sink.now)
          (waiting c.args.writer.now) (waiting c.loop-height.writer) before.depth before.last (omega arith) (omega (arith, c.loop-height-test.true, c.requires.target)) on.holds.queued (before.front leaves words is) on.grown c.close.ensures.front;
      faults = omega (arith, c.close.ensures.cause.later, before.faults);
    }

pub returns-clause-queued : goal.returns-clause-queued
returns-clause-queued g c = λ leaves words is.
    let end : c.loop-height.height ≡ c.args.target = omega (arith, c.loop-height-test.false, c.loop-height.auto.height-end) in
    subst (λ h. GoesOn words (given c.args.writer.now) (given c.loop-height.writer) (IsQueuedAt leaves h c.loop-height.self)) end (c.loop-height.invariant.queued leaves words is)

pub returns-in_err-close-clause-front : goal.returns-in_err-close-clause-front
returns-in_err-close-clause-front g c = λ leaves words is.
    let before = c.loop-height.invariant in
    let on = before.queued leaves words is in
    toward_above leaves c.args.self.now.depth c.args.self.now.last c.loop-height.self.depth c.loop-height.self.last c.loop-height.height c.args.target
    (queue_of c.loop-height.self.queues.entries c.loop-height.self.counts) words on.more (g.O.ByteSink.written c.args.writer.now.sink.now) (g.O.ByteSink.written c.loop-height.writer.sink.now) (g.O.ByteSink.written c.close.new.writer.sink.now)
    (waiting c.args.writer.now) (waiting c.loop-height.writer) before.depth before.last c.loop-height-test.true c.requires.target on.holds.queued (before.front leaves words is) on.grown c.close.ensures.front

pub returns-clause-front : goal.returns-clause-front
returns-clause-front g c = λ leaves words is.
    let now = c.args.self.now in
    let end : c.loop-height.height ≡ c.args.target = omega (arith, c.loop-height-test.false, c.loop-height.auto.height-end) in
    subst (λ h. GrewToward words (written_of leaves (now.depth - suc h) h (now.last / 8 ^ suc h)) (g.O.ByteSink.written c.args.writer.now.sink.now) (g.O.ByteSink.written c.loop-height.writer.sink.now) (waiting c.args.writer.now)) end
    (c.loop-height.invariant.front leaves words is)
