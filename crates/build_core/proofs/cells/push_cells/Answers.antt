use Rattle.std.proofs.Common.{◌≡◌, ◌+◌, ◌-◌, ◌*◌, ◌^◌, ◌≤◌, refl, sym, ap, subst, ◌∙◌, arith}
use Rattle.morton_scan.specs.NextCells.{IsNextCell}
use Rattle.build_core.specs.Pushing.{AreSlotsOf, PushesOn}
use Rattle.level_queues.proofs.PushedFiles.{PushesCell}
use Rattle.build_core.proofs.PushedOn.{begins, next_pushed, next_refused, no_more, leaves_front}
use Rattle.build_core.proofs.cells.push_cells.Goals as goal

pub loop-cell-init : goal.loop-cell-init
loop-cell-init g c =
    let same : c.args.part * c.args.codes ≡ c.from.result * c.args.codes = ap (λ n. n * c.args.codes) (sym c.from.ensures) in
    record {
      pushed = λ grid start cells has.
          subst (λ to. PushesOn grid start (c.args.part * c.args.codes) to cells (AreSlotsOf c.args.slots.now (c.args.part * c.args.codes) c.args.codes grid) c.args.queues.now c.args.writer.now c.args.moves.now c.args.moves.now) same
          (begins grid start (c.args.part * c.args.codes) cells (AreSlotsOf c.args.slots.now (c.args.part * c.args.codes) c.args.codes grid) c.args.queues.now c.args.writer.now c.args.moves.now has);
      low = omega (arith, same);
      high = omega (arith, same);
      sink = refl;
      depth = refl;
      later = omega arith;
    }

pub returns-in_err-push-clause-front : goal.returns-in_err-push-clause-front
returns-in_err-push-clause-front g c = λ grid start cells has.
    let before = c.loop-cell.invariant in
    let next : IsNextCell c.args.slots.now (c.args.part * c.args.codes) c.args.codes c.loop-cell.from c.in-Some.cell.code c.in-Some.cell.face = c.in-Some.ensures in
    let small : c.in-Some.cell.face ≤ 2 ^ 32 - 2 = omega (arith, c.requires.faces next.place next.within, next.is_face) in
    next_refused c.args.slots.now (c.args.part * c.args.codes) c.args.codes grid start cells c.loop-cell.from c.in-Some.cell.code c.in-Some.cell.face ((c.args.part + 1) * c.args.codes)
    c.loop-cell.queues c.loop-cell.writer (g.O.ByteSink.written c.push.new.writer.sink.now) c.args.moves.now c.loop-cell.moves c.push.new.moves before.low next small (omega arith) c.push.ensures.front c.push.ensures.moves (before.pushed grid start cells has)

pub loop-cell-preserved : goal.loop-cell-preserved
loop-cell-preserved g c =
    let before = c.loop-cell.invariant in
    let next : IsNextCell c.args.slots.now (c.args.part * c.args.codes) c.args.codes c.loop-cell.from c.in-Some.cell.code c.in-Some.cell.face = c.in-Some.ensures in
    let small : c.in-Some.cell.face ≤ 2 ^ 32 - 2 = omega (arith, c.requires.faces next.place next.within, next.is_face) in
    let cell : PushesCell c.in-Some.cell.code c.in-Some.cell.face c.loop-cell.queues c.push.new.self c.loop-cell.writer c.push.new.writer = record {
      queued = c.in_ok-push.ensures.queued;
      records = c.in_ok-push.ensures.records;
      depth = c.push.ensures.depth;
      last = c.in_ok-push.ensures.last;
      front = c.push.ensures.front;
    } in
    record {
      pushed = λ grid start cells has.
          next_pushed c.args.slots.now (c.args.part * c.args.codes) c.args.codes grid start cells c.loop-cell.from c.in-Some.cell.code c.in-Some.cell.face
          c.loop-cell.queues c.push.new.self c.loop-cell.writer c.push.new.writer c.args.moves.now c.loop-cell.moves c.push.new.moves before.low next small cell c.push.ensures.moves (before.pushed grid start cells has);
      low = omega (arith, before.low, next.later);
      high = omega (arith, next.is_code, next.within);
      sink = c.push.ensures.sink ∙ before.sink;
      depth = c.push.ensures.depth ∙ before.depth;
      later = omega (arith, before.later, c.push.ensures.cause.later);
    }

pub returns-clause-pushed : goal.returns-clause-pushed
returns-clause-pushed g c = λ grid start cells has.
    let before = c.loop-cell.invariant in
    no_more c.args.slots.now (c.args.part * c.args.codes) c.args.codes grid start cells c.loop-cell.from ((c.args.part + 1) * c.args.codes)
    c.loop-cell.queues c.loop-cell.writer c.args.moves.now c.loop-cell.moves before.low before.high (omega arith) c.in_default.ensures (before.pushed grid start cells has)

pub returns-clause-front : goal.returns-clause-front
returns-clause-front g c = λ grid start cells has.
    let before = c.loop-cell.invariant in
    leaves_front grid start (c.args.part * c.args.codes) ((c.args.part + 1) * c.args.codes) cells (AreSlotsOf c.args.slots.now (c.args.part * c.args.codes) c.args.codes grid)
    c.loop-cell.queues c.loop-cell.writer c.args.moves.now c.loop-cell.moves
    (no_more c.args.slots.now (c.args.part * c.args.codes) c.args.codes grid start cells c.loop-cell.from ((c.args.part + 1) * c.args.codes)
    c.loop-cell.queues c.loop-cell.writer c.args.moves.now c.loop-cell.moves before.low before.high (omega arith) c.in_default.ensures (before.pushed grid start cells has))
