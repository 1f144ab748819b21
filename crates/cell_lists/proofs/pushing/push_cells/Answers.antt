-- A cell more in the queues.
use Rattle.std.proofs.Common.{◌≡◌, ◌+◌, ◌-◌, ◌^◌, ◌<◌, ◌≤◌, None, Some, Ok, refl, subst, ◌∙◌, arith}
use Rattle.std.specs.Prelude.{IfSome}
use Rattle.node_check.specs.Cursors.{IsOn}
use Rattle.node_file.specs.FileView.{FileView}
use Rattle.cell_lists.proofs.Lifts.{NextsFaced, more_moves, pushes_none, pushes_cell, push_refused, pushes_first, pushes_all}
use Rattle.cell_lists.proofs.pushing.push_cells.Goals as goal

pub cells-init : goal.cells-init
cells-init g c = record {
  on = c.requires.on;
  from = omega (arith, c.requires.from);
  pushed = λ start has. pushes_none (g.R.Records.file c.args.nodes.now) start c.args.walk.now.from c.args.queues.now c.args.writer.now c.requires.from has;
  looked = omega arith;
  moves = omega arith;
  deep = refl;
  same = refl;
  lender = refl;
  sink = refl;
  nodes_later = omega arith;
  out_later = omega arith;
}

pub returns-in-Err-clause-front : goal.returns-in-Err-clause-front
returns-in-Err-clause-front g c = λ start has. pushes_first (g.R.Records.file c.args.nodes.now) start c.cells.walk.from c.cells.queues c.cells.writer (c.cells.invariant.pushed start has)

pub returns-in-Ok-None-clause-front : goal.returns-in-Ok-None-clause-front
returns-in-Ok-None-clause-front g c = λ start has. pushes_first (g.R.Records.file c.args.nodes.now) start c.cells.walk.from c.cells.queues c.cells.writer (c.cells.invariant.pushed start has)

pub returns-in-Ok-None-clause-pushed : goal.returns-in-Ok-None-clause-pushed
returns-in-Ok-None-clause-pushed g c = λ start has.
    let here : FileView = g.R.Records.file c.cells.nodes in
    pushes_all (g.R.Records.file c.args.nodes.now) start c.cells.walk.from c.cells.queues c.cells.writer c.cells.invariant.from
    (subst (λ (f : FileView). NextsFaced f.words f.format f.grid.depth c.cells.walk.from (Ok None)) c.cells.invariant.same
    (subst (λ o. NextsFaced here.words here.format here.grid.depth c.cells.walk.from (Ok o)) c.in-Ok-None.field-0-is c.in-Ok-None.ensures.told))
    (c.cells.invariant.pushed start has)

pub returns-in-Err-push-clause-front : goal.returns-in-Err-push-clause-front
returns-in-Err-push-clause-front g c = λ start has.
    let here : FileView = g.R.Records.file c.cells.nodes in
    push_refused (g.R.Records.file c.args.nodes.now) start c.cells.walk.from c.in-Ok-Some.cell c.cells.queues c.cells.writer (g.O.ByteSink.written c.push.new.writer.sink.now)
    (subst (λ (f : FileView). NextsFaced f.words f.format f.grid.depth c.cells.walk.from (Ok (Some c.in-Ok-Some.cell))) c.cells.invariant.same
    (subst (λ o. NextsFaced here.words here.format here.grid.depth c.cells.walk.from (Ok o)) c.in-Ok-Some.field-0-is c.in-Ok-Some.ensures.told))
    c.push.ensures.front (c.cells.invariant.pushed start has)

pub cells-preserved : goal.cells-preserved
cells-preserved g c =
    let file : FileView = g.R.Records.file c.args.nodes.now in
    let here : FileView = g.R.Records.file c.cells.nodes in
    let before = c.cells.invariant in
    let inside : (c.cells.walk.from ≤ c.in-Ok-Some.cell.code) × (c.in-Ok-Some.cell.code < 8 ^ here.grid.depth) × (c.in-Ok-Some.cell.face ≤ 4294967294) =
    subst (λ o. IfSome o (λ cell. (c.cells.walk.from ≤ cell.code) × (cell.code < 8 ^ here.grid.depth) × (cell.face ≤ 4294967294))) c.in-Ok-Some.field-0-is c.in-Ok-Some.ensures.inside in
    let below : c.in-Ok-Some.cell.code < 8 ^ file.grid.depth = subst (λ (f : FileView). c.in-Ok-Some.cell.code < 8 ^ f.grid.depth) before.same inside.1 in
    let from : c.next_faced.new.self.from ≡ c.in-Ok-Some.cell.code + 1 = subst (λ o. IfSome o (λ cell. c.next_faced.new.self.from ≡ cell.code + 1)) c.in-Ok-Some.field-0-is c.in-Ok-Some.ensures.from in
    let small : c.in-Ok-Some.cell.face ≤ 2 ^ 32 - 2 = omega (arith, inside.2) in
    record {
      on = subst (λ (f : FileView). IsOn f c.next_faced.new.self) before.same c.next_faced.ensures.on;
      from = omega (arith, from, below);
      pushed = λ start has.
          pushes_cell file start c.cells.walk.from c.next_faced.new.self.from c.in-Ok-Some.cell c.cells.queues c.push.new.self c.cells.writer c.push.new.writer
          (subst (λ (f : FileView). NextsFaced f.words f.format f.grid.depth c.cells.walk.from (Ok (Some c.in-Ok-Some.cell))) before.same
          (subst (λ o. NextsFaced here.words here.format here.grid.depth c.cells.walk.from (Ok o)) c.in-Ok-Some.field-0-is c.in-Ok-Some.ensures.told))
          inside.0 small from
          (record { queued = c.in-Ok.ensures.queued; records = c.in-Ok.ensures.records; depth = c.push.ensures.depth; last = c.in-Ok.ensures.last; front = c.push.ensures.front })
          (before.pushed start has);
      looked = omega (arith, before.looked, c.next_faced.ensures.looked);
      moves = more_moves c.cells.moves c.push.new.moves c.args.moves.now c.args.queues.now.depth c.cells.queues.depth c.args.queues.now.cells c.cells.queues.cells c.push.new.self.cells
          before.moves before.deep c.push.ensures.moves c.in-Ok.ensures.cells;
      deep = c.push.ensures.depth ∙ before.deep;
      same = c.next_faced.ensures.same ∙ before.same;
      lender = c.next_faced.ensures.lender ∙ before.lender;
      sink = c.push.ensures.sink ∙ before.sink;
      nodes_later = omega (arith, before.nodes_later, c.next_faced.ensures.cause.later);
      out_later = omega (arith, before.out_later, c.push.ensures.cause.later);
    }
