-- Each nonempty node is met once, in ascending order of their codes.
use Rattle.std.proofs.Common.{◌≤◌, None, Some, refl, subst, ◌∙◌, arith}
use Rattle.std.specs.Prelude.{IfSome}
use Rattle.cell_lists.proofs.Lifts.{more_moves}
use Rattle.node_file.specs.FileView.{FileView}
use Rattle.node_check.specs.declared.cursor.FacedCell.{FacedCell}
use Rattle.node_merge.proofs.CoarseNodes.{gathered_as}
use Rattle.node_merge.proofs.CoarsePushes.{pushing_none, pushing_first, pushing_all, pushing_refused, pushing_next}
use Rattle.node_merge.proofs.MergedFaces.{accepts_of}
use Rattle.node_merge.proofs.coarse_pushing.push_coarse.Goals as goal

pub returns-in-Err-clause-unrefused : goal.returns-in-Err-clause-unrefused
returns-in-Err-clause-unrefused g c = λ cells known.
    accepts_of (Unit {0}) (g.R.Records.file c.args.nodes.now) (g.R.Records.file c.args.nodes.now) c.in-Err.fault refl c.in-Err.ensures.unrefused known.fine_cells known.fine_map

pub nodes-init : goal.nodes-init
nodes-init g c = record {
  on = pushing_none (g.R.Records.file c.args.nodes.now) c.args.levels c.args.queues.now c.args.writer.now c.in-Ok.front c.in-Ok.ensures.front;
  moves = omega arith;
  deep = refl;
  same = c.first_cell.ensures.same;
  lender = c.first_cell.ensures.lender;
  sink = refl;
  nodes_later = c.first_cell.ensures.cause.later;
  out_later = omega arith;
}

pub returns-in-Err-gather-clause-front : goal.returns-in-Err-gather-clause-front
returns-in-Err-gather-clause-front g c =
    pushing_first (g.R.Records.file c.args.nodes.now) c.args.levels c.args.queues.now c.args.writer.now c.nodes.front c.nodes.queues c.nodes.writer c.nodes.invariant.on

pub returns-in-Err-gather-clause-unrefused : goal.returns-in-Err-gather-clause-unrefused
returns-in-Err-gather-clause-unrefused g c = λ cells known.
    accepts_of (Unit {0}) (g.R.Records.file c.args.nodes.now) (g.R.Records.file c.nodes.nodes) c.in-Err-gather.fault c.nodes.invariant.same c.in-Err-gather.ensures.unrefused known.fine_cells known.fine_map

pub returns-in-Ok-None-clause-pushed : goal.returns-in-Ok-None-clause-pushed
returns-in-Ok-None-clause-pushed g c =
    let file : FileView = g.R.Records.file c.args.nodes.now in
    pushing_all file c.args.levels c.args.queues.now c.args.writer.now c.nodes.front c.nodes.queues c.nodes.writer c.nodes.invariant.on c.gather.new.front
    (gathered_as file (g.R.Records.file c.nodes.nodes) c.args.levels c.nodes.front c.gather.new.front c.in-Ok-None.field-0 None c.nodes.invariant.same c.in-Ok-None.field-0-is c.in-Ok-None.ensures.node)

pub returns-in-Ok-None-clause-front : goal.returns-in-Ok-None-clause-front
returns-in-Ok-None-clause-front g c =
    pushing_first (g.R.Records.file c.args.nodes.now) c.args.levels c.args.queues.now c.args.writer.now c.nodes.front c.nodes.queues c.nodes.writer c.nodes.invariant.on

pub nodes-preserved : goal.nodes-preserved
nodes-preserved g c =
    let file : FileView = g.R.Records.file c.args.nodes.now in
    let before = c.nodes.invariant in
    let small : c.in-Ok-Some.node.face ≤ 4294967294 = subst (λ o. IfSome o (λ (node : FacedCell). node.face ≤ 4294967294)) c.in-Ok-Some.field-0-is c.in-Ok-Some.ensures.face in
    record {
      on = pushing_next file c.args.levels c.args.queues.now c.args.writer.now c.nodes.front c.nodes.queues c.nodes.writer before.on c.gather.new.front c.in-Ok-Some.node
          (gathered_as file (g.R.Records.file c.nodes.nodes) c.args.levels c.nodes.front c.gather.new.front c.in-Ok-Some.field-0 (Some c.in-Ok-Some.node) before.same c.in-Ok-Some.field-0-is c.in-Ok-Some.ensures.node)
          c.push.new.self c.push.new.writer small
          (record { queued = c.in-Ok-push.ensures.queued; records = c.in-Ok-push.ensures.records; depth = c.push.ensures.depth; last = c.in-Ok-push.ensures.last; front = c.push.ensures.front });
      moves = more_moves c.nodes.moves c.push.new.moves c.args.moves.now c.args.queues.now.depth c.nodes.queues.depth c.args.queues.now.cells c.nodes.queues.cells c.push.new.self.cells
          before.moves before.deep c.push.ensures.moves c.in-Ok-push.ensures.cells;
      deep = c.push.ensures.depth ∙ before.deep;
      same = c.gather.ensures.same ∙ before.same;
      lender = c.gather.ensures.lender ∙ before.lender;
      sink = c.push.ensures.sink ∙ before.sink;
      nodes_later = omega (arith, before.nodes_later, c.gather.ensures.cause.later);
      out_later = omega (arith, before.out_later, c.push.ensures.cause.later);
    }

pub returns-in-Err-push-clause-front : goal.returns-in-Err-push-clause-front
returns-in-Err-push-clause-front g c =
    let file : FileView = g.R.Records.file c.args.nodes.now in
    pushing_refused file c.args.levels c.args.queues.now c.args.writer.now c.nodes.front c.nodes.queues c.nodes.writer c.nodes.invariant.on c.gather.new.front c.in-Ok-Some.node
    (gathered_as file (g.R.Records.file c.nodes.nodes) c.args.levels c.nodes.front c.gather.new.front c.in-Ok-Some.field-0 (Some c.in-Ok-Some.node) c.nodes.invariant.same c.in-Ok-Some.field-0-is c.in-Ok-Some.ensures.node)
    (g.O.ByteSink.written c.push.new.writer.sink.now) c.push.ensures.front
