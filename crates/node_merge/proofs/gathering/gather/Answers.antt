-- The node of a cell is whole where the next cell lies under another one.
use Rattle.std.proofs.Common.{◌+◌, ◌*◌, ◌^◌, sym, subst, ◌∙◌, arith}
use Rattle.std.specs.Prelude.{IfSome}
use Rattle.node_file.specs.FileView.{FileView}
use Rattle.node_check.proofs.Walks.{err_is}
use Rattle.node_merge.specs.Maps.{IsMapOf}
use Rattle.node_merge.specs.Pushing.{IsFront, IsUnrefusedWalk}
use Rattle.node_merge.proofs.CoarseNodes.{gather_first, gather_found, gather_done, none_left}
use Rattle.node_merge.proofs.gathering.gather.Goals as goal

pub returns-in_default-clause-node : goal.returns-in_default-clause-node
returns-in_default-clause-node g c = none_left (g.R.Records.file c.args.nodes.now) c.args.levels c.args.front.now c.in_default.is

pub cells-init : goal.cells-init
cells-init g c = record {
  gathers = gather_first (g.R.Records.file c.args.nodes.now) c.args.levels c.ancestor-node.result c.args.front.now (c.requires.front.0 * 8 ^ c.args.levels) c.go_past.new.front c.in-Some.cell
      c.in-Some.is c.ancestor-node.ensures c.requires.front.1
      (subst (λ head. IfSome head (λ cell. IsFront (g.R.Records.file c.args.nodes.now) (cell.code + 1) c.go_past.new.front)) c.in-Some.is c.in_ok-go_past.ensures.front);
  same = c.go_past.ensures.same;
  lender = c.go_past.ensures.lender;
  later = c.go_past.ensures.cause.later;
}

pub returns-in_default-face_under-clause-node : goal.returns-in_default-face_under-clause-node
returns-in_default-face_under-clause-node g c =
    gather_done (g.R.Records.file c.args.nodes.now) c.args.levels c.ancestor-node.result c.args.front.now c.cells.face c.cells.front c.in-Some.cell c.requires.levels
    c.in-Some.is c.ancestor-node.ensures (sym c.face_under.ensures ∙ c.in_default-face_under.is) c.cells.invariant.gathers

pub cells-preserved : goal.cells-preserved
cells-preserved g c = record {
  gathers = gather_found (g.R.Records.file c.args.nodes.now) c.args.levels c.ancestor-node.result c.args.front.now (g.R.Records.file c.cells.nodes) c.cells.face c.in-Some-face_under.other c.min-face.result
      c.cells.front c.go_past-in-cells.new.front c.cells.invariant.same (sym c.face_under.ensures ∙ c.in-Some-face_under.is) c.min-face.ensures c.in_ok-go_past-2.ensures.front c.cells.invariant.gathers;
  same = c.go_past-in-cells.ensures.same ∙ c.cells.invariant.same;
  lender = c.go_past-in-cells.ensures.lender ∙ c.cells.invariant.lender;
  later = omega (arith, c.cells.invariant.later, c.go_past-in-cells.ensures.cause.later);
}

pub returns-in_err-go_past-clause-unrefused : goal.returns-in_err-go_past-clause-unrefused
returns-in_err-go_past-clause-unrefused g c = λ cells map.
    subst IsUnrefusedWalk (sym (err_is c.from_residual.result c.in_err-go_past.field-0.0 c.from_residual.ensures)) (c.in_err-go_past.ensures.unrefused cells map)

pub returns-in_err-go_past-2-clause-unrefused : goal.returns-in_err-go_past-2-clause-unrefused
returns-in_err-go_past-2-clause-unrefused g c = λ cells map.
    subst IsUnrefusedWalk (sym (err_is c.from_residual-in_err-go_past-2.result c.in_err-go_past-2.field-0.0 c.from_residual-in_err-go_past-2.ensures))
    (c.in_err-go_past-2.ensures.unrefused cells (subst (λ (f : FileView). IsMapOf f cells) (sym c.cells.invariant.same) map))
