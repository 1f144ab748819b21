use Rattle.std.proofs.Common.{◌≡◌, ◌<◌, ◌^◌, true, sym, subst, ◌∙◌, arith}
use Rattle.morton_code.proofs.Sides.{is_shallow}
use Rattle.tri_partition.specs.PartRanges.{extent_reaches}
use Rattle.morton_scan.proofs.CellBoxes.{cells_reached, cells_under, range_of_reached}
use Rattle.morton_scan.proofs.cell_boxes.reached_cells.Goals as goal

pub returns-clause-under : goal.returns-clause-under
returns-clause-under c cell inside =
    let shallow = is_shallow c.args.grid.now c.args.grid.now.depth c.depth.ensures.limits (omega arith) in
    cells_under c.args.grid.now.depth c.args.height c.args.place c.reached_parts-reached.result.from c.reached_parts-reached.result.to c.max.result c.min.result cell shallow c.requires.height c.requires.place
    c.max.ensures c.min.ensures inside.0 inside.1

pub returns-clause-reached : goal.returns-clause-reached
returns-clause-reached c cell under reaches =
    let shallow = is_shallow c.args.grid.now c.args.grid.now.depth c.depth.ensures.limits (omega arith) in
    cells_reached c.args.grid.now.depth c.args.height c.args.place c.reached_parts-reached.result.from c.reached_parts-reached.result.to c.max.result c.min.result cell shallow c.requires.height c.requires.place
    c.max.ensures c.min.ensures under
    (λ below. range_of_reached c.reached_parts-reached.result cell
    (c.reached_parts-reached.ensures.reached cell (subst (λ n. cell < 2 ^ n) (sym c.depth.ensures.value) below)
    ∙ subst (λ n. extent_reaches c.args.grid.now n c.args.axis c.args.extent.now cell ≡ true) (sym c.depth.ensures.value) reaches))
