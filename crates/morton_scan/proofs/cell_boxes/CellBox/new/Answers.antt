use Rattle.std.proofs.Common.{◌≡◌, ◌<◌, ◌^◌, ◌-◌, sym, subst, arith}
use Rattle.morton_code.proofs.Coordinates.{code_fits, coordinate_in_level}
use Rattle.morton_scan.proofs.CellBoxes.{holds_met, is_box_under}
use Rattle.morton_scan.proofs.cell_boxes.CellBox.new.Goals as goal

pub decode-x-requires : goal.decode-x-requires
decode-x-requires c = code_fits (c.args.grid.now.depth - c.args.node.now.height) c.args.node.now.code (omega (arith, c.requires.shallow)) c.requires.below

pub reached_cells-requires-clause-place : goal.reached_cells-requires-clause-place
reached_cells-requires-clause-place c =
    subst (λ n. n < 2 ^ (c.args.grid.now.depth - c.args.node.now.height)) (sym c.decode-x.ensures.x)
    (coordinate_in_level 0 (c.args.grid.now.depth - c.args.node.now.height) c.args.node.now.code (omega (arith, c.requires.shallow)) c.requires.below)

pub reached_cells-requires-2-clause-place : goal.reached_cells-requires-2-clause-place
reached_cells-requires-2-clause-place c =
    subst (λ n. n < 2 ^ (c.args.grid.now.depth - c.args.node.now.height)) (sym c.decode-x.ensures.y)
    (coordinate_in_level 1 (c.args.grid.now.depth - c.args.node.now.height) c.args.node.now.code (omega (arith, c.requires.shallow)) c.requires.below)

pub reached_cells-requires-3-clause-place : goal.reached_cells-requires-3-clause-place
reached_cells-requires-3-clause-place c =
    subst (λ n. n < 2 ^ (c.args.grid.now.depth - c.args.node.now.height)) (sym c.decode-x.ensures.z)
    (coordinate_in_level 2 (c.args.grid.now.depth - c.args.node.now.height) c.args.node.now.code (omega (arith, c.requires.shallow)) c.requires.below)

pub returns-clause-under : goal.returns-clause-under
returns-clause-under c =
    is_box_under c.args.grid.now c.args.node.now c.reached_cells.result c.reached_cells-2.result c.reached_cells-3.result c.decode-x.result.0 c.decode-x.result.1 c.decode-x.result.2 c.requires
    c.decode-x.ensures.x c.decode-x.ensures.y c.decode-x.ensures.z c.reached_cells.ensures.to c.reached_cells-2.ensures.to c.reached_cells-3.ensures.to
    c.reached_cells.ensures.under c.reached_cells-2.ensures.under c.reached_cells-3.ensures.under

pub returns-clause-held : goal.returns-clause-held
returns-clause-held c t is_box =
    holds_met c.args.grid.now t c.args.node.now c.args.bounds.now c.reached_cells.result c.reached_cells-2.result c.reached_cells-3.result c.decode-x.result.0 c.decode-x.result.1 c.decode-x.result.2 c.requires is_box
    c.decode-x.ensures.x c.decode-x.ensures.y c.decode-x.ensures.z
    c.reached_cells.ensures.reached c.reached_cells-2.ensures.reached c.reached_cells-3.ensures.reached
