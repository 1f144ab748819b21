-- A cell that is met is put, and one that is not changes nothing.
use Rattle.std.proofs.Common.{◌≡◌, ◌+◌, ◌*◌, length, arith, sym, subst, ◌∙◌}
use Rattle.octree_specs.specs.Meeting.{Meets}
use Rattle.morton_scan.proofs.CellBoxes.{has_places, put_no_single, put_single, single_place}
use Rattle.morton_scan.proofs.NodesBelow.{not_met}
use Rattle.morton_scan.proofs.box_filling.fill_cell.Goals as goal

pub returns-then-not-overlaps-clause-slots : goal.returns-then-not-overlaps-clause-slots
returns-then-not-overlaps-clause-slots g c =
    let has = has_places c.args.grid.now c.args.node.now c.args.cells.now c.requires.node.shallow c.requires.under c.requires.x c.requires.y c.requires.z in
    put_no_single c.args.grid.now c.args.put.now.triangle c.args.node.now c.args.cells.now c.args.put.now.first c.args.put.now.face c.args.slots.now c.requires.node has
    (λ met. not_met c.overlaps.result c.overlaps.ensures.meets c.if-not-overlaps.true (subst (λ cube. Meets c.args.put.now.triangle cube) (sym c.cell_cube.ensures.cube) met))

pub encode-requires-clause-x : goal.encode-requires-clause-x
encode-requires-clause-x g c = (has_places c.args.grid.now c.args.node.now c.args.cells.now c.requires.node.shallow c.requires.under c.requires.x c.requires.y c.requires.z).short_x

pub encode-requires-clause-y : goal.encode-requires-clause-y
encode-requires-clause-y g c = (has_places c.args.grid.now c.args.node.now c.args.cells.now c.requires.node.shallow c.requires.under c.requires.x c.requires.y c.requires.z).short_y

pub encode-requires-clause-z : goal.encode-requires-clause-z
encode-requires-clause-z g c = (has_places c.args.grid.now c.args.node.now c.args.cells.now c.requires.node.shallow c.requires.under c.requires.x c.requires.y c.requires.z).short_z

pub put_touched-requires-clause-place : goal.put_touched-requires-clause-place
put_touched-requires-clause-place g c =
    let has = has_places c.args.grid.now c.args.node.now c.args.cells.now c.requires.node.shallow c.requires.under c.requires.x c.requires.y c.requires.z in
    let place = single_place c.args.grid.now c.args.node.now c.args.cells.now c.args.put.now.first (length c.args.slots.now) c.requires.under has c.requires.slots in
    omega (arith, place.0, place.1, c.encode.ensures.code)

pub returns-clause-slots : goal.returns-clause-slots
returns-clause-slots g c =
    let has = has_places c.args.grid.now c.args.node.now c.args.cells.now c.requires.node.shallow c.requires.under c.requires.x c.requires.y c.requires.z in
    put_single c.args.grid.now c.args.put.now.triangle c.args.node.now c.args.cells.now c.encode.result c.args.put.now.first c.args.put.now.face c.args.slots.now c.put_touched.new.slots c.requires.node c.requires.under has
    c.requires.slots c.encode.ensures.code (subst (λ cube. Meets c.args.put.now.triangle cube) c.cell_cube.ensures.cube (c.overlaps.ensures.meets.0 c.if-not-overlaps.false)) c.put_touched.ensures.slot
