use Rattle.solid_parity.proofs.ColumnBoxes.{column_parts_are}
use Rattle.solid_parity.proofs.part_boxes.column_parts.Goals as goal

pub returns : goal.returns
returns c =
    column_parts_are c.args.grid.now c.args.split c.args.triangle.now c.of_triangle-bounds.result _ c.of_triangle-bounds.ensures c.reached_parts.ensures.to c.reached_parts-2.ensures.to c.parts_up_to.ensures.to
    c.reached_parts.ensures.reached c.reached_parts-2.ensures.reached c.parts_up_to.ensures.reached
