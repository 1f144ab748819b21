-- The words lead to the node just above the cell.
use Rattle.std.proofs.Common.{◌-◌, ◌/◌, List, sym, subst}
use Rattle.std.specs.Prelude.{IfSome}
use Rattle.octree_specs.specs.Cells.{Cell}
use Rattle.octree_specs.specs.Formats.{StandFor}
use Rattle.node_file.specs.FileView.{FileView}
use Rattle.node_check.specs.Cursors.{IsParent}
use Rattle.node_check.specs.Walks.{LeadsOn}
use Rattle.node_check.proofs.Cursoring.{found_leads}
use Rattle.node_check.proofs.cursor.CellWalk.next_faced.Goals as goal

pub cell_face-requires-clause-leads : goal.cell_face-requires-clause-leads
cell_face-requires-clause-leads g c =
    let file : FileView = g.R.Records.file c.args.nodes.now in
    subst (λ (f : FileView). IfSome f.words (λ words. (cells : List Cell) → StandFor f.format f.grid.depth words cells → LeadsOn words f.format cells 1 (c.in-Some.code / 8) c.next.new.self.path.parent.number))
    (sym c.in_ok-code.ensures.same)
    (found_leads file c.in-Some.code c.next.new.self.path.parent c.requires.on.framed
    (subst (λ o. IfSome o (λ code. IsParent file.words file.totals.records file.format file.grid.depth 0 (file.totals.records - 1) code c.next.new.self.path.parent)) c.in-Some.is c.in_ok-code.ensures.parent))
