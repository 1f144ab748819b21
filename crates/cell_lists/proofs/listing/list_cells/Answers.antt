-- The lines wait in the block, and a front of them is put.
use Rattle.std.proofs.Common.{Ok, subst}
use Rattle.node_file.specs.FileView.{FileView}
use Rattle.cell_lists.proofs.Listed.{Waiting, put_cut}
use Rattle.cell_lists.proofs.listing.list_cells.Goals as goal

pub returns-in-Err-put_front-clause-told : goal.returns-in-Err-put_front-clause-told
returns-in-Err-put_front-clause-told g c =
    let file : FileView = g.R.Records.file c.args.nodes.now in
    put_cut file.words file.format file.grid.depth (g.O.ByteSink.written c.args.out.now) (g.O.ByteSink.written c.list_lines.new.out) (g.O.ByteSink.written c.put_front.new.sink) c.list_lines.new.block c.in-Ok-list_lines.used
    (subst (λ (f : FileView). Waiting f.words f.format f.grid.depth (g.O.ByteSink.written c.args.out.now) (g.O.ByteSink.written c.list_lines.new.out) c.list_lines.new.block (Ok c.in-Ok-list_lines.used)) c.in-Ok.ensures.same
    c.in-Ok-list_lines.ensures.told)
    c.in-Err-put_front.ensures.cut
