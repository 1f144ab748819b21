use Rattle.morton_scan.proofs.Planes.{cell_is_kept, cell_near}
use Rattle.morton_scan.proofs.box_filling.cell_cube.Goals as goal

pub returns-clause-cube : goal.returns-clause-cube
returns-clause-cube c =
    cell_is_kept c.args.grid.now c.args.x c.args.y c.args.z c.side-side.result c.cell_plane-x.result c.cell_plane-y.result c.cell_plane-z.result c.plane.result c.plane-2.result c.plane-3.result
    c.side-side.ensures.limits c.requires.x c.requires.y c.requires.z c.side-side.ensures.value
    c.cell_plane-x.ensures.value c.cell_plane-y.ensures.value c.cell_plane-z.ensures.value c.plane.ensures.value c.plane-2.ensures.value c.plane-3.ensures.value

pub returns-clause-planes : goal.returns-clause-planes
returns-clause-planes c = cell_near c.args.grid.now c.args.x c.args.y c.args.z _ c.side-side.ensures.limits c.requires.x c.requires.y c.requires.z (returns-clause-cube c)
