use Rattle.std.proofs.Common.{ap, ◌∙◌}
use Rattle.octree_specs.specs.Meeting.{low_of}
use Rattle.octree_specs.specs.NodeCube.{node_cube, low_plane}
use Rattle.solid_parity.proofs.ColumnNumbers.{first_from, kept_cell, two_cells, shifted_one, centres_from}
use Rattle.solid_parity.proofs.columns.PartColumns.new.Goals as goal

pub invariant_of-result : goal.invariant_of-result
unfolding node_cube
invariant_of-result c =
    let g = c.args.grid.now in
    let cube = c.cube_of-cube.ensures.cube in
    let limits = c.cell-cell.ensures.limits in
    let cell = kept_cell c.cell-cell.result g.cell g.depth c.cell-cell.ensures.value limits.narrow in
    centres_from g c.args.split c.args.part _ _ _ _ _ limits c.requires.split
    (first_from g c.args.split c.args.part 0 _ _ c.first_centre.result (ap (λ k. low_of k 0) cube ∙ ap (λ code. low_plane g c.args.split code 0) c.from.ensures) cell c.first_centre.ensures.value c.first_centre.ensures.within)
    (first_from g c.args.split c.args.part 1 _ _ c.first_centre-2.result (ap (λ k. low_of k 1) cube ∙ ap (λ code. low_plane g c.args.split code 1) c.from.ensures) cell c.first_centre-2.ensures.value c.first_centre-2.ensures.within)
    (first_from g c.args.split c.args.part 2 _ _ c.first_centre-3.result (ap (λ k. low_of k 2) cube ∙ ap (λ code. low_plane g c.args.split code 2) c.from.ensures) cell c.first_centre-3.ensures.value c.first_centre-3.ensures.within)
    (two_cells g.cell _ cell) (shifted_one g.depth c.depth.result c.args.split c.depth.ensures.value limits.shallow)
