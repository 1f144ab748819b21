-- The grid meets its limits, since it is as wide as the finer one.
use Rattle.std.proofs.Common.{◌-◌, ◌*◌, ◌%◌, ◌^◌, ap, ◌∙◌, arith, pos}
use Rattle.std.specs.Int.{w64}
use Rattle.std.proofs.lemmas.Int.{fits_signed_from_abs}
use Rattle.node_merge.specs.Combined.{coarse_grid}
use Rattle.node_merge.proofs.CoarseGrids.{side_few, side_is, coarse_made, ok_same, is_made}
use Rattle.node_merge.proofs.coarsening.coarser.Goals as goal

pub overflow_cast-side-2 : goal.overflow_cast-side-2
overflow_cast-side-2 c =
    let few = side_few c.args.levels c.args.grid.now c.requires.levels c.cell.ensures.limits in
    let side = side_is c.args.levels c.args.grid.now c.requires.levels c.cell.ensures.limits c.cell.result c.unsigned_abs.result c.cell.ensures.value c.unsigned_abs.ensures.value in
    fits_signed_from_abs w64 _ (omega (arith, few, side))

pub unwrap-requires : goal.unwrap-requires
unwrap-requires c =
    let side = side_is c.args.levels c.args.grid.now c.requires.levels c.cell.ensures.limits c.cell.result c.unsigned_abs.result c.cell.ensures.value c.unsigned_abs.ensures.value in
    is_made c.new.result (coarse_grid c.args.levels c.args.grid.now)
    (c.new.ensures
    ∙ coarse_made c.args.levels c.args.grid.now c.requires.levels c.cell.ensures.limits c.from-depth.result (pos (c.unsigned_abs.result * 2 ^ c.args.levels % 2 ^ 64)) c.origin.result
    (c.from-depth.ensures ∙ ap (λ d. pos (d - c.args.levels)) c.depth.ensures.value) c.origin.ensures.value (ap pos side))

pub returns : goal.returns
returns c =
    let side = side_is c.args.levels c.args.grid.now c.requires.levels c.cell.ensures.limits c.cell.result c.unsigned_abs.result c.cell.ensures.value c.unsigned_abs.ensures.value in
    record {
      grid = ok_same c.new.result c.unwrap.result (coarse_grid c.args.levels c.args.grid.now) c.unwrap.ensures
          (c.new.ensures
          ∙ coarse_made c.args.levels c.args.grid.now c.requires.levels c.cell.ensures.limits c.from-depth.result (pos (c.unsigned_abs.result * 2 ^ c.args.levels % 2 ^ 64)) c.origin.result
          (c.from-depth.ensures ∙ ap (λ d. pos (d - c.args.levels)) c.depth.ensures.value) c.origin.ensures.value (ap pos side));
    }
