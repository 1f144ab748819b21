-- No band begins below the lowest row.
use Rattle.std.proofs.Common.{◌^◌, ap, ◌∙◌, arith}
use Rattle.slice_view.proofs.BandRows.{band_room, band_is, band_made}
use Rattle.slice_view.proofs.slicing.band_of.Goals as goal

pub overflow_mul-high : goal.overflow_mul-high
overflow_mul-high c = omega (arith, c.power.ensures.within, band_room c.args.depth c.args.number c.power-rows.result c.power.result (c.power-rows.ensures.value ∙ ap (λ n. 2 ^ n) c.band_height.ensures) c.power.ensures.value c.requires.number)

pub overflow_sub-high-2 : goal.overflow_sub-high-2
overflow_sub-high-2 c = omega (arith, c.power-rows.ensures.some, band_room c.args.depth c.args.number c.power-rows.result c.power.result (c.power-rows.ensures.value ∙ ap (λ n. 2 ^ n) c.band_height.ensures) c.power.ensures.value c.requires.number)

pub overflow_sub-result : goal.overflow_sub-result
overflow_sub-result c = omega (arith, c.power-rows.ensures.some, band_room c.args.depth c.args.number c.power-rows.result c.power.result (c.power-rows.ensures.value ∙ ap (λ n. 2 ^ n) c.band_height.ensures) c.power.ensures.value c.requires.number)

pub returns-clause-band : goal.returns-clause-band
returns-clause-band c =
    band_is c.args.depth c.args.axis c.args.at c.args.number c.power-rows.result c.power.result c.requires.halved c.requires.shallow c.requires.at
    (c.power-rows.ensures.value ∙ ap (λ n. 2 ^ n) c.band_height.ensures) c.power.ensures.value c.requires.number

pub returns-clause-rows : goal.returns-clause-rows
returns-clause-rows c =
    band_made c.args.depth c.args.axis c.args.at c.args.number c.power-rows.result c.power.result c.requires.halved c.requires.shallow c.requires.at
    (c.power-rows.ensures.value ∙ ap (λ n. 2 ^ n) c.band_height.ensures) c.power.ensures.value c.requires.number
