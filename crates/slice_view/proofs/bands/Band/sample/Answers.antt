-- It stands in one of the band's rows.
use Rattle.std.proofs.Common.{◌+◌, ◌-◌, ◌*◌, ◌<◌, sym, subst}
use Rattle.slice_view.specs.Bands.{band_size}
use Rattle.slice_view.proofs.Places.{shown, sample_within}
use Rattle.slice_view.proofs.bands.Band.sample.Goals as goal

pub returns-clause-within : goal.returns-clause-within
returns-clause-within c =
    subst (λ n. (c.args.self.now.high - c.args.cell.now.row) * n + c.args.cell.now.column < band_size c.args.self.now) (sym c.width.ensures)
    (sample_within c.args.self.now c.args.cell.now c.requires.band c.requires.square (shown c.args.self.now c.args.cell.now c.requires.cell c.requires.shown))
