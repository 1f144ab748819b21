-- The piece in front of the bytes held.
use Rattle.std.proofs.Common.{◌≡◌, ◌≤◌, ◌+◌, take, sym, ap, ◌∙◌}
use Rattle.std.specs.Prelude.{slice_range}
use Rattle.tri_partition.specs.PartStreams.{parcel_from}
use Rattle.tri_partition.proofs.Held.{some_whole, front_piece}
use Rattle.tri_partition.proofs.reader.PartReader.front.Goals as goal

pub returns-clause-faced : goal.returns-clause-faced
returns-clause-faced c =
    let held : slice_range c.self.inside.block.now c.self.inside.from c.self.inside.to ≡ c.args.self.now.held = ap (λ view. view.held) c.self.view_is in
    let whole = c.self.invariant.4 in
    let within : c.self.inside.from + 40 ≤ c.self.inside.to =
    some_whole c.self.inside.block.now c.self.inside.from c.self.inside.to whole.0 whole.1 (λ none. c.requires (sym held ∙ none)) in
    c.read_parcel.ensures.faced ∙ ap parcel_from (sym (front_piece c.self.inside.block.now c.self.inside.from c.self.inside.to within) ∙ ap (take 40) held)
