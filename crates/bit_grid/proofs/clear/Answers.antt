use Rattle.std.proofs.Common.{◌≡◌, length, rules}
use Rattle.std.specs.Prelude.{replicate}
use Rattle.bit_grid.proofs.PlacesLemmas.{unset_in_zeros}
use Rattle.bit_grid.proofs.clear.Goals as goal

pub returns : goal.returns
returns c =
    let zeros : c.fill.new.self ≡ replicate (length c.args.words.now) 0 = search rules in
    unset_in_zeros c.fill.new.self (length c.args.words.now) zeros
