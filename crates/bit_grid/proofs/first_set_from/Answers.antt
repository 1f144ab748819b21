use Rattle.bit_grid.proofs.PlacesLemmas.{none_in_rest, answer_in_rest}
use Rattle.bit_grid.proofs.first_set_from.Goals as goal

pub returns-in_err-number : goal.returns-in_err-number
returns-in_err-number c = rw c.from_residual.ensures (none_in_rest c.args.words.now c.args.start c.in_err-number.ensures.none)

pub returns : goal.returns
returns c = answer_in_rest c.args.words.now c.args.start c.in_ok-number.field-0 c.in_ok-number.ensures.before c.lowest_place.result c.lowest_place.ensures
