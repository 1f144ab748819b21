use Rattle.std.proofs.Common.{◌/◌, ◌%◌, arith}
use Rattle.bit_grid.proofs.PlacesLemmas.{unset_past, answer_in_word, answer_behind}
use Rattle.bit_grid.proofs.next_set.Goals as goal

pub returns-then-start-words : goal.returns-then-start-words
returns-then-start-words c place after fits = unset_past c.args.words.now place (omega arith)

pub returns-then-first-ne0 : goal.returns-then-first-ne0
returns-then-first-ne0 c =
    answer_in_word c.args.words.now (c.args.from / 64) (c.args.from % 64) c.from_bit-first.result c.args.from (omega arith) (omega arith) c.from_bit-first.ensures.cleared c.from_bit-first.ensures.kept c.lowest_place.result c.lowest_place.ensures

pub returns : goal.returns
returns c = answer_behind c.args.words.now c.args.from c.from_bit-first.result c.if-first-ne0.false c.from_bit-first.ensures.kept c.first_set_from.result c.first_set_from.ensures
