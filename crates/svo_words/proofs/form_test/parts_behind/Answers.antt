use Rattle.std.proofs.Common.{◌+◌, ◌-◌, length, drop, arith, sym}
use Rattle.std.proofs.lemmas.List.{length-drop, take_all}
use Rattle.svo_words.proofs.Parts.{parts_none, parts_at}
use Rattle.svo_words.proofs.form_test.parts_behind.Goals as goal

pub returns-in-None : goal.returns-in-None
returns-in-None c = parts_none c.args.text.now (sym c.in-None.ensures.place)

pub returns-in-Some : goal.returns-in-Some
returns-in-Some c =
    let text = c.args.text.now in
    let at = c.in-Some.at in
    let whole = take_all (length text - (at + 1)) (drop (at + 1) text) (omega (arith, length-drop (at + 1) text)) in
    rw whole (parts_at text at (sym c.in-Some.ensures.place))
