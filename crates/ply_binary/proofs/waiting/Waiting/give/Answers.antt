use Rattle.std.proofs.Common.{◌-◌, min, length, take, drop, ap, ◌∙◌, sym}
use Rattle.ply_binary.proofs.LineWords.{gave_front}
use Rattle.ply_binary.proofs.waiting.Waiting.give.Goals as goal

pub returns-clause-text : goal.returns-clause-text
returns-clause-text c =
    let items = c.self.inside.bytes.items in
    let at = c.self.inside.given in
    let n = c.min-count.result in
    let into = c.args.into.now in
    let is = c.as_slice.ensures.value in
    sym c.self.view_is ∙ gave_front items into c.copy_from_slice.new.self at n (length into) c.self.invariant
    (c.min-count.ensures ∙ ap (λ l. min (length (take (length l - at) (drop at l))) (length into)) is)
    (c.copy_from_slice.ensures.after ∙ ap (λ l. take n (take (length l - at) (drop at l))) is)
