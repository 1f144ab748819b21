use Rattle.std.proofs.Common.{◌<◌, ◌++◌, ◌∙◌, [], ap, sym, length, take, drop, slice_set, arith}
use Rattle.ply_reader.specs.Declarations.{declared}
use Rattle.ply_binary.specs.HeldStates.{held}
use Rattle.ply_binary.specs.SourceStates.{left_by}
use Rattle.ply_binary.proofs.SourceMoves.{mark_left, mark_put}
use Rattle.ply_binary.proofs.source.AsciiSource.give_held_values.Goals as goal

pub returns-then-len-gt0-clause-text : goal.returns-then-len-gt0-clause-text
returns-then-len-gt0-clause-text g c = λ more seen.
    let old = c.args.self.now in
    let d = declared old.header in
    let bytes = held old.held in
    let done = c.rewritten-done.result in
    let e = c.rewritten-done.ensures in
    let some : 0 < length (drop done.used bytes) = omega (arith, c.if-len-gt0.true, c.len.ensures, ap length c.pass.ensures.held_is) in
    let mark = mark_left done.halt d old.body done.body bytes c.rewritten-done.new.into more done.used done.made c.if-is_ended.ensures c.if-done-gt0.false (e.left more) e.halt some in
    (λ i. c.requires.empty i ++ left_by (c.requires.stage i) d old.place old.body (bytes ++ more))
    ∙ mark ∙ sym (ap (λ l. l ++ []) (mark_put c.rewritten-done.new.into (omega (arith, e.size, c.requires.room))))
    ∙ ap (λ t. take 1 (slice_set c.rewritten-done.new.into 0 120) ++ (t ++ [])) (sym c.requires.empty)
