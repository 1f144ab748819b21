use Rattle.std.proofs.Common.{◌++◌, ◌∙◌, refl, ap, sym, take}
use Rattle.ply_reader.specs.Declarations.{declared}
use Rattle.ply_binary.specs.HeldStates.{held}
use Rattle.ply_binary.specs.SourceStates.{left_by}
use Rattle.ply_binary.proofs.SourceMoves.{moves_wait}
use Rattle.ply_binary.proofs.source.AsciiSource.give_values.Goals as goal

pub returns-clause-moves : goal.returns-clause-moves
returns-clause-moves g c =
    let mid = c.give_tokens-2.new.self in
    let made = take c.in_ok-made.made c.give_tokens-2.new.into in
    moves_wait c.args.self.now mid _ made (take c.give.result c.give.new.into) c.in_ok-made.ensures.moves (sym c.of-self.ensures ∙ c.give.ensures.text) refl
    (λ more. ap (λ t. c.give.new.self ++ (t ++ left_by mid.stage (declared mid.header) mid.place mid.body (held mid.held ++ more))) (sym c.in_ok-made.ensures.end.0))
