use Rattle.std.proofs.Common.{◌++◌, ◌∙◌, refl, ap, sym, take, append_assoc}
use Rattle.ply_reader.specs.Declarations.{declared}
use Rattle.ply_binary.specs.HeldStates.{held}
use Rattle.ply_binary.specs.SourceStates.{left_by}
use Rattle.ply_binary.proofs.SourceMoves.{moves_on, moves_given, moves_front, moves_after, same_rest, takes, match_err, none_of, some_of, over_end}
use Rattle.ply_binary.proofs.source.AsciiSourceByteSource.read.Goals as goal

pub returns-in_err-prepare-clause-bytes : goal.returns-in_err-prepare-clause-bytes
returns-in_err-prepare-clause-bytes g c = match_err c.from_residual.result _ _ c.from_residual.ensures.0 (same_rest c.prepare.ensures.moves)

pub returns-then-not-is_empty-clause-moves : goal.returns-then-not-is_empty-clause-moves
returns-then-not-is_empty-clause-moves g c =
    let mid = c.prepare.new.self in
    let given = take c.give.result c.give.new.into in
    moves_on c.prepare.ensures.moves (moves_given mid _ given (record { input = refl }) refl
    (λ more.
    let left = left_by mid.stage (declared mid.header) mid.place mid.body (held mid.held ++ more) in
    ap (λ t. t ++ left) c.give.ensures.text ∙ append_assoc given c.give.new.self left))

pub returns-then-not-is_empty-clause-bytes : goal.returns-then-not-is_empty-clause-bytes
returns-then-not-is_empty-clause-bytes g c = (moves_front (returns-then-not-is_empty-clause-moves g c), λ none. absurd (some_of c.text.result.now c.if-not-is_empty.ensures (c.text.ensures ∙ c.give.ensures.end none)))

pub returns-in-Values-clause-moves : goal.returns-in-Values-clause-moves
returns-in-Values-clause-moves g c = moves_after c.args.self.now c.prepare.new.self c.give_values.new.self c.give_values.result c.give_values.new.into c.prepare.ensures.moves c.give_values.ensures.moves

pub returns-in-Values-clause-bytes : goal.returns-in-Values-clause-bytes
returns-in-Values-clause-bytes g c = takes c.args.self.now c.give_values.new.self c.give_values.result c.give_values.new.into (returns-in-Values-clause-moves g c) c.give_values.ensures.end

pub returns-in-Plain-clause-moves : goal.returns-in-Plain-clause-moves
returns-in-Plain-clause-moves g c = moves_after c.args.self.now c.prepare.new.self c.give_plain.new.self c.give_plain.result c.give_plain.new.into c.prepare.ensures.moves c.give_plain.ensures.moves

pub returns-in-Plain-clause-bytes : goal.returns-in-Plain-clause-bytes
returns-in-Plain-clause-bytes g c = takes c.args.self.now c.give_plain.new.self c.give_plain.result c.give_plain.new.into (returns-in-Plain-clause-moves g c) c.give_plain.ensures.end

pub returns-in-Head-clause-bytes : goal.returns-in-Head-clause-bytes
returns-in-Head-clause-bytes g c =
    let none = sym c.text.ensures ∙ none_of c.text.result.now c.if-not-is_empty.ensures in
    (moves_front c.prepare.ensures.moves, λ _. over_end c.prepare.new.self none (c.in_ok-prepare.ensures.ready none) c.in-Head.is)
