use Rattle.std.proofs.Common.{◌≡◌}
use Rattle.ply_text.specs.NextPieces.{next_line_of, line_size}
use Rattle.ply_text.specs.Reading.{left_of}
use Rattle.ply_text.specs.declared.run.Run.TheVariants.{Line}
use Rattle.ply_text.specs.Holding.{piece_in}
use Rattle.ply_text.specs.Calls.{answered, IsLineFault}
use Rattle.ply_text.proofs.CallLaws.{Call-from_made, sought_by, answered-refused, line_whole}
use Rattle.ply_text.proofs.tokens.Tokens.pass_line.Goals as goal

pub returns-clause-call : goal.returns-clause-call
returns-clause-call g c =
    let a = c.args.self.now in
    let b = c.find_line-found.new.self in
    let raw = c.find_line-found.result in
    let found = c.find_line-found.ensures in
    record {
      call = Call-from_made (piece_in b.block.now) next_line_of line_size a b c.err-self.result raw c.in_default.not-Some c.err-self.ensures.value found.finds found.cause found.ended;
      refused = λ _. answered-refused (piece_in b.block.now) (λ fault. (b.place ≡ a.place) × IsLineFault a.place fault) raw found.refused;
      sought = λ _. sought_by (piece_in b.block.now) Line 1024 b raw found.sought;
      bounds = found.bounds;
      whole = λ text told. line_whole a.place b.place text (left_of b) (answered (piece_in b.block.now) raw) (found.finds.answer text told) (found.finds.passed text told);
    }
