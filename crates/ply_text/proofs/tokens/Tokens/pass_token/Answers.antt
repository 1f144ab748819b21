use Rattle.std.proofs.Common.{◌-◌, ◌≤◌}
use Rattle.ply_text.specs.NextPieces.{next_token_of, token_size, white_size}
use Rattle.ply_text.specs.Reading.{left_of}
use Rattle.ply_text.specs.declared.run.Run.TheVariants.{Token}
use Rattle.ply_text.specs.Holding.{piece_in}
use Rattle.ply_text.specs.Calls.{answered, IsTokenFault}
use Rattle.ply_text.proofs.CallLaws.{Call-from_made, sought_by, answered-refused, token_whole}
use Rattle.ply_text.proofs.tokens.Tokens.pass_token.Goals as goal

pub returns-clause-call : goal.returns-clause-call
returns-clause-call g c =
    let a = c.args.self.now in
    let b = c.find_token-found.new.self in
    let raw = c.find_token-found.result in
    let found = c.find_token-found.ensures in
    record {
      call = Call-from_made (piece_in b.block.now) next_token_of token_size a b c.err-self.result raw c.in_default.not-Some c.err-self.ensures.value found.finds found.cause found.ended;
      refused = λ _. answered-refused (piece_in b.block.now) (IsTokenFault b.place) raw found.refused;
      only_white = λ text told. answered-refused (piece_in b.block.now) (λ _. b.place - a.place ≤ white_size text) raw (found.only_white text told);
      sought = λ _. sought_by (piece_in b.block.now) Token 255 b raw found.sought;
      bounds = found.bounds;
      whole = λ text told. token_whole a.place b.place text (left_of b) (answered (piece_in b.block.now) raw) (found.finds.answer text told) (found.finds.passed text told);
    }
