use Rattle.ply_text.specs.NextPieces.{next_place_of, white_size}
use Rattle.ply_text.specs.Reading.{left_of}
use Rattle.ply_text.proofs.CallLaws.{Call-from_finds, none_held, place_whole}
use Rattle.ply_text.proofs.tokens.Tokens.next_place.Goals as goal

pub returns-clause-call : goal.returns-clause-call
returns-clause-call g c =
    let a = c.args.self.now in
    let b = c.find_place-found.new.self in
    let result = c.find_place-found.result in
    let found = c.find_place-found.ensures in
    record {
      call = Call-from_finds next_place_of white_size a b c.err-self.result result c.in_default.not-Some c.err-self.ensures.value found.finds found.cause found.ended;
      refused = λ _. found.refused;
      only_white = found.only_white;
      sought = λ _ failed. none_held b (found.sought failed);
      place = found.place;
      whole = λ text told. place_whole a.place b.place text (left_of b) result (found.finds.answer text told) (found.finds.passed text told);
    }
