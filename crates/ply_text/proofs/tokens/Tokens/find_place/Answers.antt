use Rattle.std.proofs.Common.{sym, subst, Option, Ok, ℕ}
use Rattle.ply_text.specs.NextPieces.{next_place_of, white_size}
use Rattle.ply_text.specs.Holding.{Finds}
use Rattle.ply_text.proofs.RunSizes.{err_is}
use Rattle.ply_text.proofs.Readers.{Advances-white}
use Rattle.ply_text.proofs.Answers.{Finds-fault, Finds-place, next_place_of-fault}
use Rattle.ply_text.proofs.tokens.Tokens.find_place.Goals as goal

pub returns-in_err-found-clause-finds : goal.returns-in_err-found-clause-finds
returns-in_err-found-clause-finds g c =
    let a = c.args.self.now in
    let fault = c.in_err-found.field-0.0 in
    Finds-fault next_place_of white_size a c.pass_white.new.self c.from_residual.result fault (Advances-white c.pass_white.ensures.passes) c.in_err-found.ensures.reached (err_is c.from_residual.result fault c.from_residual.ensures)
    (λ text told ok. next_place_of-fault a.place text fault (c.in_err-found.ensures.answer text told ok))

pub returns-clause-finds : goal.returns-clause-finds
returns-clause-finds g c =
    let a = c.args.self.now in
    let b = c.pass_white.new.self in
    let P : Option ℕ → Type 0 = λ place. Finds next_place_of white_size a b (Ok place) in
    subst P (sym c.then_some.ensures) (Finds-place a b c.in_ok-found.found (Advances-white c.pass_white.ensures.passes) c.in_ok-found.ensures.answer)
