use Rattle.std.proofs.Common.{◌≡◌, [], ◌∷◌, length, None, Some, refl, sym, ap, ◌∙◌, arith, rules}
use Rattle.ply_text.specs.BodyTokens.{body_tokens}
use Rattle.ply_text.specs.Reading.{StandsIn, reading}
use Rattle.ply_text.specs.Calls.{token_piece}
use Rattle.ply_text.proofs.Callers.{stands_after, starts, reached_by, read_at_fault, None-from_default, TokenCall-given, no_token, last_token, two_tokens}
use Rattle.ply_text.specs.NextPieces.{next_token_of, token_size}
use Rattle.ply_text.proofs.RunSizes.{err_is}
use Rattle.text_tests.proofs.ply_text_token_callers.first_two.Goals as goal

pub returns-in_default-clause-told : goal.returns-in_default-clause-told
returns-in_default-clause-told g c = λ text told.
    let start = c.new-tokens.ensures.start in
    let place : 0 ≡ c.new-tokens.result.place = sym (ap (λ r. r.place) start) in
    let left : (reading c.new-tokens.result).left ≡ Some text = ap (λ r. r.left) start ∙ told in
    let first = c.in_ok-first.field-0 in
    let none = TokenCall-given _ _ c.next_token.result first None c.in_ok-first.was (None-from_default first c.in_default.not-Some) c.next_token.follows.holds-at-none.1 in
    let all : body_tokens 0 text ≡ [] = ap (λ p. body_tokens p text) place ∙ no_token _ _ text left none in
    omega (arith, ap length all)

pub returns-in_default-2-clause-told : goal.returns-in_default-2-clause-told
returns-in_default-2-clause-told g c = λ text told.
    let start = c.new-tokens.ensures.start in
    let place : 0 ≡ c.new-tokens.result.place = sym (ap (λ r. r.place) start) in
    let left : (reading c.new-tokens.result).left ≡ Some text = ap (λ r. r.left) start ∙ told in
    let first = c.in-Some.first in
    let second = c.in_ok-second.field-0 in
    let one = TokenCall-given _ _ c.next_token.result c.in_ok-first.field-0 (Some first) c.in_ok-first.was c.in-Some.is c.next_token.follows.holds-at-none.1 in
    let none = TokenCall-given _ _ c.next_token-2.result second None c.in_ok-second.was (None-from_default second c.in_default-2.not-Some) c.next_token-2.follows.holds-at-none.1 in
    let all : body_tokens 0 text ≡ token_piece first ∷ [] = ap (λ p. body_tokens p text) place ∙ last_token _ _ _ (token_piece first) text left one none in
    omega (arith, ap length all)

pub returns-clause-told : goal.returns-clause-told
returns-clause-told g c = λ text told.
    let start = c.new-tokens.ensures.start in
    let place : 0 ≡ c.new-tokens.result.place = sym (ap (λ r. r.place) start) in
    let left : (reading c.new-tokens.result).left ≡ Some text = ap (λ r. r.left) start ∙ told in
    let first = c.in-Some.first in
    let second = c.in-Some-2.second in
    let one = TokenCall-given _ _ c.next_token.result c.in_ok-first.field-0 (Some first) c.in_ok-first.was c.in-Some.is c.next_token.follows.holds-at-none.1 in
    let two = TokenCall-given _ _ c.next_token-2.result c.in_ok-second.field-0 (Some second) c.in_ok-second.was c.in-Some-2.is c.next_token-2.follows.holds-at-none.1 in
    let both = two_tokens _ _ _ (token_piece first) (token_piece second) text left one two in
    (token_piece first, token_piece second, both.0, ap (λ p. body_tokens p text) place ∙ both.1, refl, refl)

pub returns-in_err-first-clause-read : goal.returns-in_err-first-clause-read
returns-in_err-first-clause-read g c = λ text told.
    let start = c.new-tokens.ensures.start in
    let at : StandsIn text (reading c.new-tokens.result) = starts c.new-tokens.result text start told in
    let free = ap (λ r. r.stopped) start in
    let after = c.next_token.follows.lender-at-none in
    let call = c.next_token.follows.holds-at-none.1.call in
    let fault = c.in_err-first.field-0.0 in
    read_at_fault after text _ c.from_residual.result fault (err_is c.from_residual.result fault c.from_residual.ensures)
    (stands_after next_token_of token_size _ _ _ text call at)
    (reached_by next_token_of token_size token_piece _ _ c.next_token.result fault c.in_err-first.was free call)
    (search rules)

pub returns-in_err-second-clause-read : goal.returns-in_err-second-clause-read
returns-in_err-second-clause-read g c = λ text told.
    let start = c.new-tokens.ensures.start in
    let at : StandsIn text (reading c.new-tokens.result) = starts c.new-tokens.result text start told in
    let first = c.next_token.follows.holds-at-none.1 in
    let call = c.next_token-2.follows.holds-at-none.1.call in
    let one = TokenCall-given _ _ c.next_token.result c.in_ok-first.field-0 (Some c.in-Some.first) c.in_ok-first.was c.in-Some.is first in
    let after = c.next_token-2.follows.lender-at-none in
    let fault = c.in_err-second.field-0.0 in
    read_at_fault after text _ c.from_residual-in_err-second.result fault (err_is c.from_residual-in_err-second.result fault c.from_residual-in_err-second.ensures)
    (stands_after next_token_of token_size _ _ _ text call (stands_after next_token_of token_size _ _ _ text first.call at))
    (reached_by next_token_of token_size token_piece _ _ c.next_token-2.result fault c.in_err-second.was one.call.stops call)
    (search rules)
