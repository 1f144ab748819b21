use Rattle.std.proofs.Common.{◌≡◌, ◌<◌, ◌≤◌, ◌+◌, ◌-◌, arith, ap, ◌∙◌, sym, subst, length, take, slice_range, List, ℕ}
use Rattle.std.specs.List.{prefix_len}
use Rattle.std.proofs.lemmas.List.{length-take-le}
use Rattle.std.proofs.lemmas.List.Sums.{prefix_len-le-length}
use Rattle.ply_text.specs.declared.run.Run.TheVariants.{Token}
use Rattle.ply_text.specs.declared.fault.TextFault.TheVariants.{ReadFault}
use Rattle.ply_text.specs.Pieces.{IsToken, belongs}
use Rattle.ply_text.specs.Reading.{held}
use Rattle.ply_text.specs.NextPieces.{next_token_of, token_size}
use Rattle.ply_text.specs.Holding.{PassedWhite, piece_in}
use Rattle.ply_text.specs.Calls.{answered}
use Rattle.ply_text.proofs.Runs.{run-passes}
use Rattle.ply_text.proofs.Blocks.{take-held, length-held}
use Rattle.ply_text.proofs.RunSizes.{err_is}
use Rattle.ply_text.proofs.Readers.{Advances-white, Holds-token}
use Rattle.ply_text.proofs.Answers.{Finds-fault, Finds-no_token, Finds-token_fault, Finds-token, next_token_of-fault}
use Rattle.ply_text.proofs.tokens.Tokens.find_token.Goals as goal

pub returns-in_err-pass_white-clause-finds : goal.returns-in_err-pass_white-clause-finds
returns-in_err-pass_white-clause-finds g c =
    let a = c.args.self.now in
    let b = c.pass_white.new.self in
    let fault = c.in_err-pass_white.field-0.0 in
    Finds-fault next_token_of token_size a b (answered (piece_in b.block.now) c.from_residual.result) fault (Advances-white c.pass_white.ensures.passes) c.in_err-pass_white.ensures.reached
    (ap (answered (piece_in b.block.now)) (err_is c.from_residual.result fault c.from_residual.ensures))
    (λ text told ok. next_token_of-fault a.place text fault (c.in_err-pass_white.ensures.answer text told ok))

pub returns-then-not-branch-clause-finds : goal.returns-then-not-branch-clause-finds
returns-then-not-branch-clause-finds g c =
    let a = c.args.self.now in
    let b = c.pass_white.new.self in
    Finds-no_token a b (Advances-white c.pass_white.ensures.passes) (λ text told. subst (PassedWhite text a b) c.if-not-branch.true (c.in_ok-pass_white.ensures.answer text told))

pub returns-in_err-size-clause-finds : goal.returns-in_err-size-clause-finds
returns-in_err-size-clause-finds g c =
    let a = c.args.self.now in
    let b = c.pass_white.new.self in
    let t = c.find_run.new.self in
    let fault = c.in_err-size.field-0.0 in
    Finds-token_fault a b t (answered (piece_in t.block.now) c.from_residual-in_err-size.result) fault (Advances-white c.pass_white.ensures.passes) c.find_run.ensures.holds c.in_err-size.ensures.reached
    (λ text told. subst (PassedWhite text a b) c.if-not-branch.false (c.in_ok-pass_white.ensures.answer text told))
    (λ text told ok. sym (c.in_err-size.ensures.answer text told (λ e. ok (let same : fault ≡ ReadFault = cc in same))))
    (ap (answered (piece_in t.block.now)) (err_is c.from_residual-in_err-size.result fault c.from_residual-in_err-size.ensures))

pub pass-requires-clause-held : goal.pass-requires-clause-held
pass-requires-clause-held g c =
    let t = c.find_run.new.self in
    omega (arith, c.in_ok-size.ensures.run.0.size, prefix_len-le-length (belongs Token) (held t))

pub returns-clause-finds : goal.returns-clause-finds
returns-clause-finds g c =
    let a = c.args.self.now in
    let b = c.pass_white.new.self in
    let t = c.find_run.new.self in
    let n = c.in_ok-size.size in
    let run : n ≡ prefix_len (belongs Token) (held t) = c.in_ok-size.ensures.run.0.size in
    let some : 0 < n = Holds-token _ n c.find_run.ensures.holds c.in_ok-pass_white.ensures.found c.if-not-branch.false run in
    Finds-token n a b t c.pass.new.self (Advances-white c.pass_white.ensures.passes) c.find_run.ensures.holds c.pass.ensures some
    (omega (arith, run, prefix_len-le-length (belongs Token) (held t)))
    (λ text told. subst (PassedWhite text a b) c.if-not-branch.false (c.in_ok-pass_white.ensures.answer text told))
    (λ text told. c.in_ok-size.ensures.answer text told (λ e. cc))

pub returns-clause-bounds : goal.returns-clause-bounds
returns-clause-bounds g c =
    let b = c.pass_white.new.self in
    let t = c.find_run.new.self in
    let d = c.pass.new.self in
    let n = c.in_ok-size.size in
    let run : n ≡ prefix_len (belongs Token) (held t) = c.in_ok-size.ensures.run.0.size in
    let some : 0 < n = Holds-token _ n c.find_run.ensures.holds c.in_ok-pass_white.ensures.found c.if-not-branch.false run in
    let within : n ≤ length (held t) = omega (arith, run, prefix_len-le-length (belongs Token) (held t)) in
    let fits : n ≤ t.to - t.from = omega (arith, within, length-held t.block.now t.from t.to t.ordered t.inside) in
    let bytes : take n (held t) ≡ slice_range d.block.now t.from (t.from + n) =
    take-held t.block.now t.from t.to n fits ∙ ap (λ block. slice_range block t.from (t.from + n)) (sym c.pass.ensures.bytes) in
    let long : length (take n (held t)) ≡ n = length-take-le n (held t) within in
    let limit : n ≤ 255 = c.in_ok-size.ensures.run.1 in
    let later : c.args.self.now.place ≤ b.place = c.pass_white.ensures.passes.later in
    let place : d.place ≡ b.place + n = omega (arith, c.pass.ensures.place, c.find_run.ensures.holds.place) in
    let P : List ℕ → Type 0 = λ bytes. (c.args.self.now.place ≤ b.place) × (b.place + length bytes ≡ d.place) × IsToken (record { place = b.place; bytes = bytes }) in
    subst P bytes (later, omega (arith, long, place), (omega (arith, long, some), omega (arith, long, limit), run-passes (belongs Token) n (held t) (omega (arith, run))))
