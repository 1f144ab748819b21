use Rattle.std.proofs.Common.{◌≢◌, Result, Err, MatchResult, ◌≡◌, ◌<◌, arith, ap, ◌∙◌, sym, subst, MatchBool, length, [], Bool}
use Rattle.std.specs.Io.KnownBytes.{IsAtEnd}
use Rattle.std.specs.List.{prefix_len}
use Rattle.ply_text.specs.declared.run.Run.TheVariants.{White, Token}
use Rattle.ply_text.specs.Pieces.{belongs}
use Rattle.ply_text.specs.Reading.{held}
use Rattle.ply_text.specs.Holding.{PassesWhite, PassedWhite}
use Rattle.ply_text.specs.NextPieces.{run_size, room_at}
use Rattle.ply_text.specs.declared.fault.TextFault.{TextFault}
use Rattle.ply_text.specs.declared.fault.TextFault.TheVariants.{TooLong, ReadFault}
use Rattle.ply_text.proofs.RunSizes.{err_is}
use Rattle.ply_text.proofs.Readers.{PassesWhite-holds, PassesWhite-passes, white_too_long, white_found, white_end}
use Rattle.ply_text.proofs.tokens.Tokens.pass_white.Goals as goal

pub returns-in_err-pass_held_white-clause-answer : goal.returns-in_err-pass_held_white-clause-answer
returns-in_err-pass_held_white-clause-answer g c = λ text told.
    let s = c.reads.self in
    let why = c.in_err-pass_held_white.ensures.answer in
    let P : Result Bool TextFault → Type 0 = λ r. MatchResult r (PassedWhite text c.args.self.now c.pass_held_white.new.self)
    (λ fault. fault ≢ ReadFault → run_size White (room_at c.args.self.now.place) text ≡ Err fault) in
    let is : c.from_residual.result ≡ Err TooLong = err_is c.from_residual.result c.in_err-pass_held_white.field-0.0 c.from_residual.ensures ∙ ap Err why.0 in
    subst P (sym is) (λ _. white_too_long c.reads.invariant.passes why.1 why.2 text told)

pub returns-then-branch-clause-answer : goal.returns-then-branch-clause-answer
returns-then-branch-clause-answer g c =
    let t = c.pass_held_white.new.self in
    let clauses = c.in_ok-pass_held_white.ensures in
    let more = subst (λ b. MatchBool b (0 < prefix_len (belongs Token) (held t)) (held t ≡ [])) c.if-branch.true clauses.more in
    let passes : PassesWhite c.args.self.now t = PassesWhite-passes c.reads.invariant.passes clauses.passes (omega arith) in
    white_found passes more (clauses.answer c.if-branch.true)

pub returns-then-not-branch-clause-answer : goal.returns-then-not-branch-clause-answer
returns-then-not-branch-clause-answer g c =
    let s = c.pass_held_white.new.self in
    let t = c.more.new.self in
    let clauses = c.in_ok-pass_held_white.ensures in
    let none = subst (λ b. MatchBool b (0 < prefix_len (belongs Token) (held s)) (held s ≡ [])) c.if-branch.false clauses.more in
    let end = subst (λ b. MatchBool b (length (held s) < length (held t)) ((held t ≡ held s) × IsAtEnd (g.I.ByteSource.rest t.input.now))) c.if-not-branch.true c.in_ok-more.ensures.grown in
    let passes : PassesWhite c.args.self.now s = PassesWhite-passes c.reads.invariant.passes clauses.passes (omega arith) in
    white_end (PassesWhite-holds passes c.in_ok-more.ensures.reads.holds) (end.0 ∙ none) end.1

pub reads-preserved : goal.reads-preserved
reads-preserved g c =
    let s = c.pass_held_white.new.self in
    let clauses = c.in_ok-pass_held_white.ensures in
    let reads = c.in_ok-more.ensures.reads in
    let same : g.I.ByteSource.faults s.input.now ≡ g.I.ByteSource.faults c.reads.self.input.now = ap (λ input. g.I.ByteSource.faults input) clauses.passes.input in
    let passes : PassesWhite c.args.self.now s = PassesWhite-passes c.reads.invariant.passes clauses.passes (omega arith) in
    record {
      passes = PassesWhite-holds passes reads.holds;
      later = omega (arith, c.reads.invariant.later, reads.later, same);
    }

pub returns-then-branch-clause-passes : goal.returns-then-branch-clause-passes
returns-then-branch-clause-passes g c =
    PassesWhite-passes c.reads.invariant.passes c.in_ok-pass_held_white.ensures.passes (omega arith)

pub returns-in_err-more-clause-passes : goal.returns-in_err-more-clause-passes
returns-in_err-more-clause-passes g c =
    PassesWhite-holds (PassesWhite-passes c.reads.invariant.passes c.in_ok-pass_held_white.ensures.passes (omega arith)) c.in_err-more.ensures.reads.holds

pub returns-then-not-branch-clause-passes : goal.returns-then-not-branch-clause-passes
returns-then-not-branch-clause-passes g c =
    PassesWhite-holds (PassesWhite-passes c.reads.invariant.passes c.in_ok-pass_held_white.ensures.passes (omega arith)) c.in_ok-more.ensures.reads.holds
