use Rattle.std.proofs.Common.{◌≡◌, ◌<◌, length, arith, ap, ◌∙◌, sym, subst, inr, MatchBool}
use Rattle.std.specs.List.{prefix_len}
use Rattle.std.specs.Io.KnownBytes.{IsAtEnd}
use Rattle.std.proofs.lemmas.List.Sums.{prefix_len-le-length}
use Rattle.ply_text.specs.Pieces.{belongs}
use Rattle.ply_text.specs.Reading.{held}
use Rattle.ply_text.proofs.Blocks.{length-held}
use Rattle.ply_text.proofs.Readers.{Holds-trans}
use Rattle.ply_text.proofs.Runs.{run-front}
use Rattle.ply_text.proofs.RunSizes.{on_err_from}
use Rattle.ply_text.proofs.tokens.Tokens.hold_run.Goals as goal

pub held_size-size-requires-clause-held : goal.held_size-size-requires-clause-held
held_size-size-requires-clause-held g c =
    let s = c.reads.self in
    omega (arith, c.reads.invariant.size, prefix_len-le-length (belongs c.args.run) (held s), length-held s.block.now s.from s.to s.ordered s.inside)

pub returns-then-not-branch-clause-run : goal.returns-then-not-branch-clause-run
returns-then-not-branch-clause-run g c =
    let s = c.reads.self in
    let t = c.more.new.self in
    let end = subst (λ b. MatchBool b (length (held s) < length (held t)) ((held t ≡ held s) × IsAtEnd (g.I.ByteSource.rest t.input.now))) c.if-not-branch.true c.in_ok-more.ensures.grown in
    record { size = c.held_size-size.ensures ∙ ap (prefix_len (belongs c.args.run)) (sym end.0); ended = inr (inr end.1) }

pub reads-preserved : goal.reads-preserved
reads-preserved g c =
    let s = c.reads.self in
    let t = c.more.new.self in
    let reads = c.in_ok-more.ensures.reads in
    record {
      holds = Holds-trans c.reads.invariant.holds reads.holds;
      later = omega (arith, c.reads.invariant.later, reads.later);
      size = omega (arith, c.held_size-size.ensures, run-front (belongs c.args.run) (length (held s)) (held s) (held t) reads.holds.front);
    }

pub returns-in_err-more-clause-sought : goal.returns-in_err-more-clause-sought
returns-in_err-more-clause-sought g c =
    let s = c.reads.self in
    let t = c.more.new.self in
    let same : held t ≡ held s = c.in_err-more.ensures.stuck in
    let long = length-held s.block.now s.from s.to s.ordered s.inside in
    let most = prefix_len-le-length (belongs c.args.run) (held s) in
    on_err_from c.from_residual.result (record {
      few = rw same (omega (arith, c.held_size-size.ensures, c.if-size-self.false, c.if-size-limit.false, long));
      inside = rw same (omega (arith, c.held_size-size.ensures, c.if-size-self.false, long, most));
    })
