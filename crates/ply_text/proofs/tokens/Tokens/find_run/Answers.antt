use Rattle.std.proofs.Common.{◌≤◌, ◌<◌, ◌⊎◌, ℕ, ◌+◌, length, arith, ap, ◌∙◌, sym, subst, Result, IfErr}
use Rattle.std.specs.Io.KnownBytes.{IsAtEnd}
use Rattle.std.proofs.lemmas.List.Sums.{prefix_len-le-length}
use Rattle.ply_text.specs.Pieces.{belongs}
use Rattle.ply_text.specs.NextPieces.{room_at}
use Rattle.ply_text.specs.Reading.{held}
use Rattle.ply_text.proofs.RunSizes.{run_answer, checked_size-ok, checked_reached, IfOk-from}
use Rattle.ply_text.proofs.Blocks.{length-held}
use Rattle.ply_text.specs.declared.fault.TextFault.{TextFault}
use Rattle.ply_text.specs.Calls.{fault_end}
use Rattle.ply_text.proofs.tokens.Tokens.find_run.Goals as goal

pub returns-clause-answer : goal.returns-clause-answer
returns-clause-answer g c = λ text told ok.
    let t = c.hold_run.new.self in
    let holds = c.in_ok-size.ensures.reads.holds in
    let run = c.in_ok-size.ensures.run in
    run_answer c.args.run c.args.limit c.args.fault c.args.self.now.place t.place (held t) (g.I.ByteSource.rest t.input.now) text c.in_ok-size.size c.check_run.result
    holds.place run.size run.ended (holds.left ∙ told) c.check_run.ensures

pub returns-clause-run : goal.returns-clause-run
returns-clause-run g c =
    let s = c.args.self.now in
    let t = c.hold_run.new.self in
    let size = c.in_ok-size.size in
    let run = c.in_ok-size.ensures.run in
    let within : size ≤ length (held t) = omega (arith, run.size, prefix_len-le-length (belongs c.args.run) (held t)) in
    IfOk-from c.check_run.result _ (λ n ok.
    let says = checked_size-ok c.args.limit c.args.fault (room_at t.place) (length (held t)) size n within (sym c.check_run.ensures ∙ ok) in
    let Q : ℕ → Type 0 = λ m. (m < length (held t)) ⊎ ((c.args.limit < m) ⊎ IsAtEnd (g.I.ByteSource.rest t.input.now)) in
    let place = c.in_ok-size.ensures.reads.holds.place in
    (record { size = says.0 ∙ run.size; ended = subst Q (sym says.0) run.ended }, says.1, omega (arith, says.2, place, s.within), λ short. omega (arith, says.3 short, place, s.within)))

pub returns-clause-reached : goal.returns-clause-reached
returns-clause-reached g c =
    let t = c.hold_run.new.self in
    let run = c.in_ok-size.ensures.run in
    let long = length-held t.block.now t.from t.to t.ordered t.inside in
    let place = c.in_ok-size.ensures.reads.holds.place in
    let P : Result ℕ TextFault → ℕ → Type 0 = λ r n. IfErr r (λ f. fault_end f ≤ t.place + n) in
    subst (λ n. P c.check_run.result n) long (subst (λ r. P r (length (held t))) (sym c.check_run.ensures)
    (checked_reached c.args.limit c.args.fault t.place (length (held t)) c.in_ok-size.size (c.requires.here ∙ ap (λ n. n + c.args.limit + 1) (sym place)) t.within
    (omega (arith, run.size, prefix_len-le-length (belongs c.args.run) (held t)))))
