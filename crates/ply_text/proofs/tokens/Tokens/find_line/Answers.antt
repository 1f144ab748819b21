use Rattle.std.proofs.Common.{◌≡◌, ◌<◌, ◌≤◌, ◌+◌, ◌-◌, min, arith, ap, ◌∙◌, sym, refl, subst, length, take, slice_range, List, ℕ}
use Rattle.std.specs.List.{prefix_len}
use Rattle.std.proofs.lemmas.List.{length-take-le, nil_from_length}
use Rattle.std.proofs.lemmas.List.Sums.{prefix_len-le-length}
use Rattle.ply_text.specs.declared.run.Run.TheVariants.{Line}
use Rattle.ply_text.specs.declared.fault.TextFault.TheVariants.{ReadFault}
use Rattle.ply_text.specs.Pieces.{IsLine, belongs}
use Rattle.ply_text.specs.Reading.{held}
use Rattle.ply_text.specs.Holding.{piece_in, Passes}
use Rattle.ply_text.specs.Calls.{answered}
use Rattle.ply_text.proofs.Runs.{run-passes}
use Rattle.ply_text.proofs.Blocks.{take-held, length-held}
use Rattle.ply_text.proofs.RunSizes.{err_is}
use Rattle.ply_text.proofs.Answers.{Finds-line_fault, Finds-no_line, Finds-line}
use Rattle.ply_text.proofs.tokens.Tokens.find_line.Goals as goal

pub returns-in_err-size-clause-finds : goal.returns-in_err-size-clause-finds
returns-in_err-size-clause-finds g c =
    let a = c.args.self.now in
    let t = c.find_run.new.self in
    let fault = c.in_err-size.field-0.0 in
    Finds-line_fault a t (answered (piece_in t.block.now) c.from_residual.result) fault c.find_run.ensures.holds c.in_err-size.ensures.reached
    (λ text told ok. sym (c.in_err-size.ensures.answer text told (λ e. ok (let same : fault ≡ ReadFault = cc in same))))
    (ap (answered (piece_in t.block.now)) (err_is c.from_residual.result fault c.from_residual.ensures))

pub returns-then-self-clause-finds : goal.returns-then-self-clause-finds
returns-then-self-clause-finds g c =
    let t = c.find_run.new.self in
    let long = length-held t.block.now t.from t.to t.ordered t.inside in
    Finds-no_line c.in_ok-size.size c.args.self.now t c.find_run.ensures.holds (nil_from_length (held t) (omega (arith, long, c.if-self.true))) c.in_ok-size.ensures.run.0
    (λ text told. c.in_ok-size.ensures.answer text told (λ e. cc))

pub line_end-end-requires : goal.line_end-end-requires
line_end-end-requires g c =
    let t = c.find_run.new.self in
    omega (arith, c.in_ok-size.ensures.run.0.size, prefix_len-le-length (belongs Line) (held t))

pub returns-clause-finds : goal.returns-clause-finds
returns-clause-finds g c =
    let t = c.find_run.new.self in
    let d = c.pass.new.self in
    let n = c.in_ok-size.size in
    let long : length (held t) ≡ t.to - t.from = length-held t.block.now t.from t.to t.ordered t.inside in
    let count : c.min.result ≡ min (n + 1) (length (held t)) = c.min.ensures ∙ ap (min (n + 1)) (sym long) in
    let passes = subst (λ m. Passes m t d) count c.pass.ensures in
    Finds-line n c.line_end-end.result c.args.self.now t d c.find_run.ensures.holds passes c.in_ok-size.ensures.run.0 c.in_ok-size.ensures.run.1
    (omega (arith, long, t.ordered, c.if-self.false)) c.line_end-end.ensures.bytes (λ text told. c.in_ok-size.ensures.answer text told (λ e. cc))

pub returns-clause-bounds : goal.returns-clause-bounds
returns-clause-bounds g c =
    let t = c.find_run.new.self in
    let d = c.pass.new.self in
    let n = c.in_ok-size.size in
    let end = c.line_end-end.result in
    let k = end - t.from in
    let run : n ≡ prefix_len (belongs Line) (held t) = c.in_ok-size.ensures.run.0.size in
    let bound = c.line_end-end.ensures.bound in
    let short : k ≤ n = omega (arith, bound.0, bound.1) in
    let within : k ≤ length (held t) = omega (arith, short, run, prefix_len-le-length (belongs Line) (held t)) in
    let fits : k ≤ t.to - t.from = omega (arith, within, length-held t.block.now t.from t.to t.ordered t.inside) in
    let last : t.from + k ≡ end = omega (arith, bound.0) in
    let bytes : take k (held t) ≡ slice_range d.block.now t.from end =
    take-held t.block.now t.from t.to k fits ∙ ap (slice_range t.block.now t.from) last ∙ ap (λ block. slice_range block t.from end) (sym c.pass.ensures.bytes) in
    let size : length (take k (held t)) ≡ k = length-take-le k (held t) within in
    let limit : n ≤ 1024 = c.in_ok-size.ensures.run.1 in
    let place = c.args.self.now.place in
    let count : c.min.result ≡ min (n + 1) (t.to - t.from) = c.min.ensures in
    let behind : place + k ≤ d.place = omega (arith, c.pass.ensures.place, c.find_run.ensures.holds.place, count, short, fits) in
    let further : place < d.place = omega (arith, c.pass.ensures.place, c.find_run.ensures.holds.place, count, c.if-self.false, t.ordered) in
    let P : List ℕ → Type 0 = λ bytes. (place + length bytes ≤ d.place) × IsLine (record { place = place; bytes = bytes }) in
    let both = subst P bytes (omega (arith, size, behind), (omega (arith, size, short, limit), run-passes (belongs Line) k (held t) (omega (arith, short, run)))) in
    (refl, further, both.0, both.1)
