use Rattle.std.proofs.Common.{◌≡◌, ◌∙◌, Ok, Err, true, false, sym, ap, subst, rules}
use Rattle.ply_text.specs.Reading.{reading}
use Rattle.ply_reader.specs.Declarations.{declared}
use Rattle.ply_reader.specs.Cursors.{mapped}
use Rattle.ply_reader.specs.HeaderSteps.{whole_header, header_line, taken_from}
use Rattle.ply_reader.proofs.HeaderRuns.{ComesInHeader, header_starts, header_goes_on, header_ends, header_stops}
use Rattle.ply_reader.proofs.Steps.{err_is, runs_given}
use Rattle.ply_reader.proofs.header_lines.read_header.Goals as goal

pub loop-init : goal.loop-init
loop-init g c =
    let a = reading c.args.tokens.now in
    record { same = search rules; comes = subst (λ d. ComesInHeader d a a) (sym c.new-header.ensures) (header_starts a c.requires.free) }

pub returns-in_err-take_line-clause-runs : goal.returns-in_err-take_line-clause-runs
returns-in_err-take_line-clause-runs g c =
    let a = reading c.args.tokens.now in
    let b = reading c.loop.tokens in
    let d = reading c.take_line.new.tokens in
    let old = declared c.loop.header in
    let next = declared c.take_line.new.header in
    let fault = c.in_err-take_line.field-0.0 in
    let line = runs_given (header_line old) b d (mapped (taken_from next) c.take_line.result) (Err fault) (ap (mapped (taken_from next)) c.in_err-take_line.was) c.take_line.ensures.runs in
    runs_given whole_header a d (Err fault) (mapped declared c.from_residual.result) (sym (ap (mapped declared) (err_is c.from_residual.result fault c.from_residual.ensures)))
    (header_stops old a b d fault c.loop.invariant.comes line)

pub loop-preserved : goal.loop-preserved
loop-preserved g c =
    let a = reading c.args.tokens.now in
    let b = reading c.loop.tokens in
    let d = reading c.take_line.new.tokens in
    let old = declared c.loop.header in
    let next = declared c.take_line.new.header in
    let more : c.in_ok-take_line.field-0 ≡ false = search rules in
    let was : c.take_line.result ≡ Ok false = c.in_ok-take_line.was ∙ ap Ok more in
    let line = runs_given (header_line old) b d (mapped (taken_from next) c.take_line.result) (Ok (taken_from next false)) (ap (mapped (taken_from next)) was) c.take_line.ensures.runs in
    record { same = search rules; comes = header_goes_on old next a b d c.loop.invariant.comes c.in_ok-take_line.ensures.onward line }

pub returns-clause-runs : goal.returns-clause-runs
returns-clause-runs g c =
    let a = reading c.args.tokens.now in
    let b = reading c.loop.tokens in
    let d = reading c.take_line.new.tokens in
    let old = declared c.loop.header in
    let next = declared c.take_line.new.header in
    let end : c.in_ok-take_line.field-0 ≡ true = search rules in
    let was : c.take_line.result ≡ Ok true = c.in_ok-take_line.was ∙ ap Ok end in
    let line = runs_given (header_line old) b d (mapped (taken_from next) c.take_line.result) (Ok (taken_from next true)) (ap (mapped (taken_from next)) was) c.take_line.ensures.runs in
    header_ends old next a b d c.loop.invariant.comes line
