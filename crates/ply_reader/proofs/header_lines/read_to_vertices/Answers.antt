use Rattle.std.proofs.Common.{Ok, Err, ap, sym, subst}
use Rattle.ply_text.specs.Reading.{reading}
use Rattle.ply_reader.specs.Declarations.{declared}
use Rattle.ply_reader.specs.Layout.{before_vertices}
use Rattle.ply_reader.specs.Cursors.{onward, done, mapped}
use Rattle.ply_reader.specs.Rows.{elements_passed}
use Rattle.ply_reader.specs.HeaderSteps.{whole_header}
use Rattle.ply_reader.specs.PlyMeaning.{vertices_reached}
use Rattle.ply_reader.specs.Runs.{Runs}
use Rattle.ply_reader.proofs.Steps.{err_is, runs_given, runs_then, runs_as, runs_maps, stops}
use Rattle.ply_reader.proofs.Beginnings.{behind_header, reached_steps}
use Rattle.ply_reader.proofs.header_lines.read_to_vertices.Goals as goal

pub returns-in_err-header-clause-runs : goal.returns-in_err-header-clause-runs
returns-in_err-header-clause-runs g c =
    let a = reading c.args.tokens.now in
    let b = reading c.read_header.new.tokens in
    let fault = c.in_err-header.field-0.0 in
    let header = runs_given whole_header a b (mapped declared c.read_header.result) (Err fault) (ap (mapped declared) c.in_err-header.was) c.read_header.ensures.runs in
    runs_given vertices_reached a b (Err fault) (mapped declared c.from_residual.result) (sym (ap (mapped declared) (err_is c.from_residual.result fault c.from_residual.ensures)))
    (runs_as (λ k. onward (whole_header k) behind_header) vertices_reached a b (Err fault) reached_steps (stops whole_header behind_header a b fault header))

pub returns-in_err-pass_elements-clause-runs : goal.returns-in_err-pass_elements-clause-runs
returns-in_err-pass_elements-clause-runs g c =
    let a = reading c.args.tokens.now in
    let b = reading c.read_header.new.tokens in
    let e = reading c.pass_elements.new.tokens in
    let d = declared c.in_ok-header.header in
    let fault = c.in_err-pass_elements.field-0.0 in
    let header = runs_given whole_header a b (mapped declared c.read_header.result) (Ok d) (ap (mapped declared) c.in_ok-header.was) c.read_header.ensures.runs in
    let step = elements_passed d (before_vertices d) in
    let runs : Runs step b e c.pass_elements.result = subst (λ es. Runs (elements_passed d es) b e c.pass_elements.result) c.before_vertices.ensures c.pass_elements.ensures.runs in
    let last = stops step (λ _. done d) b e fault (runs_given step b e c.pass_elements.result (Err fault) c.in_err-pass_elements.was runs) in
    runs_given vertices_reached a e (Err fault) (mapped declared c.from_residual-in_err-pass_elements.result) (sym (ap (mapped declared) (err_is c.from_residual-in_err-pass_elements.result fault c.from_residual-in_err-pass_elements.ensures)))
    (runs_as (λ k. onward (whole_header k) behind_header) vertices_reached a e (Err fault) reached_steps (runs_then whole_header behind_header a b e d (Err fault) header last))

pub returns-clause-runs : goal.returns-clause-runs
returns-clause-runs g c =
    let a = reading c.args.tokens.now in
    let b = reading c.read_header.new.tokens in
    let e = reading c.pass_elements.new.tokens in
    let d = declared c.in_ok-header.header in
    let header = runs_given whole_header a b (mapped declared c.read_header.result) (Ok d) (ap (mapped declared) c.in_ok-header.was) c.read_header.ensures.runs in
    let step = elements_passed d (before_vertices d) in
    let runs : Runs step b e c.pass_elements.result = subst (λ es. Runs (elements_passed d es) b e c.pass_elements.result) c.before_vertices.ensures c.pass_elements.ensures.runs in
    let last = runs_maps step (λ _. d) b e c.in_ok-pass_elements.field-0 (runs_given step b e c.pass_elements.result (Ok c.in_ok-pass_elements.field-0) c.in_ok-pass_elements.was runs) in
    runs_as (λ k. onward (whole_header k) behind_header) vertices_reached a e (Ok d) reached_steps (runs_then whole_header behind_header a b e d (Ok d) header last)
