use Rattle.std.proofs.Common.{◌^◌, Ok}
use Rattle.ply_text.specs.Reading.{reading}
use Rattle.ply_reader.specs.Cursors.{onward, taken}
use Rattle.ply_reader.specs.TokenValues.{whole_in}
use Rattle.ply_reader.specs.Rows.{passed, list_passed}
use Rattle.ply_reader.proofs.RowSteps.{list_steps}
use Rattle.ply_reader.proofs.Steps.{comes_self, comes_as, runs_given, runs_as, runs_then, stops_whole}
use Rattle.ply_reader.specs.declared.fault.PlyKind.TheVariants.{BadCount}
use Rattle.ply_reader.proofs.rows.pass_list.Goals as goal

pub returns-in_err-count-clause-runs : goal.returns-in_err-count-clause-runs
returns-in_err-count-clause-runs g c =
    let a = reading c.args.tokens.now in
    let b = reading c.take_whole.new.tokens in
    stops_whole list_passed (taken (whole_in BadCount 0 (2 ^ 32))) passed a a b c.take_whole.result c.in_err-count.field-0.0 c.from_residual.result
    (comes_as list_passed list_passed (λ k. onward (taken (whole_in BadCount 0 (2 ^ 32)) k) passed) a a list_steps (comes_self list_passed a c.requires.free))
    c.in_err-count.was c.take_whole.ensures.runs c.from_residual.ensures

pub returns-clause-runs : goal.returns-clause-runs
returns-clause-runs g c =
    let a = reading c.args.tokens.now in
    let b = reading c.take_whole.new.tokens in
    let d = reading c.pass_tokens.new.tokens in
    runs_as (λ k. onward (taken (whole_in BadCount 0 (2 ^ 32)) k) passed) list_passed a d c.pass_tokens.result list_steps
    (runs_then (taken (whole_in BadCount 0 (2 ^ 32))) passed a b d c.in_ok-count.count c.pass_tokens.result
    (runs_given (taken (whole_in BadCount 0 (2 ^ 32))) a b c.take_whole.result (Ok c.in_ok-count.count) c.in_ok-count.was c.take_whole.ensures.runs) c.pass_tokens.ensures.runs)
