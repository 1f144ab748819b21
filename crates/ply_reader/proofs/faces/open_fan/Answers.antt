use Rattle.std.proofs.Common.{Ok}
use Rattle.ply_reader.specs.declared.fault.PlyKind.TheVariants.{BadCount}
use Rattle.ply_text.specs.Reading.{reading}
use Rattle.ply_reader.specs.Cursors.{onward, done, taken}
use Rattle.ply_reader.specs.TokenValues.{whole_in}
use Rattle.ply_reader.specs.Rows.{row_passed, corner, fan_of, fan_opened}
use Rattle.ply_reader.proofs.BodySteps.{after_first, after_count, after_front, fan_steps}
use Rattle.ply_reader.proofs.Steps.{comes_self, comes_as, comes_on, comes_ends, runs_done, runs_given, stops_whole}
use Rattle.ply_reader.proofs.faces.open_fan.Goals as goal

pub returns-in_err-pass_row-clause-runs : goal.returns-in_err-pass_row-clause-runs
returns-in_err-pass_row-clause-runs g c =
    let a = reading c.args.tokens.now in
    let b = reading c.pass_row.new.tokens in
    let left = comes_as (fan_opened c.args.vertices c.args.front.now) (fan_opened c.args.vertices c.args.front.now) (λ k. onward ((row_passed c.args.front.now) k) (after_front c.args.vertices)) a a (fan_steps c.args.vertices c.args.front.now) (comes_self (fan_opened c.args.vertices c.args.front.now) a c.requires.free) in
    stops_whole (fan_opened c.args.vertices c.args.front.now) (row_passed c.args.front.now) (after_front c.args.vertices) a a b c.pass_row.result c.in_err-pass_row.field-0.0 c.from_residual.result left
    c.in_err-pass_row.was c.pass_row.ensures.runs c.from_residual.ensures

pub returns-in_err-count-clause-runs : goal.returns-in_err-count-clause-runs
returns-in_err-count-clause-runs g c =
    let a = reading c.args.tokens.now in
    let b = reading c.pass_row.new.tokens in
    let left = comes_as (fan_opened c.args.vertices c.args.front.now) (fan_opened c.args.vertices c.args.front.now) (λ k. onward ((row_passed c.args.front.now) k) (after_front c.args.vertices)) a a (fan_steps c.args.vertices c.args.front.now) (comes_self (fan_opened c.args.vertices c.args.front.now) a c.requires.free) in
    let d = reading c.take_whole.new.tokens in
    let left-1 = comes_on (fan_opened c.args.vertices c.args.front.now) (row_passed c.args.front.now) (after_front c.args.vertices) a a b c.in_ok-pass_row.field-0 left (runs_given (row_passed c.args.front.now) a b c.pass_row.result (Ok c.in_ok-pass_row.field-0) c.in_ok-pass_row.was c.pass_row.ensures.runs) in
    stops_whole (fan_opened c.args.vertices c.args.front.now) (taken (whole_in BadCount 3 256)) (after_count c.args.vertices) a b d c.take_whole.result c.in_err-count.field-0.0 c.from_residual-in_err-count.result left-1
    c.in_err-count.was c.take_whole.ensures.runs c.from_residual-in_err-count.ensures

pub returns-in_err-first-clause-runs : goal.returns-in_err-first-clause-runs
returns-in_err-first-clause-runs g c =
    let a = reading c.args.tokens.now in
    let b = reading c.pass_row.new.tokens in
    let left = comes_as (fan_opened c.args.vertices c.args.front.now) (fan_opened c.args.vertices c.args.front.now) (λ k. onward ((row_passed c.args.front.now) k) (after_front c.args.vertices)) a a (fan_steps c.args.vertices c.args.front.now) (comes_self (fan_opened c.args.vertices c.args.front.now) a c.requires.free) in
    let d = reading c.take_whole.new.tokens in
    let left-1 = comes_on (fan_opened c.args.vertices c.args.front.now) (row_passed c.args.front.now) (after_front c.args.vertices) a a b c.in_ok-pass_row.field-0 left (runs_given (row_passed c.args.front.now) a b c.pass_row.result (Ok c.in_ok-pass_row.field-0) c.in_ok-pass_row.was c.pass_row.ensures.runs) in
    let e = reading c.take_corner.new.tokens in
    let left-2 = comes_on (fan_opened c.args.vertices c.args.front.now) (taken (whole_in BadCount 3 256)) (after_count c.args.vertices) a b d c.in_ok-count.count left-1 (runs_given (taken (whole_in BadCount 3 256)) b d c.take_whole.result (Ok c.in_ok-count.count) c.in_ok-count.was c.take_whole.ensures.runs) in
    stops_whole (fan_opened c.args.vertices c.args.front.now) (corner c.args.vertices) (after_first c.args.vertices c.in_ok-count.count) a d e c.take_corner.result c.in_err-first.field-0.0 c.from_residual-in_err-first.result left-2
    c.in_err-first.was c.take_corner.ensures.runs c.from_residual-in_err-first.ensures

pub returns-in_err-last-clause-runs : goal.returns-in_err-last-clause-runs
returns-in_err-last-clause-runs g c =
    let a = reading c.args.tokens.now in
    let b = reading c.pass_row.new.tokens in
    let left = comes_as (fan_opened c.args.vertices c.args.front.now) (fan_opened c.args.vertices c.args.front.now) (λ k. onward ((row_passed c.args.front.now) k) (after_front c.args.vertices)) a a (fan_steps c.args.vertices c.args.front.now) (comes_self (fan_opened c.args.vertices c.args.front.now) a c.requires.free) in
    let d = reading c.take_whole.new.tokens in
    let left-1 = comes_on (fan_opened c.args.vertices c.args.front.now) (row_passed c.args.front.now) (after_front c.args.vertices) a a b c.in_ok-pass_row.field-0 left (runs_given (row_passed c.args.front.now) a b c.pass_row.result (Ok c.in_ok-pass_row.field-0) c.in_ok-pass_row.was c.pass_row.ensures.runs) in
    let e = reading c.take_corner.new.tokens in
    let left-2 = comes_on (fan_opened c.args.vertices c.args.front.now) (taken (whole_in BadCount 3 256)) (after_count c.args.vertices) a b d c.in_ok-count.count left-1 (runs_given (taken (whole_in BadCount 3 256)) b d c.take_whole.result (Ok c.in_ok-count.count) c.in_ok-count.was c.take_whole.ensures.runs) in
    let f = reading c.take_corner-2.new.tokens in
    let left-3 = comes_on (fan_opened c.args.vertices c.args.front.now) (corner c.args.vertices) (after_first c.args.vertices c.in_ok-count.count) a d e c.in_ok-first.first left-2 (runs_given (corner c.args.vertices) d e c.take_corner.result (Ok c.in_ok-first.first) c.in_ok-first.was c.take_corner.ensures.runs) in
    stops_whole (fan_opened c.args.vertices c.args.front.now) (corner c.args.vertices) (λ last. done (fan_of c.in_ok-count.count c.in_ok-first.first last)) a e f c.take_corner-2.result c.in_err-last.field-0.0 c.from_residual-in_err-last.result left-3
    c.in_err-last.was c.take_corner-2.ensures.runs c.from_residual-in_err-last.ensures

pub returns-clause-runs : goal.returns-clause-runs
returns-clause-runs g c =
    let a = reading c.args.tokens.now in
    let b = reading c.pass_row.new.tokens in
    let left = comes_as (fan_opened c.args.vertices c.args.front.now) (fan_opened c.args.vertices c.args.front.now) (λ k. onward ((row_passed c.args.front.now) k) (after_front c.args.vertices)) a a (fan_steps c.args.vertices c.args.front.now) (comes_self (fan_opened c.args.vertices c.args.front.now) a c.requires.free) in
    let d = reading c.take_whole.new.tokens in
    let left-1 = comes_on (fan_opened c.args.vertices c.args.front.now) (row_passed c.args.front.now) (after_front c.args.vertices) a a b c.in_ok-pass_row.field-0 left (runs_given (row_passed c.args.front.now) a b c.pass_row.result (Ok c.in_ok-pass_row.field-0) c.in_ok-pass_row.was c.pass_row.ensures.runs) in
    let e = reading c.take_corner.new.tokens in
    let left-2 = comes_on (fan_opened c.args.vertices c.args.front.now) (taken (whole_in BadCount 3 256)) (after_count c.args.vertices) a b d c.in_ok-count.count left-1 (runs_given (taken (whole_in BadCount 3 256)) b d c.take_whole.result (Ok c.in_ok-count.count) c.in_ok-count.was c.take_whole.ensures.runs) in
    let f = reading c.take_corner-2.new.tokens in
    let left-3 = comes_on (fan_opened c.args.vertices c.args.front.now) (corner c.args.vertices) (after_first c.args.vertices c.in_ok-count.count) a d e c.in_ok-first.first left-2 (runs_given (corner c.args.vertices) d e c.take_corner.result (Ok c.in_ok-first.first) c.in_ok-first.was c.take_corner.ensures.runs) in
    let fan = fan_of c.in_ok-count.count c.in_ok-first.first c.in_ok-last.last in
    let last = runs_given (corner c.args.vertices) e f c.take_corner-2.result (Ok c.in_ok-last.last) c.in_ok-last.was c.take_corner-2.ensures.runs in
    let left-4 = comes_on (fan_opened c.args.vertices c.args.front.now) (corner c.args.vertices) (λ last. done (fan_of c.in_ok-count.count c.in_ok-first.first last)) a e f c.in_ok-last.last left-3 last in
    comes_ends (fan_opened c.args.vertices c.args.front.now) (done fan) a f f (Ok fan) left-4 (runs_done fan f last.free)
