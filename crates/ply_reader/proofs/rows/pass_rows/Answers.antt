use Rattle.std.proofs.Common.{◌≡◌, ◌-◌, suc, [], Ok, arith, rules, subst, sym}
use Rattle.std.proofs.lemmas.List.{nil_from_length}
use Rattle.ply_text.specs.Reading.{reading}
use Rattle.ply_reader.specs.Cursors.{Cursor, onward, done}
use Rattle.ply_reader.specs.Rows.{row_passed, rows_passed}
use Rattle.ply_reader.proofs.RowSteps.{no_rows, one_row, rows_free}
use Rattle.ply_reader.proofs.Steps.{comes_as, comes_on, comes_ends, runs_done, runs_given, runs_as, stops_whole}
use Rattle.ply_reader.proofs.rows.pass_rows.Goals as goal

pub returns-then-is_empty-clause-runs : goal.returns-then-is_empty-clause-runs
returns-then-is_empty-clause-runs g c =
    let a = reading c.args.tokens.now in
    let empty : c.args.properties.now ≡ [] = nil_from_length c.args.properties.now (search rules) in
    runs_as (done tt) (rows_passed c.args.properties.now c.args.count) a a (Ok tt)
    (subst (λ ps. (k : Cursor) → rows_passed ps c.args.count k ≡ done tt k) (sym empty) (rows_free c.args.count)) (runs_done tt a c.requires.free)

pub returns-in_err-pass_row-clause-runs : goal.returns-in_err-pass_row-clause-runs
returns-in_err-pass_row-clause-runs g c =
    let a = reading c.args.tokens.now in
    let b = reading c.loop-left.tokens in
    let d = reading c.pass_row.new.tokens in
    let m = c.loop-left.left - 1 in
    let left : c.loop-left.left ≡ suc m = omega (arith, c.loop-left-test.true) in
    stops_whole (rows_passed c.args.properties.now c.args.count) (row_passed c.args.properties.now) (λ _. rows_passed c.args.properties.now m) a b d c.pass_row.result c.in_err-pass_row.field-0.0 c.from_residual.result
    (comes_as (rows_passed c.args.properties.now c.args.count) (rows_passed c.args.properties.now c.loop-left.left) (λ k. onward (row_passed c.args.properties.now k) (λ _. rows_passed c.args.properties.now m)) a b (one_row c.args.properties.now c.loop-left.left m left) c.loop-left.invariant.comes)
    c.in_err-pass_row.was c.pass_row.ensures.runs c.from_residual.ensures

pub loop-left-preserved : goal.loop-left-preserved
loop-left-preserved g c =
    let a = reading c.args.tokens.now in
    let b = reading c.loop-left.tokens in
    let d = reading c.pass_row.new.tokens in
    let m = c.loop-left.left - 1 in
    let left : c.loop-left.left ≡ suc m = omega (arith, c.loop-left-test.true) in
    record {
      same = search rules;
      comes = comes_on (rows_passed c.args.properties.now c.args.count) (row_passed c.args.properties.now) (λ _. rows_passed c.args.properties.now m) a b d c.in_ok-pass_row.field-0
          (comes_as (rows_passed c.args.properties.now c.args.count) (rows_passed c.args.properties.now c.loop-left.left) (λ k. onward (row_passed c.args.properties.now k) (λ _. rows_passed c.args.properties.now m)) a b (one_row c.args.properties.now c.loop-left.left m left) c.loop-left.invariant.comes)
          (runs_given (row_passed c.args.properties.now) b d c.pass_row.result (Ok c.in_ok-pass_row.field-0) c.in_ok-pass_row.was c.pass_row.ensures.runs);
    }

pub returns-clause-runs : goal.returns-clause-runs
returns-clause-runs g c =
    let a = reading c.args.tokens.now in
    let b = reading c.loop-left.tokens in
    let none : c.loop-left.left ≡ 0 = omega (arith, c.loop-left-test.false) in
    comes_ends (rows_passed c.args.properties.now c.args.count) (done tt) a b b (Ok tt)
    (comes_as (rows_passed c.args.properties.now c.args.count) (rows_passed c.args.properties.now c.loop-left.left) (done tt) a b (no_rows c.args.properties.now c.loop-left.left none) c.loop-left.invariant.comes)
    (runs_done tt b c.loop-left.invariant.comes.free)
