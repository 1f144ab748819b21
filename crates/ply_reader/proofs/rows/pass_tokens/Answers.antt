use Rattle.std.proofs.Common.{◌-◌, Ok, arith, ◌≡◌, suc, rules}
use Rattle.ply_text.specs.Reading.{reading}
use Rattle.ply_reader.specs.Cursors.{onward, done, taken}
use Rattle.ply_reader.specs.TokenValues.{unread}
use Rattle.ply_reader.specs.Rows.{passed}
use Rattle.ply_reader.proofs.RowSteps.{no_tokens, one_token}
use Rattle.ply_reader.proofs.Steps.{comes_as, comes_on, comes_ends, runs_done, runs_given, stops_whole}
use Rattle.ply_reader.proofs.rows.pass_tokens.Goals as goal

pub returns-in_err-pass_token-clause-runs : goal.returns-in_err-pass_token-clause-runs
returns-in_err-pass_token-clause-runs g c =
    let a = reading c.args.tokens.now in
    let b = reading c.loop-left.tokens in
    let d = reading c.pass_token.new.tokens in
    let m = c.loop-left.left - 1 in
    let left : c.loop-left.left ≡ suc m = omega (arith, c.loop-left-test.true) in
    stops_whole (passed c.args.count) (taken unread) (λ _. passed m) a b d c.pass_token.result c.in_err-pass_token.field-0.0 c.from_residual.result
    (comes_as (passed c.args.count) (passed c.loop-left.left) (λ k. onward (taken unread k) (λ _. passed m)) a b (one_token c.loop-left.left m left) c.loop-left.invariant.comes)
    c.in_err-pass_token.was c.pass_token.ensures.runs c.from_residual.ensures

pub loop-left-preserved : goal.loop-left-preserved
loop-left-preserved g c =
    let a = reading c.args.tokens.now in
    let b = reading c.loop-left.tokens in
    let d = reading c.pass_token.new.tokens in
    let m = c.loop-left.left - 1 in
    let left : c.loop-left.left ≡ suc m = omega (arith, c.loop-left-test.true) in
    record {
      same = search rules;
      comes = comes_on (passed c.args.count) (taken unread) (λ _. passed m) a b d c.in_ok-pass_token.field-0
          (comes_as (passed c.args.count) (passed c.loop-left.left) (λ k. onward (taken unread k) (λ _. passed m)) a b (one_token c.loop-left.left m left) c.loop-left.invariant.comes)
          (runs_given (taken unread) b d c.pass_token.result (Ok c.in_ok-pass_token.field-0) c.in_ok-pass_token.was c.pass_token.ensures.runs);
    }

pub returns-clause-runs : goal.returns-clause-runs
returns-clause-runs g c =
    let a = reading c.args.tokens.now in
    let b = reading c.loop-left.tokens in
    let none : c.loop-left.left ≡ 0 = omega (arith, c.loop-left-test.false) in
    comes_ends (passed c.args.count) (done tt) a b b (Ok tt)
    (comes_as (passed c.args.count) (passed c.loop-left.left) (done tt) a b (no_tokens c.loop-left.left none) c.loop-left.invariant.comes)
    (runs_done tt b c.loop-left.invariant.comes.free)
