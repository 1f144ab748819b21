use Rattle.std.proofs.Common.{◌≡◌, ◌+◌, ◌∷◌, [], Ok, rules, drop, get_or}
use Rattle.ply_text.specs.Reading.{reading}
use Rattle.ply_reader.specs.Cursors.{onward, done}
use Rattle.ply_reader.specs.Rows.{property_passed, row_passed}
use Rattle.ply_reader.proofs.RowSteps.{some_property, no_property, one_property}
use Rattle.ply_reader.proofs.Steps.{comes_as, comes_on, comes_ends, runs_done, runs_given, stops_whole}
use Rattle.std.proofs.lemmas.List.{drop_more, drop_all}
use Rattle.ply_reader.proofs.rows.pass_row.Goals as goal

pub returns-in_err-pass_property-clause-runs : goal.returns-in_err-pass_property-clause-runs
returns-in_err-pass_property-clause-runs g c =
    let a = reading c.args.tokens.now in
    let b = reading c.loop-property.tokens in
    let d = reading c.pass_property.new.tokens in
    let behind = drop (c.loop-property.property-index + 1) c.args.properties.now in
    let more : drop c.loop-property.property-index c.args.properties.now ≡ (get_or c.args.properties.now c.loop-property.property-index some_property) ∷ behind = drop_more c.args.properties.now c.loop-property.property-index some_property c.loop-property-test.true in
    stops_whole (row_passed c.args.properties.now) (property_passed (get_or c.args.properties.now c.loop-property.property-index some_property)) (λ _. row_passed behind) a b d c.pass_property.result c.in_err-pass_property.field-0.0 c.from_residual.result
    (comes_as (row_passed c.args.properties.now) (row_passed (drop c.loop-property.property-index c.args.properties.now)) (λ k. onward (property_passed (get_or c.args.properties.now c.loop-property.property-index some_property) k) (λ _. row_passed behind)) a b (one_property (drop c.loop-property.property-index c.args.properties.now) behind (get_or c.args.properties.now c.loop-property.property-index some_property) more) c.loop-property.invariant.comes)
    c.in_err-pass_property.was c.pass_property.ensures.runs c.from_residual.ensures

pub loop-property-preserved : goal.loop-property-preserved
loop-property-preserved g c =
    let a = reading c.args.tokens.now in
    let b = reading c.loop-property.tokens in
    let d = reading c.pass_property.new.tokens in
    let behind = drop (c.loop-property.property-index + 1) c.args.properties.now in
    let more : drop c.loop-property.property-index c.args.properties.now ≡ (get_or c.args.properties.now c.loop-property.property-index some_property) ∷ behind = drop_more c.args.properties.now c.loop-property.property-index some_property c.loop-property-test.true in
    record {
      same = search rules;
      comes = comes_on (row_passed c.args.properties.now) (property_passed (get_or c.args.properties.now c.loop-property.property-index some_property)) (λ _. row_passed behind) a b d c.in_ok-pass_property.field-0
          (comes_as (row_passed c.args.properties.now) (row_passed (drop c.loop-property.property-index c.args.properties.now)) (λ k. onward (property_passed (get_or c.args.properties.now c.loop-property.property-index some_property) k) (λ _. row_passed behind)) a b (one_property (drop c.loop-property.property-index c.args.properties.now) behind (get_or c.args.properties.now c.loop-property.property-index some_property) more) c.loop-property.invariant.comes)
          (runs_given (property_passed (get_or c.args.properties.now c.loop-property.property-index some_property)) b d c.pass_property.result (Ok c.in_ok-pass_property.field-0) c.in_ok-pass_property.was c.pass_property.ensures.runs);
    }

pub returns-clause-runs : goal.returns-clause-runs
returns-clause-runs g c =
    let a = reading c.args.tokens.now in
    let b = reading c.loop-property.tokens in
    let none : drop c.loop-property.property-index c.args.properties.now ≡ [] = drop_all c.loop-property.property-index c.args.properties.now c.loop-property-test.false in
    comes_ends (row_passed c.args.properties.now) (done tt) a b b (Ok tt)
    (comes_as (row_passed c.args.properties.now) (row_passed (drop c.loop-property.property-index c.args.properties.now)) (done tt) a b (no_property (drop c.loop-property.property-index c.args.properties.now) none) c.loop-property.invariant.comes)
    (runs_done tt b c.loop-property.invariant.comes.free)
