use Rattle.std.proofs.Common.{◌≡◌, ◌+◌, ◌∷◌, [], Ok, rules, drop, get_or, subst}
use Rattle.ply_text.specs.Reading.{reading}
use Rattle.ply_reader.specs.Cursors.{onward, done}
use Rattle.ply_reader.specs.Declarations.{declared, properties_of}
use Rattle.ply_reader.specs.Rows.{rows_passed, elements_passed}
use Rattle.ply_reader.specs.Runs.{Runs}
use Rattle.ply_reader.proofs.RowSteps.{some_element, no_element, one_element}
use Rattle.ply_reader.proofs.Steps.{comes_as, comes_on, comes_ends, runs_done, runs_given, stops_whole}
use Rattle.std.proofs.lemmas.List.{drop_more, drop_all}
use Rattle.ply_reader.proofs.rows.pass_elements.Goals as goal

pub returns-in_err-pass_rows-clause-runs : goal.returns-in_err-pass_rows-clause-runs
returns-in_err-pass_rows-clause-runs g c =
    let a = reading c.args.tokens.now in
    let b = reading c.loop-element.tokens in
    let d = reading c.pass_rows.new.tokens in
    let behind = drop (c.loop-element.element-index + 1) c.args.elements.now in
    let more : drop c.loop-element.element-index c.args.elements.now ≡ (get_or c.args.elements.now c.loop-element.element-index some_element) ∷ behind = drop_more c.args.elements.now c.loop-element.element-index some_element c.loop-element-test.true in
    stops_whole (elements_passed (declared c.args.header.now) c.args.elements.now) (rows_passed (properties_of (declared c.args.header.now) (get_or c.args.elements.now c.loop-element.element-index some_element)) (get_or c.args.elements.now c.loop-element.element-index some_element).count) (λ _. elements_passed (declared c.args.header.now) behind) a b d c.pass_rows.result c.in_err-pass_rows.field-0.0 c.from_residual.result
    (comes_as (elements_passed (declared c.args.header.now) c.args.elements.now) (elements_passed (declared c.args.header.now) (drop c.loop-element.element-index c.args.elements.now)) (λ k. onward (rows_passed (properties_of (declared c.args.header.now) (get_or c.args.elements.now c.loop-element.element-index some_element)) (get_or c.args.elements.now c.loop-element.element-index some_element).count k) (λ _. elements_passed (declared c.args.header.now) behind)) a b (one_element (declared c.args.header.now) (drop c.loop-element.element-index c.args.elements.now) behind (get_or c.args.elements.now c.loop-element.element-index some_element) more) c.loop-element.invariant.comes)
    c.in_err-pass_rows.was (subst (λ ps. Runs (rows_passed ps (get_or c.args.elements.now c.loop-element.element-index some_element).count) b d c.pass_rows.result) c.properties_of.ensures c.pass_rows.ensures.runs) c.from_residual.ensures

pub loop-element-preserved : goal.loop-element-preserved
loop-element-preserved g c =
    let a = reading c.args.tokens.now in
    let b = reading c.loop-element.tokens in
    let d = reading c.pass_rows.new.tokens in
    let behind = drop (c.loop-element.element-index + 1) c.args.elements.now in
    let more : drop c.loop-element.element-index c.args.elements.now ≡ (get_or c.args.elements.now c.loop-element.element-index some_element) ∷ behind = drop_more c.args.elements.now c.loop-element.element-index some_element c.loop-element-test.true in
    record {
      same = search rules;
      comes = comes_on (elements_passed (declared c.args.header.now) c.args.elements.now) (rows_passed (properties_of (declared c.args.header.now) (get_or c.args.elements.now c.loop-element.element-index some_element)) (get_or c.args.elements.now c.loop-element.element-index some_element).count) (λ _. elements_passed (declared c.args.header.now) behind) a b d c.in_ok-pass_rows.field-0
          (comes_as (elements_passed (declared c.args.header.now) c.args.elements.now) (elements_passed (declared c.args.header.now) (drop c.loop-element.element-index c.args.elements.now)) (λ k. onward (rows_passed (properties_of (declared c.args.header.now) (get_or c.args.elements.now c.loop-element.element-index some_element)) (get_or c.args.elements.now c.loop-element.element-index some_element).count k) (λ _. elements_passed (declared c.args.header.now) behind)) a b (one_element (declared c.args.header.now) (drop c.loop-element.element-index c.args.elements.now) behind (get_or c.args.elements.now c.loop-element.element-index some_element) more) c.loop-element.invariant.comes)
          (runs_given (rows_passed (properties_of (declared c.args.header.now) (get_or c.args.elements.now c.loop-element.element-index some_element)) (get_or c.args.elements.now c.loop-element.element-index some_element).count) b d c.pass_rows.result (Ok c.in_ok-pass_rows.field-0) c.in_ok-pass_rows.was (subst (λ ps. Runs (rows_passed ps (get_or c.args.elements.now c.loop-element.element-index some_element).count) b d c.pass_rows.result) c.properties_of.ensures c.pass_rows.ensures.runs));
    }

pub returns-clause-runs : goal.returns-clause-runs
returns-clause-runs g c =
    let a = reading c.args.tokens.now in
    let b = reading c.loop-element.tokens in
    let none : drop c.loop-element.element-index c.args.elements.now ≡ [] = drop_all c.loop-element.element-index c.args.elements.now c.loop-element-test.false in
    comes_ends (elements_passed (declared c.args.header.now) c.args.elements.now) (done tt) a b b (Ok tt)
    (comes_as (elements_passed (declared c.args.header.now) c.args.elements.now) (elements_passed (declared c.args.header.now) (drop c.loop-element.element-index c.args.elements.now)) (done tt) a b (no_element (declared c.args.header.now) (drop c.loop-element.element-index c.args.elements.now) none) c.loop-element.invariant.comes)
    (runs_done tt b c.loop-element.invariant.comes.free)
