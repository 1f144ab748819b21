use Rattle.std.proofs.Common.{◌≡◌, Ok, sym, subst, true, false, rules}
use Rattle.ply_text.specs.Reading.{reading}
use Rattle.ply_reader.specs.Cursors.{onward, done, taken}
use Rattle.ply_reader.specs.TokenValues.{coordinate}
use Rattle.ply_reader.specs.Declarations.{is_coordinate}
use Rattle.ply_reader.specs.Rows.{property_passed, with_part, coordinate_taken}
use Rattle.ply_reader.specs.Runs.{Runs}
use Rattle.ply_reader.proofs.BodySteps.{is_taken, is_passed}
use Rattle.ply_reader.proofs.Steps.{comes_self, comes_as, runs_given, runs_as, runs_maps, stops_whole}
use Rattle.ply_reader.proofs.vertices.take_property.Goals as goal

pub returns-in_err-pass_property-clause-runs : goal.returns-in_err-pass_property-clause-runs
returns-in_err-pass_property-clause-runs g c =
    let a = reading c.args.tokens.now in
    let b = reading c.pass_property.new.tokens in
    let other : is_coordinate c.args.property.now.part ≡ false = search rules in
    stops_whole (coordinate_taken c.args.scale.now c.args.property.now c.args.point.now) (property_passed c.args.property.now) (λ _. done c.args.point.now) a a b c.pass_property.result c.in_err-pass_property.field-0.0 c.from_residual.result
    (comes_as (coordinate_taken c.args.scale.now c.args.property.now c.args.point.now) (coordinate_taken c.args.scale.now c.args.property.now c.args.point.now) (λ k. onward ((property_passed c.args.property.now) k) (λ _. done c.args.point.now)) a a (is_passed c.args.scale.now c.args.property.now c.args.point.now other) (comes_self (coordinate_taken c.args.scale.now c.args.property.now c.args.point.now) a c.requires.free))
    c.in_err-pass_property.was c.pass_property.ensures.runs c.from_residual.ensures

pub returns-then-not-is_coordinate-clause-runs : goal.returns-then-not-is_coordinate-clause-runs
returns-then-not-is_coordinate-clause-runs g c =
    let a = reading c.args.tokens.now in
    let b = reading c.pass_property.new.tokens in
    let other : is_coordinate c.args.property.now.part ≡ false = search rules in
    runs_as (λ k. onward ((property_passed c.args.property.now) k) (λ _. done c.args.point.now)) (coordinate_taken c.args.scale.now c.args.property.now c.args.point.now) a b (Ok c.args.point.now) (is_passed c.args.scale.now c.args.property.now c.args.point.now other)
    (runs_maps (property_passed c.args.property.now) (λ _. c.args.point.now) a b c.in_ok-pass_property.field-0
    (runs_given (property_passed c.args.property.now) a b c.pass_property.result (Ok c.in_ok-pass_property.field-0) c.in_ok-pass_property.was c.pass_property.ensures.runs))

pub returns-in_err-value-clause-runs : goal.returns-in_err-value-clause-runs
returns-in_err-value-clause-runs g c =
    let a = reading c.args.tokens.now in
    let b = reading c.take_coordinate.new.tokens in
    let is : is_coordinate c.args.property.now.part ≡ true = search rules in
    stops_whole (coordinate_taken c.args.scale.now c.args.property.now c.args.point.now) (taken (coordinate c.args.scale.now)) (λ n. done (with_part c.args.property.now.part c.args.point.now n)) a a b c.take_coordinate.result c.in_err-value.field-0.0 c.from_residual-in_err-value.result
    (comes_as (coordinate_taken c.args.scale.now c.args.property.now c.args.point.now) (coordinate_taken c.args.scale.now c.args.property.now c.args.point.now) (λ k. onward ((taken (coordinate c.args.scale.now)) k) (λ n. done (with_part c.args.property.now.part c.args.point.now n))) a a (is_taken c.args.scale.now c.args.property.now c.args.point.now is) (comes_self (coordinate_taken c.args.scale.now c.args.property.now c.args.point.now) a c.requires.free))
    c.in_err-value.was c.take_coordinate.ensures.runs c.from_residual-in_err-value.ensures

pub returns-clause-runs : goal.returns-clause-runs
returns-clause-runs g c =
    let a = reading c.args.tokens.now in
    let b = reading c.take_coordinate.new.tokens in
    let is : is_coordinate c.args.property.now.part ≡ true = search rules in
    let point : c.with_part.result ≡ with_part c.args.property.now.part c.args.point.now c.in_ok-value.value = search rules in
    subst (λ p. Runs (coordinate_taken c.args.scale.now c.args.property.now c.args.point.now) a b (Ok p)) (sym point)
    (runs_as (λ k. onward ((taken (coordinate c.args.scale.now)) k) (λ n. done (with_part c.args.property.now.part c.args.point.now n))) (coordinate_taken c.args.scale.now c.args.property.now c.args.point.now) a b (Ok (with_part c.args.property.now.part c.args.point.now c.in_ok-value.value)) (is_taken c.args.scale.now c.args.property.now c.args.point.now is)
    (runs_maps (taken (coordinate c.args.scale.now)) (with_part c.args.property.now.part c.args.point.now) a b c.in_ok-value.value
    (runs_given (taken (coordinate c.args.scale.now)) a b c.take_coordinate.result (Ok c.in_ok-value.value) c.in_ok-value.was c.take_coordinate.ensures.runs)))
