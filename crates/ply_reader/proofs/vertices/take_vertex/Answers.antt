use Rattle.std.proofs.Common.{◌≡◌, ◌+◌, ◌∷◌, [], Ok, rules, drop, get_or}
use Rattle.std.proofs.lemmas.List.{drop_more, drop_all}
use Rattle.ply_reader.proofs.RowSteps.{some_property}
use Rattle.ply_text.specs.Reading.{reading}
use Rattle.ply_reader.specs.Cursors.{onward, done}
use Rattle.ply_reader.specs.Rows.{coordinate_taken, vertex_row, origin}
use Rattle.ply_reader.proofs.BodySteps.{no_part, one_part}
use Rattle.ply_reader.proofs.Steps.{comes_as, comes_on, comes_ends, runs_done, runs_given, stops_whole}
use Rattle.ply_reader.proofs.vertices.take_vertex.Goals as goal

pub returns-in_err-point-clause-runs : goal.returns-in_err-point-clause-runs
returns-in_err-point-clause-runs g c =
    let a = reading c.args.tokens.now in
    let b = reading c.loop-property.tokens in
    let d = reading c.take_property.new.tokens in
    let behind = drop (c.loop-property.property-index + 1) c.args.properties.now in
    let more : drop c.loop-property.property-index c.args.properties.now ≡ (get_or c.args.properties.now c.loop-property.property-index some_property) ∷ behind = drop_more c.args.properties.now c.loop-property.property-index some_property c.loop-property-test.true in
    let left = comes_as (vertex_row c.args.scale.now c.args.properties.now origin) (vertex_row c.args.scale.now (drop c.loop-property.property-index c.args.properties.now) c.loop-property.point) (λ k. onward ((coordinate_taken c.args.scale.now (get_or c.args.properties.now c.loop-property.property-index some_property) c.loop-property.point) k) (vertex_row c.args.scale.now behind)) a b (one_part c.args.scale.now (drop c.loop-property.property-index c.args.properties.now) behind (get_or c.args.properties.now c.loop-property.property-index some_property) c.loop-property.point more) c.loop-property.invariant.comes in
    stops_whole (vertex_row c.args.scale.now c.args.properties.now origin) (coordinate_taken c.args.scale.now (get_or c.args.properties.now c.loop-property.property-index some_property) c.loop-property.point) (vertex_row c.args.scale.now behind) a b d c.take_property.result c.in_err-point.field-0.0 c.from_residual.result left
    c.in_err-point.was c.take_property.ensures.runs c.from_residual.ensures

pub loop-property-preserved : goal.loop-property-preserved
loop-property-preserved g c =
    let a = reading c.args.tokens.now in
    let b = reading c.loop-property.tokens in
    let d = reading c.take_property.new.tokens in
    let behind = drop (c.loop-property.property-index + 1) c.args.properties.now in
    let more : drop c.loop-property.property-index c.args.properties.now ≡ (get_or c.args.properties.now c.loop-property.property-index some_property) ∷ behind = drop_more c.args.properties.now c.loop-property.property-index some_property c.loop-property-test.true in
    let left = comes_as (vertex_row c.args.scale.now c.args.properties.now origin) (vertex_row c.args.scale.now (drop c.loop-property.property-index c.args.properties.now) c.loop-property.point) (λ k. onward ((coordinate_taken c.args.scale.now (get_or c.args.properties.now c.loop-property.property-index some_property) c.loop-property.point) k) (vertex_row c.args.scale.now behind)) a b (one_part c.args.scale.now (drop c.loop-property.property-index c.args.properties.now) behind (get_or c.args.properties.now c.loop-property.property-index some_property) c.loop-property.point more) c.loop-property.invariant.comes in
    record {
      same = search rules;
      near = search rules;
      comes = comes_on (vertex_row c.args.scale.now c.args.properties.now origin) (coordinate_taken c.args.scale.now (get_or c.args.properties.now c.loop-property.property-index some_property) c.loop-property.point) (vertex_row c.args.scale.now behind) a b d c.in_ok-point.point left
          (runs_given (coordinate_taken c.args.scale.now (get_or c.args.properties.now c.loop-property.property-index some_property) c.loop-property.point) b d c.take_property.result (Ok c.in_ok-point.point) c.in_ok-point.was c.take_property.ensures.runs);
    }

pub returns-clause-runs : goal.returns-clause-runs
returns-clause-runs g c =
    let a = reading c.args.tokens.now in
    let b = reading c.loop-property.tokens in
    let none : drop c.loop-property.property-index c.args.properties.now ≡ [] = drop_all c.loop-property.property-index c.args.properties.now c.loop-property-test.false in
    comes_ends (vertex_row c.args.scale.now c.args.properties.now origin) (done c.loop-property.point) a b b (Ok c.loop-property.point)
    (comes_as (vertex_row c.args.scale.now c.args.properties.now origin) (vertex_row c.args.scale.now (drop c.loop-property.property-index c.args.properties.now) c.loop-property.point) (done c.loop-property.point) a b (no_part c.args.scale.now (drop c.loop-property.property-index c.args.properties.now) c.loop-property.point none) c.loop-property.invariant.comes)
    (runs_done c.loop-property.point b c.loop-property.invariant.comes.free)
