use Rattle.std.proofs.Common.{◌≡◌, ◌∙◌, ◌-◌, Ok, Some, suc, ap, refl, subst, arith}
use Rattle.ply_text.specs.Reading.{reading}
use Rattle.ply_reader.specs.Declarations.{declared, properties_of}
use Rattle.ply_reader.specs.Layout.{vertex_properties}
use Rattle.ply_reader.specs.Rows.{vertex_row, origin}
use Rattle.ply_reader.specs.PlyMeaning.{give_point, vertices_rest}
use Rattle.ply_reader.specs.Runs.{Runs}
use Rattle.ply_reader.specs.MeshCalls.{body_reading, waiting_rest, give_vertex}
use Rattle.ply_reader.proofs.Steps.{runs_given}
use Rattle.ply_reader.proofs.MeshRuns.{run_step, run_fails, vertex_left, rest_is}
use Rattle.ply_reader.proofs.body.Body.next_vertex.Goals as goal

pub returns-in_err-point-clause-run : goal.returns-in_err-point-clause-run
returns-in_err-point-clause-run g c =
    let d = declared c.args.self.now.header in
    let a = body_reading (reading c.args.tokens.now) c.args.self.now in
    let b = reading c.take_vertex.new.tokens in
    let m = c.args.self.now.vertices - 1 in
    let more : c.args.self.now.vertices ≡ suc m = omega (arith, c.if-self-eq0.false) in
    let row = vertex_row c.args.self.now.scale (vertex_properties d) origin in
    let properties : c.properties_of-properties.result.now ≡ vertex_properties d = c.properties_of-properties.ensures ∙ ap (λ l. properties_of d l.vertex) c.args.self.now.laid in
    let runs : Runs row a.text b c.take_vertex.result = subst (λ ps. Runs (vertex_row c.args.self.now.scale ps origin) a.text b c.take_vertex.result) properties c.take_vertex.ensures.runs in
    run_fails give_vertex row (λ point k. give_point point (vertices_rest a.scale a.header m (waiting_rest a.header a.waits a.faces a.fan) k)) a _ c.take_vertex.result c.in_err-point.field-0.0 c.from_residual.result (record { scale = refl; header = refl }) c.in_err-point.was runs c.from_residual.ensures (vertex_left a m more)

pub returns-clause-run : goal.returns-clause-run
returns-clause-run g c =
    let d = declared c.args.self.now.header in
    let a = body_reading (reading c.args.tokens.now) c.args.self.now in
    let b = reading c.take_vertex.new.tokens in
    let m = c.args.self.now.vertices - 1 in
    let more : c.args.self.now.vertices ≡ suc m = omega (arith, c.if-self-eq0.false) in
    let row = vertex_row c.args.self.now.scale (vertex_properties d) origin in
    let properties : c.properties_of-properties.result.now ≡ vertex_properties d = c.properties_of-properties.ensures ∙ ap (λ l. properties_of d l.vertex) c.args.self.now.laid in
    let runs : Runs row a.text b c.take_vertex.result = subst (λ ps. Runs (vertex_row c.args.self.now.scale ps origin) a.text b c.take_vertex.result) properties c.take_vertex.ensures.runs in
    run_step give_vertex row (λ point k. give_point point (vertices_rest a.scale a.header m (waiting_rest a.header a.waits a.faces a.fan) k)) a _ c.in_ok-point.point (Some c.in_ok-point.point) (record { scale = refl; header = refl })
    (runs_given row a.text b c.take_vertex.result (Ok c.in_ok-point.point) c.in_ok-point.was runs) (vertex_left a m more) (λ rest. ap (give_point c.in_ok-point.point) (rest_is _ rest))
