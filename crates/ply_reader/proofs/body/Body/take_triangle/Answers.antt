use Rattle.std.proofs.Common.{◌≡◌, ◌-◌, Ok, Some, suc, ap, sym, refl, subst, arith, ◌∷◌, []}
use Rattle.ply_text.specs.Reading.{reading}
use Rattle.ply_reader.specs.Declarations.{declared}
use Rattle.ply_reader.specs.Layout.{vertex_count, face_count}
use Rattle.ply_reader.specs.Rows.{corner}
use Rattle.ply_reader.specs.PlyMeaning.{give_triangle}
use Rattle.ply_reader.specs.Runs.{Runs}
use Rattle.ply_reader.specs.MeshCalls.{BodyReading, body_reading, begun_rest, give_face}
use Rattle.ply_reader.proofs.Steps.{runs_given}
use Rattle.ply_reader.proofs.MeshRuns.{run_step, run_fails, begun_left, corner_left}
use Rattle.ply_reader.proofs.body.Body.take_triangle.Goals as goal

pub returns-in_err-corner-clause-run : goal.returns-in_err-corner-clause-run
returns-in_err-corner-clause-run g c =
    let d = declared c.args.self.now.header in
    let a = body_reading (reading c.args.tokens.now) c.args.self.now in
    let b = reading c.take_corner.new.tokens in
    let m = c.args.fan.now.left - 1 in
    let more : c.args.fan.now.left ≡ suc m = omega (arith, c.requires.left) in
    let total : c.args.self.now.layout.vertex.count ≡ vertex_count d = ap (λ l. l.vertex.count) c.args.self.now.laid in
    let step = corner (vertex_count d) in
    let runs : Runs step a.text b c.take_corner.result = subst (λ n. Runs (corner n) a.text b c.take_corner.result) total c.take_corner.ensures.runs in
    run_fails give_face step (λ next k. give_triangle (record { face = face_count d - suc a.faces; corners = c.args.fan.now.first ∷ c.args.fan.now.last ∷ next ∷ [] }) (begun_rest d a.faces (Some (record { first = c.args.fan.now.first; last = next; left = m })) k)) a _ c.take_corner.result c.in_err-corner.field-0.0 c.from_residual.result (record { scale = refl; header = refl }) c.in_err-corner.was runs c.from_residual.ensures (corner_left a c.args.fan.now m c.requires.vertices c.requires.passed c.requires.fan more)

pub returns-clause-run : goal.returns-clause-run
returns-clause-run g c =
    let d = declared c.args.self.now.header in
    let a = body_reading (reading c.args.tokens.now) c.args.self.now in
    let b = reading c.take_corner.new.tokens in
    let m = c.args.fan.now.left - 1 in
    let more : c.args.fan.now.left ≡ suc m = omega (arith, c.requires.left) in
    let total : c.args.self.now.layout.vertex.count ≡ vertex_count d = ap (λ l. l.vertex.count) c.args.self.now.laid in
    let step = corner (vertex_count d) in
    let runs : Runs step a.text b c.take_corner.result = subst (λ n. Runs (corner n) a.text b c.take_corner.result) total c.take_corner.ensures.runs in
    let faces : c.args.self.now.layout.face.count ≡ face_count d = ap (λ l. l.face.count) c.args.self.now.laid in
    let number : c.args.self.now.layout.face.count - c.args.self.now.faces - 1 ≡ face_count d - suc a.faces = omega (arith, faces) in
    let new : BodyReading = record { text = b; scale = a.scale; header = d; vertices = a.vertices; waits = a.waits; faces = a.faces; fan = Some (record { first = c.args.fan.now.first; last = c.in_ok-corner.corner; left = m }) } in
    run_step give_face step (λ next k. give_triangle (record { face = face_count d - suc a.faces; corners = c.args.fan.now.first ∷ c.args.fan.now.last ∷ next ∷ [] }) (begun_rest d a.faces (Some (record { first = c.args.fan.now.first; last = next; left = m })) k)) a _ c.in_ok-corner.corner _ (record { scale = refl; header = refl })
    (runs_given step a.text b c.take_corner.result (Ok c.in_ok-corner.corner) c.in_ok-corner.was runs) (corner_left a c.args.fan.now m c.requires.vertices c.requires.passed c.requires.fan more)
    (λ rest. (λ i. give_triangle (record { face = sym number i; corners = c.args.fan.now.first ∷ c.args.fan.now.last ∷ c.in_ok-corner.corner ∷ [] }) (sym (begun_left new c.requires.vertices c.requires.passed rest) i)))
