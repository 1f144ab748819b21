use Rattle.std.proofs.Common.{◌≡◌, ◌∙◌, ◌-◌, Ok, None, Some, suc, ap, sym, refl, subst, rules, arith, take}
use Rattle.ply_text.specs.Reading.{reading}
use Rattle.ply_reader.specs.Declarations.{declared, properties_of}
use Rattle.ply_reader.specs.Layout.{face_properties, before_list, vertex_count, list_place}
use Rattle.ply_reader.specs.Rows.{fan_opened}
use Rattle.ply_reader.specs.Runs.{Runs}
use Rattle.ply_reader.specs.MeshCalls.{body_reading, begun_rest, give_nothing}
use Rattle.ply_reader.proofs.Steps.{runs_given}
use Rattle.ply_reader.proofs.MeshRuns.{run_step, run_fails, begun_left, face_left}
use Rattle.ply_reader.proofs.body.Body.begin_face.Goals as goal

pub returns-in_err-fan-clause-run : goal.returns-in_err-fan-clause-run
returns-in_err-fan-clause-run g c =
    let d = declared c.args.self.now.header in
    let a = body_reading (reading c.args.tokens.now) c.args.self.now in
    let b = reading c.open_fan.new.tokens in
    let none : c.args.self.now.fan ≡ None = search rules in
    let m = c.args.self.now.faces - 1 in
    let more : c.args.self.now.faces ≡ suc m = omega (arith, c.if-self-eq0.false) in
    let total : c.args.self.now.layout.vertex.count ≡ vertex_count d = ap (λ l. l.vertex.count) c.args.self.now.laid in
    let properties : c.properties_of-properties.result.now ≡ face_properties d = c.properties_of-properties.ensures ∙ ap (λ l. properties_of d l.face) c.args.self.now.laid in
    let at-list : c.args.self.now.layout.list_at ≡ list_place (face_properties d) = ap (λ l. l.list_at) c.args.self.now.laid in
    let front : c.first_ones-front.result.now ≡ before_list d = c.first_ones-front.ensures ∙ (λ i. take (at-list i) (properties i)) in
    let step = fan_opened (vertex_count d) (before_list d) in
    let same : fan_opened c.args.self.now.layout.vertex.count c.first_ones-front.result.now ≡ step = λ i. fan_opened (total i) (front i) in
    let runs : Runs step a.text b c.open_fan.result = subst (λ s. Runs s a.text b c.open_fan.result) same c.open_fan.ensures.runs in
    run_fails give_nothing step (λ fan. begun_rest d m (Some fan)) a _ c.open_fan.result c.in_err-fan.field-0.0 c.from_residual.result (record { scale = refl; header = refl }) c.in_err-fan.was runs c.from_residual.ensures (face_left a m c.requires.vertices c.requires.passed none more)

pub returns-clause-run : goal.returns-clause-run
returns-clause-run g c =
    let d = declared c.args.self.now.header in
    let a = body_reading (reading c.args.tokens.now) c.args.self.now in
    let b = reading c.open_fan.new.tokens in
    let none : c.args.self.now.fan ≡ None = search rules in
    let m = c.args.self.now.faces - 1 in
    let more : c.args.self.now.faces ≡ suc m = omega (arith, c.if-self-eq0.false) in
    let total : c.args.self.now.layout.vertex.count ≡ vertex_count d = ap (λ l. l.vertex.count) c.args.self.now.laid in
    let properties : c.properties_of-properties.result.now ≡ face_properties d = c.properties_of-properties.ensures ∙ ap (λ l. properties_of d l.face) c.args.self.now.laid in
    let at-list : c.args.self.now.layout.list_at ≡ list_place (face_properties d) = ap (λ l. l.list_at) c.args.self.now.laid in
    let front : c.first_ones-front.result.now ≡ before_list d = c.first_ones-front.ensures ∙ (λ i. take (at-list i) (properties i)) in
    let step = fan_opened (vertex_count d) (before_list d) in
    let same : fan_opened c.args.self.now.layout.vertex.count c.first_ones-front.result.now ≡ step = λ i. fan_opened (total i) (front i) in
    let runs : Runs step a.text b c.open_fan.result = subst (λ s. Runs s a.text b c.open_fan.result) same c.open_fan.ensures.runs in
    run_step give_nothing step (λ fan. begun_rest d m (Some fan)) a _ c.in_ok-fan.fan (Some c.in_ok-fan.fan) (record { scale = refl; header = refl })
    (runs_given step a.text b c.open_fan.result (Ok c.in_ok-fan.fan) c.in_ok-fan.was runs) (face_left a m c.requires.vertices c.requires.passed none more)
    (λ rest. sym (begun_left _ c.requires.vertices c.requires.passed rest))
