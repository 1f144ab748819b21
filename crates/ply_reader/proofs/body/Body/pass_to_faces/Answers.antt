use Rattle.std.proofs.Common.{◌≡◌, ◌∙◌, ◌-◌, ◌+◌, Ok, ap, sym, refl, subst, rules, arith, take, drop, true}
use Rattle.ply_text.specs.Reading.{reading}
use Rattle.ply_reader.specs.Declarations.{declared}
use Rattle.ply_reader.specs.Layout.{before_faces, face_count, first_of}
use Rattle.ply_reader.specs.declared.elements.Role.TheVariants.{Vertex, Face}
use Rattle.ply_reader.specs.Cursors.{at}
use Rattle.ply_reader.specs.Rows.{elements_passed}
use Rattle.ply_reader.specs.PlyMeaning.{behind_rest, faces_rest}
use Rattle.ply_reader.specs.Runs.{Runs}
use Rattle.ply_reader.specs.MeshCalls.{body_reading, begun_rest, give_nothing}
use Rattle.ply_reader.proofs.Steps.{runs_given}
use Rattle.ply_reader.proofs.MeshRuns.{run_step, run_fails, waits_left, begun_left}
use Rattle.ply_reader.proofs.body.Body.pass_to_faces.Goals as goal

pub returns-in_err-pass_elements-clause-run : goal.returns-in_err-pass_elements-clause-run
returns-in_err-pass_elements-clause-run g c =
    let d = declared c.args.self.now.header in
    let a = body_reading (reading c.args.tokens.now) c.args.self.now in
    let b = reading c.pass_elements.new.tokens in
    let waits : c.args.self.now.waits ≡ true = search rules in
    let step = elements_passed d (before_faces d) in
    let v : c.args.self.now.layout.vertex_at ≡ first_of Vertex d = ap (λ l. l.vertex_at) c.args.self.now.laid in
    let f : c.args.self.now.layout.face_at ≡ first_of Face d = ap (λ l. l.face_at) c.args.self.now.laid in
    let count : c.saturating_sub.result ≡ first_of Face d - (first_of Vertex d + 1) = omega (arith, c.saturating_sub.ensures, c.saturating_sub-count.ensures, v, f) in
    let behind : c.all_behind-behind.result.now ≡ drop (first_of Vertex d + 1) d.elements = c.all_behind-behind.ensures ∙ (λ i. drop (v i + 1) (c.all_elements.ensures i)) in
    let between : c.first_ones.result.now ≡ before_faces d = c.first_ones.ensures ∙ (λ i. take (count i) (behind i)) in
    let runs : Runs step a.text b c.pass_elements.result = subst (λ es. Runs (elements_passed d es) a.text b c.pass_elements.result) between c.pass_elements.ensures.runs in
    run_fails give_nothing step (λ _. faces_rest a.header (face_count a.header) (behind_rest a.header)) a _ c.pass_elements.result c.in_err-pass_elements.field-0.0 c.from_residual.result (record { scale = refl; header = refl }) c.in_err-pass_elements.was runs c.from_residual.ensures (waits_left a c.requires.vertices waits)

pub returns-clause-run : goal.returns-clause-run
returns-clause-run g c =
    let d = declared c.args.self.now.header in
    let a = body_reading (reading c.args.tokens.now) c.args.self.now in
    let b = reading c.pass_elements.new.tokens in
    let waits : c.args.self.now.waits ≡ true = search rules in
    let step = elements_passed d (before_faces d) in
    let v : c.args.self.now.layout.vertex_at ≡ first_of Vertex d = ap (λ l. l.vertex_at) c.args.self.now.laid in
    let f : c.args.self.now.layout.face_at ≡ first_of Face d = ap (λ l. l.face_at) c.args.self.now.laid in
    let count : c.saturating_sub.result ≡ first_of Face d - (first_of Vertex d + 1) = omega (arith, c.saturating_sub.ensures, c.saturating_sub-count.ensures, v, f) in
    let behind : c.all_behind-behind.result.now ≡ drop (first_of Vertex d + 1) d.elements = c.all_behind-behind.ensures ∙ (λ i. drop (v i + 1) (c.all_elements.ensures i)) in
    let between : c.first_ones.result.now ≡ before_faces d = c.first_ones.ensures ∙ (λ i. take (count i) (behind i)) in
    let runs : Runs step a.text b c.pass_elements.result = subst (λ es. Runs (elements_passed d es) a.text b c.pass_elements.result) between c.pass_elements.ensures.runs in
    let whole = c.args.self.now.whole waits in
    let total : c.args.self.now.faces ≡ face_count d = whole.0 ∙ ap (λ l. l.face.count) c.args.self.now.laid in
    run_step give_nothing step (λ _. faces_rest a.header (face_count a.header) (behind_rest a.header)) a _ c.in_ok-pass_elements.field-0 tt (record { scale = refl; header = refl })
    (runs_given step a.text b c.pass_elements.result (Ok c.in_ok-pass_elements.field-0) c.in_ok-pass_elements.was runs) (waits_left a c.requires.vertices waits)
    (λ rest. sym (begun_left _ c.requires.vertices refl rest ∙ (λ i. begun_rest d (total i) (whole.1 i) (at b.place rest))))
