use Rattle.std.proofs.Common.{◌≡◌, ◌∙◌, ◌+◌, Ok, Some, ap, sym, refl, subst, rules, arith, drop}
use Rattle.ply_text.specs.Reading.{reading}
use Rattle.ply_reader.specs.Declarations.{declared, properties_of}
use Rattle.ply_reader.specs.Layout.{face_properties, behind_list, list_place}
use Rattle.ply_reader.specs.Rows.{row_passed}
use Rattle.ply_reader.specs.PlyMeaning.{behind_rest, faces_rest}
use Rattle.ply_reader.specs.Runs.{Runs}
use Rattle.ply_reader.specs.MeshCalls.{body_reading, give_nothing}
use Rattle.ply_reader.proofs.Steps.{runs_given}
use Rattle.ply_reader.proofs.MeshRuns.{run_step, run_fails, begun_left, closing_left}
use Rattle.ply_reader.proofs.body.Body.close_face.Goals as goal

pub returns-in_err-pass_row-clause-run : goal.returns-in_err-pass_row-clause-run
returns-in_err-pass_row-clause-run g c =
    let d = declared c.args.self.now.header in
    let a = body_reading (reading c.args.tokens.now) c.args.self.now in
    let b = reading c.pass_row.new.tokens in
    let step = row_passed (behind_list d) in
    let is : c.args.self.now.fan ≡ Some c.in-Some.fan = search rules in
    let empty : c.in-Some.fan.left ≡ 0 = omega (arith, c.if-fan-gt0.false) in
    let properties : c.properties_of-properties.result.now ≡ face_properties d = c.properties_of-properties.ensures ∙ ap (λ l. properties_of d l.face) c.args.self.now.laid in
    let at-list : c.args.self.now.layout.list_at ≡ list_place (face_properties d) = ap (λ l. l.list_at) c.args.self.now.laid in
    let behind : c.all_behind.result.now ≡ behind_list d = c.all_behind.ensures ∙ (λ i. drop (at-list i + 1) (properties i)) in
    let runs : Runs step a.text b c.pass_row.result = subst (λ ps. Runs (row_passed ps) a.text b c.pass_row.result) behind c.pass_row.ensures.runs in
    run_fails give_nothing step (λ _. faces_rest a.header a.faces (behind_rest a.header)) a _ c.pass_row.result c.in_err-pass_row.field-0.0 c.from_residual.result (record { scale = refl; header = refl }) c.in_err-pass_row.was runs c.from_residual.ensures (closing_left a c.in-Some.fan c.requires.vertices c.requires.passed is empty)

pub returns-clause-run : goal.returns-clause-run
returns-clause-run g c =
    let d = declared c.args.self.now.header in
    let a = body_reading (reading c.args.tokens.now) c.args.self.now in
    let b = reading c.pass_row.new.tokens in
    let step = row_passed (behind_list d) in
    let is : c.args.self.now.fan ≡ Some c.in-Some.fan = search rules in
    let empty : c.in-Some.fan.left ≡ 0 = omega (arith, c.if-fan-gt0.false) in
    let properties : c.properties_of-properties.result.now ≡ face_properties d = c.properties_of-properties.ensures ∙ ap (λ l. properties_of d l.face) c.args.self.now.laid in
    let at-list : c.args.self.now.layout.list_at ≡ list_place (face_properties d) = ap (λ l. l.list_at) c.args.self.now.laid in
    let behind : c.all_behind.result.now ≡ behind_list d = c.all_behind.ensures ∙ (λ i. drop (at-list i + 1) (properties i)) in
    let runs : Runs step a.text b c.pass_row.result = subst (λ ps. Runs (row_passed ps) a.text b c.pass_row.result) behind c.pass_row.ensures.runs in
    run_step give_nothing step (λ _. faces_rest a.header a.faces (behind_rest a.header)) a _ c.in_ok-pass_row.field-0 tt (record { scale = refl; header = refl })
    (runs_given step a.text b c.pass_row.result (Ok c.in_ok-pass_row.field-0) c.in_ok-pass_row.was runs) (closing_left a c.in-Some.fan c.requires.vertices c.requires.passed is empty)
    (λ rest. sym (begun_left _ c.requires.vertices c.requires.passed rest))
