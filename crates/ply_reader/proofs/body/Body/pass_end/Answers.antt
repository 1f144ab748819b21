use Rattle.std.proofs.Common.{◌≡◌, ◌∙◌, ◌+◌, Ok, ap, refl, subst, drop}
use Rattle.ply_text.specs.Reading.{reading}
use Rattle.ply_reader.specs.Declarations.{declared}
use Rattle.ply_reader.specs.Layout.{behind_faces, first_of}
use Rattle.ply_reader.specs.declared.elements.Role.TheVariants.{Face}
use Rattle.ply_reader.specs.Rows.{elements_passed}
use Rattle.ply_reader.specs.PlyMeaning.{text_end, text_ended}
use Rattle.ply_reader.specs.Runs.{Runs}
use Rattle.ply_reader.specs.MeshCalls.{body_reading, give_end}
use Rattle.ply_reader.proofs.EndRuns.{ends_behind}
use Rattle.ply_reader.proofs.Steps.{runs_given, runs_then}
use Rattle.ply_reader.proofs.MeshRuns.{run_fails, run_ends, end_left}
use Rattle.ply_reader.proofs.body.Body.pass_end.Goals as goal

pub returns-in_err-pass_elements-clause-run : goal.returns-in_err-pass_elements-clause-run
returns-in_err-pass_elements-clause-run g c =
    let d = declared c.args.self.now.header in
    let a = body_reading (reading c.args.tokens.now) c.args.self.now in
    let b = reading c.pass_elements.new.tokens in
    let face_at : c.args.self.now.layout.face_at ≡ first_of Face d = ap (λ l. l.face_at) c.args.self.now.laid in
    let behind : c.all_behind-behind.result.now ≡ behind_faces d = c.all_behind-behind.ensures ∙ (λ i. drop (face_at i + 1) (c.all_elements.ensures i)) in
    let step = elements_passed d (behind_faces d) in
    let runs : Runs step a.text b c.pass_elements.result = subst (λ es. Runs (elements_passed d es) a.text b c.pass_elements.result) behind c.pass_elements.ensures.runs in
    let begins = end_left a c.requires.vertices c.requires.passed c.requires.fan c.requires.faces in
    run_fails give_end step (λ _. text_end) a (body_reading b c.args.self.now) c.pass_elements.result c.in_err-pass_elements.field-0.0 c.from_residual.result (record { scale = refl; header = refl }) c.in_err-pass_elements.was runs c.from_residual.ensures begins

pub returns-clause-run : goal.returns-clause-run
returns-clause-run g c =
    let d = declared c.args.self.now.header in
    let a = body_reading (reading c.args.tokens.now) c.args.self.now in
    let b = reading c.pass_elements.new.tokens in
    let face_at : c.args.self.now.layout.face_at ≡ first_of Face d = ap (λ l. l.face_at) c.args.self.now.laid in
    let behind : c.all_behind-behind.result.now ≡ behind_faces d = c.all_behind-behind.ensures ∙ (λ i. drop (face_at i + 1) (c.all_elements.ensures i)) in
    let step = elements_passed d (behind_faces d) in
    let runs : Runs step a.text b c.pass_elements.result = subst (λ es. Runs (elements_passed d es) a.text b c.pass_elements.result) behind c.pass_elements.ensures.runs in
    let begins = end_left a c.requires.vertices c.requires.passed c.requires.fan c.requires.faces in
    let e = reading c.take_end.new.tokens in
    let given = runs_given step a.text b c.pass_elements.result (Ok c.in_ok-pass_elements.field-0) c.in_ok-pass_elements.was runs in
    run_ends step a (body_reading e c.args.self.now) c.take_end.result (record { scale = refl; header = refl }) (runs_then step (λ _. text_ended) a.text b e c.in_ok-pass_elements.field-0 c.take_end.result given c.take_end.ensures.runs) begins

pub returns-clause-ended : goal.returns-clause-ended
returns-clause-ended g c =
    let d = declared c.args.self.now.header in
    let a = body_reading (reading c.args.tokens.now) c.args.self.now in
    let b = reading c.pass_elements.new.tokens in
    let face_at : c.args.self.now.layout.face_at ≡ first_of Face d = ap (λ l. l.face_at) c.args.self.now.laid in
    let behind : c.all_behind-behind.result.now ≡ behind_faces d = c.all_behind-behind.ensures ∙ (λ i. drop (face_at i + 1) (c.all_elements.ensures i)) in
    let step = elements_passed d (behind_faces d) in
    let runs : Runs step a.text b c.pass_elements.result = subst (λ es. Runs (elements_passed d es) a.text b c.pass_elements.result) behind c.pass_elements.ensures.runs in
    let begins = end_left a c.requires.vertices c.requires.passed c.requires.fan c.requires.faces in
    let e = reading c.take_end.new.tokens in
    let given = runs_given step a.text b c.pass_elements.result (Ok c.in_ok-pass_elements.field-0) c.in_ok-pass_elements.was runs in
    ends_behind step a.text b e c.in_ok-pass_elements.field-0 c.take_end.result given c.take_end.ensures.ended c.take_end.ensures.nothing
