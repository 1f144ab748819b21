use Rattle.std.proofs.Common.{Ok}
use Rattle.ply_text.specs.Reading.{reading}
use Rattle.ply_reader.specs.MeshCalls.{body_reading, give_nothing, give_end}
use Rattle.ply_reader.proofs.MeshRuns.{run_given, run_then}
use Rattle.ply_reader.proofs.body.Body.finish.Goals as goal

pub returns-clause-run : goal.returns-clause-run
returns-clause-run g c =
    let a = body_reading (reading c.args.tokens.now) c.args.self.now in
    let b = body_reading (reading c.pass_to_faces.new.tokens) c.pass_to_faces.new.self in
    let e = body_reading (reading c.close_face.new.tokens) c.close_face.new.self in
    let f = body_reading (reading c.pass_end.new.tokens) c.close_face.new.self in
    run_then give_end a b f c.in_ok-pass_to_faces.field-0 c.pass_end.result
    (run_given give_nothing a b c.pass_to_faces.result (Ok c.in_ok-pass_to_faces.field-0) c.in_ok-pass_to_faces.was c.pass_to_faces.ensures.run)
    (run_then give_end b e f c.in_ok-close_face.field-0 c.pass_end.result
    (run_given give_nothing b e c.close_face.result (Ok c.in_ok-close_face.field-0) c.in_ok-close_face.was c.close_face.ensures.run) c.pass_end.ensures.run)
