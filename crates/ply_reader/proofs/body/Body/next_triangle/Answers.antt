use Rattle.std.proofs.Common.{Ok}
use Rattle.ply_text.specs.Reading.{reading}
use Rattle.ply_reader.specs.MeshCalls.{body_reading, give_nothing, give_face}
use Rattle.ply_reader.proofs.MeshRuns.{run_given, run_then}
use Rattle.ply_reader.proofs.body.Body.next_triangle.Goals as goal

pub returns-in-Some-clause-run : goal.returns-in-Some-clause-run
returns-in-Some-clause-run g c =
    let a = body_reading (reading c.args.tokens.now) c.args.self.now in
    let b = body_reading (reading c.pass_to_faces.new.tokens) c.pass_to_faces.new.self in
    let e = body_reading (reading c.close_face.new.tokens) c.close_face.new.self in
    let f = body_reading (reading c.begin_face.new.tokens) c.begin_face.new.self in
    let h = body_reading (reading c.take_triangle.new.tokens) c.take_triangle.new.self in
    run_then give_face a b h c.in_ok-pass_to_faces.field-0 c.take_triangle.result
    (run_given give_nothing a b c.pass_to_faces.result (Ok c.in_ok-pass_to_faces.field-0) c.in_ok-pass_to_faces.was c.pass_to_faces.ensures.run)
    (run_then give_face b e h c.in_ok-close_face.field-0 c.take_triangle.result
    (run_given give_nothing b e c.close_face.result (Ok c.in_ok-close_face.field-0) c.in_ok-close_face.was c.close_face.ensures.run)
    (run_then give_face e f h c.in_ok-begin_face.field-0 c.take_triangle.result
    (run_given give_nothing e f c.begin_face.result (Ok c.in_ok-begin_face.field-0) c.in_ok-begin_face.was c.begin_face.ensures.run) c.take_triangle.ensures.run))
