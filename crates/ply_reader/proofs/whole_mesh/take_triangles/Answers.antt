use Rattle.std.proofs.Common.{◌≡◌, ◌∙◌, Ok, Err, None, Some, ap, subst, rules}
use Rattle.std.proofs.lemmas.List.Elements.{All-push}
use Rattle.ply_reader.specs.declared.whole_mesh.MeshFault.TheVariants.{Text, Memory}
use Rattle.ply_reader.specs.Declarations.{declared}
use Rattle.ply_reader.specs.MeshCalls.{MeshCall, mesh_reading, give_face, IsWithinMesh}
use Rattle.ply_reader.specs.Gathering.{Gave}
use Rattle.ply_reader.proofs.GatheredMeshes.{gave_stops, gave_triangle, gave_no_triangle, counted_triangle, same_header, stopped_answer, call_given, went_by}
use Rattle.ply_reader.proofs.whole_mesh.take_triangles.Goals as goal

pub returns-in_err-triangle-clause-gave : goal.returns-in_err-triangle-clause-gave
returns-in_err-triangle-clause-gave g c = λ scale start points began.
    let a = mesh_reading c.loop-triangles.tokens c.loop-triangles.reader in
    let b = mesh_reading c.next_triangle.new.tokens c.next_triangle.new.self in
    let fault = c.in_err-triangle.field-0.0 in
    let call : MeshCall give_face a b (Err fault) = call_given give_face a b c.next_triangle.result (Err fault) c.in_err-triangle.was c.next_triangle.ensures.call in
    stopped_answer (λ triangles. Gave scale start points triangles.items b) scale start b c.from_residual.result (Text fault) c.from_residual.ensures
    (gave_stops give_face scale start points c.loop-triangles.triangles.items a b fault (c.loop-triangles.invariant.gave scale start points began) call)

pub loop-triangles-preserved : goal.loop-triangles-preserved
loop-triangles-preserved g c =
    let a = mesh_reading c.loop-triangles.tokens c.loop-triangles.reader in
    let b = mesh_reading c.next_triangle.new.tokens c.next_triangle.new.self in
    let triangle = c.in-Some.triangle in
    let was : c.next_triangle.result ≡ Ok (Some triangle) = c.in_ok-triangle.was ∙ ap Ok c.in-Some.is in
    let call : MeshCall give_face a b (Ok (Some triangle)) = call_given give_face a b c.next_triangle.result (Ok (Some triangle)) was c.next_triangle.ensures.call in
    let counts = counted_triangle a.body b.body c.next_triangle.result (Some triangle) was c.next_triangle.ensures.counted in
    record {
      same = search rules;
      ready = c.next_triangle.ensures.ready;
      gave = λ scale start points began. rw c.in_ok-push.ensures.items (gave_triangle scale start points c.loop-triangles.triangles.items a b triangle (c.loop-triangles.invariant.gave scale start points began) call);
      used_up = counts.1 ∙ c.loop-triangles.invariant.used_up;
      header = same_header give_face a b (Some triangle) call ∙ c.loop-triangles.invariant.header;
      within = rw c.in_ok-push.ensures.items (All-push (IsWithinMesh (declared c.args.reader.now.body.header)) c.loop-triangles.triangles.items triangle c.loop-triangles.invariant.within
          (subst (λ d. IsWithinMesh d triangle) c.loop-triangles.invariant.header counts.0));
    }

pub returns-in_err-push-clause-gave : goal.returns-in_err-push-clause-gave
returns-in_err-push-clause-gave g c = λ scale start points began.
    let a = mesh_reading c.loop-triangles.tokens c.loop-triangles.reader in
    let b = mesh_reading c.next_triangle.new.tokens c.next_triangle.new.self in
    let triangle = c.in-Some.triangle in
    let was : c.next_triangle.result ≡ Ok (Some triangle) = c.in_ok-triangle.was ∙ ap Ok c.in-Some.is in
    let call : MeshCall give_face a b (Ok (Some triangle)) = call_given give_face a b c.next_triangle.result (Ok (Some triangle)) was c.next_triangle.ensures.call in
    stopped_answer (λ triangles. Gave scale start points triangles.items b) scale start b c.from_residual-in_err-push.result Memory c.from_residual-in_err-push.ensures
    (went_by give_face scale start points c.loop-triangles.triangles.items a b (Some triangle) (c.loop-triangles.invariant.gave scale start points began) call)

pub returns-clause-gave : goal.returns-clause-gave
returns-clause-gave g c = λ scale start points began.
    let a = mesh_reading c.loop-triangles.tokens c.loop-triangles.reader in
    let b = mesh_reading c.next_triangle.new.tokens c.next_triangle.new.self in
    let was : c.next_triangle.result ≡ Ok None = c.in_ok-triangle.was ∙ ap Ok (search rules) in
    let call : MeshCall give_face a b (Ok None) = call_given give_face a b c.next_triangle.result (Ok None) was c.next_triangle.ensures.call in
    gave_no_triangle scale start points c.loop-triangles.triangles.items a b (c.loop-triangles.invariant.gave scale start points began) call
