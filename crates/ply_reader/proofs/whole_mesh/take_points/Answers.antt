use Rattle.std.proofs.Common.{◌≡◌, ◌∙◌, ◌∷◌, [], Ok, Err, None, Some, ap, rules, arith, length-append}
use Rattle.std.proofs.lemmas.List.Elements.{All-push}
use Rattle.ply_reader.specs.declared.whole_mesh.MeshFault.TheVariants.{Text, Memory}
use Rattle.ply_reader.specs.Bounds.{IsNear}
use Rattle.ply_reader.specs.MeshCalls.{MeshCall, mesh_reading, give_vertex}
use Rattle.ply_reader.specs.Gathering.{Gave}
use Rattle.ply_reader.proofs.GatheredMeshes.{gave_stops, gave_point, gave_none, counted_point, same_header, stopped_answer, call_given, went_by}
use Rattle.ply_reader.proofs.whole_mesh.take_points.Goals as goal

pub returns-in_err-point-clause-gave : goal.returns-in_err-point-clause-gave
returns-in_err-point-clause-gave g c = λ scale start began.
    let a = mesh_reading c.loop-points.tokens c.loop-points.reader in
    let b = mesh_reading c.next_vertex.new.tokens c.next_vertex.new.self in
    let fault = c.in_err-point.field-0.0 in
    let call : MeshCall give_vertex a b (Err fault) = call_given give_vertex a b c.next_vertex.result (Err fault) c.in_err-point.was c.next_vertex.ensures.call in
    stopped_answer (λ points. Gave scale start points.items [] b) scale start b c.from_residual.result (Text fault) c.from_residual.ensures
    (gave_stops give_vertex scale start c.loop-points.points.items [] a b fault (c.loop-points.invariant.gave scale start began) call)

pub loop-points-preserved : goal.loop-points-preserved
loop-points-preserved g c =
    let a = mesh_reading c.loop-points.tokens c.loop-points.reader in
    let b = mesh_reading c.next_vertex.new.tokens c.next_vertex.new.self in
    let point = c.in-Some.point in
    let was : c.next_vertex.result ≡ Ok (Some point) = c.in_ok-point.was ∙ ap Ok c.in-Some.is in
    let call : MeshCall give_vertex a b (Ok (Some point)) = call_given give_vertex a b c.next_vertex.result (Ok (Some point)) was c.next_vertex.ensures.call in
    let counts = counted_point a.body b.body c.next_vertex.result (Some point) was c.next_vertex.ensures.counted in
    record {
      same = search rules;
      ready = c.next_vertex.ensures.ready;
      gave = λ scale start began. rw c.in_ok-push.ensures.items (gave_point scale start c.loop-points.points.items a b point (c.loop-points.invariant.gave scale start began) call);
      counted = rw c.in_ok-push.ensures.items (omega (arith, c.loop-points.invariant.counted, counts.0, length-append c.loop-points.points.items (point ∷ [])));
      header = same_header give_vertex a b (Some point) call ∙ c.loop-points.invariant.header;
      near = rw c.in_ok-push.ensures.items (All-push IsNear c.loop-points.points.items point c.loop-points.invariant.near counts.1);
    }

pub returns-in_err-push-clause-gave : goal.returns-in_err-push-clause-gave
returns-in_err-push-clause-gave g c = λ scale start began.
    let a = mesh_reading c.loop-points.tokens c.loop-points.reader in
    let b = mesh_reading c.next_vertex.new.tokens c.next_vertex.new.self in
    let point = c.in-Some.point in
    let was : c.next_vertex.result ≡ Ok (Some point) = c.in_ok-point.was ∙ ap Ok c.in-Some.is in
    let call : MeshCall give_vertex a b (Ok (Some point)) = call_given give_vertex a b c.next_vertex.result (Ok (Some point)) was c.next_vertex.ensures.call in
    stopped_answer (λ points. Gave scale start points.items [] b) scale start b c.from_residual-in_err-push.result Memory c.from_residual-in_err-push.ensures
    (went_by give_vertex scale start c.loop-points.points.items [] a b (Some point) (c.loop-points.invariant.gave scale start began) call)

pub returns-clause-gave : goal.returns-clause-gave
returns-clause-gave g c = λ scale start began.
    let a = mesh_reading c.loop-points.tokens c.loop-points.reader in
    let b = mesh_reading c.next_vertex.new.tokens c.next_vertex.new.self in
    let was : c.next_vertex.result ≡ Ok None = c.in_ok-point.was ∙ ap Ok (search rules) in
    let call : MeshCall give_vertex a b (Ok None) = call_given give_vertex a b c.next_vertex.result (Ok None) was c.next_vertex.ensures.call in
    gave_none scale start c.loop-points.points.items [] a b (c.loop-points.invariant.gave scale start began) call
