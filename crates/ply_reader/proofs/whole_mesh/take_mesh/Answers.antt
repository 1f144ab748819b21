use Rattle.std.proofs.Common.{[], ◌<◌, ◌^◌, Ok, Err, subst}
use Rattle.ply_reader.specs.declared.whole_mesh.MeshFault.TheVariants.{Text}
use Rattle.ply_reader.specs.Layout.{vertex_count}
use Rattle.ply_reader.specs.Declarations.{declared}
use Rattle.ply_reader.specs.MeshCalls.{MeshCall, mesh_reading, give_end}
use Rattle.ply_reader.specs.Gathering.{Gave, GaveAll, IsStopped}
use Rattle.ply_reader.proofs.GatheredMeshes.{gave_stops, gave_all, gathered, is_whole, stopped_answer, call_given}
use Rattle.ply_reader.proofs.whole_mesh.take_mesh.Goals as goal

pub returns-in_err-points-clause-gave : goal.returns-in_err-points-clause-gave
returns-in_err-points-clause-gave g c = λ scale start began.
    let b = mesh_reading c.take_points.new.tokens c.take_points.new.reader in
    let stop = c.in_err-points.field-0.0 in
    stopped_answer (λ mesh. GaveAll scale start mesh b) scale start b c.from_residual.result stop c.from_residual.ensures
    (gathered (λ points. Gave scale start points.items [] b) (IsStopped scale start b) c.take_points.result (Err stop) c.in_err-points.was (c.take_points.ensures.gave scale start began))

pub returns-in_err-triangles-clause-gave : goal.returns-in_err-triangles-clause-gave
returns-in_err-triangles-clause-gave g c = λ scale start began.
    let b = mesh_reading c.take_points.new.tokens c.take_points.new.reader in
    let d = mesh_reading c.take_triangles.new.tokens c.take_triangles.new.reader in
    let points = c.in_ok-points.points in
    let stop = c.in_err-triangles.field-0.0 in
    let gave = gathered (λ points. Gave scale start points.items [] b) (IsStopped scale start b) c.take_points.result (Ok points) c.in_ok-points.was (c.take_points.ensures.gave scale start began) in
    stopped_answer (λ mesh. GaveAll scale start mesh d) scale start d c.from_residual-in_err-triangles.result stop c.from_residual-in_err-triangles.ensures
    (gathered (λ triangles. Gave scale start points.items triangles.items d) (IsStopped scale start d) c.take_triangles.result (Err stop) c.in_err-triangles.was (c.take_triangles.ensures.gave scale start points.items gave))

pub returns-in_err-finish-clause-gave : goal.returns-in_err-finish-clause-gave
returns-in_err-finish-clause-gave g c = λ scale start began.
    let b = mesh_reading c.take_points.new.tokens c.take_points.new.reader in
    let d = mesh_reading c.take_triangles.new.tokens c.take_triangles.new.reader in
    let e = mesh_reading c.finish.new.tokens c.finish.new.self in
    let points = c.in_ok-points.points in
    let triangles = c.in_ok-triangles.triangles in
    let fault = c.in_err-finish.field-0.0 in
    let gave = gathered (λ points. Gave scale start points.items [] b) (IsStopped scale start b) c.take_points.result (Ok points) c.in_ok-points.was (c.take_points.ensures.gave scale start began) in
    let both = gathered (λ triangles. Gave scale start points.items triangles.items d) (IsStopped scale start d) c.take_triangles.result (Ok triangles) c.in_ok-triangles.was (c.take_triangles.ensures.gave scale start points.items gave) in
    let call : MeshCall give_end d e (Err fault) = call_given give_end d e c.finish.result (Err fault) c.in_err-finish.was c.finish.ensures.call in
    stopped_answer (λ mesh. GaveAll scale start mesh e) scale start e c.from_residual-in_err-finish.result (Text fault) c.from_residual-in_err-finish.ensures
    (gave_stops give_end scale start points.items triangles.items d e fault both call)

pub invariant_of-result : goal.invariant_of-result
invariant_of-result g c =
    let d = declared c.args.reader.now.body.header in
    let few : vertex_count d < 2 ^ 32 = subst (λ l. l.vertex.count < 2 ^ 32) c.args.reader.now.body.laid c.args.reader.now.body.few.0 in
    is_whole d (declared c.take_points.new.reader.body.header) c.args.reader.now.body.vertices c.in_ok-points.points.items c.in_ok-triangles.triangles.items
    few c.requires.start c.in_ok-points.ensures.counted c.in_ok-points.ensures.header c.in_ok-points.ensures.near c.in_ok-triangles.ensures.within

pub returns-clause-gave : goal.returns-clause-gave
returns-clause-gave g c = λ scale start began.
    let b = mesh_reading c.take_points.new.tokens c.take_points.new.reader in
    let d = mesh_reading c.take_triangles.new.tokens c.take_triangles.new.reader in
    let e = mesh_reading c.finish.new.tokens c.finish.new.self in
    let points = c.in_ok-points.points in
    let triangles = c.in_ok-triangles.triangles in
    let size = c.in_ok-finish.field-0 in
    let gave = gathered (λ points. Gave scale start points.items [] b) (IsStopped scale start b) c.take_points.result (Ok points) c.in_ok-points.was (c.take_points.ensures.gave scale start began) in
    let both = gathered (λ triangles. Gave scale start points.items triangles.items d) (IsStopped scale start d) c.take_triangles.result (Ok triangles) c.in_ok-triangles.was (c.take_triangles.ensures.gave scale start points.items gave) in
    let call : MeshCall give_end d e (Ok size) = call_given give_end d e c.finish.result (Ok size) c.in_ok-finish.was c.finish.ensures.call in
    gave_all scale start points.items triangles.items d e size both call c.in_ok-finish.ensures.ended
