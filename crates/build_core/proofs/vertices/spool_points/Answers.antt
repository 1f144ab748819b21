-- Each point joins those before; what stops the loop stops the spilling.
use Rattle.std.proofs.Common.{◌≡◌, ◌∙◌, Ok, Err, None, Some, ap, rules, arith}
use Rattle.vertex_spool.specs.Spooling.{with_waiting}
use Rattle.ply_reader.specs.MeshCalls.{MeshCall, mesh_reading, give_vertex}
use Rattle.ply_reader.proofs.GatheredMeshes.{counted_point, same_header, call_given}
use Rattle.build_core.specs.declared.faults.SpillFault.TheVariants.{Text, Scratch}
use Rattle.build_core.specs.Spilling.{SpoolsPoints}
use Rattle.build_core.proofs.SpooledPoints.{stop_answer, point_spooled, points_spooled, text_stops, scratch_stops}
use Rattle.build_core.proofs.vertices.spool_points.Goals as goal

pub returns-in_err-point-clause-spools : goal.returns-in_err-point-clause-spools
returns-in_err-point-clause-spools g c =
    let old = mesh_reading c.args.tokens.now c.args.reader.now in
    let a = mesh_reading c.loop-point.tokens c.loop-point.reader in
    let b = mesh_reading c.next_vertex.new.tokens c.next_vertex.new.self in
    let fault = c.in_err-point.field-0.0 in
    let call : MeshCall give_vertex a b (Err fault) = call_given give_vertex a b c.next_vertex.result (Err fault) c.in_err-point.was c.next_vertex.ensures.call in
    stop_answer (SpoolsPoints old b (g.S.Scratch.told c.args.scratch.now) (g.S.Scratch.told c.loop-point.scratch) c.loop-point.spool) old b c.from_residual.result (Text fault) c.from_residual.ensures
    (text_stops old a b (g.S.Scratch.told c.args.scratch.now) (with_waiting (g.S.Scratch.told c.loop-point.scratch) c.loop-point.spool.waiting) c.loop-point.spool c.loop-point.bounds fault c.loop-point.invariant.spools call)

pub returns-in_err-put-clause-spools : goal.returns-in_err-put-clause-spools
returns-in_err-put-clause-spools g c =
    let old = mesh_reading c.args.tokens.now c.args.reader.now in
    let a = mesh_reading c.loop-point.tokens c.loop-point.reader in
    let b = mesh_reading c.next_vertex.new.tokens c.next_vertex.new.self in
    let call : MeshCall give_vertex a b (Ok c.in_ok-point.field-0) = call_given give_vertex a b c.next_vertex.result (Ok c.in_ok-point.field-0) c.in_ok-point.was c.next_vertex.ensures.call in
    stop_answer (SpoolsPoints old b (g.S.Scratch.told c.args.scratch.now) (g.S.Scratch.told c.put.new.scratch) c.put.new.self) old b c.from_residual-in_err-put.result Scratch c.from_residual-in_err-put.ensures
    (scratch_stops old a b (g.S.Scratch.told c.args.scratch.now) (with_waiting (g.S.Scratch.told c.loop-point.scratch) c.loop-point.spool.waiting) c.loop-point.spool c.loop-point.bounds c.in_ok-point.field-0 c.loop-point.invariant.spools call)

pub loop-point-preserved : goal.loop-point-preserved
loop-point-preserved g c =
    let old = mesh_reading c.args.tokens.now c.args.reader.now in
    let a = mesh_reading c.loop-point.tokens c.loop-point.reader in
    let b = mesh_reading c.next_vertex.new.tokens c.next_vertex.new.self in
    let point = c.in-Some.point in
    let was : c.next_vertex.result ≡ Ok (Some point) = c.in_ok-point.was ∙ ap Ok c.in-Some.is in
    let call : MeshCall give_vertex a b (Ok (Some point)) = call_given give_vertex a b c.next_vertex.result (Ok (Some point)) was c.next_vertex.ensures.call in
    let counts = counted_point a.body b.body c.next_vertex.result (Some point) was c.next_vertex.ensures.counted in
    record {
      same = search rules;
      ready = c.next_vertex.ensures.ready;
      spools = point_spooled old a b (g.S.Scratch.told c.args.scratch.now) (with_waiting (g.S.Scratch.told c.loop-point.scratch) c.loop-point.spool.waiting)
          (with_waiting (g.S.Scratch.told c.put.new.scratch) c.put.new.self.waiting) c.loop-point.spool c.put.new.self c.loop-point.bounds c.add.new.self point
          c.loop-point.invariant.spools call counts.1 c.in_ok-put.ensures.put c.in_ok-put.ensures.count c.add.ensures;
      left = omega (arith, c.loop-point.invariant.left, counts.0, c.in_ok-put.ensures.count);
      unclosed = c.in_ok-put.ensures.unclosed;
      window = c.in_ok-put.ensures.window ∙ c.loop-point.invariant.window;
      header = same_header give_vertex a b (Some point) call ∙ c.loop-point.invariant.header;
      faces = c.next_vertex.ensures.faces ∙ c.loop-point.invariant.faces;
      fan = c.next_vertex.ensures.fan ∙ c.loop-point.invariant.fan;
      started = c.in_ok-put.ensures.started ∙ c.loop-point.invariant.started;
      asked = c.in_ok-put.ensures.asked ∙ c.loop-point.invariant.asked;
      later = omega (arith, c.in_ok-put.ensures.cause.later, c.loop-point.invariant.later);
    }

pub returns-in_err-close-clause-spools : goal.returns-in_err-close-clause-spools
returns-in_err-close-clause-spools g c =
    let old = mesh_reading c.args.tokens.now c.args.reader.now in
    let a = mesh_reading c.loop-point.tokens c.loop-point.reader in
    let b = mesh_reading c.next_vertex.new.tokens c.next_vertex.new.self in
    let call : MeshCall give_vertex a b (Ok c.in_ok-point.field-0) = call_given give_vertex a b c.next_vertex.result (Ok c.in_ok-point.field-0) c.in_ok-point.was c.next_vertex.ensures.call in
    stop_answer (SpoolsPoints old b (g.S.Scratch.told c.args.scratch.now) (g.S.Scratch.told c.close.new.scratch) c.close.new.self) old b c.from_residual-in_err-close.result Scratch c.from_residual-in_err-close.ensures
    (scratch_stops old a b (g.S.Scratch.told c.args.scratch.now) (with_waiting (g.S.Scratch.told c.loop-point.scratch) c.loop-point.spool.waiting) c.loop-point.spool c.loop-point.bounds c.in_ok-point.field-0 c.loop-point.invariant.spools call)

pub returns-clause-spools : goal.returns-clause-spools
returns-clause-spools g c =
    let old = mesh_reading c.args.tokens.now c.args.reader.now in
    let a = mesh_reading c.loop-point.tokens c.loop-point.reader in
    let b = mesh_reading c.next_vertex.new.tokens c.next_vertex.new.self in
    let was : c.next_vertex.result ≡ Ok None = c.in_ok-point.was ∙ ap Ok (search rules) in
    let call : MeshCall give_vertex a b (Ok None) = call_given give_vertex a b c.next_vertex.result (Ok None) was c.next_vertex.ensures.call in
    points_spooled old a b (g.S.Scratch.told c.args.scratch.now) (with_waiting (g.S.Scratch.told c.loop-point.scratch) c.loop-point.spool.waiting) (g.S.Scratch.told c.close.new.scratch)
    c.loop-point.spool c.close.new.self c.loop-point.bounds c.loop-point.invariant.spools call c.in_ok-close.ensures.all c.in_ok-close.ensures.count
