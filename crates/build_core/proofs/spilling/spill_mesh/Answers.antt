-- The points and then the triangles make the mesh.
use Rattle.std.proofs.Common.{◌∙◌, ◌+◌, ◌^◌, Ok, Err, arith}
use Rattle.ply_reader.specs.MeshCalls.{MeshCall, mesh_reading, give_end}
use Rattle.ply_reader.proofs.GatheredMeshes.{gave_all, gave_stops, call_given}
use Rattle.build_core.specs.declared.faults.SpillFault.TheVariants.{Text}
use Rattle.build_core.specs.Meshes.{SpillsMesh}
use Rattle.build_core.proofs.SpooledPoints.{stop_answer}
use Rattle.build_core.proofs.ValidPlans.{valid_sizes}
use Rattle.build_core.proofs.SpilledMeshes.{box_near, spooled, of_partition, on_scratch, first_told, grid_is}
use Rattle.build_core.proofs.spilling.spill_mesh.Goals as goal

pub chosen-grid-requires-clause-near : goal.chosen-grid-requires-clause-near
chosen-grid-requires-clause-near g c = let s = c.in_ok-bounds.ensures.spools in box_near s.points c.in_ok-bounds.bounds s.near s.is_box

pub new-partition-requires-clause-split : goal.new-partition-requires-clause-split
new-partition-requires-clause-split g c = (valid_sizes c.args.job.now.plan c.requires.job.planned).split

pub new-partition-requires-clause-depth : goal.new-partition-requires-clause-depth
new-partition-requires-clause-depth g c = omega (arith, (valid_sizes c.args.job.now.plan c.requires.job.planned).within, c.chosen-grid.ensures.depth, c.requires.job.depth)

pub spill_triangles-requires-clause-spooled : goal.spill_triangles-requires-clause-spooled
spill_triangles-requires-clause-spooled g c =
    let s = c.in_ok-bounds.ensures.spools in (
      s.points,
      spooled (1 + 8 ^ c.args.job.now.plan.split) s.points c.spool_points.new.spool (g.S.Scratch.told c.args.scratch.now) (g.S.Scratch.told c.spool_points.new.scratch) (omega arith)
          c.requires.empty s.put c.in_ok-bounds.ensures.closed s.count s.near (λ bytes. rw c.in_ok-bounds.ensures.window (c.requires.window bytes)),
    )

pub returns-in_err-taken-clause-spills : goal.returns-in_err-taken-clause-spills
returns-in_err-taken-clause-spills g c =
    let old = mesh_reading c.args.tokens.now c.args.reader.now in
    let d = mesh_reading c.spill_triangles.new.tokens c.spill_triangles.new.reader in
    let s = c.in_ok-bounds.ensures.spools in
    let stop = c.in_err-taken.field-0.0 in
    let stands = spooled (1 + 8 ^ c.args.job.now.plan.split) s.points c.spool_points.new.spool (g.S.Scratch.told c.args.scratch.now) (g.S.Scratch.told c.spool_points.new.scratch) (omega arith)
    c.requires.empty s.put c.in_ok-bounds.ensures.closed s.count s.near (λ bytes. rw c.in_ok-bounds.ensures.window (c.requires.window bytes)) in
    let stops = c.in_err-taken.ensures.spills s.points stands in
    stop_answer (SpillsMesh c.args.job.now old d (g.S.Scratch.told c.spill_triangles.new.scratch)) old d c.from_residual-in_err-taken.result stop c.from_residual-in_err-taken.ensures
    (λ scale start began. stops scale start (s.takes scale start began))

pub returns-in_err-finish-clause-spills : goal.returns-in_err-finish-clause-spills
returns-in_err-finish-clause-spills g c =
    let old = mesh_reading c.args.tokens.now c.args.reader.now in
    let d = mesh_reading c.spill_triangles.new.tokens c.spill_triangles.new.reader in
    let e = mesh_reading c.finish.new.tokens c.finish.new.self in
    let s = c.in_ok-bounds.ensures.spools in
    let stands = spooled (1 + 8 ^ c.args.job.now.plan.split) s.points c.spool_points.new.spool (g.S.Scratch.told c.args.scratch.now) (g.S.Scratch.told c.spool_points.new.scratch) (omega arith)
    c.requires.empty s.put c.in_ok-bounds.ensures.closed s.count s.near (λ bytes. rw c.in_ok-bounds.ensures.window (c.requires.window bytes)) in
    let t = c.in_ok-taken.ensures.spills s.points stands in
    let fault = c.in_err-finish.field-0.0 in
    let call : MeshCall give_end d e (Err fault) = call_given give_end d e c.finish.result (Err fault) c.in_err-finish.was c.finish.ensures.call in
    stop_answer (SpillsMesh c.args.job.now old e (g.S.Scratch.told c.spill_triangles.new.scratch)) old e c.from_residual-in_err-finish.result (Text fault) c.from_residual-in_err-finish.ensures
    (λ scale start began. gave_stops give_end scale start s.points t.triangles d e fault (t.takes scale start (s.takes scale start began)) call)

pub returns-clause-spills : goal.returns-clause-spills
returns-clause-spills g c =
    let old = mesh_reading c.args.tokens.now c.args.reader.now in
    let d = mesh_reading c.spill_triangles.new.tokens c.spill_triangles.new.reader in
    let e = mesh_reading c.finish.new.tokens c.finish.new.self in
    let split = c.args.job.now.plan.split in
    let grid = c.chosen-grid.result in
    let s = c.in_ok-bounds.ensures.spools in
    let stands = spooled (1 + 8 ^ split) s.points c.spool_points.new.spool (g.S.Scratch.told c.args.scratch.now) (g.S.Scratch.told c.spool_points.new.scratch) (omega arith)
    c.requires.empty s.put c.in_ok-bounds.ensures.closed s.count s.near (λ bytes. rw c.in_ok-bounds.ensures.window (c.requires.window bytes)) in
    let t = of_partition (mesh_reading c.spool_points.new.tokens c.spool_points.new.reader) d s.points (g.S.Scratch.told c.spool_points.new.scratch) (g.S.Scratch.told c.spill_triangles.new.scratch)
    c.new-partition.result grid split c.in_ok-taken.taken c.new-partition.ensures (c.in_ok-taken.ensures.spills s.points stands) in
    let size = c.in_ok-finish.field-0 in
    let call : MeshCall give_end d e (Ok size) = call_given give_end d e c.finish.result (Ok size) c.in_ok-finish.was c.finish.ensures.call in
    let both = first_told grid split s.points t.triangles (g.S.Scratch.told c.spill_triangles.new.scratch)
    (on_scratch grid split s.points t.triangles (g.S.Scratch.told c.args.scratch.now) (g.S.Scratch.told c.spool_points.new.scratch) (g.S.Scratch.told c.spill_triangles.new.scratch) t.more
    c.requires.empty s.put t.spills t.parcels s.near t.numbered) in
    record {
      mesh = record { points = s.points; triangles = t.triangles };
      gave = λ scale start began. gave_all scale start s.points t.triangles d e size (t.takes scale start (s.takes scale start began)) call c.in_ok-finish.ensures.ended;
      is = record {
        grid = grid_is c.args.job.now.grid s.points c.in_ok-bounds.bounds grid s.is_box c.chosen-grid.ensures.grid;
        depth = c.chosen-grid.ensures.depth ∙ c.requires.job.depth;
        faces = t.faces_are;
        triangles = t.count_is;
        numbered = t.numbered;
        scratch = both.0;
        read_back = both.1;
      };
    }
