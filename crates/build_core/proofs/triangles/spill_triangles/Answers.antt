-- Each triangle joins those before; what stops the loop stops the spilling.
use Rattle.std.proofs.Common.{◌≡◌, ◌∙◌, [], Ok, Err, None, Some, ap, subst, rules, arith, refl}
use Rattle.octree_specs.specs.FacedTriangles.{Faced}
use Rattle.mesh_laws.specs.Meshes.{faced_at}
use Rattle.tri_partition.specs.Partitioning.{Spills, parcels_of}
use Rattle.ply_reader.specs.Declarations.{declared}
use Rattle.ply_reader.specs.MeshCalls.{MeshCall, IsWithinMesh, mesh_reading, give_face}
use Rattle.ply_reader.proofs.GatheredMeshes.{counted_triangle, same_header, call_given}
use Rattle.build_core.specs.declared.faults.SpillFault.TheVariants.{Text, Scratch}
use Rattle.build_core.specs.Spilling.{SpillsTriangles}
use Rattle.build_core.proofs.SpilledTriangles.{triangles_answer, still_spooled, same_spills, told_before, no_triangle_spilled, triangle_spilled, triangles_spilled, triangle_refused, triangle_failed}
use Rattle.build_core.proofs.triangles.spill_triangles.Goals as goal

pub loop-found-init : goal.loop-found-init
loop-found-init g c = record {
  same = search rules;
  ready = c.requires.ready;
  used_up = c.requires.used_up;
  header = refl;
  bounded = omega arith;
  spooled = λ points spooled. spooled;
  count = refl;
  spills = λ points spooled. no_triangle_spilled c.args.partition.now.grid c.args.partition.now.split points (mesh_reading c.args.tokens.now c.args.reader.now) (g.S.Scratch.told c.args.scratch.now) c.args.partition.now.waiting;
  grid = refl;
  split = refl;
  started = refl;
  asked = refl;
  later = omega arith;
}

pub returns-in_err-found-clause-spills : goal.returns-in_err-found-clause-spills
returns-in_err-found-clause-spills g c = λ points spooled.
    let old = mesh_reading c.args.tokens.now c.args.reader.now in
    let a = mesh_reading c.loop-found.tokens c.loop-found.reader in
    let b = mesh_reading c.next_triangle.new.tokens c.next_triangle.new.self in
    let grid = c.args.partition.now.grid in
    let split = c.args.partition.now.split in
    let before = g.S.Scratch.told c.args.scratch.now in
    let waited = c.args.partition.now.waiting in
    let fault = c.in_err-found.field-0.0 in
    let call : MeshCall give_face a b (Err fault) = call_given give_face a b c.next_triangle.result (Err fault) c.in_err-found.was c.next_triangle.ensures.call in
    triangles_answer (λ taken. SpillsTriangles grid split points old b before (g.S.Scratch.told c.loop-found.scratch) waited [] taken.faces taken.triangles) points old b c.from_residual.result (Text fault) c.from_residual.ensures
    (triangle_refused grid split points old a b before (g.S.Scratch.told c.loop-found.scratch) waited c.loop-found.partition.waiting c.loop-found.taken.faces c.loop-found.taken.triangles fault (c.loop-found.invariant.spills points spooled) call)

pub returns-in_err-triangle-clause-spills : goal.returns-in_err-triangle-clause-spills
returns-in_err-triangle-clause-spills g c = λ points spooled.
    let old = mesh_reading c.args.tokens.now c.args.reader.now in
    let a = mesh_reading c.loop-found.tokens c.loop-found.reader in
    let b = mesh_reading c.next_triangle.new.tokens c.next_triangle.new.self in
    let grid = c.args.partition.now.grid in
    let split = c.args.partition.now.split in
    let before = g.S.Scratch.told c.args.scratch.now in
    let waited = c.args.partition.now.waiting in
    let found = c.in_ok-found.field-0 in
    let call : MeshCall give_face a b (Ok found) = call_given give_face a b c.next_triangle.result (Ok found) c.in_ok-found.was c.next_triangle.ensures.call in
    triangles_answer (λ taken. SpillsTriangles grid split points old b before (g.S.Scratch.told c.fetch_corners.new.scratch) waited [] taken.faces taken.triangles) points old b c.from_residual-in_err-triangle.result Scratch c.from_residual-in_err-triangle.ensures
    (triangle_failed grid split points old a b before (g.S.Scratch.told c.loop-found.scratch) waited c.loop-found.partition.waiting c.loop-found.taken.faces c.loop-found.taken.triangles found (c.loop-found.invariant.spills points spooled) call)

pub returns-in_err-add-clause-spills : goal.returns-in_err-add-clause-spills
returns-in_err-add-clause-spills g c = λ points spooled.
    let old = mesh_reading c.args.tokens.now c.args.reader.now in
    let a = mesh_reading c.loop-found.tokens c.loop-found.reader in
    let b = mesh_reading c.next_triangle.new.tokens c.next_triangle.new.self in
    let grid = c.args.partition.now.grid in
    let split = c.args.partition.now.split in
    let before = g.S.Scratch.told c.args.scratch.now in
    let waited = c.args.partition.now.waiting in
    let found = c.in_ok-found.field-0 in
    let call : MeshCall give_face a b (Ok found) = call_given give_face a b c.next_triangle.result (Ok found) c.in_ok-found.was c.next_triangle.ensures.call in
    triangles_answer (λ taken. SpillsTriangles grid split points old b before (g.S.Scratch.told c.add.new.scratch) waited [] taken.faces taken.triangles) points old b c.from_residual-in_err-add.result Scratch c.from_residual-in_err-add.ensures
    (triangle_failed grid split points old a b before (g.S.Scratch.told c.loop-found.scratch) waited c.loop-found.partition.waiting c.loop-found.taken.faces c.loop-found.taken.triangles found (c.loop-found.invariant.spills points spooled) call)

pub loop-found-preserved : goal.loop-found-preserved
loop-found-preserved g c =
    let old = mesh_reading c.args.tokens.now c.args.reader.now in
    let a = mesh_reading c.loop-found.tokens c.loop-found.reader in
    let b = mesh_reading c.next_triangle.new.tokens c.next_triangle.new.self in
    let found = c.in-Some.found in
    let was : c.next_triangle.result ≡ Ok (Some found) = c.in_ok-found.was ∙ ap Ok c.in-Some.is in
    let call : MeshCall give_face a b (Ok (Some found)) = call_given give_face a b c.next_triangle.result (Ok (Some found)) was c.next_triangle.ensures.call in
    let counts = counted_triangle a.body b.body c.next_triangle.result (Some found) was c.next_triangle.ensures.counted in
    let within : IsWithinMesh (declared c.args.reader.now.body.header) found = subst (λ d. IsWithinMesh d found) c.loop-found.invariant.header counts.0 in
    let before = g.S.Scratch.told c.args.scratch.now in
    let mid = g.S.Scratch.told c.loop-found.scratch in
    let after = g.S.Scratch.told c.add.new.scratch in
    let grid = c.args.partition.now.grid in
    let split = c.args.partition.now.split in
    let x : Faced = record { triangle = c.in_ok-triangle.triangle; face = found.face } in
    let adds : Spills mid after c.loop-found.partition.waiting (parcels_of grid split x) c.add.new.self.waiting =
    same_spills mid after (g.S.Scratch.told c.fetch_corners.new.scratch) c.loop-found.partition.waiting c.add.new.self.waiting x c.loop-found.partition.grid grid c.loop-found.partition.split split
    c.fetch_corners.ensures.told c.loop-found.invariant.grid c.loop-found.invariant.split c.in_ok-add.ensures.added in
    record {
      same = search rules;
      ready = c.next_triangle.ensures.ready;
      used_up = counts.1 ∙ c.loop-found.invariant.used_up;
      header = same_header give_face a b (Some found) call ∙ c.loop-found.invariant.header;
      bounded = omega (arith, counts.2, c.loop-found.invariant.bounded);
      spooled = λ points spooled. still_spooled points c.fetch_corners.new.spool mid after c.loop-found.partition.waiting (parcels_of grid split x) c.add.new.self.waiting adds
          (c.fetch_corners.ensures.spooled points (c.loop-found.invariant.spooled points spooled));
      count = c.fetch_corners.ensures.count ∙ c.loop-found.invariant.count;
      spills = λ points spooled. rw c.from.ensures (triangle_spilled grid split points old a b before mid after c.args.partition.now.waiting c.loop-found.partition.waiting c.add.new.self.waiting
          c.loop-found.taken.faces c.loop-found.taken.triangles found c.in_ok-triangle.triangle (c.loop-found.invariant.spills points spooled) call (omega (arith, within.face, c.requires.faces)) adds
          (told_before (c.in_ok-triangle.triangle ≡ (faced_at points found).triangle) before mid (c.loop-found.invariant.spills points spooled).spills.parcels (c.loop-found.invariant.spills points spooled).spills.grew
          (c.in_ok-triangle.ensures.triangle points (c.loop-found.invariant.spooled points spooled))));
      grid = c.in_ok-add.ensures.grid ∙ c.loop-found.invariant.grid;
      split = c.in_ok-add.ensures.split ∙ c.loop-found.invariant.split;
      started = c.in_ok-add.ensures.started ∙ (c.fetch_corners.ensures.started ∙ c.loop-found.invariant.started);
      asked = c.in_ok-add.ensures.asked ∙ (c.fetch_corners.ensures.asked ∙ c.loop-found.invariant.asked);
      later = omega (arith, c.in_ok-add.ensures.cause.later, c.fetch_corners.ensures.cause.later, c.loop-found.invariant.later);
    }

pub returns-in_err-flush-clause-spills : goal.returns-in_err-flush-clause-spills
returns-in_err-flush-clause-spills g c = λ points spooled.
    let old = mesh_reading c.args.tokens.now c.args.reader.now in
    let a = mesh_reading c.loop-found.tokens c.loop-found.reader in
    let b = mesh_reading c.next_triangle.new.tokens c.next_triangle.new.self in
    let grid = c.args.partition.now.grid in
    let split = c.args.partition.now.split in
    let before = g.S.Scratch.told c.args.scratch.now in
    let waited = c.args.partition.now.waiting in
    let found = c.in_ok-found.field-0 in
    let call : MeshCall give_face a b (Ok found) = call_given give_face a b c.next_triangle.result (Ok found) c.in_ok-found.was c.next_triangle.ensures.call in
    triangles_answer (λ taken. SpillsTriangles grid split points old b before (g.S.Scratch.told c.flush.new.scratch) waited [] taken.faces taken.triangles) points old b c.from_residual-in_err-flush.result Scratch c.from_residual-in_err-flush.ensures
    (triangle_failed grid split points old a b before (g.S.Scratch.told c.loop-found.scratch) waited c.loop-found.partition.waiting c.loop-found.taken.faces c.loop-found.taken.triangles found (c.loop-found.invariant.spills points spooled) call)

pub returns-clause-spills : goal.returns-clause-spills
returns-clause-spills g c = λ points spooled.
    let old = mesh_reading c.args.tokens.now c.args.reader.now in
    let a = mesh_reading c.loop-found.tokens c.loop-found.reader in
    let b = mesh_reading c.next_triangle.new.tokens c.next_triangle.new.self in
    let was : c.next_triangle.result ≡ Ok None = c.in_ok-found.was ∙ ap Ok (search rules) in
    let call : MeshCall give_face a b (Ok None) = call_given give_face a b c.next_triangle.result (Ok None) was c.next_triangle.ensures.call in
    triangles_spilled c.args.partition.now.grid c.args.partition.now.split points old a b (g.S.Scratch.told c.args.scratch.now) (g.S.Scratch.told c.loop-found.scratch) (g.S.Scratch.told c.flush.new.scratch)
    c.args.partition.now.waiting c.loop-found.partition.waiting c.loop-found.taken.faces c.loop-found.taken.triangles (c.loop-found.invariant.spills points spooled) call c.in_ok-flush.ensures.flushed
