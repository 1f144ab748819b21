-- The triangles so far were given to their parts; the points still stand in stream 0.
use Rattle.std.proofs.Common.{◌≡◌, ◌+◌, ◌≤◌, List}
use Rattle.ply_text.specs.Calls.{SameLent}
use Rattle.svo_base.specs.declared.shapes.Point.{Point}
use Rattle.ply_reader.specs.Declarations.{declared}
use Rattle.ply_reader.specs.MeshCalls.{mesh_reading, most_corners, IsReady}
use Rattle.build_core.specs.Spilling.{IsSpooled, SpillsTriangles}
use Rattle.build_core.proofs.triangles.spill_triangles.Given as goal

abbrev pub invariant-loop-found : goal.invariant-loop-found
invariant-loop-found g l = record {
  same : SameLent l.fn.tokens l.tokens;
  ready : IsReady (mesh_reading l.tokens l.reader);
  used_up : l.reader.body.vertices ≡ 0;
  header : declared l.reader.body.header ≡ declared l.fn.reader.body.header;
  bounded : l.taken.triangles + most_corners (mesh_reading l.tokens l.reader).body ≤ most_corners (mesh_reading l.fn.tokens l.fn.reader).body;
  spooled : (points : List Point) → IsSpooled points l.fn.spool (g.S.Scratch.told l.fn.scratch) → IsSpooled points l.spool (g.S.Scratch.told l.scratch);
  count : l.spool.count ≡ l.fn.spool.count;
  spills : (points : List Point) → IsSpooled points l.fn.spool (g.S.Scratch.told l.fn.scratch) → SpillsTriangles l.fn.partition.grid l.fn.partition.split points (mesh_reading l.fn.tokens l.fn.reader) (mesh_reading l.tokens l.reader)
      (g.S.Scratch.told l.fn.scratch) (g.S.Scratch.told l.scratch) l.fn.partition.waiting l.partition.waiting l.taken.faces l.taken.triangles;
  grid : l.partition.grid ≡ l.fn.partition.grid;
  split : l.partition.split ≡ l.fn.partition.split;
  started : g.S.Scratch.started l.scratch ≡ g.S.Scratch.started l.fn.scratch;
  asked : g.S.Scratch.asked l.scratch ≡ g.S.Scratch.asked l.fn.scratch;
  later : g.S.Scratch.faults l.fn.scratch ≤ g.S.Scratch.faults l.scratch;
}

abbrev pub decreases-loop-found : goal.decreases-loop-found
decreases-loop-found g l = most_corners (mesh_reading l.tokens l.reader).body
