-- The points so far are put, and what waits is still to be appended.
use Rattle.std.proofs.Common.{◌≡◌, ◌+◌, ◌≤◌, false}
use Rattle.ply_text.specs.Calls.{SameLent}
use Rattle.ply_reader.specs.Declarations.{declared}
use Rattle.ply_reader.specs.MeshCalls.{mesh_reading, IsReady}
use Rattle.vertex_spool.specs.Spooling.{with_waiting}
use Rattle.build_core.specs.Spilling.{SpoolsPoints}
use Rattle.build_core.proofs.vertices.spool_points.Given as goal

abbrev pub invariant-loop-point : goal.invariant-loop-point
invariant-loop-point g l = record {
  same : SameLent l.fn.tokens l.tokens;
  ready : IsReady (mesh_reading l.tokens l.reader);
  spools : SpoolsPoints (mesh_reading l.fn.tokens l.fn.reader) (mesh_reading l.tokens l.reader) (g.S.Scratch.told l.fn.scratch) (with_waiting (g.S.Scratch.told l.scratch) l.spool.waiting) l.spool l.bounds;
  left : l.spool.count + l.reader.body.vertices ≡ l.fn.reader.body.vertices;
  unclosed : l.spool.closed ≡ false;
  window : l.spool.window ≡ l.fn.spool.window;
  header : declared l.reader.body.header ≡ declared l.fn.reader.body.header;
  faces : l.reader.body.faces ≡ l.fn.reader.body.faces;
  fan : l.reader.body.fan ≡ l.fn.reader.body.fan;
  started : g.S.Scratch.started l.scratch ≡ g.S.Scratch.started l.fn.scratch;
  asked : g.S.Scratch.asked l.scratch ≡ g.S.Scratch.asked l.fn.scratch;
  later : g.S.Scratch.faults l.fn.scratch ≤ g.S.Scratch.faults l.scratch;
}

abbrev pub decreases-loop-point : goal.decreases-loop-point
decreases-loop-point g l = l.reader.body.vertices
