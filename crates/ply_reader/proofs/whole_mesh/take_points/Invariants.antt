use Rattle.std.proofs.Common.{◌≡◌, ◌+◌, [], length}
use Rattle.std.specs.List.{All}
use Rattle.ply_text.specs.Calls.{SameLent}
use Rattle.ply_text.specs.Reading.{Reading}
use Rattle.ply_reader.specs.declared.scales.Scale.{Scale}
use Rattle.ply_reader.specs.Bounds.{IsNear}
use Rattle.ply_reader.specs.Declarations.{declared}
use Rattle.ply_reader.specs.MeshCalls.{mesh_reading, IsReady}
use Rattle.ply_reader.specs.Gathering.{Gave}
use Rattle.ply_reader.proofs.whole_mesh.take_points.Given as goal

abbrev pub invariant-loop-points : goal.invariant-loop-points
invariant-loop-points g l = record {
  same : SameLent l.fn.tokens l.tokens;
  ready : IsReady (mesh_reading l.tokens l.reader);
  gave : (scale : Scale) (start : Reading) → Gave scale start [] [] (mesh_reading l.fn.tokens l.fn.reader) → Gave scale start l.points.items [] (mesh_reading l.tokens l.reader);
  counted : length l.points.items + l.reader.body.vertices ≡ l.fn.reader.body.vertices;
  header : declared l.reader.body.header ≡ declared l.fn.reader.body.header;
  near : All IsNear l.points.items;
}

abbrev pub decreases-loop-points : goal.decreases-loop-points
decreases-loop-points g l = l.reader.body.vertices
