use Rattle.std.proofs.Common.{◌≡◌, [], List, All}
use Rattle.ply_text.specs.Calls.{SameLent}
use Rattle.ply_text.specs.Reading.{Reading}
use Rattle.svo_base.specs.declared.shapes.Point.{Point}
use Rattle.ply_reader.specs.declared.scales.Scale.{Scale}
use Rattle.ply_reader.specs.Declarations.{declared}
use Rattle.ply_reader.specs.MeshCalls.{mesh_reading, IsReady, most_corners, IsWithinMesh}
use Rattle.ply_reader.specs.Gathering.{Gave}
use Rattle.ply_reader.proofs.whole_mesh.take_triangles.Given as goal

abbrev pub invariant-loop-triangles : goal.invariant-loop-triangles
invariant-loop-triangles g l = record {
  same : SameLent l.fn.tokens l.tokens;
  ready : IsReady (mesh_reading l.tokens l.reader);
  gave : (scale : Scale) (start : Reading) (points : List Point) → Gave scale start points [] (mesh_reading l.fn.tokens l.fn.reader) → Gave scale start points l.triangles.items (mesh_reading l.tokens l.reader);
  used_up : l.reader.body.vertices ≡ 0;
  header : declared l.reader.body.header ≡ declared l.fn.reader.body.header;
  within : All (IsWithinMesh (declared l.fn.reader.body.header)) l.triangles.items;
}

abbrev pub decreases-loop-triangles : goal.decreases-loop-triangles
decreases-loop-triangles g l = most_corners (mesh_reading l.tokens l.reader).body
