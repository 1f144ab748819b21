use Rattle.std.proofs.Common.{drop}
use Rattle.ply_text.specs.Reading.{reading}
use Rattle.ply_text.specs.Calls.{SameLent}
use Rattle.ply_reader.specs.Bounds.{IsNear}
use Rattle.ply_reader.specs.Rows.{vertex_row, origin}
use Rattle.ply_reader.specs.Runs.{Comes}
use Rattle.ply_reader.proofs.vertices.take_vertex.Given as goal

abbrev pub invariant-loop-property : goal.invariant-loop-property
invariant-loop-property g l = record {
  same : SameLent l.fn.tokens l.tokens;
  near : IsNear l.point;
  comes : Comes (vertex_row l.scale l.properties origin) (vertex_row l.scale (drop l.property-index l.properties) l.point) (reading l.fn.tokens) (reading l.tokens);
}
