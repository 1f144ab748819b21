use Rattle.std.proofs.Common.{drop}
use Rattle.ply_text.specs.Reading.{reading}
use Rattle.ply_text.specs.Calls.{SameLent}
use Rattle.ply_reader.specs.Rows.{row_passed}
use Rattle.ply_reader.specs.Runs.{Comes}
use Rattle.ply_reader.proofs.rows.pass_row.Given as goal

abbrev pub invariant-loop-property : goal.invariant-loop-property
invariant-loop-property g l = record {
  same : SameLent l.fn.tokens l.tokens;
  comes : Comes (row_passed l.properties) (row_passed (drop l.property-index l.properties)) (reading l.fn.tokens) (reading l.tokens);
}
