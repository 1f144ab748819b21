use Rattle.std.proofs.Common.{drop}
use Rattle.ply_text.specs.Reading.{reading}
use Rattle.ply_text.specs.Calls.{SameLent}
use Rattle.ply_reader.specs.Declarations.{declared}
use Rattle.ply_reader.specs.Rows.{elements_passed}
use Rattle.ply_reader.specs.Runs.{Comes}
use Rattle.ply_reader.proofs.rows.pass_elements.Given as goal

abbrev pub invariant-loop-element : goal.invariant-loop-element
invariant-loop-element g l = record {
  same : SameLent l.fn.tokens l.tokens;
  comes : Comes (elements_passed (declared l.header) l.elements) (elements_passed (declared l.header) (drop l.element-index l.elements)) (reading l.fn.tokens) (reading l.tokens);
}
