use Rattle.ply_text.specs.Reading.{reading}
use Rattle.ply_text.specs.Calls.{SameLent}
use Rattle.ply_reader.specs.Rows.{passed}
use Rattle.ply_reader.specs.Runs.{Comes}
use Rattle.ply_reader.proofs.rows.pass_tokens.Given as goal

abbrev pub invariant-loop-left : goal.invariant-loop-left
invariant-loop-left g l = record {
  same : SameLent l.fn.tokens l.tokens;
  comes : Comes (passed l.count) (passed l.left) (reading l.fn.tokens) (reading l.tokens);
}

abbrev pub decreases-loop-left : goal.decreases-loop-left
decreases-loop-left g l = l.left
