use Rattle.std.proofs.Common.{◌≡◌, ◌≤◌, ◌-◌, ◌^◌, ℕ, List, None}
use Rattle.std.specs.Prelude.{Option}
use Rattle.ply_text.specs.Reading.{Reading, reading}
use Rattle.ply_text.specs.Calls.{SameLent}
use Rattle.ray_answers.specs.Runs.{IsUnderWay}
use Rattle.ray_answers.proofs.answering.answer_each.Given as goal

abbrev pub invariant-loop-stop : goal.invariant-loop-stop
invariant-loop-stop g l = record {
  lent : SameLent l.fn.tokens l.tokens;
  free : l.tokens.stopped ≡ None;
  way : (a : Reading) (start : Option (List ℕ)) → IsUnderWay l.fn.kind (g.R.Records.file l.fn.nodes) a (reading l.fn.tokens) start (g.O.ByteSink.written l.fn.out) l.fn.waiting.items
      → IsUnderWay l.fn.kind (g.R.Records.file l.fn.nodes) a (reading l.tokens) start (g.O.ByteSink.written l.out) l.waiting.items;
  same : g.R.Records.file l.nodes ≡ g.R.Records.file l.fn.nodes;
  lender : g.R.Records.lender l.nodes ≡ g.R.Records.lender l.fn.nodes;
  input : g.I.ByteSource.faults l.fn.tokens.input.now ≤ g.I.ByteSource.faults l.tokens.input.now;
  output : g.O.ByteSink.faults l.fn.out ≤ g.O.ByteSink.faults l.out;
  file : g.R.Records.faults l.fn.nodes ≤ g.R.Records.faults l.nodes;
}

abbrev pub decreases-loop-stop : goal.decreases-loop-stop
decreases-loop-stop g l = 2 ^ 62 - l.tokens.place
