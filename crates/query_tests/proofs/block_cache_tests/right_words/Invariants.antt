-- The file is as it was, and the count is at most that of the words read.
use Rattle.std.proofs.Common.{◌≡◌, ◌≤◌}
use Rattle.query_tests.proofs.block_cache_tests.right_words.Given as goal

abbrev pub invariant-loop-turn : goal.invariant-loop-turn
invariant-loop-turn g l = record {
  records : l.records ≡ (g.R.Records.file l.nodes).totals.records;
  some : 1 ≤ l.records;
  right : l.right ≤ l.turn;
  lender : g.R.Records.lender l.nodes ≡ g.R.Records.lender l.fn.nodes;
  later : g.R.Records.faults l.fn.nodes ≤ g.R.Records.faults l.nodes;
}
