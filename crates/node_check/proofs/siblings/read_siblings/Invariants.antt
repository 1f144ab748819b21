-- The words so far are those of the siblings so far.
use Rattle.std.proofs.Common.{◌≡◌, ℕ, ◌+◌, ◌<◌, ◌≤◌}
use Rattle.std.specs.Prelude.{IfSome, slice_index, length}
use Rattle.node_check.specs.Counts.{LooksAsReads}
use Rattle.node_check.proofs.siblings.read_siblings.Given as goal

abbrev pub invariant-loop-place : goal.invariant-loop-place
invariant-loop-place g l = record {
  words : IfSome (g.R.Records.file l.fn.nodes).words (λ words. (k : ℕ) → k < l.place → slice_index l.siblings k ≡ slice_index words (l.base + k));
  wide : length l.siblings ≡ 8;
  once : l.reads ≡ l.fn.reads + l.place;
  looked : LooksAsReads (g.R.Records.looked l.fn.nodes) (g.R.Records.looked l.nodes) l.fn.reads l.reads;
  same : g.R.Records.file l.nodes ≡ g.R.Records.file l.fn.nodes;
  lender : g.R.Records.lender l.nodes ≡ g.R.Records.lender l.fn.nodes;
  later : g.R.Records.faults l.fn.nodes ≤ g.R.Records.faults l.nodes;
}
