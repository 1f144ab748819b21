-- As many points were put as the index says.
use Rattle.std.proofs.Common.{◌≡◌, false}
use Rattle.build_tests.proofs.vertex_spool_tests.put_all.Given as goal

abbrev pub invariant-loop-index : goal.invariant-loop-index
invariant-loop-index l = record {
  count : l.spool.count ≡ l.index;
  unclosed : l.spool.closed ≡ false;
  started : l.scratch.started ≡ l.fn.scratch.started;
}
