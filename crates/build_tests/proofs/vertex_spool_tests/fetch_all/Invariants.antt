-- The spool stays closed.
use Rattle.std.proofs.Common.{◌≡◌, true}
use Rattle.build_tests.proofs.vertex_spool_tests.fetch_all.Given as goal

abbrev pub invariant-loop-index : goal.invariant-loop-index
invariant-loop-index l = record {
  count : l.spool.count ≡ l.fn.spool.count;
  closed : l.spool.closed ≡ true;
  started : l.scratch.started ≡ l.fn.scratch.started;
}
