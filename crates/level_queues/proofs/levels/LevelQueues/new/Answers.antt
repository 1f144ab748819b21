-- Nothing waits in rows of no entries.
use Rattle.std.proofs.Common.{◌≡◌, ◌-◌, suc, [], refl, sym, subst, arith}
use Rattle.level_queues.specs.Queued.{AreQueued, queue_of}
use Rattle.level_queues.proofs.Opening.{no_counts, zero_row, zero_queue, none_queued, some_cells}
use Rattle.level_queues.proofs.levels.LevelQueues.new.Goals as goal

pub invariant_of-result-clause-rows : goal.invariant_of-result-clause-rows
invariant_of-result-clause-rows c = λ k. omega (arith, zero_row k)

pub invariant_of-result-clause-inside : goal.invariant_of-result-clause-inside
invariant_of-result-clause-inside c = some_cells c.args.depth

pub returns-clause-queued : goal.returns-clause-queued
returns-clause-queued c =
    let root : c.args.depth - suc (c.args.depth - 1) ≡ 0 = omega (arith, c.requires.least) in
    record {
      queued = subst (λ above. AreQueued [] above (c.args.depth - 1) 0 (queue_of c.args.queues.entries no_counts) []) (sym root) (none_queued (c.args.depth - 1) (queue_of c.args.queues.entries no_counts) (zero_queue c.args.queues.entries));
      count = refl;
      cells = refl;
    }
