-- Neither block holds a word yet.
use Rattle.node_merge.proofs.pairs.Pair.new.Goals as goal

pub invariant_of-result : goal.invariant_of-result
invariant_of-result g c = record {
  first_is = c.half_of.ensures.half (g.N.NodeStore.files c.args.store.now) (g.N.NodeStore.current c.args.store.now) c.requires.first;
  second_is = c.half_of-2.ensures.half (g.N.NodeStore.files c.args.store.now) (g.N.NodeStore.current c.args.store.now) c.requires.second;
}
