-- The parcels that wait belong to parts under the node.
use Rattle.std.proofs.Common.{◌≡◌, ◌+◌, ◌^◌, ◌<◌, take, ap, subst, sym, arith}
use Rattle.std.proofs.lemmas.List.Sorted.{All-permutation}
use Rattle.tri_partition.proofs.SpilledRuns.{have_streams}
use Rattle.tri_partition.proofs.waiting.WaitingParcels.flush.Goals as goal

pub spill-requires-clause-streams : goal.spill-requires-clause-streams
spill-requires-clause-streams g c =
    let levels : c.self.inside.levels ≡ c.args.self.now.levels = ap (λ view. view.levels) c.self.view_is in
    let before : c.self.inside.before ≡ c.args.self.now.before = ap (λ view. view.before) c.self.view_is in
    have_streams c.self.inside.levels c.self.inside.before (g.S.Scratch.started c.args.scratch.now) (take c.self.inside.used c.self.inside.pool.now) c.self.invariant.0 c.self.invariant.1
    (subst (λ n. n + 8 ^ c.self.inside.levels < g.S.Scratch.started c.args.scratch.now) (sym before)
    (subst (λ n. c.args.self.now.before + 8 ^ n < g.S.Scratch.started c.args.scratch.now) (sym levels) c.requires)) c.self.invariant.4

pub invariant_of-self : goal.invariant_of-self
invariant_of-self g c = (
  c.self.invariant.0,
  c.self.invariant.1,
  omega (arith, c.self.invariant.2, c.spill.auto.pool),
  omega (arith, c.self.invariant.3, c.spill.auto.pool),
  All-permutation (λ p. p.part < c.self.inside.before + 8 ^ c.self.inside.levels) (take c.self.inside.used c.self.inside.pool.now) (take c.self.inside.used c.spill.new.pool) c.spill.ensures.same c.self.invariant.4,
)
