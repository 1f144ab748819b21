-- The parcels that wait belong to parts under the node.
use Rattle.std.proofs.Common.{◌≡◌, ◌+◌, ◌^◌, ◌<◌, take, ap, subst, sym, arith}
use Rattle.std.proofs.lemmas.List.Sorted.{All-permutation}
use Rattle.tri_partition.proofs.SpilledRuns.{have_streams}
use Rattle.tri_partition.proofs.waiting.WaitingParcels.put.Goals as goal

pub put-requires-clause-streams : goal.put-requires-clause-streams
put-requires-clause-streams g c =
    let levels : c.self.inside.levels ≡ c.args.self.now.levels = ap (λ view. view.levels) c.self.view_is in
    let before : c.self.inside.before ≡ c.args.self.now.before = ap (λ view. view.before) c.self.view_is in
    have_streams c.self.inside.levels c.self.inside.before (g.S.Scratch.started c.args.scratch.now) (take c.self.inside.used c.self.inside.pool.now) c.self.invariant.0 c.self.invariant.1
    (subst (λ n. n + 8 ^ c.self.inside.levels < g.S.Scratch.started c.args.scratch.now) (sym before)
    (subst (λ n. c.args.self.now.before + 8 ^ n < g.S.Scratch.started c.args.scratch.now) (sym levels) c.requires.streams)) c.self.invariant.4

pub invariant_of-self : goal.invariant_of-self
invariant_of-self g c = (
  c.self.invariant.0,
  c.self.invariant.1,
  omega (arith, c.self.invariant.2, c.put.auto.pool),
  omega (arith, c.self.invariant.3, c.put.auto.pool),
  All-permutation (λ p. p.part < c.self.inside.before + 8 ^ c.self.inside.levels) (take c.self.inside.used c.self.inside.pool.now) (take c.self.inside.used c.put.new.pool) c.in_err-self-inside.ensures.refused c.self.invariant.4,
)

pub invariant_of-self-2 : goal.invariant_of-self-2
invariant_of-self-2 g c =
    let levels : c.self.inside.levels ≡ c.args.self.now.levels = ap (λ view. view.levels) c.self.view_is in
    let before : c.self.inside.before ≡ c.args.self.now.before = ap (λ view. view.before) c.self.view_is in (
      c.self.invariant.0,
      c.self.invariant.1,
      omega (arith, c.self.invariant.2, c.put.auto.pool),
      c.in_ok-self-inside.ensures.used,
      c.in_ok-self-inside.ensures.parts (c.self.inside.before + 8 ^ c.self.inside.levels) c.self.invariant.4
          (subst (λ n. c.args.parcel.now.part < n + 8 ^ c.self.inside.levels) (sym before)
          (subst (λ n. c.args.parcel.now.part < c.args.self.now.before + 8 ^ n) (sym levels) c.requires.part)),
    )
