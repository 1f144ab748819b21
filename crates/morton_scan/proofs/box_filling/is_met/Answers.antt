use Rattle.std.proofs.Common.{refl, sym, ◌∙◌}
use Rattle.morton_scan.proofs.ReachedCubes.{met_within}
use Rattle.morton_scan.proofs.box_filling.is_met.Goals as goal

pub returns-then-bounds_within-clause-meets : goal.returns-then-bounds_within-clause-meets
returns-then-bounds_within-clause-meets g c =
    (λ yes. met_within c.args.put.now.triangle c.args.put.now.bounds c.args.node.now.cube c.requires.bounds (sym c.bounds_within.ensures ∙ c.if-bounds_within.true), λ met. refl)
