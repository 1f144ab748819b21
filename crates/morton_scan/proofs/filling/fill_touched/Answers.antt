use Rattle.std.proofs.Common.{◌+◌, refl, sym, subst, ◌∙◌}
use Rattle.morton_scan.specs.Putting.{ArePut, MetUnder, first_of_part}
use Rattle.morton_scan.proofs.Putting.{put_part}
use Rattle.morton_scan.proofs.ReachedCubes.{put_unreached}
use Rattle.morton_scan.proofs.filling.fill_touched.Goals as goal

pub returns-then-not-bounds_reach-clause-slots : goal.returns-then-not-bounds_reach-clause-slots
returns-then-not-bounds_reach-clause-slots g c =
    put_part c.args.grid.now c.args.triangle.now c.args.split c.args.part c.new-node.result.height c.new-node.result.code (first_of_part c.args.grid.now c.args.split c.args.part) c.args.face c.args.slots.now c.args.slots.now
    c.new-node.ensures.height (c.new-node.ensures.code ∙ c.from.ensures) refl
    (put_unreached c.args.grid.now c.args.triangle.now c.new-node.result c.of_triangle-bounds.result (first_of_part c.args.grid.now c.args.split c.args.part) c.args.face c.args.slots.now c.new-node.ensures.node c.of_triangle-bounds.ensures (sym c.bounds_reach.ensures ∙ c.if-not-bounds_reach.true))

pub returns-clause-slots : goal.returns-clause-slots
returns-clause-slots g c =
    put_part c.args.grid.now c.args.triangle.now c.args.split c.args.part c.new-node.result.height c.new-node.result.code c.first_code.result c.args.face c.args.slots.now c.fill_under.new.slots
    c.new-node.ensures.height (c.new-node.ensures.code ∙ c.from.ensures) c.first_code.ensures
    (subst (λ t. ArePut (MetUnder c.args.grid.now t c.new-node.result.height c.new-node.result.code (c.new-node.result.code + 1)) c.first_code.result c.args.face c.args.slots.now c.fill_under.new.slots)
    c.new.ensures c.fill_under.ensures.slots)
