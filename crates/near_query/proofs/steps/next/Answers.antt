use Rattle.std.proofs.Common.{◌-◌, arith, sym, ◌∙◌, refl}
use Rattle.near_query.proofs.Codes.{cell_step, child_inside, code_small}
use Rattle.near_query.proofs.steps.next.Goals as goal

pub overflow_mul-code : goal.overflow_mul-code
overflow_mul-code c = let small = code_small c.args.measure.now.point c.args.measure.now.grid c.args.node.now c.args.place c.requires.grid c.requires.node c.requires.place in omega (arith, small)

pub overflow_add-code : goal.overflow_add-code
overflow_add-code c = let small = code_small c.args.measure.now.point c.args.measure.now.grid c.args.node.now c.args.place c.requires.grid c.requires.node c.requires.place in omega (arith, small)

pub returns-then-node-eq1-clause-step : goal.returns-then-node-eq1-clause-step
returns-then-node-eq1-clause-step c =
    let point = c.args.measure.now.point in
    let grid = c.args.measure.now.grid in
    let node = c.args.node.now in
    cell_step point grid node c.args.word c.args.place c.distance-distance.result c.args.known c.taken.result c.if-node-eq1.true (sym c.has_bit.ensures ∙ c.if-not-has_bit.false)
    (c.distance-distance.ensures point grid (node.height - 1) node.code c.requires.octants) (sym c.is_nearer.ensures ∙ c.if-is_nearer.false) c.taken.ensures

pub returns-clause-step : goal.returns-clause-step
returns-clause-step c =
    let point = c.args.measure.now.point in
    let grid = c.args.measure.now.grid in
    let node = c.args.node.now in (
      sym c.has_bit.ensures ∙ c.if-not-has_bit.false,
      record {
        above = omega (arith, c.requires.node.above, c.if-node-eq1.false);
        within = omega (arith, c.requires.node.within);
        inside = child_inside point grid node c.args.place c.requires.node c.requires.place;
        at = c.distance-distance.ensures point grid (node.height - 1) node.code c.requires.octants;
      },
      omega (arith, c.requires.node.above),
      refl,
      c.child_number-number.ensures,
      omega (arith, c.if-number-node.false),
    )
