use Rattle.solid_parity.proofs.BoxColumns.{reached_from}
use Rattle.solid_parity.proofs.columns.PartColumns.ys.Goals as goal

pub returns : goal.returns
returns c =
    let s = c.self.inside in
    rw (← c.self.view_is)
    (reached_from _ 1 c.args.extent.now c.reached.result s.y s.step s.side c.self.invariant.y_is c.self.invariant.step_is c.self.invariant.side_is c.reached.ensures.within c.reached.ensures.before c.reached.ensures.behind)
