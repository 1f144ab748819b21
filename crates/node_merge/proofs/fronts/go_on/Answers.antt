-- The cell given last stays the first one.
use Rattle.std.proofs.Common.{sym, subst, arith}
use Rattle.node_merge.proofs.Heads.{AtLeast, front_later}
use Rattle.node_merge.proofs.fronts.go_on.Goals as goal

pub returns-in_default-clause-front : goal.returns-in_default-clause-front
returns-in_default-clause-front g c = λ before less is.
    front_later _ before c.args.from c.args.front.now (omega (arith, less)) (subst (AtLeast c.args.from) (sym c.in_default.is) tt) is

pub returns-else-cell-from-clause-front : goal.returns-else-cell-from-clause-front
returns-else-cell-from-clause-front g c = λ before less is.
    front_later _ before c.args.from c.args.front.now (omega (arith, less)) (subst (AtLeast c.args.from) (sym c.in-Some.is) (omega (arith, c.if-cell-from.false))) is
