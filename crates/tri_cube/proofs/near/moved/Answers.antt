use Rattle.std.proofs.Common.{sym, subst}
use Rattle.tri_cube.specs.Near.{PointWithin, moved}
use Rattle.tri_cube.proofs.NearCorner.{moved_near}
use Rattle.tri_cube.proofs.near.moved.Goals as goal

pub seen_from-requires-2 : goal.seen_from-requires-2
unfolding moved
seen_from-requires-2 c = (moved_near c.args.triangle.now c.requires).b

pub seen_from-requires-3 : goal.seen_from-requires-3
unfolding moved
seen_from-requires-3 c = (moved_near c.args.triangle.now c.requires).c

pub returns-clause-near : goal.returns-clause-near
unfolding moved
returns-clause-near c =
    let near = moved_near c.args.triangle.now c.requires in
    record {
      a = subst PointWithin (sym c.seen_from.ensures) near.a;
      b = subst PointWithin (sym c.seen_from-2.ensures) near.b;
      c = subst PointWithin (sym c.seen_from-3.ensures) near.c;
    }
