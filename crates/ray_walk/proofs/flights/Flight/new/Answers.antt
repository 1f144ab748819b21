use Rattle.std.proofs.Common.{◌*◌, arith, ◌∙◌}
use Rattle.ray_walk.proofs.NodeStays.{pace_is, scale_some, pace_some, pace_slow}
use Rattle.ray_walk.proofs.flights.Flight.new.Goals as goal

pub returns-clause-flight : goal.returns-clause-flight
returns-clause-flight c =
    let x = c.factor-x in
    let y = c.factor-y in
    let z = c.factor-z in
    record {
      ray = x.ensures.limits;
      grid = c.requires;
      turn = c.turn.ensures;
      orders = c.octant_orders.ensures;
      some = scale_some c.scale.result x.result y.result z.result c.scale.ensures x.ensures.some y.ensures.some z.ensures.some;
      x = pace_is c.args.ray.now 0 x.result (y.result * z.result) c.scale.result x.ensures.value c.scale.ensures (pace_some y.result z.result y.ensures.some z.ensures.some) (pace_slow y.result z.result y.ensures.within z.ensures.within);
      y = pace_is c.args.ray.now 1 y.result (x.result * z.result) c.scale.result y.ensures.value (c.scale.ensures ∙ omega arith) (pace_some x.result z.result x.ensures.some z.ensures.some) (pace_slow x.result z.result x.ensures.within z.ensures.within);
      z = pace_is c.args.ray.now 2 z.result (x.result * y.result) c.scale.result z.ensures.value (c.scale.ensures ∙ omega arith) (pace_some x.result y.result x.ensures.some y.ensures.some) (pace_slow x.result y.result x.ensures.within y.ensures.within);
    }
