use Rattle.std.proofs.Common.{◌≡◌, ◌+◌, ◌*◌, ◌/◌, ◌%◌, ◌^◌, arith, subst, sym, refl, ap}
use Rattle.std.specs.Prelude.{◌==◌}
use Rattle.ray_walk.specs.Octants.{visited}
use Rattle.ray_walk.specs.Stays.{IsStay}
use Rattle.ray_walk.proofs.NodeStays.{lane_half}
use Rattle.ray_walk.proofs.flights.Flight.child.Goals as goal

pub returns-clause-planes : goal.returns-clause-planes
returns-clause-planes c height node within stays =
    let flight = c.args.self.now in
    let stay = c.args.stay.now in
    let whole : c.args.k ≡ c.args.k / 2 ^ 0 = omega arith in
    subst (λ turn. IsStay flight height (8 * node + visited turn c.args.k) (record { x = c.half.result; y = c.half-2.result; z = c.half-3.result })) (sym c.requires.flight.turn) (record {
      x = lane_half flight.ray flight.grid 0 height node flight.x c.args.k stay.x c.half.result _ (omega arith) within c.requires.k (ap (λ n. n % 2 == 1) whole) c.half.ensures.near c.half.ensures.far c.half.ensures.moving stays.x;
      y = lane_half flight.ray flight.grid 1 height node flight.y c.args.k stay.y c.half-2.result _ (omega arith) within c.requires.k refl c.half-2.ensures.near c.half-2.ensures.far c.half-2.ensures.moving stays.y;
      z = lane_half flight.ray flight.grid 2 height node flight.z c.args.k stay.z c.half-3.result _ (omega arith) within c.requires.k refl c.half-3.ensures.near c.half-3.ensures.far c.half-3.ensures.moving stays.z;
      near = record { x = c.half.ensures.bounds; y = c.half-2.ensures.bounds; z = c.half-3.ensures.bounds };
    })
