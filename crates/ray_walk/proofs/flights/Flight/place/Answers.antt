use Rattle.std.proofs.Common.{◌+◌, ◌*◌, ◌<◌, [], get_or, arith, subst, sym, ap, ◌∙◌, lit<}
use Rattle.ray_walk.proofs.Siblings.{turn_below, visited_below}
use Rattle.ray_walk.proofs.Orders.{order_at}
use Rattle.ray_walk.proofs.flights.Flight.place.Goals as goal

turned : (c : goal.Start) → c.args.self.now.turn < 8
turned c = subst (λ t. t < 8) (sym c.requires.flight.turn) (turn_below c.args.self.now.ray)

pub overflow_mul-self : goal.overflow_mul-self
overflow_mul-self c = let below = turned c in omega (arith, below)

pub overflow_add-self : goal.overflow_add-self
overflow_add-self c = let below = subst (λ t. t < 8) (sym c.requires.flight.turn) (turn_below c.args.self.now.ray) in omega (arith, below, c.requires.k)

pub get-requires : goal.get-requires
get-requires c = let below = subst (λ t. t < 8) (sym c.requires.flight.turn) (turn_below c.args.self.now.ray) in (lit< tt, omega (arith, below, c.requires.k))

pub returns-clause-place : goal.returns-clause-place
returns-clause-place c =
    let below = subst (λ t. t < 8) (sym c.requires.flight.turn) (turn_below c.args.self.now.ray) in
    let entry = order_at c.args.self.now.turn c.args.k below c.requires.k in
    c.from.ensures ∙ ap (λ case. get_or case 0 0) (c.get.ensures ∙ (ap (λ orders. get_or orders (8 * c.args.self.now.turn + c.args.k) []) c.requires.flight.orders ∙ entry))

pub returns-clause-octant : goal.returns-clause-octant
returns-clause-octant c =
    let below = subst (λ t. t < 8) (sym c.requires.flight.turn) (turn_below c.args.self.now.ray) in
    let entry = order_at c.args.self.now.turn c.args.k below c.requires.k in
    subst (λ place. place < 8) (sym (c.from.ensures ∙ ap (λ case. get_or case 0 0) (c.get.ensures ∙ (ap (λ orders. get_or orders (8 * c.args.self.now.turn + c.args.k) []) c.requires.flight.orders ∙ entry))))
    (visited_below c.args.self.now.turn c.args.k below c.requires.k)
