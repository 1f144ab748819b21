use Rattle.std.proofs.Common.{◌+◌, ◌-◌, ◌*◌, arith, subst, sym, ◌∙◌, refl}
use Rattle.ray_walk.specs.Octants.{visited}
use Rattle.ray_walk.specs.Stays.{InBox, IsEntry, IsStay}
use Rattle.ray_walk.proofs.NextSteps.{child_stay, code_small, later, missed, step_cell, step_enters, step_skips}
use Rattle.ray_walk.proofs.spots.next.Goals as goal

pub returns-in_default-clause-step : goal.returns-in_default-clause-step
returns-in_default-clause-step c =
    let flight = c.args.flight.now in
    let spot = c.args.spot.now in
    let is = c.place-place.ensures.place in
    let stays = child_stay flight spot c.args.k c.child-stay.result c.requires.spot c.child-stay.ensures.planes in
    let entry = c.entry.ensures (spot.height - 1) (8 * spot.code + visited flight.turn c.args.k) (omega (arith, c.requires.spot.within)) stays in
    let never = subst (λ t. IsEntry (InBox flight.ray flight.grid (spot.height - 1) (8 * spot.code + visited flight.turn c.args.k)) flight.scale t) c.in_default.is entry in
    step_skips flight spot c.args.word c.args.k (visited flight.turn c.args.k) c.args.known refl (missed flight c.args.known (spot.height - 1) (8 * spot.code + visited flight.turn c.args.k) never)

pub returns-then-is_sooner-clause-step : goal.returns-then-is_sooner-clause-step
returns-then-is_sooner-clause-step c =
    let flight = c.args.flight.now in
    let spot = c.args.spot.now in
    let stays = child_stay flight spot c.args.k c.child-stay.result c.requires.spot c.child-stay.ensures.planes in
    let entry = c.entry.ensures (spot.height - 1) (8 * spot.code + visited flight.turn c.args.k) (omega (arith, c.requires.spot.within)) stays in
    let enters = subst (λ t. IsEntry (InBox flight.ray flight.grid (spot.height - 1) (8 * spot.code + visited flight.turn c.args.k)) flight.scale t) c.in-Some.is entry in
    step_skips flight spot c.args.word c.args.k (visited flight.turn c.args.k) c.args.known refl
    (later flight c.args.known (spot.height - 1) (8 * spot.code + visited flight.turn c.args.k) c.in-Some.ticks (sym c.is_sooner.ensures ∙ c.if-is_sooner.true) enters.1)

pub overflow_mul-code : goal.overflow_mul-code
overflow_mul-code c = let small = code_small c.args.flight.now c.args.spot.now c.place-place.result c.requires.flight c.requires.spot c.place-place.ensures.octant in omega (arith, small)

pub overflow_add-code : goal.overflow_add-code
overflow_add-code c = let small = code_small c.args.flight.now c.args.spot.now c.place-place.result c.requires.flight c.requires.spot c.place-place.ensures.octant in omega (arith, small)

pub returns-then-spot-eq1-clause-step : goal.returns-then-spot-eq1-clause-step
returns-then-spot-eq1-clause-step c =
    let flight = c.args.flight.now in
    let spot = c.args.spot.now in
    let is = c.place-place.ensures.place in
    let stays = child_stay flight spot c.args.k c.child-stay.result c.requires.spot c.child-stay.ensures.planes in
    let here = subst (λ p. IsStay flight (spot.height - 1) (8 * spot.code + p) c.child-stay.result) (sym is) stays in
    let entry = c.entry.ensures (spot.height - 1) (8 * spot.code + c.place-place.result) (omega (arith, c.requires.spot.within)) here in
    let enters = subst (λ t. IsEntry (InBox flight.ray flight.grid (spot.height - 1) (8 * spot.code + c.place-place.result)) flight.scale t) c.in-Some.is entry in
    step_cell flight spot c.args.word c.args.k c.place-place.result c.in-Some.ticks c.args.known c.taken.result c.requires.flight is (sym c.has_child.ensures ∙ c.if-not-has_child.false) c.if-spot-eq1.true enters
    (sym c.is_sooner.ensures ∙ c.if-is_sooner.false) c.taken.ensures

pub returns-clause-step : goal.returns-clause-step
returns-clause-step c =
    let flight = c.args.flight.now in
    let spot = c.args.spot.now in
    let is = c.place-place.ensures.place in
    let stays = child_stay flight spot c.args.k c.child-stay.result c.requires.spot c.child-stay.ensures.planes in
    let here = subst (λ p. IsStay flight (spot.height - 1) (8 * spot.code + p) c.child-stay.result) (sym is) stays in
    let entry = c.entry.ensures (spot.height - 1) (8 * spot.code + c.place-place.result) (omega (arith, c.requires.spot.within)) here in
    let enters = subst (λ t. IsEntry (InBox flight.ray flight.grid (spot.height - 1) (8 * spot.code + c.place-place.result)) flight.scale t) c.in-Some.is entry in
    step_enters flight spot c.args.word c.args.k c.place-place.result c.in-Some.ticks c.child_number-number.result c.child-stay.result c.args.known c.requires.spot is c.place-place.ensures.octant
    (sym c.has_child.ensures ∙ c.if-not-has_child.false) c.if-spot-eq1.false stays enters (sym c.is_sooner.ensures ∙ c.if-is_sooner.false) c.child_number-number.ensures c.if-number-spot.false
