use Rattle.std.proofs.Common.{◌≡◌, [], length, None, refl, rules}
use Rattle.std.specs.Vec.{vec_capacity}
use Rattle.dev_traits.proofs.Rooms.{rooms_made, next_made}
use Rattle.dev_traits.proofs.memory_scratch.MemScratch.new.Goals as goal

pub loop-made-preserved : goal.loop-made-preserved
loop-made-preserved c =
    next_made c.loop-made.lists.items c.push.new.self.items c.in_ok-with_capacity.field-0 (λ list. list.items) vec_capacity c.args.room c.loop-made._made
    c.loop-made.invariant.0 c.loop-made.invariant.1 c.in_ok-with_capacity.ensures.items c.in_ok-with_capacity.ensures.capacity c.in_ok-push.ensures.items

pub invariant_of-result : goal.invariant_of-result
invariant_of-result c = (λ _. refl, rooms_made c.loop-made.lists.items (λ list. list.items) vec_capacity c.args.room c.loop-made.invariant.1)

pub returns : goal.returns
returns c =
    let made : length c.loop-made.lists.items ≡ c.args.streams = search rules in
    λ i. record { streams = []; asked = None; made = made i; room = c.args.room; fails = c.in_ok-from_slice.ensures.items i; calls = 0; faults = 0 }
