use Rattle.std.proofs.Common.{◌∷◌, map, subst}
use Rattle.std.specs.List.Sorted.{IsPermutation}
use Rattle.std.specs.BinaryHeap.{heap_items}
use Rattle.std.specs.declared.cmp.Reverse.{Reverse}
use Rattle.std.proofs.lemmas.List.Sorted.{IsPermutation-map}
use Rattle.near_query.specs.declared.queues.Waiting.{Waiting}
use Rattle.near_query.proofs.HeapOrder.{least_of}
use Rattle.near_query.proofs.queues.Queue.take.Goals as goal

pub returns-clause-items : goal.returns-clause-items
returns-clause-items c = subst (λ old. IsPermutation old (c.in_ok-node.field-0.0 ∷ map (λ (r : Reverse Waiting). r.0) (heap_items c.pop.new.self))) c.self.view_is
    (IsPermutation-map (λ (r : Reverse Waiting). r.0) (heap_items c.self.inside.heap) (_ ∷ heap_items c.pop.new.self) c.in_ok-node.ensures.permutation)

pub returns-clause-least : goal.returns-clause-least
returns-clause-least c = least_of c.in_ok-node.field-0 (heap_items c.pop.new.self) (c.in_ok-node.ensures.below_top c.self.invariant)
