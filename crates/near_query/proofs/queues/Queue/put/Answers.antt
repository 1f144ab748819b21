use Rattle.std.proofs.Common.{◌∷◌, map, subst}
use Rattle.std.specs.List.Sorted.{IsPermutation}
use Rattle.std.specs.BinaryHeap.{heap_items}
use Rattle.std.specs.declared.cmp.Reverse.{Reverse}
use Rattle.std.proofs.lemmas.List.Sorted.{IsPermutation-map}
use Rattle.near_query.specs.declared.queues.Waiting.{Waiting}
use Rattle.near_query.proofs.queues.Queue.put.Goals as goal
use Rattle.near_query.proofs.queues.Queue.put.Goals.{in-Ok, in-Err}

pub returns : goal.returns
returns c = elim c.match-push.branch [
  | in-Ok w ↦ rw w.result-is (subst (λ old. IsPermutation (c.args.node ∷ old) (map (λ (r : Reverse Waiting). r.0) (heap_items c.push.new.self))) c.self.view_is
      (IsPermutation-map (λ (r : Reverse Waiting). r.0) (_ ∷ heap_items c.self.inside.heap) (heap_items c.push.new.self) w.in-Ok.ensures.permutation))
  | in-Err w ↦ rw w.result-is tt
]
