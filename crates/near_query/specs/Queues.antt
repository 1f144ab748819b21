-- Nodes that wait to be read.
use Rattle.std.specs.Prelude.{ℕ, ◌^◌, Bool, List}
use Rattle.std.specs.Ordering.{nat_cmp, ordering_then}
use Rattle.std.specs.List.{sum_by}
use Rattle.std.specs.declared.cmp.Ordering.{Ordering}
use Rattle.octree_specs.specs.Cells.{Cell}
use Rattle.ray_fraction.specs.Crossings.{count_of}
use Rattle.near_query.specs.declared.queues.Waiting.{Waiting}

-- nearer nodes come first, and of equal ones the lower, and then the lesser codes and numbers
abbrev pub waiting_cmp : Waiting → Waiting → Ordering
waiting_cmp a b = ordering_then (nat_cmp a.distance b.distance) (ordering_then (nat_cmp a.height b.height) (ordering_then (nat_cmp a.code b.code) (nat_cmp a.number b.number)))

-- how many steps are left at most: a node counts for more than its eight children
abbrev pub weight_of : List Waiting → ℕ
weight_of waiting = sum_by (λ node. 9 ^ node.height) waiting

-- how many nodes pass a test, of those that wait and the nonempty ones below them
abbrev pub ahead_of : (ℕ → ℕ → Bool) → List Cell → List Waiting → ℕ
ahead_of test cells waiting = sum_by (λ node. count_of test cells node.height node.code) waiting
