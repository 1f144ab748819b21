use Rattle.std.proofs.Common.{◌≡◌, length}
use Rattle.std.specs.Vec.{vec_capacity}
use Rattle.dev_traits.specs.ScratchRooms.{AreMade}
use Rattle.dev_traits.proofs.memory_scratch.MemScratch.new.Given as goal

abbrev pub invariant-loop-made : goal.invariant-loop-made
invariant-loop-made l = (length l.lists.items ≡ l._made) × AreMade l.lists.items (λ list. list.items) vec_capacity l.fn.room
