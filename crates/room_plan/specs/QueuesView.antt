-- What contracts see of lent queue entries.
use Rattle.std.specs.Prelude.{ℕ, List}
use Rattle.room_plan.specs.declared.queues.QueueEntry.{QueueEntry}

-- the entries, and how often one was placed, in a counter of 64 bits that stays at its last value
pub record QueuesView : Type 0 where
  pub entries : List QueueEntry
  pub placed : ℕ
