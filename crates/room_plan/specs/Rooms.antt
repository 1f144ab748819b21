-- The memory that a build works in.
use Rattle.std.specs.Prelude.{◌≡◌, ◌*◌, length}
use Rattle.room_plan.specs.declared.planning.MemPlan.{MemPlan}
use Rattle.room_plan.specs.declared.rooms.Room.{Room}

-- each buffer has just the length that its plan says, and there are eight queue entries for each level
pub record HasRoomOf (plan : MemPlan) (room : Room) : Type 0 where
  pub block_a : length room.block_a ≡ 4096
  pub block_b : length room.block_b ≡ 4096
  pub window : room.window ≡ plan.window
  pub pool : room.pool ≡ plan.pool
  pub queues : length room.queues ≡ 8 * plan.depth
  pub slots : length room.slots ≡ plan.slots
