-- When a plan of memory is refused, and what it is else.
use Rattle.std.specs.Prelude.{◌≡◌, ℕ, ◌^◌, ◌≤◌, Bool, true, false, ℤ, pos, negsuc, int_lt, Option, None, Some, Result, Ok, Err}
use Rattle.svo_base.specs.declared.grids.TheConstants.{MAX_DEPTH}
use Rattle.octree_specs.specs.MemoryPlan.{Plan, plan_of, least_memory}
use Rattle.room_plan.specs.declared.planning.MemPlan.{MemPlan}
use Rattle.room_plan.specs.declared.planning.PlanFault.{PlanFault}

-- a plan as code keeps it, and what it says
abbrev pub mem_plan : Plan → MemPlan
mem_plan plan = record { depth = plan.depth; split = plan.split; pool = plan.pool; window = plan.window; slots = plan.slots }

abbrev pub plan_with : MemPlan → Plan
plan_with plan = record { depth = plan.depth; split = plan.split; pool = plan.pool; window = plan.window; slots = plan.slots }

-- how many bytes a limit allows
abbrev pub bytes_within : ℤ → ℕ
bytes_within (pos limit) = limit
bytes_within (negsuc below) = 0

-- there is no plan exactly where the limit is below the least
abbrev pub found_or_small : ℕ → Option Plan → Result MemPlan PlanFault
found_or_small depth None = Err (PlanFault.TooSmall (least_memory depth))
found_or_small depth (Some plan) = Ok (mem_plan plan)

abbrev pub at_most_two_gibibytes : ℕ → ℤ → Bool → Result MemPlan PlanFault
at_most_two_gibibytes depth limit true = Err PlanFault.TooLarge
at_most_two_gibibytes depth limit false = found_or_small depth (plan_of depth (bytes_within limit))

-- the plan for a limit, in bytes
unfoldable pub plan_from : ℕ → ℤ → Result MemPlan PlanFault
plan_from depth limit = at_most_two_gibibytes depth limit (int_lt (pos (2 ^ 31)) limit)

-- it is the plan for some limit that is accepted
pub record IsValid (plan : MemPlan) : Type 0 where
  pub some : 1 ≤ plan.depth
  pub deepest : plan.depth ≤ MAX_DEPTH
  pub limit : ℤ
  pub planned : plan_from plan.depth limit ≡ Ok plan
