-- Plans and parts of small grids, computed from the definitions alone.
use Rattle.std.proofs.Common.{◌≡◌, ℕ, None, Some, refl}
use Rattle.octree_specs.specs.MemoryPlan.{Plan, plan_at, plan_of, least_memory, plan_need}

plan_is : ℕ → ℕ → ℕ → ℕ → ℕ → Plan
plan_is depth split pool window slots = record { depth = depth; split = split; pool = pool; window = window; slots = slots }

-- the least memory at depth 1: two blocks, four vertex blocks, 64 parcels, eight queue entries, one slot
least_plan : plan_of 1 14212 ≡ Some (plan_is 1 1 64 4 1)
unfolding plan_of plan_at plan_is
least_plan = refl

below_the_least : plan_of 1 14211 ≡ None
unfolding plan_of
below_the_least = refl

least_at_twelve : least_memory 12 ≡ 67124480
least_at_twelve = refl

small_plan : plan_of 8 65536 ≡ Some (plan_is 8 4 450 26 4096)
unfolding plan_of plan_at plan_is
small_plan = refl

ample_plan : plan_of 12 268435456 ≡ Some (plan_is 12 4 1048576 65536 16777216)
unfolding plan_of plan_at plan_is
ample_plan = refl

-- 8192 of blocks, 26 of 768, 450 of 44, 64 entries of 16, 4096 slots of 4: 168 bytes stay over
small_need : plan_need (plan_is 8 4 450 26 4096) ≡ 65368
unfolding plan_is
small_need = refl
