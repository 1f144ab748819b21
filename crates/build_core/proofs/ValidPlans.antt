-- What a valid plan is sure to have.
use Rattle.std.proofs.Common.{◌≡◌, ℕ, ◌-◌, ◌^◌, ◌≤◌, ◌<◌, Bool, true, false, ℤ, pos, Option, None, Some, Ok, refl, subst, arith}
use Rattle.std.specs.Prelude.{int_lt}
use Rattle.std.specs.Option.{option_map}
use Rattle.octree_specs.specs.MemoryPlan.{finest_split, plan_at, plan_of, split_of}
use Rattle.room_plan.specs.declared.planning.MemPlan.{MemPlan}
use Rattle.room_plan.specs.Planning.{IsValid, mem_plan, found_or_small, at_most_two_gibibytes, bytes_within, plan_from}
use Rattle.room_plan.proofs.Sizes.{split_fits}

pub record HasSizes (depth : ℕ) (plan : MemPlan) : Type 0 where
  pub depth_is : plan.depth ≡ depth
  pub split : plan.split ≤ 4
  pub within : plan.split ≤ plan.depth
  pub pool : 0 < plan.pool
  pub window : 0 < plan.window
  pub slots : plan.slots ≡ 8 ^ (plan.depth - plan.split)

sizes_at : (depth limit split : ℕ) → split ≤ finest_split depth → HasSizes depth (mem_plan (plan_at depth limit split))
unfolding plan_at
sizes_at depth limit split small = record {
  depth_is = refl;
  split = omega (arith, small);
  within = omega (arith, small);
  pool = omega arith;
  window = omega arith;
  slots = refl;
}

of_split : (depth limit : ℕ) (found : Option ℕ) (plan : MemPlan) → split_of depth limit ≡ found → found_or_small depth (option_map (plan_at depth limit) found) ≡ Ok plan → HasSizes depth plan
of_split depth limit None plan found is = absurd cc
of_split depth limit (Some split) plan found is =
    let same : mem_plan (plan_at depth limit split) ≡ plan = cc in
    subst (HasSizes depth) same (sizes_at depth limit split (split_fits depth limit split found).0)

of_limit : (depth : ℕ) (limit : ℤ) (large : Bool) (plan : MemPlan) → at_most_two_gibibytes depth limit large ≡ Ok plan → HasSizes depth plan
unfolding plan_of
of_limit depth limit true plan is = absurd cc
of_limit depth limit false plan is = of_split depth (bytes_within limit) (split_of depth (bytes_within limit)) plan refl is

pub planned : (depth : ℕ) (limit : ℤ) (plan : MemPlan) → plan_from depth limit ≡ Ok plan → HasSizes depth plan
unfolding plan_from
planned depth limit plan is = of_limit depth limit (int_lt (pos (2 ^ 31)) limit) plan is

pub valid_sizes : (plan : MemPlan) → IsValid plan → HasSizes plan.depth plan
valid_sizes plan valid = planned plan.depth valid.limit plan valid.planned
