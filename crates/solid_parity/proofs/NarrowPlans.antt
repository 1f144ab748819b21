-- A plan's parts have at most 512 cells along an axis, since slots take at most 2^31 bytes.
use Rattle.std.proofs.Common.{◌≡◌, ℕ, ◌-◌, ◌*◌, ◌^◌, ◌≤◌, Bool, true, false, ℤ, pos, negsuc, Option, None, Some, Result, Ok, Err, inl, inr, refl, sym, subst, arith, lit<}
use Rattle.std.specs.Prelude.{int_lt, IfOk}
use Rattle.std.specs.Option.{option_map}
use Rattle.std.proofs.Math.Nat.{pow-le-pow_right}
use Rattle.std.proofs.lemmas.Bool.{cases_lt}
use Rattle.std.proofs.lemmas.Int.{ints}
use Rattle.octree_specs.specs.MemoryPlan.{plan_at, plan_of, split_of}
use Rattle.room_plan.specs.declared.planning.MemPlan.{MemPlan}
use Rattle.room_plan.specs.declared.planning.PlanFault.{PlanFault}
use Rattle.room_plan.specs.Planning.{mem_plan, found_or_small, at_most_two_gibibytes, bytes_within, plan_from}
use Rattle.room_plan.proofs.Sizes.{split_fits}

narrow_at : (height : ℕ) → 4 * 8 ^ height ≤ 2 ^ 31 → 2 ^ height ≤ 512
narrow_at height small = elim (cases_lt 9 height) [
  | inl deep ↦
      let most : 8 ^ 10 ≤ 8 ^ height = pow-le-pow_right {n = 8} (lit< tt) {i = 10} {j = height} (omega (arith, deep)) in absurd (omega (arith, most, small))
  | inr shallow ↦ pow-le-pow_right {n = 2} (lit< tt) {i = height} {j = 9} shallow
]

narrow_with : (depth limit split : ℕ) → 4 * 8 ^ (depth - split) ≤ limit → limit ≤ 2 ^ 31 → 2 ^ ((mem_plan (plan_at depth limit split)).depth - (mem_plan (plan_at depth limit split)).split) ≤ 512
unfolding plan_at
narrow_with depth limit split fits most = narrow_at (depth - split) (omega (arith, fits, most))

of_split : (depth limit : ℕ) (found : Option ℕ) (plan : MemPlan) → limit ≤ 2 ^ 31 → split_of depth limit ≡ found → found_or_small depth (option_map (plan_at depth limit) found) ≡ Ok plan → 2 ^ (plan.depth - plan.split) ≤ 512
of_split depth limit None plan most found is = absurd cc
of_split depth limit (Some split) plan most found is =
    let same : mem_plan (plan_at depth limit split) ≡ plan = cc in
    let fits = (split_fits depth limit split found).1 in
    subst (λ p. 2 ^ (p.depth - p.split) ≤ 512) same (narrow_with depth limit split (omega (arith, fits)) most)

most_bytes : (limit : ℤ) → int_lt (pos (2 ^ 31)) limit ≡ false → bytes_within limit ≤ 2 ^ 31
most_bytes (pos n) small = omega (arith, ints, small)
most_bytes (negsuc n) small = omega arith

of_limit : (depth : ℕ) (limit : ℤ) (large : Bool) (plan : MemPlan) → int_lt (pos (2 ^ 31)) limit ≡ large → at_most_two_gibibytes depth limit large ≡ Ok plan → 2 ^ (plan.depth - plan.split) ≤ 512
unfolding plan_of
of_limit depth limit true plan is_large is = absurd cc
of_limit depth limit false plan is_large is = of_split depth (bytes_within limit) (split_of depth (bytes_within limit)) plan (most_bytes limit is_large) refl is

pub narrow_plans : (depth : ℕ) (limit : ℤ) (result : Result MemPlan PlanFault) → result ≡ plan_from depth limit → IfOk result (λ plan. 2 ^ (plan.depth - plan.split) ≤ 512)
unfolding plan_from
narrow_plans depth limit (Ok plan) is = of_limit depth limit (int_lt (pos (2 ^ 31)) limit) plan refl (sym is)
narrow_plans depth limit (Err fault) is = tt
