-- Which plans there are.
use Rattle.std.proofs.Common.{◌≡◌, ◌≤◌, ◌<◌, ◌+◌, ◌-◌, ◌^◌, ℕ, zero, suc, Bool, true, false, Some, None, lit<, refl, arith, ⊎_elim}
use Rattle.std.proofs.Common.{ℤ, pos, negsuc, ◌<ℤ◌, Ok}
use Rattle.std.specs.Prelude.{cond, nat_le, int_lt}
use Rattle.std.proofs.lemmas.Bool.Decides.{nat_tests}
use Rattle.std.proofs.lemmas.Int.{ints}
use Rattle.svo_base.specs.declared.grids.TheConstants.{MAX_DEPTH}
use Rattle.octree_specs.specs.MemoryPlan.{base_size, slots_size, finest_split, least_memory, split_of, plan_at, plan_of}
use Rattle.room_plan.specs.declared.planning.MemPlan.{MemPlan}
use Rattle.room_plan.specs.Planning.{bytes_within, mem_plan, plan_from}
use Rattle.std.specs.List.{find, range_with_len}
use Rattle.std.proofs.lemmas.Bool.{cases_lt}
use Rattle.std.proofs.Math.Nat.{pow-le-pow_right}

-- fewer levels have fewer cells
pub cells_within : (height most : ℕ) → height ≤ most → 8 ^ height ≤ 8 ^ most
cells_within height most within = pow-le-pow_right {n = 8} (lit< tt) {i = height} {j = most} within

-- ---- the split that is found

abbrev pub Found : (ℕ → Bool) → ℕ → ℕ → ℕ → Type 0
Found test from count x = (test x ≡ true) × (from ≤ x) × (x < from + count)

found_at : (test : ℕ → Bool) (from count x : ℕ) (first : Bool) → (find test (range_with_len (from + 1) count) ≡ Some x → Found test (from + 1) count x)
    → test from ≡ first → cond first (Some from) (find test (range_with_len (from + 1) count)) ≡ Some x → Found test from (suc count) x
found_at test from count x true next passes found =
    let same : from ≡ x = cc in
    (rw (← same) passes, omega (arith, same), omega (arith, same))
found_at test from count x false next fails found =
    let later = next found in
    (later.0, omega (arith, later.1), omega (arith, later.2))

-- what is found among ascending numbers passes, and is one of them
pub found_in : (test : ℕ → Bool) (from count x : ℕ) → find test (range_with_len from count) ≡ Some x → Found test from count x
found_in test from zero x found = absurd cc
found_in test from (suc count) x found = found_at test from count x (test from) (found_in test (from + 1) count x) refl found

none_at : (test : ℕ → Bool) (from count x : ℕ) (first : Bool)
    → (find test (range_with_len (from + 1) count) ≡ None → from + 1 ≤ x → x < from + 1 + count → test x ≡ false)
    → test from ≡ first → cond first (Some from) (find test (range_with_len (from + 1) count)) ≡ None → from ≤ x → x < from + suc count → test x ≡ false
none_at test from count x true next passes none low high = absurd cc
none_at test from count x false next fails none low high =
    ⊎_elim
    (λ below. let same : from ≡ x = omega (arith, below) in rw (← same) fails)
    (λ above. next none (omega (arith, above)) (omega arith)) (cases_lt x (from + 1))

-- where none is found each fails
pub none_in : (test : ℕ → Bool) (from count x : ℕ) → find test (range_with_len from count) ≡ None → from ≤ x → x < from + count → test x ≡ false
none_in test from zero x none low high = absurd (omega arith)
none_in test from (suc count) x none low high = none_at test from count x (test from) (none_in test (from + 1) count x) refl none low high

-- ---- plans

abbrev fits : ℕ → ℕ → ℕ → Bool
fits depth limit split = nat_le (base_size depth + slots_size depth split) limit

-- a split that is found is at most the finest, and its slots find room
pub split_fits : (depth limit split : ℕ) → split_of depth limit ≡ Some split → (split ≤ finest_split depth) × (base_size depth + slots_size depth split ≤ limit)
split_fits depth limit split found =
    let it = found_in (fits depth limit) 0 (finest_split depth + 1) split found in
    (omega (arith, it.2), grind (arith, nat_tests, it.0))

pub least_fits : (depth limit split : ℕ) → split_of depth limit ≡ Some split → least_memory depth ≤ limit
least_fits depth limit split found =
    let it = split_fits depth limit split found in
    omega (arith, it.1, cells_within (depth - finest_split depth) (depth - split) (omega (arith, it.0)))

pub none_fits : (depth limit : ℕ) → split_of depth limit ≡ None → limit < least_memory depth
none_fits depth limit none =
    let fails : nat_le (least_memory depth) limit ≡ false = none_in (fits depth limit) 0 (finest_split depth + 1) (finest_split depth) none (omega arith) (omega arith) in
    grind (arith, nat_tests, fails)

-- no depth needs more than is accepted
pub least_is_accepted : (depth : ℕ) → depth ≤ MAX_DEPTH → least_memory depth ≤ 2 ^ 31
least_is_accepted depth deepest =
    let few : depth - finest_split depth ≤ 8 = omega (arith, deepest) in
    omega (arith, deepest, cells_within (depth - finest_split depth) 8 few)

-- a limit is a number of bytes, unless it is below 0
pub limit_bytes : (limit : ℤ) (bytes least : ℕ) → bytes ≡ bytes_within limit → bytes < least → limit <ℤ pos least
limit_bytes (pos n) bytes least same below = omega (arith, ints, same, below)
limit_bytes (negsuc n) bytes least same below = omega (arith, ints)

pub bytes_limit : (limit : ℤ) (bytes least : ℕ) → bytes ≡ bytes_within limit → least ≤ bytes → 0 < least → limit <ℤ pos least → ⊥
bytes_limit (pos n) bytes least same enough some below = absurd (omega (arith, ints, same, enough, below))
bytes_limit (negsuc n) bytes least same enough some below = absurd (omega (arith, ints, same, enough, some))

pub plan_is : (depth : ℕ) (limit : ℤ) (bytes split : ℕ) (plan : MemPlan) → int_lt (pos (2 ^ 31)) limit ≡ false → bytes ≡ bytes_within limit
    → split_of depth bytes ≡ Some split → plan ≡ mem_plan (plan_at depth bytes split) → plan_from depth limit ≡ Ok plan
unfolding plan_from plan_of
plan_is depth limit bytes split plan small same found planned = rw (small, ← same, found, planned) refl

pub depth_of_plan : (depth limit split : ℕ) → (plan_at depth limit split).depth ≡ depth
unfolding plan_at
depth_of_plan depth limit split = refl
