-- When a ray is between the planes of a lane.
use Rattle.std.proofs.Common.{◌≡◌, ℕ, ◌*◌, ◌≤◌, true, false, Bool, arith, refl, inl, inr, ℤ, pos, negsuc, ◌*ℤ◌, ◌≤ℤ◌, ◌<ℤ◌}
use Rattle.std.specs.Prelude.{unsigned_abs, max, int_le}
use Rattle.std.specs.Int.{int_max}
use Rattle.std.proofs.lemmas.Bool.{and_from, and_parts, cases_Bool, cases_lt}
use Rattle.std.proofs.lemmas.Int.{ints, clamps}
use Rattle.octree_specs.proofs.Integers.{product_at_most, product_not_negative, product_not_positive, factor_at_most}
use Rattle.ray_fraction.specs.Fractions.{IsUpTo}
use Rattle.ray_walk.specs.Lanes.{IsInLane, later_of, allows_at}

int_le_from : (a b : ℤ) → a ≤ℤ b → int_le a b ≡ true
int_le_from a b below = elim (cases_Bool (int_le a b)) [
  | inl is ↦ is
  | inr not ↦ absurd (omega (arith, ints, below, not))
]

near_within : (near : ℤ) → near ≤ℤ pos (unsigned_abs (int_max near (pos 0)))
near_within (pos near) = omega (arith, ints, clamps)
near_within (negsuc near) = omega (arith, ints, clamps)

-- a time by which the near plane is passed is not before the ticks to it
near_least : (near : ℤ) (scale n m : ℕ) → (pos m *ℤ near) ≤ℤ (pos n *ℤ pos scale) → unsigned_abs (int_max near (pos 0)) * m ≤ n * scale
near_least (pos near) scale n m passed =
    let top : unsigned_abs (int_max (pos near) (pos 0)) ≡ near = omega (arith, ints, clamps) in
    rw top (omega (arith, ints, passed))
near_least (negsuc near) scale n m passed =
    let top : unsigned_abs (int_max (negsuc near) (pos 0)) ≡ 0 = omega (arith, ints, clamps) in
    rw top (omega arith)

pub later_near : (near far : ℤ) (moving : Bool) (ticks : ℕ) → moving ≡ true → near ≤ℤ pos (later_of (record { near = near; far = far; moving = moving }) ticks)
later_near near far true ticks moves = omega (arith, ints, near_within near)
later_near near far false ticks moves = cc

pub later_from : (near far : ℤ) (moving : Bool) (ticks : ℕ) → ticks ≤ later_of (record { near = near; far = far; moving = moving }) ticks
later_from near far true ticks = omega arith
later_from near far false ticks = omega arith

max_up : (a b scale n m : ℕ) → a * m ≤ n * scale → b * m ≤ n * scale → max a b * m ≤ n * scale
max_up a b scale n m first second = elim (cases_lt a b) [
  | inl less ↦ let top : max a b ≡ b = omega (arith, less) in rw top second
  | inr more ↦ let top : max a b ≡ a = omega (arith, more) in rw top first
]

pub later_least : (near far : ℤ) (moving : Bool) (ticks scale n m : ℕ) → IsUpTo ticks scale n m → IsInLane (record { near = near; far = far; moving = moving }) scale n m
    → IsUpTo (later_of (record { near = near; far = far; moving = moving }) ticks) scale n m
later_least near far true ticks scale n m least gone = max_up ticks (unsigned_abs (int_max near (pos 0))) scale n m least (near_least near scale n m gone.near_passed)
later_least near far false ticks scale n m least gone = least

-- where the lane allows the ticks the ray is in it
pub allowed_in : (near far : ℤ) (moving : Bool) (ticks scale : ℕ) → (moving ≡ true → near ≤ℤ pos ticks) → allows_at (record { near = near; far = far; moving = moving }) ticks ≡ true
    → IsInLane (record { near = near; far = far; moving = moving }) scale ticks scale
allowed_in near far true ticks scale reached allows =
    let some : pos 0 ≤ℤ pos scale = omega (arith, ints) in
    let far_in : pos ticks ≤ℤ far = omega (arith, ints, allows) in
    let turned : pos ticks *ℤ pos scale ≡ pos scale *ℤ pos ticks = omega (arith, ints) in
    record {
      near_passed = rw turned (product_at_most (pos scale) near (pos ticks) some (reached refl));
      far_ahead = rw turned (product_at_most (pos scale) (pos ticks) far some far_in);
    }
allowed_in near far false ticks scale reached allows =
    let parts : (int_le near (pos 0) ≡ true) × (int_le (pos 0) far ≡ true) = and_parts (int_le near (pos 0)) (int_le (pos 0) far) allows in
    let some : pos 0 ≤ℤ pos scale = omega (arith, ints) in
    let behind : near ≤ℤ pos 0 = omega (arith, ints, parts.0) in
    let ahead : pos 0 ≤ℤ far = omega (arith, ints, parts.1) in
    let none : pos ticks *ℤ pos 0 ≡ pos 0 = omega (arith, ints) in
    record {
      near_passed = rw none (product_not_positive (pos scale) near some behind);
      far_ahead = rw none (product_not_negative (pos scale) far some ahead);
    }

-- where the ray is in it at a later time it allows the ticks
pub in_allows : (near far : ℤ) (moving : Bool) (ticks scale n m : ℕ) → 1 ≤ m → IsUpTo ticks scale n m → IsInLane (record { near = near; far = far; moving = moving }) scale n m
    → allows_at (record { near = near; far = far; moving = moving }) ticks ≡ true
in_allows near far true ticks scale n m some least gone =
    let above : pos 0 <ℤ pos m = omega (arith, ints, some) in
    let sooner : (pos m *ℤ pos ticks) ≤ℤ (pos n *ℤ pos scale) = omega (arith, ints, least) in
    let up : (pos m *ℤ pos ticks) ≤ℤ (pos m *ℤ far) = omega (arith, ints, sooner, gone.far_ahead) in
    let far_in : pos ticks ≤ℤ far = factor_at_most (pos m) (pos ticks) far above up in
    int_le_from (pos ticks) far far_in
in_allows near far false ticks scale n m some least gone =
    let above : pos 0 <ℤ pos m = omega (arith, ints, some) in
    let none : pos n *ℤ pos 0 ≡ pos m *ℤ pos 0 = omega (arith, ints) in
    let behind : near ≤ℤ pos 0 = factor_at_most (pos m) near (pos 0) above (rw (← none) gone.near_passed) in
    let ahead : pos 0 ≤ℤ far = factor_at_most (pos m) (pos 0) far above (rw (← none) gone.far_ahead) in
    and_from (int_le near (pos 0)) (int_le (pos 0) far) (int_le_from near (pos 0) behind) (int_le_from (pos 0) far ahead)
