-- The ends of an interval of times, and the rays that are always between planes.
use Rattle.std.proofs.Common.{◌≡◌, ℕ, ◌*◌, ◌≤◌, List, [], ◌∷◌, length, ℤ, pos, true, Some, arith, refl}
use Rattle.std.specs.List.{list_all, slice_index_or}
use Rattle.ray_fraction.specs.Fractions.{IsUpTo}
use Rattle.ray_fraction.specs.EndTimes.{IsLeastTime, IsGreatestTime}
use Rattle.ray_fraction.specs.RayLimits.{is_zero}
use Rattle.ray_fraction.specs.Spans.{AreSameTimes, IsFromUntil}
use Rattle.ray_fraction.specs.declared.spans.Interval.{Interval}
use Rattle.ray_fraction.specs.declared.times.Time.{Time}
use Rattle.ray_fraction.proofs.Order.{same_start, same_end}

-- the start, in lowest terms, is the least
pub start_is_least : (At : ℕ → ℕ → Type 0) → ((n m : ℕ) → At n m → 1 ≤ m) → (times : Interval) → AreSameTimes (IsFromUntil times.from times.until) At →
    (t : Time) → t.n * times.from.m ≡ times.from.n * t.m → IsLeastTime At (Some t)
start_is_least At timed times same t value =
    let from = times.from in
    let until = times.until in
    let starts : IsUpTo from.n from.m t.n t.m = omega (arith, value) in
    let ends = same_start from.n from.m t.n t.m until.n until.m from.some value times.some in
    ((same t.n t.m t.some).0 (starts, ends), λ n m at. same_start from.n from.m t.n t.m n m from.some value ((same n m (timed n m at)).1 at).0)

-- the end, in lowest terms, is the greatest
pub end_is_greatest : (At : ℕ → ℕ → Type 0) → ((n m : ℕ) → At n m → 1 ≤ m) → (times : Interval) → AreSameTimes (IsFromUntil times.from times.until) At →
    (t : Time) → t.n * times.until.m ≡ times.until.n * t.m → IsGreatestTime At (Some t)
end_is_greatest At timed times same t value =
    let from = times.from in
    let until = times.until in
    let ends : IsUpTo t.n t.m until.n until.m = omega (arith, value) in
    let starts = same_end until.n until.m t.n t.m from.n from.m until.some value times.some in
    ((same t.n t.m t.some).0 (starts, ends), λ n m at. same_end until.n until.m t.n t.m n m until.some value ((same n m (timed n m at)).1 at).1)

-- a list of three that has only zeros
pub stands_still : (xs : List ℤ) → length xs ≡ 3 → slice_index_or xs 0 (pos 0) ≡ pos 0 → slice_index_or xs 1 (pos 0) ≡ pos 0 → slice_index_or xs 2 (pos 0) ≡ pos 0 → list_all is_zero xs ≡ true
stands_still [] axes x y z = absurd (omega (arith, axes))
stands_still (a ∷ []) axes x y z = absurd (omega (arith, axes))
stands_still (a ∷ b ∷ []) axes x y z = absurd (omega (arith, axes))
stands_still (a ∷ b ∷ c ∷ []) axes x y z = rw (x, y, z) refl
stands_still (a ∷ b ∷ c ∷ d ∷ rest) axes x y z = absurd (omega (arith, axes))
