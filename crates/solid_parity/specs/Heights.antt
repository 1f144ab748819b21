-- The centres of a column against a triangle's plane.
use Rattle.std.specs.Prelude.{◌≡◌, ℕ, ◌+◌, ◌*◌, ◌^◌, ◌<◌, ◌≤◌, Bool, true, false, ℤ, pos, ◌+ℤ◌, ◌*ℤ◌, unsigned_abs}
use Rattle.solid_parity.specs.Parity.{have_opposite_signs}
use Rattle.solid_parity.specs.declared.heights.Heights.{Heights}

-- the height of a centre over the triangle's first corner
abbrev pub height_at : Heights → ℕ → ℤ
height_at h place = h.low +ℤ pos (h.step * place)

-- on which side of the plane it is
abbrev pub side_at : Heights → ℕ → ℤ
side_at h place = h.base +ℤ (h.slope *ℤ height_at h place)

-- the plane passes above it
unfoldable pub is_above_at : Heights → ℕ → Bool
is_above_at h place = have_opposite_signs h.slope (side_at h place)

-- the sizes of what so many centres need
pub record AreNear (h : Heights) (count : ℕ) : Type 0 where
  pub slope : unsigned_abs h.slope ≤ 2 ^ 69
  pub base : unsigned_abs h.base ≤ 2 ^ 104
  pub low : unsigned_abs h.low + h.step * count ≤ 2 ^ 34

-- the plane passes above so many centres from the lowest one on, and above no further one
pub record AreLowest (h : Heights) (count lowest : ℕ) : Type 0 where
  pub within : lowest ≤ count
  pub above : (place : ℕ) → place < lowest → is_above_at h place ≡ true
  pub others : (place : ℕ) → lowest ≤ place → place < count → is_above_at h place ≡ false
