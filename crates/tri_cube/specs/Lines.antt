-- Lines across a direction, and where a box is beside one, as both are seen along an axis.
use Rattle.std.specs.Prelude.{◌^◌, ◌≤◌, ℤ, pos, ◌+ℤ◌, ◌*ℤ◌, unsigned_abs, int_lt, Bool, if◌then◌else◌}
use Rattle.tri_cube.specs.Extents.{ExtentShape}

-- the points whose product with a direction is `reach`
pub record Line : Type 0 where
  pub first : ℤ
  pub second : ℤ
  pub reach : ℤ

abbrev pub line : ℤ → ℤ → ℤ → Line
line first second reach = record { first = first; second = second; reach = reach }

-- the sizes that the numbers of a triangle's lines keep
pub record LineWithin (l : Line) : Type 0 where
  pub first : unsigned_abs l.first ≤ 2 ^ 33
  pub second : unsigned_abs l.second ≤ 2 ^ 33
  pub reach : unsigned_abs l.reach ≤ 2 ^ 69

-- the least and the greatest product of a step with what lies in a between
unfoldable pub least_of : ℤ → ExtentShape → ℤ
least_of step s = step *ℤ (if int_lt step (pos 0) then s.high else s.low)

unfoldable pub greatest_of : ℤ → ExtentShape → ℤ
greatest_of step s = step *ℤ (if int_lt step (pos 0) then s.low else s.high)

-- all of a box is farther than the line
unfoldable pub is_beyond : Line → ExtentShape → ExtentShape → Bool
is_beyond l first second = int_lt l.reach (least_of l.first first +ℤ least_of l.second second)

-- no part of a box is as far as the line
unfoldable pub is_short : Line → ExtentShape → ExtentShape → Bool
is_short l first second = int_lt (greatest_of l.first first +ℤ greatest_of l.second second) l.reach
