-- How far a triangle and a cube go along an axis, and when the boxes of the two miss each other.
use Rattle.std.specs.Prelude.{ℕ, ◌≤◌, ℤ, unsigned_abs, int_lt, Bool, ◌||◌}
use Rattle.std.specs.Int.{int_min, int_max}
use Rattle.svo_base.specs.declared.shapes.Cube.{Cube}
use Rattle.octree_specs.specs.Meeting.{low_of, high_of}

-- from a lower to an upper coordinate
pub record ExtentShape : Type 0 where
  pub low : ℤ
  pub high : ℤ

abbrev pub between : ℤ → ℤ → ExtentShape
between low high = record { low = low; high = high }

-- both coordinates have at most this size
pub record ExtentWithin (size : ℕ) (s : ExtentShape) : Type 0 where
  pub low : unsigned_abs s.low ≤ size
  pub high : unsigned_abs s.high ≤ size

-- from the least of three coordinates to the greatest
abbrev pub extent_of : ℤ → ℤ → ℤ → ExtentShape
extent_of a b c = between (int_min (int_min a b) c) (int_max (int_max a b) c)

-- the planes of a cube that are across an axis
abbrev pub cube_extent : Cube → ℕ → ExtentShape
cube_extent cube axis = between (low_of cube axis) (high_of cube axis)

-- one of the two ends before the other begins
abbrev pub shapes_miss : ExtentShape → ExtentShape → Bool
shapes_miss s t = int_lt s.high t.low || int_lt t.high s.low
