-- Corners and centres as seen along z, in doubled coordinates.
use Rattle.std.specs.Prelude.{ℕ, ◌*◌, ◌^◌, ◌≤◌, pos, unsigned_abs}
use Rattle.svo_base.specs.declared.shapes.Vector.{Vector}
use Rattle.octree_specs.specs.Vectors.{vector}
use Rattle.solid_parity.specs.declared.seen.Seen.{Seen}

-- any point of the line along z
abbrev pub seen : Seen → Vector
seen s = vector s.x s.y (pos 0)

pub record IsSeenWithin (size : ℕ) (s : Seen) : Type 0 where
  pub x : unsigned_abs s.x ≤ size
  pub y : unsigned_abs s.y ≤ size

-- corners of triangles, whose coordinates have 32 bits
abbrev pub IsCorner : Seen → Type 0
IsCorner s = IsSeenWithin (2 ^ 32) s

-- centres of cells
abbrev pub IsCentre : Seen → Type 0
IsCentre s = IsSeenWithin (6 * 2 ^ 31) s
