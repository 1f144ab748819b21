-- Triples of whole numbers, and their products.
use Rattle.std.specs.Prelude.{ℤ, pos, ◌+ℤ◌, ◌-ℤ◌, ◌*ℤ◌, neg_ℤ, ℕ, ◌≤◌, unsigned_abs, Bool, ◌&&◌}
use Rattle.std.specs.Ordering.{int_eq}
use Rattle.svo_base.specs.declared.shapes.Vector.{Vector}

abbrev pub vector : ℤ → ℤ → ℤ → Vector
vector x y z = record { x = x; y = y; z = z }

-- the scalar product
abbrev pub dot_of : Vector → Vector → ℤ
dot_of a b = ((a.x *ℤ b.x) +ℤ (a.y *ℤ b.y)) +ℤ (a.z *ℤ b.z)

-- the cross product
abbrev pub cross_of : Vector → Vector → Vector
cross_of a b = vector ((a.y *ℤ b.z) -ℤ (a.z *ℤ b.y)) ((a.z *ℤ b.x) -ℤ (a.x *ℤ b.z)) ((a.x *ℤ b.y) -ℤ (a.y *ℤ b.x))

abbrev pub opposite_of : Vector → Vector
opposite_of a = vector (neg_ℤ a.x) (neg_ℤ a.y) (neg_ℤ a.z)

abbrev pub is_zero_vector : Vector → Bool
is_zero_vector a = int_eq a.x (pos 0) && int_eq a.y (pos 0) && int_eq a.z (pos 0)

-- each number has at most this size
pub record IsWithin (size : ℕ) (a : Vector) : Type 0 where
  pub x : unsigned_abs a.x ≤ size
  pub y : unsigned_abs a.y ≤ size
  pub z : unsigned_abs a.z ≤ size
