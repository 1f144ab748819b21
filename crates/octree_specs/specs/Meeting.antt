-- When a closed triangle and a closed cube share a point, in whole numbers.
use Rattle.std.specs.Prelude.{ℕ, ◌+◌, ◌^◌, ◌≤◌, ℤ, pos, ◌+ℤ◌, ◌*ℤ◌, ◌≤ℤ◌, unsigned_abs, All}
use Rattle.std.specs.List.{slice_index_or}
use Rattle.svo_base.specs.declared.shapes.Point.{Point}
use Rattle.svo_base.specs.declared.shapes.Triangle.{Triangle}
use Rattle.svo_base.specs.declared.shapes.Cube.{Cube}

-- the planes of a cube that are across an axis, which is numbered 0, 1, 2
abbrev pub low_of : Cube → ℕ → ℤ
low_of cube axis = slice_index_or cube.lo axis (pos 0)

abbrev pub high_of : Cube → ℕ → ℤ
high_of cube axis = slice_index_or cube.hi axis (pos 0)

-- the planes are at most 2^33 away from 0
pub record HasPlanes (cube : Cube) : Type 0 where
  pub lo : All (λ plane. unsigned_abs plane ≤ 2 ^ 33) cube.lo
  pub hi : All (λ plane. unsigned_abs plane ≤ 2 ^ 33) cube.hi

-- the corners' coordinates on one axis, weighted: `w0 * a + w1 * b + w2 * c`
abbrev pub weighted : ℕ → ℕ → ℕ → (Point → ℤ) → Triangle → ℤ
weighted w0 w1 w2 at t = ((pos w0 *ℤ at t.a) +ℤ (pos w1 *ℤ at t.b)) +ℤ (pos w2 *ℤ at t.c)

-- the weighted point lies between the two planes of an axis
abbrev pub IsBetween : ℕ → ℕ → ℕ → (Point → ℤ) → Triangle → ℤ → ℤ → Type 0
IsBetween w0 w1 w2 at t low high =
    let total = pos (w0 + w1 + w2) in ((total *ℤ low) ≤ℤ weighted w0 w1 w2 at t) × (weighted w0 w1 w2 at t ≤ℤ (total *ℤ high))

-- some point of the triangle, named by whole weights of its corners, lies in the cube
pub record Meets (t : Triangle) (cube : Cube) : Type 0 where
  pub w0 : ℕ
  pub w1 : ℕ
  pub w2 : ℕ
  pub some : 1 ≤ w0 + w1 + w2
  pub x : IsBetween w0 w1 w2 (λ p. p.x) t (low_of cube 0) (high_of cube 0)
  pub y : IsBetween w0 w1 w2 (λ p. p.y) t (low_of cube 1) (high_of cube 1)
  pub z : IsBetween w0 w1 w2 (λ p. p.z) t (low_of cube 2) (high_of cube 2)
