-- The triangle and the cube that a question names.
use Rattle.std.specs.Prelude.{ℕ, ◌+◌, ◌^◌, Bool, ◌&&◌, if◌then◌else◌, List, [], ◌∷◌, ℤ, pos, ◌+ℤ◌, Option, None, Some}
use Rattle.std.specs.List.{list_all, slice_index_or}
use Rattle.svo_base.specs.GridLimits.{is_positive, is_within}
use Rattle.svo_base.specs.declared.shapes.Point.{Point}
use Rattle.svo_base.specs.declared.shapes.Triangle.{Triangle}
use Rattle.svo_base.specs.declared.shapes.Cube.{Cube}

abbrev pub at : List ℤ → ℕ → ℤ
at numbers place = slice_index_or numbers place (pos 0)

-- three coordinates in a row
abbrev pub point_at : List ℤ → ℕ → Point
point_at numbers from = record { x = at numbers from; y = at numbers (from + 1); z = at numbers (from + 2) }

-- nine coordinates are a triangle's, if none has a size above 2^30
unfoldable pub triangle_from : List ℤ → Option Triangle
triangle_from numbers =
    if list_all (is_within (2 ^ 30)) numbers then Some (record { a = point_at numbers 0; b = point_at numbers 3; c = point_at numbers 6 }) else None

-- a lower corner with no coordinate of a size above 2^32, and a side from 1 to 2^32
abbrev pub is_cube : List ℤ → Bool
is_cube numbers = list_all (is_within (2 ^ 32)) numbers && is_positive (at numbers 3)

-- the closed cube of that corner and side
unfoldable pub cube_from : List ℤ → Option Cube
cube_from numbers =
    let side = at numbers 3 in
    if is_cube numbers
    then Some (record {
      lo = at numbers 0 ∷ at numbers 1 ∷ at numbers 2 ∷ [];
      hi = (at numbers 0 +ℤ side) ∷ (at numbers 1 +ℤ side) ∷ (at numbers 2 +ℤ side) ∷ [];
    })
    else None
