-- A triangle as it is seen along an axis.
use Rattle.std.specs.Prelude.{ℤ, pos, ◌+ℤ◌, ◌-ℤ◌, ◌*ℤ◌, int_le, Bool, ◌&&◌, ◌||◌, [], ◌∷◌}
use Rattle.std.specs.List.{list_any}
use Rattle.tri_cube.specs.declared.outlines.Seen.{Seen}
use Rattle.tri_cube.specs.declared.outlines.Outline.{Outline}
use Rattle.tri_cube.specs.Extents.{ExtentShape}
use Rattle.tri_cube.specs.Lines.{Line, line, is_beyond, is_short}

-- the line through two corners
unfoldable pub line_of : Seen → Seen → Line
line_of p q =
    let first = q.second -ℤ p.second in
    let second = p.first -ℤ q.first in
    line first second ((first *ℤ p.first) +ℤ (second *ℤ p.second))

-- twice the area of a triangle, below 0 where its corners are passed clockwise
unfoldable pub area_of : Seen → Seen → Seen → ℤ
area_of p q r = ((q.first -ℤ p.first) *ℤ (r.second -ℤ p.second)) -ℤ ((q.second -ℤ p.second) *ℤ (r.first -ℤ p.first))

-- the sides of a triangle, and in which senses its corners are passed; a flat one has both senses
unfoldable pub outline_of : Seen → Seen → Seen → Outline
outline_of p q r =
    let area = area_of p q r in
    record { is_forward = int_le (pos 0) area; is_backward = int_le area (pos 0); sides = line_of p q ∷ line_of q r ∷ line_of r p ∷ [] }

-- a box is on the outer side of a line of the outline
unfoldable pub misses_outline : Outline → ExtentShape → ExtentShape → Bool
misses_outline o first second =
    (o.is_forward && list_any (λ side. is_beyond side first second) o.sides) || (o.is_backward && list_any (λ side. is_short side first second) o.sides)
