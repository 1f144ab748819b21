-- The 72 candidates of a triangle and a cube: for each two rows the weights on which both are 0. One of them is good exactly where the two meet: `good_exactly_where_met`, in `proofs/Meetings.antt`.
use Rattle.std.specs.Prelude.{ℤ, pos, ◌-ℤ◌, int_le, Bool, ◌&&◌, not, List, [], ◌∷◌, ◌++◌}
use Rattle.std.specs.List.{list_all, list_any, flat_map}
use Rattle.svo_base.specs.declared.shapes.Point.{Point}
use Rattle.svo_base.specs.declared.shapes.Triangle.{Triangle}
use Rattle.svo_base.specs.declared.shapes.Cube.{Cube}
use Rattle.svo_base.specs.declared.shapes.Vector.{Vector}
use Rattle.octree_specs.specs.Vectors.{vector, dot_of, cross_of, opposite_of, is_zero_vector}
use Rattle.octree_specs.specs.Meeting.{low_of, high_of}

-- how far the corners are above a plane, and below it
abbrev pub above_plane : (Point → ℤ) → Triangle → ℤ → Vector
above_plane at t plane = vector (at t.a -ℤ plane) (at t.b -ℤ plane) (at t.c -ℤ plane)

abbrev pub below_plane : (Point → ℤ) → Triangle → ℤ → Vector
below_plane at t plane = vector (plane -ℤ at t.a) (plane -ℤ at t.b) (plane -ℤ at t.c)

-- the nine rows: weights that are not all zero name a point of the cube where their product with no row is below 0
unfoldable pub rows_of : Triangle → Cube → List Vector
rows_of t cube =
    vector (pos 1) (pos 0) (pos 0) ∷ vector (pos 0) (pos 1) (pos 0) ∷ vector (pos 0) (pos 0) (pos 1)
    ∷ above_plane (λ p. p.x) t (low_of cube 0) ∷ below_plane (λ p. p.x) t (high_of cube 0)
    ∷ above_plane (λ p. p.y) t (low_of cube 1) ∷ below_plane (λ p. p.y) t (high_of cube 1)
    ∷ above_plane (λ p. p.z) t (low_of cube 2) ∷ below_plane (λ p. p.z) t (high_of cube 2) ∷ []

-- the candidates of a list of rows: for each pair of rows in order, their cross product and its opposite
abbrev pub candidates_with : Vector → List Vector → List Vector
candidates_with a rows = flat_map (λ b. cross_of a b ∷ opposite_of (cross_of a b) ∷ []) rows

abbrev pub candidates_of : List Vector → List Vector
candidates_of [] = []
candidates_of (a ∷ rows) = candidates_with a rows ++ candidates_of rows

-- good weights: not all zero, and no product with a row is negative
abbrev pub is_good : List Vector → Vector → Bool
is_good rows w = not (is_zero_vector w) && list_all (λ row. int_le (pos 0) (dot_of w row)) rows

-- one of the 72 candidates is good
unfoldable pub has_good_candidate : Triangle → Cube → Bool
has_good_candidate t cube = list_any (is_good (rows_of t cube)) (candidates_of (rows_of t cube))
