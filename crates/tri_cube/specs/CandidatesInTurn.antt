-- The candidates pair by pair, and the first good one.
use Rattle.std.specs.Prelude.{ℕ, pos, Option, List, [], ◌∷◌}
use Rattle.std.specs.List.{slice_index, slice_index_or, find}
use Rattle.svo_base.specs.declared.shapes.Triangle.{Triangle}
use Rattle.svo_base.specs.declared.shapes.Cube.{Cube}
use Rattle.svo_base.specs.declared.shapes.Vector.{Vector}
use Rattle.octree_specs.specs.Vectors.{vector, cross_of, opposite_of}
use Rattle.octree_specs.specs.Candidates.{rows_of, candidates_of, is_good}

-- the two candidates of a pair of rows
abbrev pub candidates_at : Vector → Vector → List Vector
candidates_at a b = cross_of a b ∷ opposite_of (cross_of a b) ∷ []

abbrev pub row_at : List Vector → ℕ → Vector
row_at rows i = slice_index_or rows i (vector (pos 0) (pos 0) (pos 0))

-- those of the rows that a case names
unfoldable pub candidates_by_case : List Vector → List ℕ → List Vector
candidates_by_case rows found = candidates_at (row_at rows (slice_index found 0)) (row_at rows (slice_index found 1))

-- the first candidate that is good
unfoldable pub first_good : Triangle → Cube → Option Vector
first_good t cube = find (is_good (rows_of t cube)) (candidates_of (rows_of t cube))
