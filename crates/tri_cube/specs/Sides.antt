-- The nine rows in two parts: those that ask that no weight is negative, and those of the cube's planes.
use Rattle.std.specs.Prelude.{pos, List, [], ◌∷◌}
use Rattle.svo_base.specs.declared.shapes.Triangle.{Triangle}
use Rattle.svo_base.specs.declared.shapes.Cube.{Cube}
use Rattle.svo_base.specs.declared.shapes.Vector.{Vector}
use Rattle.octree_specs.specs.Vectors.{vector}
use Rattle.octree_specs.specs.Meeting.{low_of, high_of}
use Rattle.octree_specs.specs.Candidates.{above_plane, below_plane}

-- the rows that weights clear where none of them is negative
abbrev pub unit_rows : List Vector
unit_rows = vector (pos 1) (pos 0) (pos 0) ∷ vector (pos 0) (pos 1) (pos 0) ∷ vector (pos 0) (pos 0) (pos 1) ∷ []

-- a row for each plane of the cube, which weights clear where they name a point on its inner side
unfoldable pub sides_of : Triangle → Cube → List Vector
sides_of t cube =
    above_plane (λ p. p.x) t (low_of cube 0) ∷ below_plane (λ p. p.x) t (high_of cube 0)
    ∷ above_plane (λ p. p.y) t (low_of cube 1) ∷ below_plane (λ p. p.y) t (high_of cube 1)
    ∷ above_plane (λ p. p.z) t (low_of cube 2) ∷ below_plane (λ p. p.z) t (high_of cube 2) ∷ []
