-- Small examples of axes and candidates, computed from the definitions alone.
use Rattle.std.proofs.Common.{◌≡◌, ℕ, ◌+◌, List, [], ◌∷◌, Some, refl, ℤ, pos, negsuc}
use Rattle.std.specs.Prelude.{filter}
use Rattle.std.specs.List.{range_with_len}
use Rattle.svo_base.specs.declared.shapes.Point.{Point}
use Rattle.svo_base.specs.declared.shapes.Triangle.{Triangle}
use Rattle.svo_base.specs.declared.shapes.Cube.{Cube}
use Rattle.octree_specs.specs.Candidates.{rows_of}
use Rattle.octree_specs.specs.Vectors.{vector}
use Rattle.case_table.specs.CaseLists.{axis_case_list}
use Rattle.tri_cube.specs.Axes.{axis_at, cube_corners, are_below, separates, first_separating}
use Rattle.tri_cube.specs.CandidatesInTurn.{first_good}

point : (x y z : ℤ) → Point
point x y z = record { x = x; y = y; z = z }

-- the cube from the corner (x, y, z) on with this side
cube_from : (x y z side : ℕ) → Cube
cube_from x y z side =
    record { lo = pos x ∷ pos y ∷ pos z ∷ []; hi = pos (x + side) ∷ pos (y + side) ∷ pos (z + side) ∷ [] }

-- the numbers of all axes that separate
all_separating : Triangle → Cube → List ℕ
all_separating t cube = filter (λ number. separates t cube (axis_at t number)) (range_with_len 0 13)

-- where x + y + z = 4, beyond the unit cube
slanted : Triangle
slanted = record { a = point (pos 4) (pos 0) (pos 0); b = point (pos 0) (pos 4) (pos 0); c = point (pos 0) (pos 0) (pos 4) }

only_the_plane : all_separating slanted (cube_from 0 0 0 1) ≡ 3 ∷ []
unfolding all_separating separates are_below cube_corners axis_at axis_case_list slanted point cube_from
only_the_plane = refl

-- in the plane z = 1, past an edge of the cube
past_an_edge : Triangle
past_an_edge = record { a = point (pos 4) (pos 1) (pos 1); b = point (pos 1) (pos 4) (pos 1); c = point (pos 4) (pos 4) (pos 1) }

only_an_edge : all_separating past_an_edge (cube_from 0 0 0 2) ≡ 6 ∷ []
unfolding all_separating separates are_below cube_corners axis_at axis_case_list past_an_edge point cube_from
only_an_edge = refl

-- a segment from (-1, 1, 1) to (3, 1, 1), which enters the cube at x = 0
segment : Triangle
segment = record { a = point (negsuc 0) (pos 1) (pos 1); b = point (pos 3) (pos 1) (pos 1); c = point (pos 3) (pos 1) (pos 1) }

where_it_enters : first_good segment (cube_from 0 0 0 2) ≡ Some (vector (pos 3) (pos 0) (pos 1))
unfolding first_good rows_of segment point cube_from
where_it_enters = refl

-- the point (0, 0, 0) and a cube that begins at 1 along y alone
dot : Triangle
dot = record { a = point (pos 0) (pos 0) (pos 0); b = point (pos 0) (pos 0) (pos 0); c = point (pos 0) (pos 0) (pos 0) }

first_along_y : first_separating dot (cube_from 0 1 0 1) ≡ Some 1
unfolding first_separating separates are_below cube_corners axis_at axis_case_list dot point cube_from
first_along_y = refl

-- planes in the wrong order have no corner, so each axis separates
no_corners : first_separating slanted (record { lo = pos 5 ∷ pos 0 ∷ pos 0 ∷ []; hi = pos 0 ∷ pos 5 ∷ pos 5 ∷ [] }) ≡ Some 0
unfolding first_separating separates are_below cube_corners slanted point
no_corners = refl
