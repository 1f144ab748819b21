-- Filled cells with faces, parts that are reached, and bytes of parcels, computed from the definitions alone.
use Rattle.std.proofs.Common.{◌≡◌, ℕ, ◌+◌, ◌*◌, ◌-◌, pos, negsuc, [], ◌∷◌, filter, refl}
use Rattle.std.specs.List.{range_with_len}
use Rattle.svo_base.specs.GridShape.{GridShape}
use Rattle.svo_base.specs.declared.shapes.Point.{Point}
use Rattle.octree_specs.specs.Candidates.{has_good_candidate, rows_of}
use Rattle.octree_specs.specs.Cells.{Cell}
use Rattle.octree_specs.specs.FacedTriangles.{faced_triangles}
use Rattle.octree_specs.specs.Mesh.{Mesh}
use Rattle.octree_specs.specs.NodeCube.{node_cube, coordinate_of}
use Rattle.octree_specs.specs.Parcels.{point_bytes, parcel_bytes}
use Rattle.octree_specs.specs.Parts.{reaches, box_meets, is_in_part, passing}
use Rattle.grid_parts.proofs.Growing.{slot_value, cells_value}

point_at : ℕ → ℕ → ℕ → Point
point_at x y z = record { x = pos x; y = pos y; z = pos z }

-- the grid from 0 with cells of side 1
unit_grid : ℕ → GridShape
unit_grid depth = record { depth = depth; origin = pos 0 ∷ pos 0 ∷ pos 0 ∷ []; cell = 1 }

-- a point as face 0, and a triangle in the plane z = 0 as face 1
two_faces : Mesh
two_faces = record {
  vertices = point_at 0 0 0 ∷ point_at 1 0 0 ∷ point_at 0 1 0 ∷ point_at 2 2 2 ∷ [];
  faces = (3 ∷ 3 ∷ 3 ∷ []) ∷ (0 ∷ 1 ∷ 2 ∷ []) ∷ [];
}

cell : ℕ → ℕ → Cell
cell code face = record { code = code; face = face }

-- face 1 fills the cells 0, 1, 2, face 0 the cell 7
two_faces_fill : cells_value (unit_grid 1) (faced_triangles two_faces) 8 ≡ cell 0 1 ∷ cell 1 1 ∷ cell 2 1 ∷ cell 7 0 ∷ []
unfolding two_faces point_at unit_grid cell cells_value slot_value has_good_candidate node_cube coordinate_of faced_triangles rows_of
two_faces_fill = refl

-- the triangle's box reaches the parts 0 to 3, also part 3, whose cube the triangle does not meet
flat_reach : filter (λ part. is_in_part (unit_grid 1) 1 part (record { triangle = record { a = point_at 0 0 0; b = point_at 1 0 0; c = point_at 0 1 0 }; face = 0 })) (range_with_len 0 8)
    ≡ 0 ∷ 1 ∷ 2 ∷ 3 ∷ []
unfolding unit_grid point_at is_in_part box_meets reaches node_cube coordinate_of
flat_reach = refl

-- the point (2, 2, 2) is a corner of all eight parts of the grid of depth 2
corner_reach : filter (λ part. is_in_part (unit_grid 2) 1 part (record { triangle = record { a = point_at 2 2 2; b = point_at 2 2 2; c = point_at 2 2 2 }; face = 0 })) (range_with_len 0 8)
    ≡ 0 ∷ 1 ∷ 2 ∷ 3 ∷ 4 ∷ 5 ∷ 6 ∷ 7 ∷ []
unfolding unit_grid point_at is_in_part box_meets reaches node_cube coordinate_of
corner_reach = refl

-- it meets the root and the eight nodes below it: nine above the cells, so at most 73 tests
corner_tests : 1 + 8 * passing (λ height node. has_good_candidate (record { a = point_at 2 2 2; b = point_at 2 2 2; c = point_at 2 2 2 }) (node_cube (unit_grid 2) (2 - height) node)) 2 0 ≡ 73
unfolding unit_grid point_at has_good_candidate node_cube coordinate_of rows_of
corner_tests = refl

-- coordinates and the face, four bytes each, the least significant first
parcel_of_three : parcel_bytes (record { triangle = record { a = point_at 0 0 0; b = point_at 256 0 0; c = record { x = pos 0; y = negsuc 0; z = pos 0 } }; face = 3 })
    ≡ 0 ∷ 0 ∷ 0 ∷ 0 ∷ 0 ∷ 0 ∷ 0 ∷ 0 ∷ 0 ∷ 0 ∷ 0 ∷ 0
    ∷ 0 ∷ 1 ∷ 0 ∷ 0 ∷ 0 ∷ 0 ∷ 0 ∷ 0 ∷ 0 ∷ 0 ∷ 0 ∷ 0
    ∷ 0 ∷ 0 ∷ 0 ∷ 0 ∷ 255 ∷ 255 ∷ 255 ∷ 255 ∷ 0 ∷ 0 ∷ 0 ∷ 0 ∷ 3 ∷ 0 ∷ 0 ∷ 0 ∷ []
unfolding point_at parcel_bytes point_bytes
parcel_of_three = refl
