-- The solid cells of small meshes, computed from the definitions alone.
use Rattle.std.proofs.Common.{◌≡◌, ℕ, List, [], ◌∷◌, pos, refl}
use Rattle.svo_base.specs.GridShape.{GridShape}
use Rattle.svo_base.specs.declared.shapes.Point.{Point}
use Rattle.octree_specs.specs.Cells.{codes_of}
use Rattle.octree_specs.specs.FacedTriangles.{faced_triangles}
use Rattle.octree_specs.specs.Mesh.{Mesh}
use Rattle.octree_specs.specs.NodeCube.{coordinate_of}
use Rattle.solid_parity.specs.Parity.{centre_of, crosses, crossings, is_covered, is_above, is_solid, solid_below}

unit_grid : ℕ → GridShape
unit_grid depth = record { depth = depth; origin = pos 0 ∷ pos 0 ∷ pos 0 ∷ []; cell = 1 }

point : ℕ → ℕ → ℕ → Point
point x y z = record { x = pos x; y = pos y; z = pos z }

box_corners : List Point
box_corners = point 0 0 0 ∷ point 2 0 0 ∷ point 2 2 0 ∷ point 0 2 0 ∷ point 0 0 2 ∷ point 2 0 2 ∷ point 2 2 2 ∷ point 0 2 2 ∷ []

-- a box of two cells along each axis: both faces across z, and then the four others
box : Mesh
box = record {
  vertices = box_corners;
  faces = (0 ∷ 1 ∷ 2 ∷ 3 ∷ []) ∷ (4 ∷ 5 ∷ 6 ∷ 7 ∷ []) ∷ (0 ∷ 1 ∷ 5 ∷ 4 ∷ []) ∷ (1 ∷ 2 ∷ 6 ∷ 5 ∷ []) ∷ (2 ∷ 3 ∷ 7 ∷ 6 ∷ []) ∷ (3 ∷ 0 ∷ 4 ∷ 7 ∷ []) ∷ [];
}

-- the box without its top: all cells have an even number of triangles above
open_box : Mesh
open_box = record {
  vertices = box_corners;
  faces = (0 ∷ 1 ∷ 2 ∷ 3 ∷ []) ∷ (0 ∷ 1 ∷ 5 ∷ 4 ∷ []) ∷ (1 ∷ 2 ∷ 6 ∷ 5 ∷ []) ∷ (2 ∷ 3 ∷ 7 ∷ 6 ∷ []) ∷ (3 ∷ 0 ∷ 4 ∷ 7 ∷ []) ∷ [];
}

-- the corner below the plane x + y + z = 4
tetrahedron : Mesh
tetrahedron = record {
  vertices = point 0 0 0 ∷ point 4 0 0 ∷ point 0 4 0 ∷ point 0 0 4 ∷ [];
  faces = (0 ∷ 1 ∷ 2 ∷ []) ∷ (0 ∷ 1 ∷ 3 ∷ []) ∷ (1 ∷ 2 ∷ 3 ∷ []) ∷ (0 ∷ 2 ∷ 3 ∷ []) ∷ [];
}

-- one triangle across all three axes
alone : Mesh
alone = record { vertices = point 0 0 0 ∷ point 1 0 0 ∷ point 0 1 1 ∷ []; faces = (0 ∷ 1 ∷ 2 ∷ []) ∷ [] }

solid_codes : ℕ → Mesh → ℕ → List ℕ
solid_codes depth mesh bound = codes_of (solid_below (unit_grid depth) (faced_triangles mesh) bound)

of_the_box : solid_codes 2 box 64 ≡ 0 ∷ 1 ∷ 2 ∷ 3 ∷ 4 ∷ 5 ∷ 6 ∷ 7 ∷ []
unfolding solid_codes box box_corners point unit_grid solid_below is_solid is_covered is_above crossings crosses centre_of faced_triangles coordinate_of
of_the_box = refl

of_the_open_box : solid_codes 2 open_box 64 ≡ []
unfolding solid_codes open_box box_corners point unit_grid solid_below is_solid is_covered is_above crossings crosses centre_of faced_triangles coordinate_of
of_the_open_box = refl

-- the cells whose centres are below the plane: those whose three places sum up to two at most
of_the_tetrahedron : solid_codes 2 tetrahedron 64 ≡ 0 ∷ 1 ∷ 2 ∷ 3 ∷ 4 ∷ 5 ∷ 6 ∷ 8 ∷ 16 ∷ 32 ∷ []
unfolding solid_codes tetrahedron point unit_grid solid_below is_solid is_covered is_above crossings crosses centre_of faced_triangles coordinate_of
of_the_tetrahedron = refl

of_one_triangle : solid_codes 1 alone 8 ≡ []
unfolding solid_codes alone point unit_grid solid_below is_solid is_covered is_above crossings crosses centre_of faced_triangles coordinate_of
of_one_triangle = refl
