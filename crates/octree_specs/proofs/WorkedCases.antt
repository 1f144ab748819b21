-- Small examples, computed from the definitions alone: what each definition says of a case that was worked out by hand.
use Rattle.std.proofs.Common.{◌≡◌, ℕ, List, [], ◌∷◌, ◌++◌, refl, false, ℤ, pos, negsuc, lit<, arith}
use Rattle.std.specs.Prelude.{codes}
use Rattle.std.proofs.lemmas.Bool.{both_ways}
use Rattle.std.proofs.lemmas.Int.{ints}
use Rattle.std.proofs.lemmas.Fmt.{decimal_digit}
use Rattle.svo_base.specs.GridShape.{GridShape}
use Rattle.svo_base.specs.declared.shapes.Point.{Point}
use Rattle.svo_base.specs.declared.shapes.Triangle.{Triangle}
use Rattle.svo_base.specs.declared.shapes.Cube.{Cube}
use Rattle.octree_specs.specs.Mesh.{Mesh, triangles_of}
use Rattle.octree_specs.specs.Meeting.{Meets}
use Rattle.octree_specs.specs.Candidates.{rows_of, has_good_candidate}
use Rattle.octree_specs.specs.NodeCube.{coordinate_of, node_cube}
use Rattle.octree_specs.specs.NodeWords.{children_of, size_of, mask_of, base_of, below_of, words_of}
use Rattle.octree_specs.specs.NodeFile.{header_of, trailer_of, image_of}
use Rattle.octree_specs.specs.Filling.{AreFilledCodes}
use Rattle.octree_specs.proofs.FillingByCandidates.{is_filled, filled_codes, computed}
use Rattle.octree_specs.proofs.Meetings.{meeting_has_candidate}
use Rattle.octree_specs.specs.PlainText.{plain_header, vertex_line, face_line, plain_text}

point : ℕ → ℕ → ℕ → Point
point x y z = record { x = pos x; y = pos y; z = pos z }

-- the grid from 0 with cells of side 1
unit_grid : ℕ → GridShape
unit_grid depth = record { depth = depth; origin = pos 0 ∷ pos 0 ∷ pos 0 ∷ []; cell = 1 }

zeros : List ℕ
zeros = 0 ∷ 0 ∷ 0 ∷ 0 ∷ 0 ∷ 0 ∷ 0 ∷ 0 ∷ []

-- one triangle in the plane z = 0
flat_mesh : Mesh
flat_mesh = record { vertices = point 0 0 0 ∷ point 1 0 0 ∷ point 0 1 0 ∷ []; faces = (0 ∷ 1 ∷ 2 ∷ []) ∷ [] }

-- one triangle that is the point (at, at, at)
dot_mesh : ℕ → Mesh
dot_mesh at = record { vertices = point at at at ∷ []; faces = (0 ∷ 0 ∷ 0 ∷ []) ∷ [] }

-- the flat triangle fills the cells 0, 1, 2: at 3 the cube's nearest corner, (1, 1, 0), is beyond the long side
flat_cells : AreFilledCodes (unit_grid 1) (triangles_of flat_mesh) (0 ∷ 1 ∷ 2 ∷ [])
unfolding flat_mesh unit_grid point filled_codes is_filled has_good_candidate rows_of node_cube coordinate_of triangles_of
flat_cells = computed _ _ _ refl

slanted : Triangle
slanted = record { a = point 4 0 0; b = point 0 4 0; c = point 0 0 4 }

unit_cube : Cube
unit_cube = record { lo = pos 0 ∷ pos 0 ∷ pos 0 ∷ []; hi = pos 1 ∷ pos 1 ∷ pos 1 ∷ [] }

no_candidate : has_good_candidate slanted unit_cube ≡ false
unfolding slanted unit_cube point has_good_candidate rows_of
no_candidate = refl

-- a cube that the triangle's box meets, and that the triangle misses
past_the_side : Meets slanted unit_cube → ⊥
past_the_side met = both_ways (has_good_candidate slanted unit_cube) no_candidate (meeting_has_candidate slanted unit_cube met)

-- a segment that touches an edge of a cube in its middle, (2, 2, 1)
touches_an_edge : Meets (record { a = point 4 1 1; b = point 0 3 1; c = point 0 3 1 }) (record { lo = pos 0 ∷ pos 0 ∷ pos 0 ∷ []; hi = pos 2 ∷ pos 2 ∷ pos 2 ∷ [] })
unfolding point
touches_an_edge = record {
  w0 = 1;
  w1 = 1;
  w2 = 0;
  some = omega arith;
  x = (omega (arith, ints), omega (arith, ints));
  y = (omega (arith, ints), omega (arith, ints));
  z = (omega (arith, ints), omega (arith, ints));
}

-- eight cells that meet in one point
dot_words : words_of (7 ∷ 14 ∷ 21 ∷ 28 ∷ 35 ∷ 42 ∷ 49 ∷ 56 ∷ []) 2 ≡ 128 ∷ 64 ∷ 32 ∷ 16 ∷ 8 ∷ 4 ∷ 2 ∷ 1 ∷ 255 ∷ []
unfolding words_of below_of size_of mask_of base_of children_of
dot_words = refl

-- one level more above them: the root has one child, whose record has the number 8
deeper_words : words_of (7 ∷ 14 ∷ 21 ∷ 28 ∷ 35 ∷ 42 ∷ 49 ∷ 56 ∷ []) 3 ≡ 128 ∷ 64 ∷ 32 ∷ 16 ∷ 8 ∷ 4 ∷ 2 ∷ 1 ∷ 255 ∷ 2049 ∷ []
unfolding words_of below_of size_of mask_of base_of children_of
deeper_words = refl

-- a single cell has no empty sibling's word beside it
last_words : words_of (63 ∷ []) 2 ≡ 128 ∷ 128 ∷ []
unfolding words_of below_of size_of mask_of base_of children_of
last_words = refl

-- no cell: the root's word alone
no_words : words_of [] 1 ≡ 0 ∷ []
unfolding words_of below_of size_of mask_of base_of children_of
no_words = refl

-- a face that is not there fills nothing
empty_cells : AreFilledCodes (unit_grid 1) (triangles_of (record { vertices = flat_mesh.vertices; faces = [] })) []
unfolding flat_mesh unit_grid point filled_codes is_filled triangles_of
empty_cells = computed _ _ _ refl

-- the same face twice, once turned round, fills the same cells
turned_cells : AreFilledCodes (unit_grid 1) (triangles_of (record { vertices = flat_mesh.vertices; faces = (0 ∷ 1 ∷ 2 ∷ []) ∷ (2 ∷ 1 ∷ 0 ∷ []) ∷ [] })) (0 ∷ 1 ∷ 2 ∷ [])
unfolding flat_mesh unit_grid point filled_codes is_filled has_good_candidate rows_of node_cube coordinate_of triangles_of
turned_cells = computed _ _ _ refl

-- far from the grid it fills none
far_cells : AreFilledCodes (record { depth = 1; origin = pos 10 ∷ pos 10 ∷ pos 10 ∷ []; cell = 1 }) (triangles_of flat_mesh) []
unfolding flat_mesh point filled_codes is_filled has_good_candidate rows_of node_cube coordinate_of triangles_of
far_cells = computed _ _ _ refl

-- a point where eight cells meet fills all eight, since cubes are closed
dot_cells : AreFilledCodes (unit_grid 2) (triangles_of (dot_mesh 2)) (7 ∷ 14 ∷ 21 ∷ 28 ∷ 35 ∷ 42 ∷ 49 ∷ 56 ∷ [])
unfolding dot_mesh unit_grid point filled_codes is_filled has_good_candidate rows_of node_cube coordinate_of triangles_of
dot_cells = computed _ _ _ refl

-- a point on the grid's outer corner fills the last cell alone
last_cell : AreFilledCodes (unit_grid 2) (triangles_of (dot_mesh 4)) (63 ∷ [])
unfolding dot_mesh unit_grid point filled_codes is_filled has_good_candidate rows_of node_cube coordinate_of triangles_of
last_cell = computed _ _ _ refl

-- the widest grid, and a triangle across it
across : Triangle
across = record { a = low_point; b = high_point; c = mixed_point }
  where
    least : ℤ
    least = negsuc 1073741823

    greatest : ℤ
    greatest = pos 1073741824

    low_point : Point
    low_point = record { x = least; y = least; z = least }

    high_point : Point
    high_point = record { x = greatest; y = greatest; z = greatest }

    mixed_point : Point
    mixed_point = record { x = greatest; y = least; z = greatest }

all_eight : AreFilledCodes (record { depth = 1; origin = negsuc 1073741823 ∷ negsuc 1073741823 ∷ negsuc 1073741823 ∷ []; cell = 2147483648 }) (across ∷ []) (0 ∷ 1 ∷ 2 ∷ 3 ∷ 4 ∷ 5 ∷ 6 ∷ 7 ∷ [])
unfolding across filled_codes is_filled has_good_candidate rows_of node_cube coordinate_of
all_eight = computed _ _ _ refl

-- the text of the flat triangle
flat_text : plain_text flat_mesh ≡ codes "ply\nformat ascii 1.0\nelement vertex 3\nproperty int x\nproperty int y\nproperty int z\nelement face 1\nproperty list uchar int vertex_indices\nend_header\n0 0 0\n1 0 0\n0 1 0\n3 0 1 2\n"
unfolding flat_mesh point plain_text plain_header vertex_line face_line
flat_text = rw (decimal_digit 3 (lit< tt), decimal_digit 1 (lit< tt), decimal_digit 0 (lit< tt), decimal_digit 2 (lit< tt)) refl

-- and its node file: name, depth and zero, origin, cell; the word 7; zero, one record, three cells, name of the end
flat_image : image_of (unit_grid 1) (0 ∷ 1 ∷ 2 ∷ []) ≡
    codes "SVOCUBE1" ++ (1 ∷ 0 ∷ 0 ∷ 0 ∷ 0 ∷ 0 ∷ 0 ∷ 0 ∷ []) ++ zeros ++ zeros ++ zeros ++ (1 ∷ 0 ∷ 0 ∷ 0 ∷ 0 ∷ 0 ∷ 0 ∷ 0 ∷ [])
    ++ (7 ∷ 0 ∷ 0 ∷ 0 ∷ 0 ∷ 0 ∷ 0 ∷ 0 ∷ []) ++ zeros ++ (1 ∷ 0 ∷ 0 ∷ 0 ∷ 0 ∷ 0 ∷ 0 ∷ 0 ∷ []) ++ (3 ∷ 0 ∷ 0 ∷ 0 ∷ 0 ∷ 0 ∷ 0 ∷ 0 ∷ []) ++ codes "SVOCEND1"
unfolding zeros unit_grid image_of header_of trailer_of words_of below_of size_of mask_of base_of children_of
flat_image = refl
