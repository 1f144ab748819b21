-- What codes say of the nodes above and below them, and of the nodes' cubes.
use Rattle.std.specs.Prelude.{◌≡◌, ℕ, List, ◌+◌, ◌*◌, ◌/◌, ◌%◌, ◌^◌, ◌<◌, ◌≤◌, ◌↔◌, ℤ, pos, ◌*ℤ◌, ◌≤ℤ◌}
use Rattle.svo_base.specs.GridShape.{GridShape}
use Rattle.svo_base.specs.declared.shapes.Cube.{Cube}
use Rattle.svo_base.specs.declared.shapes.Triangle.{Triangle}
use Rattle.octree_specs.specs.Meeting.{low_of, high_of, Meets}
use Rattle.octree_specs.specs.Filling.{AreFilledCodes}
use Rattle.octree_specs.specs.NodeCube.{code_of, coordinate_of, node_cube}

-- a child's code without its last digit is its parent's, and the digit is the child's place among its siblings
pub record NamesParent : Type 0 where
  pub parent : (node place : ℕ) → place < 8 → (8 * node + place) / 8 ≡ node
  pub place : (node place : ℕ) → place < 8 → (8 * node + place) % 8 ≡ place

-- a child's coordinates are twice its parent's, and one more where the child is the upper one
pub record HalvesCoordinates : Type 0 where
  pub parent : (axis level code : ℕ) → coordinate_of axis level (code / 8) ≡ coordinate_of axis (level + 1) code / 2
  pub child : (axis level node place : ℕ) → axis < 3 → place < 8 → coordinate_of axis (level + 1) (8 * node + place) ≡ 2 * coordinate_of axis level node + place / 2 ^ axis % 2

-- digits of 0 in front change neither a code nor its coordinates
pub record IgnoresLeadingZeros : Type 0 where
  pub code : (digits more x y z : ℕ) → digits ≤ more → x < 2 ^ digits → y < 2 ^ digits → z < 2 ^ digits → code_of more x y z ≡ code_of digits x y z
  pub coordinate : (axis digits more code : ℕ) → digits ≤ more → code < 8 ^ digits → coordinate_of axis more code ≡ coordinate_of axis digits code

-- the codes under a node, so many levels down, are a range
abbrev pub AreRanges : Type 0
AreRanges = (levels code node : ℕ) → (code / 8 ^ levels ≡ node) ↔ ((node * 8 ^ levels ≤ code) × (code < (node + 1) * 8 ^ levels))

-- codes under children of one parent lie in the order of the children
abbrev pub AreInOrder : Type 0
AreInOrder = (levels node i j first second : ℕ) → i < j → first / 8 ^ levels ≡ 8 * node + i → second / 8 ^ levels ≡ 8 * node + j → first < second

-- the point (x / scale, y / scale, z / scale) lies between the planes of a cube
pub record IsInside (scale : ℕ) (x y z : ℤ) (cube : Cube) : Type 0 where
  pub x_low : (pos scale *ℤ low_of cube 0) ≤ℤ x
  pub x_high : x ≤ℤ (pos scale *ℤ high_of cube 0)
  pub y_low : (pos scale *ℤ low_of cube 1) ≤ℤ y
  pub y_high : y ≤ℤ (pos scale *ℤ high_of cube 1)
  pub z_low : (pos scale *ℤ low_of cube 2) ≤ℤ z
  pub z_high : z ≤ℤ (pos scale *ℤ high_of cube 2)

-- what is inside a child's cube is inside its parent's, and what is inside the parent's is inside that of one of its eight children
pub record CoverParent : Type 0 where
  pub within : (grid : GridShape) (level node place scale : ℕ) (x y z : ℤ) → level < grid.depth → place < 8
      → IsInside scale x y z (node_cube grid (level + 1) (8 * node + place)) → IsInside scale x y z (node_cube grid level node)
  pub covered : (grid : GridShape) (level node scale : ℕ) (x y z : ℤ) → level < grid.depth
      → IsInside scale x y z (node_cube grid level node) → (place : ℕ) × (place < 8) × IsInside scale x y z (node_cube grid (level + 1) (8 * node + place))

-- a triangle meets a parent's cube exactly where it meets that of one of the children
pub record MeetTogether : Type 0 where
  pub parent : (t : Triangle) (grid : GridShape) (level node place : ℕ) → level < grid.depth → place < 8
      → Meets t (node_cube grid (level + 1) (8 * node + place)) → Meets t (node_cube grid level node)
  pub child : (t : Triangle) (grid : GridShape) (level node : ℕ) → level < grid.depth
      → Meets t (node_cube grid level node) → (place : ℕ) × (place < 8) × Meets t (node_cube grid (level + 1) (8 * node + place))

-- a grid and triangles have a list of filled codes, and one alone
pub record HaveOneList : Type 0 where
  pub some : (grid : GridShape) (triangles : List Triangle) → (cells : List ℕ) × AreFilledCodes grid triangles cells
  pub one : (grid : GridShape) (triangles : List Triangle) (first second : List ℕ)
      → AreFilledCodes grid triangles first → AreFilledCodes grid triangles second → first ≡ second
