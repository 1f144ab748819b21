-- How many nodes of an octree a ray crosses. A node's height counts from the cells.
use Rattle.std.specs.Prelude.{◌≡◌, ℕ, zero, suc, ◌+◌, ◌-◌, ◌*◌, ◌^◌, ◌<◌, ◌≤◌, ◌≢◌, true, Bool, cond, List, slice_index_or, pos, ◌+ℤ◌}
use Rattle.std.specs.List.{sum_by}
use Rattle.svo_base.specs.GridShape.{GridShape}
use Rattle.svo_base.specs.declared.shapes.Cube.{Cube}
use Rattle.octree_specs.specs.Cells.{Cell}
use Rattle.octree_specs.specs.Formats.{face_leaves}
use Rattle.octree_specs.specs.NodeCube.{node_cube}
use Rattle.octree_specs.specs.Octree.{children_of}
use Rattle.ray_fraction.specs.Fractions.{IsUpTo}
use Rattle.ray_fraction.specs.Hits.{IsHit}
use Rattle.ray_fraction.specs.InCube.{InAt}
use Rattle.ray_fraction.specs.RayShape.{RayShape}

abbrev pub box_of : GridShape → ℕ → ℕ → Cube
box_of grid height node = node_cube grid (grid.depth - height) node

-- how many pass a test, given a height and a node: of this node and the nonempty nodes below it, as far as they are above the cells
abbrev pub count_of : (ℕ → ℕ → Bool) → List Cell → ℕ → ℕ → ℕ
count_of test cells zero node = 0
count_of test cells (suc height) node = cond (test (suc height) node) 1 0 + sum_by (count_of test cells height) (children_of (face_leaves cells) height node)

-- each node in whose cube the ray is at some time passes the test
abbrev pub PassWhereCrossed : RayShape → GridShape → (ℕ → ℕ → Bool) → Type 0
PassWhereCrossed ray grid test = (height node n m : ℕ) → InAt ray (box_of grid height node) n m → test height node ≡ true

-- each node in whose cube it is at some time up to k / l
abbrev pub PassWhereEarly : RayShape → GridShape → ℕ → ℕ → (ℕ → ℕ → Bool) → Type 0
PassWhereEarly ray grid k l test = (height node n m : ℕ) → InAt ray (box_of grid height node) n m → IsUpTo n m k l → test height node ≡ true

-- the ray runs inside no plane between cells, nor inside the outer planes of the grid
abbrev pub IsOffPlanes : RayShape → GridShape → Type 0
IsOffPlanes ray grid =
    (axis plane : ℕ) → axis < 3 → plane ≤ 2 ^ grid.depth → slice_index_or ray.direction axis (pos 0) ≡ pos 0
    → slice_index_or ray.origin axis (pos 0) ≢ slice_index_or grid.origin axis (pos 0) +ℤ pos (grid.cell * plane)

-- a count rose by at most the number of nodes that the ray crosses: by no more than pass any test that those nodes pass; for a ray off the planes by at most those that it enters up to its hit
pub record AreFew (ray : RayShape) (grid : GridShape) (cells : List Cell) (before after : ℕ) : Type 0 where
  pub crossed : (test : ℕ → ℕ → Bool) → PassWhereCrossed ray grid test → after ≤ before + count_of test cells grid.depth 0
  pub early : IsOffPlanes ray grid → (test : ℕ → ℕ → Bool) (code k l : ℕ) → IsHit ray grid cells code k l → PassWhereEarly ray grid k l test
      → after ≤ before + count_of test cells grid.depth 0
