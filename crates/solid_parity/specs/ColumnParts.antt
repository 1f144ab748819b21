-- Which parts a triangle's parcels go to for solid cells, by places along the axes.
use Rattle.std.specs.Prelude.{◌≡◌, ℕ, ◌^◌, ◌<◌, ◌≤◌, Bool, ◌&&◌}
use Rattle.svo_base.specs.GridShape.{GridShape}
use Rattle.svo_base.specs.declared.shapes.Triangle.{Triangle}
use Rattle.octree_specs.specs.NodeCube.{coordinate_of, node_cube}
use Rattle.tri_partition.specs.PartRanges.{in_range}
use Rattle.solid_parity.specs.Columns.{column_meets}
use Rattle.solid_parity.specs.declared.part_boxes.PartBox.{PartBox}

-- the part lies in the box of parts
abbrev pub is_in_box : PartBox → ℕ → ℕ → Bool
is_in_box parts split part =
    in_range parts.x (coordinate_of 0 split part) && (in_range parts.y (coordinate_of 1 split part) && in_range parts.z (coordinate_of 2 split part))

-- the parts of the box are those that need the triangle
pub record AreColumnParts (grid : GridShape) (split : ℕ) (t : Triangle) (parts : PartBox) : Type 0 where
  pub x_within : parts.x.to ≤ 2 ^ split
  pub y_within : parts.y.to ≤ 2 ^ split
  pub z_within : parts.z.to ≤ 2 ^ split
  pub needed : (part : ℕ) → part < 8 ^ split → is_in_box parts split part ≡ column_meets (node_cube grid split part) t
