-- The corners of a triangle as vectors, and its edges.
use Rattle.std.specs.Prelude.{◌-ℤ◌}
use Rattle.svo_base.specs.declared.shapes.Point.{Point}
use Rattle.svo_base.specs.declared.shapes.Vector.{Vector}
use Rattle.octree_specs.specs.Vectors.{vector}

abbrev pub corner : Point → Vector
corner p = vector p.x p.y p.z

-- from one corner to another
abbrev pub edge_of : Point → Point → Vector
edge_of from to = vector (to.x -ℤ from.x) (to.y -ℤ from.y) (to.z -ℤ from.z)
