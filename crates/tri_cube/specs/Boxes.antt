-- Boxes: a between along each axis.
use Rattle.std.specs.Prelude.{Bool, ◌||◌, ◌&&◌, int_le}
use Rattle.tri_cube.specs.declared.extents.Extents.{Extents}
use Rattle.tri_cube.specs.Extents.{shapes_miss}

-- the two boxes share no point
unfoldable pub extents_miss : Extents → Extents → Bool
extents_miss e f = shapes_miss e.x f.x || shapes_miss e.y f.y || shapes_miss e.z f.z

-- the box has a point
unfoldable pub extents_in_order : Extents → Bool
extents_in_order e = int_le e.x.low e.x.high && int_le e.y.low e.y.high && int_le e.z.low e.z.high
