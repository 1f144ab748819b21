use Rattle.tri_cube.proofs.NearCorner.{reached_parts}
use Rattle.tri_cube.proofs.near.NearExtents.new.Goals as goal

pub new-requires : goal.new-requires
new-requires c = (reached_parts c.args.triangle.now c.args.bounds.now c.args.extents.now c.requires.small c.requires.bounds c.requires.reached).within_x

pub new-requires-2 : goal.new-requires-2
new-requires-2 c = (reached_parts c.args.triangle.now c.args.bounds.now c.args.extents.now c.requires.small c.requires.bounds c.requires.reached).within_y

pub new-requires-3 : goal.new-requires-3
new-requires-3 c = (reached_parts c.args.triangle.now c.args.bounds.now c.args.extents.now c.requires.small c.requires.bounds c.requires.reached).within_z
