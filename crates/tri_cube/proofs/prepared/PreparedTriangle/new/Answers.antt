use Rattle.tri_cube.proofs.prepared.PreparedTriangle.new.Goals as goal

pub invariant_of-result : goal.invariant_of-result
invariant_of-result c = record { extents = c.of_triangle-extents.ensures; form = c.new.ensures }
