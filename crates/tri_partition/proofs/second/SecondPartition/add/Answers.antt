-- The parcels of the box of parts under the node are those of the triangle.
use Rattle.std.proofs.Common.{ap}
use Rattle.octree_specs.specs.FacedTriangles.{Faced}
use Rattle.tri_partition.specs.Partitioning.{parcels_under}
use Rattle.tri_partition.specs.PartRanges.{box_parcels}
use Rattle.tri_partition.proofs.PartsUnder.{place_few, under_alike}
use Rattle.tri_partition.proofs.SpilledRuns.{spills_alike_if_ok}
use Rattle.tri_partition.proofs.second.SecondPartition.add.Goals as goal

pub reached_under-xs-requires-clause-node : goal.reached_under-xs-requires-clause-node
reached_under-xs-requires-clause-node g c = place_few 0 c.self.inside.first c.from.result c.decode-x.result.0 c.self.invariant.3 c.from.ensures c.decode-x.ensures.x

pub reached_under-ys-requires-clause-node : goal.reached_under-ys-requires-clause-node
reached_under-ys-requires-clause-node g c = place_few 1 c.self.inside.first c.from.result c.decode-x.result.1 c.self.invariant.3 c.from.ensures c.decode-x.ensures.y

pub reached_under-zs-requires-clause-node : goal.reached_under-zs-requires-clause-node
reached_under-zs-requires-clause-node g c = place_few 2 c.self.inside.first c.from.result c.decode-x.result.2 c.self.invariant.3 c.from.ensures c.decode-x.ensures.z

pub returns-clause-added : goal.returns-clause-added
returns-clause-added g c =
    let x : Faced = record { triangle = c.args.triangle.now; face = c.args.face } in
    spills_alike_if_ok c.add_box.result (g.S.Scratch.told c.args.scratch.now) (g.S.Scratch.told c.add_box.new.scratch) c.self.inside.parcels.waiting c.args.self.now.waiting
    (box_parcels c.self.inside.parcels.levels c.self.inside.parcels.before c.parcel_of-parcel.result c.reached_under-xs.result c.reached_under-ys.result c.reached_under-zs.result)
    (parcels_under c.args.self.now.grid c.args.self.now.split c.args.self.now.first x) c.add_box.new.self.waiting (ap (λ view. view.waiting) c.self.view_is)
    (under_alike c.self.inside.grid c.args.self.now.grid c.self.inside.split c.args.self.now.split c.self.inside.first c.args.self.now.first c.self.inside.parcels.levels c.self.inside.parcels.before
    c.from.result c.decode-x.result.0 c.decode-x.result.1 c.decode-x.result.2 c.of_triangle-bounds.result x
    c.parcel_of-parcel.result c.reached_under-xs.result c.reached_under-ys.result c.reached_under-zs.result
    (ap (λ view. view.grid) c.self.view_is) (ap (λ view. view.split) c.self.view_is) (ap (λ view. view.first) c.self.view_is) c.self.invariant.0 c.self.invariant.3 c.self.invariant.4 c.self.invariant.5
    c.from.ensures c.decode-x.ensures.x c.decode-x.ensures.y c.decode-x.ensures.z c.of_triangle-bounds.ensures c.parcel_of-parcel.ensures
    c.reached_under-xs.ensures.to c.reached_under-ys.ensures.to c.reached_under-zs.ensures.to c.reached_under-xs.ensures.reached c.reached_under-ys.ensures.reached c.reached_under-zs.ensures.reached)
    c.add_box.ensures.added
