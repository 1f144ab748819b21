-- The parcels of the box of parts are those of the triangle.
use Rattle.std.proofs.Common.{ap}
use Rattle.octree_specs.specs.FacedTriangles.{Faced}
use Rattle.tri_partition.specs.Partitioning.{parcels_of}
use Rattle.tri_partition.specs.PartRanges.{box_parcels}
use Rattle.tri_partition.proofs.BoxParcels.{all_alike}
use Rattle.tri_partition.proofs.SpilledRuns.{spills_alike_if_ok}
use Rattle.tri_partition.proofs.partition.Partition.add.Goals as goal

pub returns-clause-added : goal.returns-clause-added
returns-clause-added g c =
    let x : Faced = record { triangle = c.args.triangle.now; face = c.args.face } in
    spills_alike_if_ok c.add_box.result (g.S.Scratch.told c.args.scratch.now) (g.S.Scratch.told c.add_box.new.scratch) c.self.inside.parcels.waiting c.args.self.now.waiting
    (box_parcels c.self.inside.parcels.levels c.self.inside.parcels.before c.parcel_of-parcel.result c.reached_parts-xs.result c.reached_parts-ys.result c.reached_parts-zs.result)
    (parcels_of c.args.self.now.grid c.args.self.now.split x) c.add_box.new.self.waiting (ap (λ view. view.waiting) c.self.view_is)
    (all_alike c.self.inside.grid c.args.self.now.grid c.self.inside.split c.args.self.now.split c.self.inside.parcels.levels c.self.inside.parcels.before c.of_triangle-bounds.result x
    c.parcel_of-parcel.result c.reached_parts-xs.result c.reached_parts-ys.result c.reached_parts-zs.result
    (ap (λ view. view.grid) c.self.view_is) (ap (λ view. view.split) c.self.view_is) c.self.invariant.2 c.self.invariant.3 c.of_triangle-bounds.ensures c.parcel_of-parcel.ensures
    c.reached_parts-xs.ensures.to c.reached_parts-ys.ensures.to c.reached_parts-zs.ensures.to c.reached_parts-xs.ensures.reached c.reached_parts-ys.ensures.reached c.reached_parts-zs.ensures.reached)
    c.add_box.ensures.added
