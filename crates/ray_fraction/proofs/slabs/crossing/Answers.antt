use Rattle.std.proofs.Common.{pos}
use Rattle.std.specs.List.{slice_index_or}
use Rattle.octree_specs.specs.Meeting.{low_of, high_of}
use Rattle.ray_fraction.proofs.Gone.{gone_in_slab}
use Rattle.ray_fraction.proofs.slabs.crossing.Goals as goal

pub returns-clause-times : goal.returns-clause-times
returns-clause-times c = λ n m some.
    let axis = c.args.axis in
    let ray = c.args.ray.now in
    let cube = c.args.cube.now in
    let seen = c.approach_along in
    let gone = gone_in_slab (slice_index_or ray.origin axis (pos 0)) (slice_index_or ray.direction axis (pos 0)) (low_of cube axis) (high_of cube axis) seen.result.low seen.result.high seen.result.speed seen.ensures.low seen.ensures.high seen.ensures.speed n m in
    let times = c.passage.ensures.times n m some in
    (λ h. gone.0 (times.0 h), λ h. times.1 (gone.1 h))
