-- Both ends of what the extent reaches.
use Rattle.std.proofs.Common.{pos}
use Rattle.std.specs.Prelude.{slice_index_or}
use Rattle.tri_partition.proofs.ReachedParts.{both_ends}
use Rattle.tri_partition.proofs.part_ranges.reached_parts.Goals as goal

pub returns-clause-reached : goal.returns-clause-reached
returns-clause-reached c part inside =
    rw (← c.side-side.ensures.value)
    (both_ends (slice_index_or c.args.grid.now.origin c.args.axis (pos 0)) c.args.extent.now.low c.args.extent.now.high c.above.result c.above-2.result
    c.side-side.result c.args.split c.min-from.result c.min-to.result c.whole_sides.result c.whole_sides-2.result part
    c.side-side.ensures.some c.side-side.ensures.narrow c.requires.split inside c.fits-extent.0.1 c.fits-extent.1.0.1 c.above.ensures.near c.above-2.ensures.near
    c.above.ensures.value c.above-2.ensures.value c.whole_sides.ensures c.whole_sides-2.ensures c.min-from.ensures c.min-to.ensures)
