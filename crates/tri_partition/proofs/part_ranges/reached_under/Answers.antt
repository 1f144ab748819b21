-- The range of a level, cut to the parts under the node.
use Rattle.std.proofs.Common.{◌+◌, ◌-◌, ◌*◌, ◌^◌, ◌∙◌}
use Rattle.tri_partition.proofs.PartsUnder.{cut_ends, place_in_level}
use Rattle.tri_partition.proofs.part_ranges.reached_under.Goals as goal

pub returns-clause-reached : goal.returns-clause-reached
returns-clause-reached c place inside =
    cut_ends c.reached_parts-all.result c.args.split c.args.node c.saturating_sub.result c.saturating_sub-2.result c.min.result place c.requires.split inside
    c.saturating_sub.ensures c.saturating_sub-2.ensures c.min.ensures
    ∙ c.reached_parts-all.ensures.reached (c.args.node * 2 ^ (c.args.split - 4) + place) (place_in_level c.args.split c.args.node place c.requires.deep c.requires.node inside)
