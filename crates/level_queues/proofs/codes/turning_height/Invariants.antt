-- Below the height reached the cells lie under different nodes.
use Rattle.std.proofs.Common.{◌≢◌, ◌-◌, ◌/◌, ◌^◌, ◌<◌}
use Rattle.level_queues.proofs.codes.turning_height.Given as goal

abbrev pub invariant-loop-height : goal.invariant-loop-height
invariant-loop-height l = record { within : l.height < l.depth; apart : 0 < l.height → l.code / 8 ^ l.height ≢ l.last / 8 ^ l.height }

abbrev pub decreases-loop-height : goal.decreases-loop-height
decreases-loop-height l = l.depth - l.height
