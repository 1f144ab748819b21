-- Where there is room, nothing is appended.
use Rattle.std.proofs.Common.{take}
use Rattle.tri_partition.proofs.SpilledRuns.{none_spilled}
use Rattle.tri_partition.proofs.pool.make_room.Goals as goal

pub returns-then-used-pool-clause-spilled : goal.returns-then-used-pool-clause-spilled
returns-then-used-pool-clause-spilled g c = none_spilled (g.S.Scratch.told c.args.scratch.now) (take c.args.used c.args.pool.now)
