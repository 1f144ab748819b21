-- The parcel is behind those that wait.
use Rattle.std.proofs.Common.{take}
use Rattle.tri_partition.proofs.SpilledRuns.{put_in_parts, spill_put}
use Rattle.tri_partition.proofs.pool.put.Goals as goal

pub returns-clause-parts : goal.returns-clause-parts
returns-clause-parts g c parts inside below =
    put_in_parts c.make_room.new.pool c.in_ok-used.used parts c.args.parcel.now c.in_ok-used.ensures.room (c.in_ok-used.ensures.parts parts inside) below

pub returns-clause-spilled : goal.returns-clause-spilled
returns-clause-spilled g c =
    spill_put (g.S.Scratch.told c.args.scratch.now) (g.S.Scratch.told c.make_room.new.scratch) (take c.args.used c.args.pool.now) c.make_room.new.pool c.in_ok-used.used c.args.parcel.now
    c.in_ok-used.ensures.room c.in_ok-used.ensures.spilled
