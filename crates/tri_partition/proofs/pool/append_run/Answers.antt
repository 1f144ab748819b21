-- A run of one part.
use Rattle.std.proofs.Common.{take}
use Rattle.tri_partition.proofs.SpilledRuns.{run_appended}
use Rattle.tri_partition.proofs.pool.append_run.Goals as goal

pub returns-clause-appended : goal.returns-clause-appended
returns-clause-appended g c =
    run_appended (g.S.Scratch.told c.args.scratch.now) (g.S.Scratch.told c.append.new.self) _ (take c.write_parcels-used.result c.write_parcels-used.new.block)
    (take c.run_length-size.result c.args.parcels.now) c.run_length-size.ensures.run c.write_parcels-used.ensures.written c.in_ok-append.ensures.bytes
