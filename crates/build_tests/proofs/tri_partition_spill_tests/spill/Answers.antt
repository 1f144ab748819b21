-- Of a split of 2 there are 64 parts.
use Rattle.std.proofs.Common.{◌^◌, ◌<◌, sym, subst, arith}
use Rattle.tri_partition.proofs.ReachedParts.{parts_within}
use Rattle.build_tests.proofs.tri_partition_spill_tests.spill.Goals as goal

pub add-requires : goal.add-requires
add-requires g c =
    subst (λ split. 8 ^ split < g.S.Scratch.started c.loop-corners.scratch) (sym c.loop-corners.invariant.split)
    (omega (arith, parts_within c.args.split 2 c.requires.split, c.requires.streams, c.loop-corners.invariant.started))

pub flush-requires : goal.flush-requires
flush-requires g c =
    subst (λ split. 8 ^ split < g.S.Scratch.started c.loop-corners.scratch) (sym c.loop-corners.invariant.split)
    (omega (arith, parts_within c.args.split 2 c.requires.split, c.requires.streams, c.loop-corners.invariant.started))
