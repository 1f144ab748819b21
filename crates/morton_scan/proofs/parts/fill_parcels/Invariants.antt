-- The parcels so far were taken, the reader stands behind them, the stream's length is known, and the scratch is as it was.
use Rattle.std.proofs.Common.{◌≡◌, ◌-◌, ◌^◌, ◌<◌, ◌≤◌, length}
use Rattle.std.specs.Prelude.{IfSome}
use Rattle.bit_grid.specs.Touched.{AreTouched}
use Rattle.tri_partition.specs.PartStreams.{part_stream}
use Rattle.tri_partition.specs.Reading.{StillHolds}
use Rattle.morton_scan.proofs.TakenParcels.{IsTaking}
use Rattle.morton_scan.proofs.parts.fill_parcels.Given as goal

abbrev pub invariant-loop-parcel : goal.invariant-loop-parcel
invariant-loop-parcel g l =
    IsTaking l.grid l.split l.part (g.S.Scratch.told l.fn.scratch) l.fn.slots l.slots l.fn.tests l.tests l.reader
    × AreTouched l.slots l.blocks
    × IfSome (g.S.Scratch.told l.fn.scratch) (λ streams. StillHolds (part_stream streams l.part) l.reader)
    × (l.reader.part ≡ l.part)
    × (l.reader.place < 2 ^ 64)
    × (g.S.Scratch.told l.scratch ≡ g.S.Scratch.told l.fn.scratch)
    × (g.S.Scratch.started l.scratch ≡ g.S.Scratch.started l.fn.scratch)
    × (g.S.Scratch.asked l.scratch ≡ g.S.Scratch.asked l.fn.scratch)
    × (g.S.Scratch.faults l.fn.scratch ≤ g.S.Scratch.faults l.scratch)
    × IfSome (g.S.Scratch.told l.fn.scratch) (λ streams. l.end ≡ length (part_stream streams l.part))

abbrev pub decreases-loop-parcel : goal.decreases-loop-parcel
decreases-loop-parcel g l = 2 ^ 64 - l.reader.place
