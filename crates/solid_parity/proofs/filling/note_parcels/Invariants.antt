-- The parcels so far were noted, the reader stands behind them, the stream's length is known, and the scratch is as it was.
use Rattle.std.proofs.Common.{◌≡◌, ◌-◌, ◌^◌, ◌<◌, ◌≤◌, length}
use Rattle.std.specs.Prelude.{IfSome}
use Rattle.tri_partition.specs.PartStreams.{part_stream}
use Rattle.tri_partition.specs.Reading.{StillHolds}
use Rattle.solid_parity.specs.Counts.{AreKept}
use Rattle.solid_parity.proofs.TakenNotes.{IsNoting}
use Rattle.solid_parity.proofs.filling.note_parcels.Given as goal

abbrev pub invariant-loop-parcel : goal.invariant-loop-parcel
invariant-loop-parcel g l =
    IsNoting l.columns (g.S.Scratch.told l.fn.scratch) l.fn.slots l.slots l.reader
    × AreKept l.columns l.slots l.blocks l.marks
    × IfSome (g.S.Scratch.told l.fn.scratch) (λ streams. StillHolds (part_stream streams l.columns.part) l.reader)
    × (l.reader.part ≡ l.columns.part)
    × (l.reader.place < 2 ^ 64)
    × (g.S.Scratch.told l.scratch ≡ g.S.Scratch.told l.fn.scratch)
    × (g.S.Scratch.started l.scratch ≡ g.S.Scratch.started l.fn.scratch)
    × (g.S.Scratch.asked l.scratch ≡ g.S.Scratch.asked l.fn.scratch)
    × (g.S.Scratch.faults l.fn.scratch ≤ g.S.Scratch.faults l.scratch)
    × IfSome (g.S.Scratch.told l.fn.scratch) (λ streams. l.end ≡ length (part_stream streams l.columns.part))

abbrev pub decreases-loop-parcel : goal.decreases-loop-parcel
decreases-loop-parcel g l = 2 ^ 64 - l.reader.place
