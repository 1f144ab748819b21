-- What was read ahead still stands in the stream.
use Rattle.std.proofs.Common.{◌≡◌, ◌-◌, ◌^◌, ◌<◌}
use Rattle.std.specs.Prelude.{IfSome}
use Rattle.tri_partition.specs.PartStreams.{part_stream}
use Rattle.tri_partition.specs.Reading.{StillHolds}
use Rattle.build_tests.proofs.tri_partition_tests.see.Given as goal

abbrev pub invariant-loop-parcel : goal.invariant-loop-parcel
invariant-loop-parcel g l = record {
  part : l.reader.part ≡ l.fn.part;
  place : l.reader.place < 2 ^ 64;
  told : g.S.Scratch.told l.scratch ≡ g.S.Scratch.told l.fn.scratch;
  started : g.S.Scratch.started l.scratch ≡ g.S.Scratch.started l.fn.scratch;
  holds : IfSome (g.S.Scratch.told l.scratch) (λ streams. StillHolds (part_stream streams l.fn.part) l.reader);
}

abbrev pub decreases-loop-parcel : goal.decreases-loop-parcel
decreases-loop-parcel g l = 2 ^ 64 - l.reader.place
