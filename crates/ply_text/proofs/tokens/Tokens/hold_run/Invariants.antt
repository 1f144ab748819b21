use Rattle.std.proofs.Common.{◌≤◌, ◌+◌, ◌-◌}
use Rattle.std.specs.List.{prefix_len}
use Rattle.ply_text.specs.Pieces.{belongs}
use Rattle.ply_text.specs.Reading.{held}
use Rattle.ply_text.specs.Holding.{Holds}
use Rattle.ply_text.proofs.tokens.Tokens.hold_run.Given as goal

-- what is held begins with what was held, and the bytes looked at belong to the run
abbrev pub invariant-reads : goal.invariant-reads
invariant-reads g l = record {
  holds : Holds l.initial.self l.self;
  later : g.I.ByteSource.faults l.initial.self.input.now ≤ g.I.ByteSource.faults l.self.input.now;
  size : l.size ≤ prefix_len (belongs l.run) (held l.self);
}

abbrev pub decreases-reads : goal.decreases-reads
decreases-reads g l = l.limit + 1 - (l.self.to - l.self.from)
