use Rattle.std.proofs.Common.{◌≤◌, ◌+◌, ◌-◌, ◌^◌}
use Rattle.ply_text.specs.Holding.{PassesWhite}
use Rattle.ply_text.proofs.tokens.Tokens.pass_white.Given as goal

-- white space was passed
abbrev pub invariant-reads : goal.invariant-reads
invariant-reads g l = record {
  passes : PassesWhite l.initial.self l.self;
  later : g.I.ByteSource.faults l.initial.self.input.now ≤ g.I.ByteSource.faults l.self.input.now;
}

-- the places left, and one more where no byte is held
abbrev pub decreases-reads : goal.decreases-reads
decreases-reads g l = 2 ^ 62 - l.self.place + (1 - (l.self.to - l.self.from))
