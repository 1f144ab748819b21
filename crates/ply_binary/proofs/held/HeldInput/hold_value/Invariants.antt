use Rattle.std.proofs.Common.{◌≤◌, ◌-◌}
use Rattle.ply_binary.specs.HeldStates.{HoldsMore}
use Rattle.ply_binary.proofs.held.HeldInput.hold_value.Given as goal

-- bytes came behind those that were held
abbrev pub invariant-reads : goal.invariant-reads
invariant-reads g l = record {
  holds : HoldsMore l.initial.self l.self;
  later : g.I.ByteSource.faults l.initial.self.input.now ≤ g.I.ByteSource.faults l.self.input.now;
}

abbrev pub decreases-reads : goal.decreases-reads
decreases-reads g l = 8 - (l.self.to - l.self.from)
