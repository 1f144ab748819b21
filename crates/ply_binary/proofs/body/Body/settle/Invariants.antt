use Rattle.std.proofs.Common.{◌≡◌, ◌-◌, length}
use Rattle.ply_reader.specs.Declarations.{declared}
use Rattle.ply_binary.specs.BodyStates.{IsIn, IsBetween, body_left}
use Rattle.ply_binary.proofs.body.Body.settle.Given as goal

-- what is to come stays as it is, and no value is begun
abbrev pub invariant-loop-self : goal.invariant-loop-self
invariant-loop-self l = record {
  inside : IsIn (declared l.header) l.self;
  between : IsBetween l.self;
  left : body_left (declared l.header) l.self ≡ body_left (declared l.header) l.initial.self;
}

abbrev pub decreases-loop-self : goal.decreases-loop-self
decreases-loop-self l = length (declared l.header).elements - l.self.next
