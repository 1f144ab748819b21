use Rattle.std.proofs.Common.{◌-◌, ◌^◌}
use Rattle.ply_text.specs.Reading.{reading}
use Rattle.ply_text.specs.Calls.{SameLent}
use Rattle.ply_reader.specs.Declarations.{declared}
use Rattle.ply_reader.proofs.HeaderRuns.{ComesInHeader}
use Rattle.ply_reader.proofs.header_lines.read_header.Given as goal

abbrev pub invariant-loop : goal.invariant-loop
invariant-loop g l = record {
  same : SameLent l.fn.tokens l.tokens;
  comes : ComesInHeader (declared l.header) (reading l.fn.tokens) (reading l.tokens);
}

abbrev pub decreases-loop : goal.decreases-loop
decreases-loop g l = 2 ^ 62 - l.tokens.place
