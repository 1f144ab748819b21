use Rattle.std.proofs.Common.{◌≡◌, ◌-◌, ◌≤◌, ◌*◌, ◌++◌, ℕ, List, length, take, drop}
use Rattle.ply_reader.specs.Declarations.{declared}
use Rattle.ply_binary.specs.BodyStates.{IsIn, body_left}
use Rattle.ply_binary.proofs.rewriting.rewrite.Given as goal

-- what was made and what is still to come stay as they are, whatever bytes follow
abbrev pub invariant-values : goal.invariant-values
invariant-values l = record {
  inside : IsIn (declared l.header) l.body;
  used : l.used ≤ length l.bytes;
  made : l.made ≤ length l.into;
  grew : l.used ≤ 8 * l.made;
  size : length l.into ≡ length l.initial.into;
  left : (behind : List ℕ) → body_left (declared l.header) l.initial.body (l.bytes ++ behind) ≡ take l.made l.into ++ body_left (declared l.header) l.body (drop l.used l.bytes ++ behind);
}

abbrev pub decreases-values : goal.decreases-values
decreases-values l = length l.bytes - l.used
