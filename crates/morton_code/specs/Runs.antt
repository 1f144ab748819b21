-- Runs of codes: the cells under a node are those from the node's code, followed by a digit 0 for each level down, to before the next node's.
use Rattle.std.specs.Prelude.{◌≡◌, ℕ, ◌+◌, ◌-◌, ◌*◌, ◌^◌, ◌<◌, ◌≤◌}
use Rattle.morton_code.specs.declared.runs.Run.{Run}

-- the run begins at `from` and ends not after `to`, in an octree of this depth
pub record IsRun (from to depth : ℕ) (run : Run) : Type 0 where
  pub level : run.level ≤ depth
  pub node : run.code < 8 ^ run.level
  pub begins : run.code * 8 ^ (depth - run.level) ≡ from
  pub ends : from + 8 ^ (depth - run.level) ≤ to

-- no other such run has more codes
pub record IsGreatestRun (from to depth : ℕ) (run : Run) : Type 0 where
  pub fits : IsRun from to depth run
  pub greatest : (other : Run) → IsRun from to depth other → run.level ≤ other.level
