-- Why the nearest cell is not answered.
use Rattle.std.specs.Prelude.{◌≡◌, ℕ, List, ⊤, Option}
use Rattle.node_check.specs.declared.walking.WalkFault.TheVariants.{Failed}
use Rattle.ray_walk.specs.Faults.{IsCaused as IsWalkCaused}
use Rattle.near_query.specs.declared.cells.NearFault.{NearFault}
use Rattle.near_query.specs.declared.cells.NearFault.TheVariants.{Walk, Memory}

-- a walk stops as it does for a ray; memory may be wanting at any time
abbrev pub IsCaused : Option (List ℕ) → ℕ → ℕ → NearFault → Type 0
IsCaused told before after (Walk fault) = IsWalkCaused told before after fault
IsCaused told before after Memory = ⊤

-- no word is refused
abbrev pub RefusesNone : NearFault → Type 0
RefusesNone (Walk fault) = fault ≡ Failed
RefusesNone Memory = ⊤
