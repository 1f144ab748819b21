-- What the build of a job answers and leaves.
use Rattle.std.specs.Prelude.{◌≡◌, ℕ, ◌+◌, ◌^◌, List, Some, Result, Err, MatchResult}
use Rattle.dev_traits.specs.Change.{Change, ScratchChange, IsFaulted}
use Rattle.dev_traits.specs.Streams.{asked_of}
use Rattle.ply_binary.specs.AsciiChanges.{IsReadAsAscii}
use Rattle.build_core.specs.Building.{HasBuilt, StopsBuild}
use Rattle.build_core.specs.declared.faults.BuildFault.{BuildFault}
use Rattle.build_core.specs.declared.faults.BuildFault.TheVariants.{ReadFault, ScratchFault, WriteFault}
use Rattle.build_core.specs.declared.jobs.Built.{Built}
use Rattle.build_core.specs.declared.jobs.Job.{Job}
use Rattle.build_core.specs.Building.{devices_of}

-- the file, or why there is none; what the scratch was asked; and which device's count rose
pub record BuildsJob (job : Job) (place : List ℕ) (input out : Change) (scratch : ScratchChange) (result : Result Built BuildFault) : Type 0 where
  pub moves : ℕ
  pub moved : ℕ
  pub tests : ℕ
  pub tested : ℕ
  pub builds : MatchResult result (HasBuilt job (devices_of input out scratch) moves moved tests tested) (StopsBuild job (devices_of input out scratch))
  pub asked : scratch.asked_after ≡ Some (asked_of place (1 + 8 ^ job.plan.split))
  pub read : result ≡ Err ReadFault → IsFaulted input
  pub spilled : result ≡ Err ScratchFault → IsFaulted scratch.streams
  pub written : result ≡ Err WriteFault → IsFaulted out

-- the same of the text of an input as ASCII
pub record BuildsAscii (job : Job) (place : List ℕ) (input out : Change) (scratch : ScratchChange) (result : Result Built BuildFault) : Type 0 where
  pub text : Change
  pub ascii : IsReadAsAscii input text
  pub builds : BuildsJob job place text out scratch result
  pub read : result ≡ Err ReadFault → IsFaulted input
  pub spilled : result ≡ Err ScratchFault → IsFaulted scratch.streams
  pub written : result ≡ Err WriteFault → IsFaulted out
