-- What the ending of a command means for the status and the line of the run.
use Rattle.std.specs.Prelude.{ℕ, List, [], ⊤, Result, Ok, Err}
use Rattle.dev_traits.specs.Change.{Change, ScratchChange}
use Rattle.ply_binary.specs.AsciiChanges.{IsReadAsAscii}
use Rattle.svo_top.specs.Build.{IsBuilt, BuildMeans, counts_of}
use Rattle.build_core.specs.declared.jobs.Built.{Built as BuildResult}
use Rattle.build_core.specs.declared.faults.BuildFault.{BuildFault}
use Rattle.build_core.specs.declared.faults.BuildFault.TheVariants as fault
use Rattle.svo_top.specs.Lines.{stop_line, built_line}
use Rattle.svo_words.specs.declared.build.BuildWords.{BuildWords}
use Rattle.svo_top.specs.declared.outcome.Status.{Status}
use Rattle.svo_top.specs.declared.outcome.Status.TheVariants.{Done, Usage, Input, Range, Device, Refused, Memory}
use Rattle.svo_top.specs.declared.outcome.InputKind.TheVariants.{Ply}
use Rattle.svo_top.specs.declared.outcome.Device.TheVariants.{Read, Scratch, Write, Nodes}
use Rattle.svo_top.specs.declared.reporting.Ending.{Ending}
use Rattle.svo_top.specs.declared.reporting.Ending.TheVariants.{Built as EndsBuilt, Answered, Stopped}

abbrev pub status_of : Ending → Status
status_of (EndsBuilt counts) = Done
status_of Answered = Done
status_of (Stopped status) = status

-- how a build ends
abbrev pub ending_of : Result BuildResult BuildFault → Ending
ending_of (Ok built) = EndsBuilt (counts_of built)
ending_of (Err (fault.Input kind place)) = Stopped (Input (Ply kind) place)
ending_of (Err fault.ReadFault) = Stopped (Device Read)
ending_of (Err fault.ScratchFault) = Stopped (Device Scratch)
ending_of (Err fault.WriteFault) = Stopped (Device Write)

abbrev pub line_of : Ending → List ℕ
line_of (EndsBuilt counts) = built_line counts.cells counts.records counts.parts
line_of Answered = []
line_of (Stopped status) = stop_line status

-- a build that is done says what it built, and one that stopped is not done and found the words in order
abbrev pub EndsBuild : BuildWords → Change → Change → ScratchChange → Ending → Type 0
EndsBuild words input out scratch (EndsBuilt counts) = IsBuilt words input out scratch counts
EndsBuild words input out scratch Answered = ⊥
EndsBuild words input out scratch (Stopped Done) = ⊥
EndsBuild words input out scratch (Stopped (Usage kind)) = ⊥
EndsBuild words input out scratch (Stopped (Input kind place)) = ⊤
EndsBuild words input out scratch (Stopped (Range fault)) = ⊤
EndsBuild words input out scratch (Stopped (Device Read)) = ⊤
EndsBuild words input out scratch (Stopped (Device Scratch)) = ⊤
EndsBuild words input out scratch (Stopped (Device Write)) = ⊤
EndsBuild words input out scratch (Stopped (Device Nodes)) = ⊥
EndsBuild words input out scratch (Stopped (Refused refusal)) = ⊥
EndsBuild words input out scratch (Stopped Memory) = ⊤

-- how a build of the input's text as ASCII ends, and what that means
pub record BuildEnds (words : BuildWords) (input out : Change) (scratch : ScratchChange) (ending : Ending) : Type 0 where
  pub text : Change
  pub ascii : IsReadAsAscii input text
  pub ends : EndsBuild words text out scratch ending
  pub means : BuildMeans words input text out scratch (status_of ending)

-- a question that is answered has no line, and it reads no input
abbrev pub EndsWhy : Ending → Type 0
EndsWhy (EndsBuilt counts) = ⊥
EndsWhy Answered = ⊤
EndsWhy (Stopped Done) = ⊥
EndsWhy (Stopped (Usage kind)) = ⊥
EndsWhy (Stopped (Input kind place)) = ⊥
EndsWhy (Stopped (Range fault)) = ⊤
EndsWhy (Stopped (Device Read)) = ⊥
EndsWhy (Stopped (Device Scratch)) = ⊥
EndsWhy (Stopped (Device Write)) = ⊤
EndsWhy (Stopped (Device Nodes)) = ⊥
EndsWhy (Stopped (Refused refusal)) = ⊥
EndsWhy (Stopped Memory) = ⊤

-- a command that counts nothing has no line where it is done
abbrev pub EndsQuietly : Ending → Type 0
EndsQuietly (EndsBuilt counts) = ⊥
EndsQuietly Answered = ⊤
EndsQuietly (Stopped status) = ⊤
