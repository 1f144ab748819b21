-- Why a run stops before its work is done, and what it then leaves as it was.
use Rattle.std.specs.Prelude.{◌≡◌, ◌≢◌, ◌⊎◌, false, List, ℕ, Some, Ok, Err}
use Rattle.dev_traits.specs.Change.{Change, ChangeOf, ScratchChange, StoreChange, IsFaulted, IsKept, IsScratchKept}
use Rattle.svo_words.specs.Meaning.{Means}
use Rattle.svo_words.specs.declared.commands.Command.{Command}
use Rattle.svo_words.specs.declared.commands.WordFault.{WordFault}
use Rattle.svo_top.specs.Build.{IsUntouched}
use Rattle.svo_top.specs.Commands.{MayBeLate, MayRefuseNodes, ReadsInput, takes_memory}
use Rattle.svo_top.specs.Ranges.{range_of}
use Rattle.svo_top.specs.Lines.{Says, stop_line}
use Rattle.svo_top.specs.Usage.{fault_of}
use Rattle.svo_top.specs.declared.outcome.Status.{Status}
use Rattle.svo_top.specs.declared.outcome.Status.TheVariants.{Done, Usage, Input, Range, Device, Refused, Memory}
use Rattle.svo_top.specs.declared.outcome.UsageKind.{UsageKind}
use Rattle.svo_top.specs.declared.outcome.UsageKind.TheVariants.{Command as NoCommand, Options as NoOptions, Value as NoValue}
use Rattle.svo_top.specs.declared.outcome.InputKind.{InputKind}
use Rattle.svo_top.specs.declared.outcome.NodeRefusal.{NodeRefusal}
use Rattle.svo_top.specs.declared.outcome.RangeFault.{RangeFault}
use Rattle.svo_top.specs.declared.outcome.Device.{Device as DeviceName}

-- a usage fault comes exactly where the words are no command line, with what is wrong with them; only values are read with memory, which may run out
pub record UsageCauses (words : List (List ℕ)) (status : Status) : Type 0 where
  pub command : Means words (Err (fault_of NoCommand)) → status ≡ Usage NoCommand
  pub options : Means words (Err (fault_of NoOptions)) → status ≡ Usage NoOptions
  pub value : Means words (Err (fault_of NoValue)) → (status ≡ Usage NoValue) ⊎ (status ≡ Memory)
  pub only : (kind : UsageKind) → status ≡ Usage kind → Means words (Err (fault_of kind))

-- a range fault that needs no node file and no line of the input comes exactly where a number of the command is out of that range, and is the first, unless memory runs out
pub record RangeCauses (words : List (List ℕ)) (status : Status) : Type 0 where
  pub comes : (command : Command) (fault : RangeFault) → Means words (Ok command) → range_of command ≡ Some fault
      → (status ≡ Range fault) ⊎ (status ≡ Memory)
  pub only : (fault : RangeFault) → status ≡ Range fault → (command : Command) × Means words (Ok command) × ((range_of command ≡ Some fault) ⊎ MayBeLate command fault)

-- an input is refused by commands that read it alone, and a node file by those that name one, a second one by the command that names two
pub record RefusalCauses (words : List (List ℕ)) (status : Status) : Type 0 where
  pub input : (kind : InputKind) (place : ℕ) → status ≡ Input kind place → (command : Command) × Means words (Ok command) × ReadsInput command
  pub nodes : (refusal : NodeRefusal) → status ≡ Refused refusal → (command : Command) × Means words (Ok command) × MayRefuseNodes command refusal

-- a device is named only where its count of faults rose in this run
abbrev pub DeviceCause : {Told : Type 0} → DeviceName → ChangeOf Told → Status → Type 0
DeviceCause device change status = status ≡ Device device → IsFaulted change

-- where the words are no command line, or a number is out of a range that needs no file, no device is touched; where memory runs out, nothing is kept on scratch, and nothing is read or put out by any command but one that takes memory while it answers
pub record KeepsDevices (words : List (List ℕ)) (input out : Change) (scratch : ScratchChange) (nodes : StoreChange) (status : Status) : Type 0 where
  pub usage : (fault : WordFault) → Means words (Err fault) → IsUntouched input out scratch × IsKept nodes
  pub range : (command : Command) (fault : RangeFault) → Means words (Ok command) → range_of command ≡ Some fault → IsUntouched input out scratch × IsKept nodes
  pub memory : (command : Command) → Means words (Ok command) → takes_memory command ≡ false → status ≡ Memory → IsUntouched input out scratch
  pub unspilled : status ≡ Memory → IsScratchKept scratch

-- a run that stops says why, in one line
abbrev pub SaysWhy : Change → Status → Type 0
SaysWhy err status = status ≢ Done → Says err (stop_line status)
