-- What carrying out a command does, whatever the words were.
use Rattle.std.specs.Prelude.{◌≡◌, ◌≢◌, ◌⊎◌, ℕ, false, List, Option, None, Some, Ok}
use Rattle.std.specs.Result.{result_err}
use Rattle.dev_traits.specs.Change.{Change, ScratchChange, StoreChange, IsFaulted, IsKept, IsScratchKept}
use Rattle.svo_words.specs.declared.commands.Command.{Command}
use Rattle.svo_words.specs.declared.commands.Command.TheVariants.{Build, Why, Check, Has, Cells, Lift, Cast, Slice, View, Make, Sum, Near, Merge, Coarse}
use Rattle.ray_answers.specs.declared.queries.QueryKind.TheVariants.{Rays, Points}
use Rattle.svo_top.specs.FileQuestion.{Asks, IsLate, IsOfOneFile, MayRefuse, takes_memory as takes_memory_to_ask}
use Rattle.svo_top.specs.Build.{IsUntouched}
use Rattle.svo_top.specs.Commands.{MayRefuseNodes, ReadsInput, MayBeLate, takes_memory}
use Rattle.svo_top.specs.Endings.{status_of, BuildEnds, EndsWhy, EndsQuietly}
use Rattle.slice_view.specs.Cameras.{CameraShape}
use Rattle.svo_words.specs.declared.pictures.ViewWords.{ViewWords}
use Rattle.svo_top.specs.Picturing.{axis_from, camera_of}
use Rattle.svo_top.specs.Make.{MakeMeans}
use Rattle.svo_top.specs.Merging.{Merges}
use Rattle.svo_top.specs.Sum.{EndsSum, SumMeans}
use Rattle.svo_top.specs.Ranges.{RangeIs, range_of, range_of_keep}
use Rattle.svo_top.specs.Why.{WhyMeans}
use Rattle.svo_top.specs.declared.file_question.Question.{Question}
use Rattle.svo_top.specs.declared.file_question.Question.TheVariants as question
use Rattle.svo_top.specs.declared.reporting.Ending.{Ending}
use Rattle.svo_top.specs.declared.outcome.Status.{Status}
use Rattle.svo_top.specs.declared.outcome.Status.TheVariants.{Usage, Input, Range, Refused, Memory}
use Rattle.svo_top.specs.declared.outcome.UsageKind.{UsageKind}
use Rattle.svo_top.specs.declared.outcome.InputKind.{InputKind}
use Rattle.svo_top.specs.declared.outcome.RangeFault.{RangeFault}
use Rattle.svo_top.specs.declared.outcome.NodeRefusal.{NodeRefusal}

-- a question about the file of a name, unless a number is out of a range that needs no file
pub record CarriesOutQuestion (question : Question) (name : List ℕ) (range : Option RangeFault) (input out : Change) (nodes : StoreChange) (ending : Ending) : Type 0 where
  pub quiet : EndsQuietly ending
  pub asks : range ≡ None → Asks question name input out nodes (status_of ending)

-- the same of a view, whose camera is within its limits
pub record CarriesOutView (words : ViewWords) (input out : Change) (nodes : StoreChange) (ending : Ending) : Type 0 where
  pub quiet : EndsQuietly ending
  pub asks : (camera : CameraShape) → camera_of (range_of_keep words.keep) words ≡ Ok camera → Asks (question.View camera) words.nodes input out nodes (status_of ending)

-- what each command means
abbrev pub CarriesOut : Command → Change → Change → ScratchChange → StoreChange → Ending → Type 0
CarriesOut (Build words) input out scratch nodes ending = BuildEnds words input out scratch ending × IsKept nodes
CarriesOut (Why words) input out scratch nodes ending = EndsWhy ending × WhyMeans words out (status_of ending) × IsKept input × IsScratchKept scratch × IsKept nodes
CarriesOut (Check words) input out scratch nodes ending = CarriesOutQuestion question.Check words.nodes None input out nodes ending × IsScratchKept scratch
CarriesOut (Has words) input out scratch nodes ending = CarriesOutQuestion (question.Has words.code) words.nodes None input out nodes ending × IsScratchKept scratch
CarriesOut (Cells words) input out scratch nodes ending = CarriesOutQuestion question.Cells words.nodes (range_of_keep words.keep) input out nodes ending × IsScratchKept scratch
CarriesOut (Lift words) input out scratch nodes ending = CarriesOutQuestion question.Lift words.nodes None input out nodes ending × IsScratchKept scratch
CarriesOut (Cast words) input out scratch nodes ending = CarriesOutQuestion (question.Lines Rays) words.nodes (range_of_keep words.keep) input out nodes ending × IsScratchKept scratch
CarriesOut (Near words) input out scratch nodes ending = CarriesOutQuestion (question.Lines Points) words.nodes (range_of_keep words.keep) input out nodes ending × IsScratchKept scratch
CarriesOut (Slice words) input out scratch nodes ending = CarriesOutQuestion (question.Slice (axis_from words.axis) words.at) words.nodes (range_of_keep words.keep) input out nodes ending × IsScratchKept scratch
CarriesOut (Coarse words) input out scratch nodes ending = CarriesOutQuestion (question.Coarse words.levels) words.nodes None input out nodes ending × IsScratchKept scratch
CarriesOut (Merge words) input out scratch nodes ending = EndsQuietly ending × Merges words out nodes (status_of ending) × IsKept input × IsScratchKept scratch
CarriesOut (View words) input out scratch nodes ending = CarriesOutView words input out nodes ending × IsScratchKept scratch
CarriesOut (Make words) input out scratch nodes ending = EndsWhy ending × MakeMeans words out (status_of ending) × IsKept input × IsScratchKept scratch × IsKept nodes
CarriesOut (Sum words) input out scratch nodes ending = EndsSum ending × SumMeans words out scratch (status_of ending) × IsKept input × IsKept nodes

-- what is the same for all: the range that a number is out of is named, and then nothing is touched; nothing is read or put out where memory runs out that is not taken meanwhile, and nothing kept; and which commands may end so
pub record Stops (command : Command) (input out : Change) (scratch : ScratchChange) (nodes : StoreChange) (status : Status) : Type 0 where
  pub usage : (kind : UsageKind) → status ≢ Usage kind
  pub comes : (fault : RangeFault) → range_of command ≡ Some fault → status ≡ Range fault
  pub only : (fault : RangeFault) → status ≡ Range fault → (range_of command ≡ Some fault) ⊎ MayBeLate command fault
  pub unmoved : (fault : RangeFault) → range_of command ≡ Some fault → IsUntouched input out scratch × IsKept nodes
  pub memory : takes_memory command ≡ false → status ≡ Memory → IsUntouched input out scratch
  pub unspilled : status ≡ Memory → IsScratchKept scratch
  pub refused : (refusal : NodeRefusal) → status ≡ Refused refusal → MayRefuseNodes command refusal
  pub reads : (kind : InputKind) (place : ℕ) → status ≡ Input kind place → ReadsInput command

-- the same of a question
pub record StopsQuestion (question : Question) (range : Option RangeFault) (input out : Change) (nodes : StoreChange) (status : Status) : Type 0 where
  pub usage : (kind : UsageKind) → status ≢ Usage kind
  pub comes : (fault : RangeFault) → range ≡ Some fault → status ≡ Range fault
  pub only : (fault : RangeFault) → status ≡ Range fault → (range ≡ Some fault) ⊎ IsLate question fault
  pub unmoved : (fault : RangeFault) → range ≡ Some fault → IsKept input × IsKept out × IsKept nodes
  pub memory : takes_memory_to_ask question ≡ false → status ≡ Memory → IsKept input × IsKept out
  pub refused : (refusal : NodeRefusal) → status ≡ Refused refusal → IsOfOneFile refusal
  pub reads : (kind : InputKind) (place : ℕ) → status ≡ Input kind place → MayRefuse question kind

-- the same of a view
pub record StopsView (words : ViewWords) (input out : Change) (nodes : StoreChange) (status : Status) : Type 0 where
  pub usage : (kind : UsageKind) → status ≢ Usage kind
  pub comes : (fault : RangeFault) → result_err (camera_of (range_of_keep words.keep) words) ≡ Some fault → status ≡ Range fault
  pub only : (fault : RangeFault) → status ≡ Range fault → result_err (camera_of (range_of_keep words.keep) words) ≡ Some fault
  pub unmoved : (fault : RangeFault) → result_err (camera_of (range_of_keep words.keep) words) ≡ Some fault → IsKept input × IsKept out × IsKept nodes
  pub memory : status ≡ Memory → IsKept input × IsKept out
  pub refused : (refusal : NodeRefusal) → status ≡ Refused refusal → (camera : CameraShape) × (camera_of (range_of_keep words.keep) words ≡ Ok camera) × IsOfOneFile refusal
  pub reads : (kind : InputKind) (place : ℕ) → status ≡ Input kind place → ⊥
