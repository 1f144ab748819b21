-- What a run does that could read its words.
use Rattle.std.specs.Prelude.{◌≡◌, ℕ, List, Option, None, Ok}
use Rattle.dev_traits.specs.Change.{Change, ScratchChange, StoreChange, IsKept, IsScratchKept}
use Rattle.svo_words.specs.declared.commands.Command.{Command}
use Rattle.svo_words.specs.declared.commands.Command.TheVariants.{Build, Why, Check, Has, Cells, Lift, Cast, Slice, View, Make, Sum, Near, Merge, Coarse}
use Rattle.ray_answers.specs.declared.queries.QueryKind.TheVariants.{Rays, Points}
use Rattle.svo_top.specs.FileQuestion.{Asks}
use Rattle.svo_top.specs.Build.{BuildRun, IsUntouched}
use Rattle.slice_view.specs.Cameras.{CameraShape}
use Rattle.svo_words.specs.declared.combining.MergeWords.{MergeWords}
use Rattle.svo_words.specs.declared.pictures.ViewWords.{ViewWords}
use Rattle.svo_top.specs.Picturing.{axis_from, camera_of}
use Rattle.svo_top.specs.Make.{MakeRun}
use Rattle.svo_top.specs.Merging.{Merges}
use Rattle.svo_top.specs.Sum.{SumRun}
use Rattle.svo_top.specs.Ranges.{range_of_keep}
use Rattle.svo_top.specs.Why.{WhyRun}
use Rattle.svo_top.specs.declared.file_question.Question.{Question}
use Rattle.svo_top.specs.declared.file_question.Question.TheVariants as question
use Rattle.svo_top.specs.declared.outcome.Status.{Status}
use Rattle.svo_top.specs.declared.outcome.Status.TheVariants.{Done, Memory}
use Rattle.svo_top.specs.declared.outcome.RangeFault.{RangeFault}

-- a question about a node file keeps nothing on scratch, and has no line where it is done
pub record QuestionRun (question : Question) (name : List ℕ) (range : Option RangeFault) (input out : Change) (scratch : ScratchChange) (nodes : StoreChange) (err : Change) (status : Status) : Type 0 where
  pub asks : range ≡ None → Asks question name input out nodes status
  pub unspilled : IsScratchKept scratch
  pub silent : status ≡ Done → IsKept err

-- the same of a view, whose camera is within its limits
pub record ViewRun (words : ViewWords) (input out : Change) (scratch : ScratchChange) (nodes : StoreChange) (err : Change) (status : Status) : Type 0 where
  pub asks : (camera : CameraShape) → camera_of (range_of_keep words.keep) words ≡ Ok camera → Asks (question.View camera) words.nodes input out nodes status
  pub unspilled : IsScratchKept scratch
  pub silent : status ≡ Done → IsKept err

-- a merge reads no input and keeps nothing on scratch, and has no line where it is done
pub record MergeRun (words : MergeWords) (input out : Change) (scratch : ScratchChange) (nodes : StoreChange) (err : Change) (status : Status) : Type 0 where
  pub merges : Merges words out nodes status
  pub unread : IsKept input
  pub unspilled : IsScratchKept scratch
  pub silent : status ≡ Done → IsKept err

-- memory ran out while the words were read, and no device was touched
pub record IsForgotten (input out : Change) (scratch : ScratchChange) (nodes : StoreChange) (status : Status) : Type 0 where
  pub memory : status ≡ Memory
  pub untouched : IsUntouched input out scratch
  pub unlooked : IsKept nodes

-- what the run of each command does
abbrev pub Does : Command → Change → Change → ScratchChange → StoreChange → Change → Status → Type 0
Does (Build words) input out scratch nodes err status = BuildRun words input out scratch err status × IsKept nodes
Does (Why words) input out scratch nodes err status = WhyRun words input out scratch err status × IsKept nodes
Does (Check words) input out scratch nodes err status = QuestionRun question.Check words.nodes None input out scratch nodes err status
Does (Has words) input out scratch nodes err status = QuestionRun (question.Has words.code) words.nodes None input out scratch nodes err status
Does (Cells words) input out scratch nodes err status = QuestionRun question.Cells words.nodes (range_of_keep words.keep) input out scratch nodes err status
Does (Lift words) input out scratch nodes err status = QuestionRun question.Lift words.nodes None input out scratch nodes err status
Does (Cast words) input out scratch nodes err status = QuestionRun (question.Lines Rays) words.nodes (range_of_keep words.keep) input out scratch nodes err status
Does (Near words) input out scratch nodes err status = QuestionRun (question.Lines Points) words.nodes (range_of_keep words.keep) input out scratch nodes err status
Does (Slice words) input out scratch nodes err status = QuestionRun (question.Slice (axis_from words.axis) words.at) words.nodes (range_of_keep words.keep) input out scratch nodes err status
Does (Coarse words) input out scratch nodes err status = QuestionRun (question.Coarse words.levels) words.nodes None input out scratch nodes err status
Does (Merge words) input out scratch nodes err status = MergeRun words input out scratch nodes err status
Does (View words) input out scratch nodes err status = ViewRun words input out scratch nodes err status
Does (Make words) input out scratch nodes err status = MakeRun words input out scratch err status × IsKept nodes
Does (Sum words) input out scratch nodes err status = SumRun words input out scratch err status × IsKept nodes
