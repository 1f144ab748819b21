-- Which question about a node file a command asks, and what else it may do.
use Rattle.std.specs.Prelude.{◌≡◌, Bool, true, false, Option, None, Some, IsSome, IsSomeAnd, ⊤}
use Rattle.svo_words.specs.declared.commands.Command.{Command}
use Rattle.svo_words.specs.declared.commands.Command.TheVariants as command
use Rattle.std.specs.Option.{option_map}
use Rattle.std.specs.Result.{result_ok}
use Rattle.svo_top.specs.FileQuestion.{IsLate, IsOfOneFile}
use Rattle.svo_top.specs.Picturing.{axis_from, camera_of}
use Rattle.svo_top.specs.Ranges.{range_of_keep}
use Rattle.svo_top.specs.declared.file_question.Question.{Question}
use Rattle.ray_answers.specs.declared.queries.QueryKind.TheVariants.{Rays, Points}
use Rattle.svo_top.specs.declared.file_question.Question.TheVariants.{Check, Has, Cells, Lift, Lines, Slice, View, Coarse}
use Rattle.svo_top.specs.declared.outcome.RangeFault.{RangeFault}
use Rattle.svo_top.specs.declared.outcome.RangeFault.TheVariants.{Grids}
use Rattle.svo_top.specs.declared.outcome.NodeRefusal.{NodeRefusal}

abbrev pub question_of : Command → Option Question
question_of (command.Build words) = None
question_of (command.Why words) = None
question_of (command.Make words) = None
question_of (command.Sum words) = None
question_of (command.Merge words) = None
question_of (command.Check words) = Some Check
question_of (command.Has words) = Some (Has words.code)
question_of (command.Cells words) = Some Cells
question_of (command.Lift words) = Some Lift
question_of (command.Cast words) = Some (Lines Rays)
question_of (command.Near words) = Some (Lines Points)
question_of (command.Slice words) = Some (Slice (axis_from words.axis) words.at)
question_of (command.Coarse words) = Some (Coarse words.levels)
question_of (command.View words) = option_map View (result_ok (camera_of (range_of_keep words.keep) words))

-- the command asks about a node file, or puts two together, and a file may be refused so
abbrev pub MayRefuseNodes : Command → NodeRefusal → Type 0
MayRefuseNodes (command.Merge words) refusal = ⊤
MayRefuseNodes command refusal = IsSome (question_of command) × IsOfOneFile refusal

-- it reads the input
abbrev pub ReadsInput : Command → Type 0
ReadsInput (command.Build words) = ⊤
ReadsInput (command.Cast words) = ⊤
ReadsInput (command.Near words) = ⊤
ReadsInput command = ⊥

-- memory may run out while it reads the input and puts out answers
abbrev pub takes_memory : Command → Bool
takes_memory (command.Near words) = true
takes_memory command = false

-- a number of its may be out of this range, which is tested once the file is loaded, or the grids of two files may differ
abbrev pub MayBeLate : Command → RangeFault → Type 0
MayBeLate (command.Merge words) fault = fault ≡ Grids
MayBeLate command fault = IsSomeAnd (question_of command) (λ question. IsLate question fault)
