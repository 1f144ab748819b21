-- The ranges of the numbers among the words.
use Rattle.std.specs.Prelude.{◌≡◌, ℕ, Bool, ◌&&◌, if◌then◌else◌, false, ℤ, pos, unsigned_abs, int_le, List, [], ◌∷◌, Option, None, Some, Result, Ok, Err}
use Rattle.std.specs.Result.{result_err}
use Rattle.svo_base.specs.GridShape.{GridShape}
use Rattle.svo_base.specs.GridLimits.{grid_from, is_positive, is_within}
use Rattle.svo_base.specs.declared.grids.GridFault.{GridFault}
use Rattle.svo_base.specs.declared.grids.GridFault.TheVariants.{Depth}
use Rattle.svo_base.specs.declared.grids.TheConstants.{MAX_DEPTH}
use Rattle.svo_words.specs.declared.commands.Command.{Command}
use Rattle.svo_words.specs.declared.commands.Command.TheVariants.{Build, Why, Check, Has, Cells, Lift, Cast, Slice, View, Make, Sum, Near, Merge, Coarse}
use Rattle.svo_words.specs.declared.build.BuildWords.{BuildWords}
use Rattle.svo_words.specs.declared.made.MakeWords.{MakeWords}
use Rattle.svo_words.specs.declared.made.SumWords.{SumWords}
use Rattle.svo_words.specs.declared.why.WhyWords.{WhyWords}
use Rattle.svo_base.specs.declared.shapes.Triangle.{Triangle as Shape}
use Rattle.svo_base.specs.declared.shapes.Cube.{Cube as Box}
use Rattle.build_core.specs.declared.jobs.GridChoice.{GridChoice}
use Rattle.build_core.specs.declared.jobs.GridChoice.TheVariants.{Given, Fit}
use Rattle.build_core.specs.declared.jobs.Job.{Job}
use Rattle.build_core.specs.Meshes.{depth_of}
use Rattle.room_plan.specs.declared.planning.MemPlan.{MemPlan}
use Rattle.room_plan.specs.declared.planning.PlanFault.{PlanFault}
use Rattle.room_plan.specs.declared.planning.PlanFault.TheVariants as plan
use Rattle.room_plan.specs.Planning.{plan_from}
use Rattle.svo_top.specs.Picturing.{camera_of}
use Rattle.svo_top.specs.WhyQuestion.{triangle_from, cube_from}
use Rattle.svo_top.specs.declared.outcome.Status.{Status}
use Rattle.svo_top.specs.declared.outcome.Status.TheVariants.{Range}
use Rattle.svo_top.specs.declared.outcome.RangeFault.{RangeFault}
use Rattle.svo_top.specs.declared.outcome.RangeFault.TheVariants.{Decimals, Grid, TooLarge, TooSmall, Triangle, Cube, Keep, Made}

-- ---- a build's numbers

-- from 0 to 9 decimals are kept
abbrev pub has_decimals : ℤ → Bool
has_decimals decimals = int_le (pos 0) decimals && is_within 9 decimals

-- a grid that is given, or its first broken limit
abbrev pub given_by : Result GridShape GridFault → Result GridChoice GridFault
given_by (Ok grid) = Ok (Given grid)
given_by (Err fault) = Err fault

-- a grid that is to be fitted has a depth alone
abbrev pub fitted_at : ℤ → Result GridChoice GridFault
fitted_at depth = if is_positive depth && is_within MAX_DEPTH depth then Ok (Fit (unsigned_abs depth)) else Err Depth

-- the grid that the words name: without an origin and a cell it is fitted to the mesh
abbrev pub choice_from : ℤ → Option (List ℤ) → Option ℤ → Result GridChoice GridFault
choice_from depth (Some origin) (Some cell) = given_by (grid_from depth origin cell)
choice_from depth (Some origin) None = fitted_at depth
choice_from depth None cell = fitted_at depth

abbrev pub planned_job : ℕ → Bool → GridChoice → Result MemPlan PlanFault → Result Job RangeFault
planned_job decimals cut grid (Ok plan) = Ok (record { grid = grid; decimals = decimals; cut = cut; plan = plan })
planned_job decimals cut grid (Err plan.TooLarge) = Err TooLarge
planned_job decimals cut grid (Err (plan.TooSmall least)) = Err (TooSmall least)

abbrev pub job_on : BuildWords → Result GridChoice GridFault → Result Job RangeFault
job_on words (Ok grid) = planned_job (unsigned_abs words.decimals) words.cut grid (plan_from (depth_of grid) words.memory)
job_on words (Err fault) = Err (Grid fault)

-- the job that the words name, or the first range that one of their numbers is out of: the decimals come first, then the grid, and then the memory
unfoldable pub job_from : BuildWords → Result Job RangeFault
job_from words = if has_decimals words.decimals then job_on words (choice_from words.depth words.origin words.cell) else Err Decimals

abbrev pub range_of_build : BuildWords → Option RangeFault
range_of_build words = result_err (job_from words)

-- ---- a question's numbers

-- a question's triangle comes before its cube
abbrev pub fault_of_shapes : Option Shape → Option Box → Option RangeFault
fault_of_shapes None cube = Some Triangle
fault_of_shapes (Some triangle) None = Some Cube
fault_of_shapes (Some triangle) (Some cube) = None

abbrev pub range_of_question : WhyWords → Option RangeFault
range_of_question question = fault_of_shapes (triangle_from question.triangle) (cube_from question.cube)

-- ---- the number of kept blocks

-- from 1 to 65,536
abbrev pub range_of_keep : ℤ → Option RangeFault
range_of_keep keep = if is_positive keep && is_within 65536 keep then None else Some Keep

-- ---- the numbers of a made mesh

-- a number from 0 on, and a side of 1 to 1024 faces
abbrev pub is_made : ℤ → ℤ → Bool
is_made number side = int_le (pos 0) number && (is_positive side && is_within 1024 side)

abbrev pub range_of_make : MakeWords → Option RangeFault
range_of_make words = if is_made words.number words.side then None else Some Made

-- a sum builds as these words of `build` say: at the origin, in cells as large as the mesh's faces, with whole coordinates
abbrev pub build_words : SumWords → BuildWords
build_words words = record {
  depth = words.depth;
  memory = words.memory;
  decimals = pos 0;
  cut = false;
  scratch = words.scratch;
  fit = false;
  origin = Some (pos 0 ∷ pos 0 ∷ pos 0 ∷ []);
  cell = Some (pos 16);
}

-- the job of a sum, or the first range that one of its numbers is out of: the mesh comes first, then the depth, and then the memory
unfoldable pub sum_job_from : SumWords → Result Job RangeFault
sum_job_from words = if is_made words.number words.side then job_from (build_words words) else Err Made

abbrev pub range_of_sum : SumWords → Option RangeFault
range_of_sum words = result_err (sum_job_from words)

-- ---- any command

-- the first range that a number of the command is out of, of those that need no node file and no ray
abbrev pub range_of : Command → Option RangeFault
range_of (Build words) = range_of_build words
range_of (Why words) = range_of_question words
range_of (Check words) = None
range_of (Has words) = None
range_of (Cells words) = range_of_keep words.keep
range_of (Lift words) = None
range_of (Cast words) = range_of_keep words.keep
range_of (Near words) = range_of_keep words.keep
range_of (Slice words) = range_of_keep words.keep
range_of (View words) = result_err (camera_of (range_of_keep words.keep) words)
range_of (Merge words) = None
range_of (Coarse words) = None
range_of (Make words) = range_of_make words
range_of (Sum words) = range_of_sum words

-- a command stops for this range, and for no other
pub record RangeIs (range : Option RangeFault) (status : Status) : Type 0 where
  pub comes : (fault : RangeFault) → range ≡ Some fault → status ≡ Range fault
  pub only : (fault : RangeFault) → status ≡ Range fault → range ≡ Some fault
