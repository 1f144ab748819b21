-- What the answers to a text of rays or points do.
use Rattle.std.specs.Prelude.{◌≡◌, ◌⊎◌, ⊤, ℕ, List, [], Option, None, Some, Result, Ok, Err}
use Rattle.svo_base.specs.GridShape.{GridShape}
use Rattle.dev_traits.specs.Change.{Change, IsFaultless, IsKept}
use Rattle.dev_traits.specs.Faults.{DidNotRise}
use Rattle.octree_specs.specs.Cells.{Cell}
use Rattle.node_check.specs.declared.walking.WalkFault.TheVariants as walk
use Rattle.ply_reader.specs.WholeMeshes.{IsReadTo}
use Rattle.ray_answers.specs.Answering.{PutsAnswers, PutsSomeAnswers}
use Rattle.ray_answers.specs.QueryTexts.{queries_of}
use Rattle.ray_answers.specs.declared.queries.Query.{Query}
use Rattle.ray_answers.specs.declared.queries.QueryKind.{QueryKind}
use Rattle.ray_answers.specs.declared.queries.QueryKind.TheVariants.{Rays, Points}
use Rattle.ray_answers.specs.declared.stops.LineFault.{LineFault}
use Rattle.ray_answers.specs.declared.stops.LineFault.TheVariants as line
use Rattle.ray_answers.specs.declared.stops.LineStop.{LineStop}
use Rattle.ray_answers.specs.declared.stops.LineStop.TheVariants as stop
use Rattle.svo_top.specs.declared.outcome.Status.{Status}
use Rattle.svo_top.specs.declared.outcome.Status.TheVariants.{Done, Usage, Input, Range, Device, Refused, Memory}
use Rattle.svo_top.specs.declared.outcome.InputKind.TheVariants.{Ply, BadRay, BadPoint, LineTooLong, TooLong}
use Rattle.svo_top.specs.declared.outcome.RangeFault.TheVariants.{Ray, Point}
use Rattle.svo_top.specs.declared.outcome.NodeRefusal.TheVariants.{Number}
use Rattle.svo_top.specs.declared.outcome.Device.TheVariants.{Read, Scratch, Write, Nodes}

-- how a run ends at a line that is not answered
abbrev pub status_of_line : LineFault → Status
status_of_line (line.BadRay place) = Input BadRay place
status_of_line (line.BadPoint place) = Input BadPoint place
status_of_line (line.LineTooLong place) = Input LineTooLong place
status_of_line (line.TooLong place) = Input TooLong place
status_of_line (line.RayRange place) = Range (Ray place)
status_of_line (line.PointRange place) = Range (Point place)

-- how a run ends whose lines end so
abbrev pub status_of_stop : LineStop → Status
status_of_stop (stop.AtLine fault) = status_of_line fault
status_of_stop stop.ReadFault = Device Read
status_of_stop stop.WriteFault = Device Write
status_of_stop (stop.Walk walk.Failed) = Device Nodes
status_of_stop (stop.Walk (walk.Refused number word)) = Refused (Number number)
status_of_stop stop.Memory = Memory

abbrev pub status_of_end : Option LineStop → Status
status_of_end None = Done
status_of_end (Some stop) = status_of_stop stop

abbrev pub status_of_lines : {T : Type 0} → Result T LineStop → Status
status_of_lines (Ok done) = Done
status_of_lines (Err stop) = status_of_stop stop

-- the text's queries end at this line
abbrev pub EndsAt : Option LineStop → LineFault → Type 0
EndsAt end fault = end ≡ Some (stop.AtLine fault)

-- the text's queries end as the status says, unless a device failed or memory ran out; it was read to its end, or at least up to the place that is named
abbrev pub EndsText : List ℕ → Option LineStop → Option (List ℕ) → Status → Type 0
EndsText text end left Done = (end ≡ None) × (left ≡ Some [])
EndsText text end left (Input BadRay place) = EndsAt end (line.BadRay place) × IsReadTo place text left
EndsText text end left (Input BadPoint place) = EndsAt end (line.BadPoint place) × IsReadTo place text left
EndsText text end left (Input LineTooLong place) = EndsAt end (line.LineTooLong place) × IsReadTo place text left
EndsText text end left (Input TooLong place) = EndsAt end (line.TooLong place) × IsReadTo place text left
EndsText text end left (Input (Ply kind) place) = ⊥
EndsText text end left (Range (Ray place)) = EndsAt end (line.RayRange place) × IsReadTo place text left
EndsText text end left (Range (Point place)) = EndsAt end (line.PointRange place) × IsReadTo place text left
EndsText text end left (Range fault) = ⊥
EndsText text end left (Device device) = ⊤
EndsText text end left (Refused refusal) = ⊤
EndsText text end left (Usage kind) = ⊥
EndsText text end left Memory = ⊤

-- whatever the file: how a told text of such lines ends
abbrev pub ReadsLines : QueryKind → Change → Status → Type 0
ReadsLines kind input status = (text : List ℕ) → input.before ≡ Some text → EndsText text (queries_of kind text).end input.after status

-- where memory runs out, nothing was put out for rays, and a front of the answers to points
abbrev pub LeavesOut : QueryKind → GridShape → List Cell → List Query → Change → Type 0
LeavesOut Rays grid cells queries out = IsKept out
LeavesOut Points grid cells queries out = PutsSomeAnswers grid cells queries out.before out.after

-- the answers to the queries were put out, or a front of them where a device failed
abbrev pub AnswersLines : QueryKind → GridShape → List Cell → List Query → Change → Status → Type 0
AnswersLines kind grid cells queries out Done = PutsAnswers grid cells queries out.before out.after
AnswersLines kind grid cells queries out (Input refused place) = PutsAnswers grid cells queries out.before out.after
AnswersLines kind grid cells queries out (Range fault) = PutsAnswers grid cells queries out.before out.after
AnswersLines kind grid cells queries out (Device device) = PutsSomeAnswers grid cells queries out.before out.after
AnswersLines kind grid cells queries out (Refused refusal) = ⊥
AnswersLines kind grid cells queries out (Usage usage) = ⊥
AnswersLines kind grid cells queries out Memory = LeavesOut kind grid cells queries out

-- over the node file of a grid and cells, for a told text
pub record AnswersInput (kind : QueryKind) (grid : GridShape) (cells : List Cell) (input out : Change) (before after : ℕ) (status : Status) : Type 0 where
  pub answered : (text : List ℕ) → input.before ≡ Some text → AnswersLines kind grid cells (queries_of kind text).queries out status
  pub complete : (text : List ℕ) → input.before ≡ Some text → IsFaultless input → IsFaultless out → DidNotRise before after → (status ≡ status_of_end (queries_of kind text).end) ⊎ (status ≡ Memory)
