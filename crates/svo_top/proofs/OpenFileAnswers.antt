-- What a question answers of a loaded file, from what its parts gave.
use Rattle.std.proofs.Common.{◌≡◌, ◌≢◌, ◌⊎◌, ℕ, zero, suc, ◌*◌, ◌^◌, ◌≤◌, ◌<◌, Bool, true, false, List, [], ◌++◌, length, Option, None, Some, Result, Ok, Err, refl, sym, ap, subst, ◌∙◌, inl, inr, arith, IfErr}
use Rattle.std.specs.Prelude.{◌&&◌, if◌then◌else◌, nat_lt, ℤ, pos, negsuc, int_le, unsigned_abs, IfSome, drop}
use Rattle.std.specs.Result.{result_err}
use Rattle.std.proofs.lemmas.Bool.{and_parts}
use Rattle.std.proofs.lemmas.Bool.Decides.{Decides-ltb}
use Rattle.std.proofs.lemmas.List.{take_all, append-nil}
use Rattle.std.specs.Io.KnownBytes.{append_known}
use Rattle.svo_base.specs.GridShape.{GridShape}
use Rattle.svo_base.specs.GridLimits.{is_positive}
use Rattle.dev_traits.specs.Change.{Change, IsFaultless, IsFaulted, IsKept}
use Rattle.dev_traits.specs.Faults.{Rose, DidNotRise}
use Rattle.octree_specs.specs.Cells.{Cell}
use Rattle.octree_specs.specs.Checking.{refused_in}
use Rattle.octree_specs.specs.Formats.{StandFor, file_words}
use Rattle.octree_laws.specs.Laws.{StandForMany}
use Rattle.octree_laws.proofs.Images.{at_depth}
use Rattle.octree_laws.proofs.Verdicts.{stand_if_accepted, accepted_if_stand}
use Rattle.node_file.specs.FileView.{FileView, IsFileView}
use Rattle.node_check.specs.Stops.{Puts, HasStopCause}
use Rattle.node_check.specs.declared.stops.AnswerStop.{AnswerStop}
use Rattle.node_check.specs.declared.stops.AnswerStop.TheVariants.{WriteFault, Walk}
use Rattle.node_check.specs.declared.walking.WalkFault.TheVariants as walk
use Rattle.svo_top.specs.FileAnswers.{bar, check_line}
use Rattle.ply_reader.specs.WholeMeshes.{IsReadTo}
use Rattle.ray_walk.specs.Answers.{TellsCells}
use Rattle.ray_answers.specs.Answering.{EndsSo, HasAnswered, HasRead, HasLineCause, IsFaultOf, fault_place, MayStop, RefusesNoWord, PutsAnswers, PutsSomeAnswers}
use Rattle.ray_answers.specs.QueryTexts.{queries_of}
use Rattle.ray_answers.specs.declared.queries.Query.{Query}
use Rattle.ray_answers.specs.declared.queries.QueryKind.{QueryKind}
use Rattle.ray_answers.specs.declared.queries.QueryKind.TheVariants.{Rays, Points}
use Rattle.ray_answers.specs.declared.stops.LineFault.{LineFault}
use Rattle.ray_answers.specs.declared.stops.LineFault.TheVariants as line
use Rattle.ray_answers.specs.declared.stops.LineStop.{LineStop}
use Rattle.ray_answers.specs.declared.stops.LineStop.TheVariants as stop
use Rattle.svo_top.specs.InputLines.{AnswersInput, ReadsLines, AnswersLines, EndsAt, EndsText, LeavesOut, status_of_end, status_of_line, status_of_lines}
use Rattle.svo_top.specs.FileQuestion.{MayEnd, ComesAfterFile, Answers, Works, Admits, AsksFile, Ends, EndsAtOnce, NeedsGrid, takes_memory}
use Rattle.slice_view.specs.Cameras.{CameraShape}
use Rattle.slice_view.specs.Pictures.{pgm_header}
use Rattle.slice_view.specs.Views.{PutsView}
use Rattle.slice_view.proofs.ViewPuts.{greys_none}
use Rattle.slice_view.specs.declared.axes.Axis.{Axis}
use Rattle.svo_top.specs.Picturing.{Views}
use Rattle.svo_top.specs.Loaded.{status_of_answer}
use Rattle.svo_top.specs.NodeFiles.{KeepsCells, refused_of}
use Rattle.svo_top.specs.declared.file_question.Question.{Question}
use Rattle.svo_top.specs.declared.file_question.Question.TheVariants as question
use Rattle.svo_top.specs.declared.outcome.Status.{Status}
use Rattle.svo_top.specs.declared.outcome.Status.TheVariants.{Done, Usage, Input, Range, Device, Refused, Memory}
use Rattle.svo_top.specs.declared.outcome.InputKind.{InputKind}
use Rattle.svo_top.specs.declared.outcome.InputKind.TheVariants.{BadRay, BadPoint, LineTooLong, TooLong}
use Rattle.svo_top.specs.declared.outcome.RangeFault.{RangeFault}
use Rattle.svo_top.specs.declared.outcome.RangeFault.TheVariants.{Decimals, Grid, TooLarge, TooSmall, Triangle, Cube, Keep, Code, Made, Slice as BadSlice, View as BadView, Ray, Point, Grids, Levels}
use Rattle.svo_top.specs.declared.outcome.NodeRefusal.{NodeRefusal}
use Rattle.svo_top.specs.declared.outcome.NodeRefusal.TheVariants.{NoFile, NotNodes, Number, WithNoFile, WithNotNodes, WithNumber}
use Rattle.svo_top.specs.declared.outcome.Device.TheVariants.{Read, Scratch, Write, Nodes}

-- ---- a text that is put out

-- a count that rose did not stay
pub clash : (before after : ℕ) → Rose before after → DidNotRise before after → ⊥
clash before after rose quiet = absurd (omega (arith, rose, quiet))

module _ {T : Type 0} (text : List ℕ) (out : Change) (before after : ℕ) where
  pub answers_of : (result : Result T AnswerStop) → Puts out.before out.after text result → HasStopCause out.faults_before out.faults_after before after result
      → Answers text out before after (status_of_answer result)
  answers_of (Ok done) puts cause = record {
    done = λ e. puts;
    front = (length text, rw (take_all (length text) text (omega arith)) puts);
    complete = λ a b. inl refl;
  }
  answers_of (Err WriteFault) puts cause = record {
    done = λ e. absurd cc;
    front = puts;
    complete = λ quiet b. absurd (clash out.faults_before out.faults_after (cause.written refl) quiet);
  }
  answers_of (Err (Walk walk.Failed)) puts cause = record {
    done = λ e. absurd cc;
    front = puts;
    complete = λ a quiet. absurd (clash before after (cause.read refl) quiet);
  }
  answers_of (Err (Walk (walk.Refused number word))) puts cause = absurd puts

pub sure_of : {T : Type 0} (text : List ℕ) (out : Change) (result : Result T AnswerStop) → Puts out.before out.after text result
    → (refusal : NodeRefusal) → status_of_answer result ≡ Refused refusal → ⊥
sure_of text out (Ok done) puts refusal e = cc
sure_of text out (Err WriteFault) puts refusal e = cc
sure_of text out (Err (Walk walk.Failed)) puts refusal e = cc
sure_of text out (Err (Walk (walk.Refused number word))) puts refusal e = puts

-- a view that is put out, or stopped
pub views_of : {T : Type 0} (camera : CameraShape) (grid : GridShape) (cells : List Cell) (out : Change) (before after : ℕ) (result : Result T AnswerStop) → PutsView camera grid cells out.before out.after result
    → HasStopCause out.faults_before out.faults_after before after result → Views camera grid cells out before after (status_of_answer result)
views_of camera grid cells out before after (Ok done) puts cause = record {
  done = λ e. puts;
  front = (puts.0, (camera.width * camera.height, omega arith, puts.1), (length puts.0, rw (take_all (length puts.0) puts.0 (omega arith)) puts.2));
  complete = λ a b. inl refl;
}
views_of camera grid cells out before after (Err WriteFault) puts cause = record { done = λ e. absurd cc; front = puts; complete = λ quiet b. absurd (clash out.faults_before out.faults_after (cause.written refl) quiet) }
views_of camera grid cells out before after (Err (Walk walk.Failed)) puts cause = record { done = λ e. absurd cc; front = puts; complete = λ a quiet. absurd (clash before after (cause.read refl) quiet) }
views_of camera grid cells out before after (Err (Walk (walk.Refused number word))) puts cause = absurd puts

pub sure_of_view : {T : Type 0} (camera : CameraShape) (grid : GridShape) (cells : List Cell) (out : Change) (result : Result T AnswerStop) → PutsView camera grid cells out.before out.after result
    → (refusal : NodeRefusal) → status_of_answer result ≡ Refused refusal → ⊥
sure_of_view camera grid cells out (Ok done) puts refusal e = cc
sure_of_view camera grid cells out (Err WriteFault) puts refusal e = cc
sure_of_view camera grid cells out (Err (Walk walk.Failed)) puts refusal e = cc
sure_of_view camera grid cells out (Err (Walk (walk.Refused number word))) puts refusal e = puts

-- a layer that is not barred is one of the grid
passes : (b : Bool) → (if b then None else Some BadSlice) ≡ None → b ≡ true
passes true e = refl
passes false e = absurd cc

pub layer_below : (axis : Axis) (at : ℤ) (depth : ℕ) → bar (question.Slice axis at) depth ≡ None → unsigned_abs at < 2 ^ depth
layer_below axis at depth free =
    (Decides-ltb (unsigned_abs at) (2 ^ depth)).0 (and_parts (int_le (pos 0) at) (nat_lt (unsigned_abs at) (2 ^ depth)) (passes (int_le (pos 0) at && nat_lt (unsigned_abs at) (2 ^ depth)) free)).1

-- a number of levels that is not barred is from 1 to one below the depth
open_levels : (b : Bool) → (if b then None else Some Levels) ≡ None → b ≡ true
open_levels true e = refl
open_levels false e = absurd cc

pub levels_within : (levels : ℤ) (depth : ℕ) → bar (question.Coarse levels) depth ≡ None → (1 ≤ unsigned_abs levels) × (unsigned_abs levels < depth)
levels_within levels depth free =
    let parts = and_parts (is_positive levels) (nat_lt (unsigned_abs levels) depth) (open_levels (is_positive levels && nat_lt (unsigned_abs levels) depth) free) in
    (positive levels parts.0, (Decides-ltb (unsigned_abs levels) depth).0 parts.1)
  where
    positive : (z : ℤ) → is_positive z ≡ true → 1 ≤ unsigned_abs z
    positive (pos zero) e = absurd cc
    positive (pos (suc n)) e = omega arith
    positive (negsuc n) e = absurd cc

-- the numbers of a node file are those of its words and cells
pub numbers_are : (file : FileView) (cells : List Cell) → IsFileView file → KeepsCells file cells
    → check_line file.grid.depth file.totals.records file.totals.cells ≡ check_line file.grid.depth (length (file_words file.format file.grid.depth cells)) (length cells)
numbers_are file cells framed keeps =
    let long : length keeps.words ≡ file.totals.records = told_long file.words keeps.words file.totals.records keeps.told framed.told in
    (λ i. check_line file.grid.depth ((sym long ∙ ap length keeps.stand.words_are) i) (sym keeps.count i))
  where
    told_long : (told : Option (List ℕ)) (words : List ℕ) (records : ℕ) → told ≡ Some words → IfSome told (λ words. length words ≡ records) → length words ≡ records
    told_long told words records is long = subst (λ o. IfSome o (λ words. length words ≡ records)) is long

-- what is said of told words holds of a file that keeps cells
pub kept_told : (file : FileView) (P : List Cell → Type 0) → IfSome file.words (λ words. (cells : List Cell) → StandFor file.format file.grid.depth words cells → P cells)
    → (cells : List Cell) → KeepsCells file cells → P cells
kept_told file P told cells keeps =
    subst (λ o. IfSome o (λ words. (cells : List Cell) → StandFor file.format file.grid.depth words cells → P cells)) keeps.told told cells keeps.stand

-- ---- lines

-- what holds of each status of a line that is not answered
by_line : (P : Status → Type 0) → ((refused : InputKind) (place : ℕ) → P (Input refused place)) → ((fault : RangeFault) → P (Range fault)) → (fault : LineFault) → P (status_of_line fault)
by_line P input range (line.BadRay place) = input BadRay place
by_line P input range (line.BadPoint place) = input BadPoint place
by_line P input range (line.LineTooLong place) = input LineTooLong place
by_line P input range (line.TooLong place) = input TooLong place
by_line P input range (line.RayRange place) = range (Ray place)
by_line P input range (line.PointRange place) = range (Point place)

-- what holds of each status of lines whose answers end so
module _ (P : Status → Type 0) (done : P Done) (input : (refused : InputKind) (place : ℕ) → P (Input refused place)) (range : (fault : RangeFault) → P (Range fault)) where
  unless_stopped : {T : Type 0} (result : Result T LineStop) → (result ≡ Err stop.ReadFault → P (Device Read)) → (result ≡ Err stop.WriteFault → P (Device Write))
      → (result ≡ Err (stop.Walk walk.Failed) → P (Device Nodes)) → ((number word : ℕ) → result ≡ Err (stop.Walk (walk.Refused number word)) → P (Refused (Number number)))
      → (result ≡ Err stop.Memory → P Memory) → P (status_of_lines result)
  unless_stopped (Ok answered) read write nodes refused memory = done
  unless_stopped (Err (stop.AtLine fault)) read write nodes refused memory = by_line P input range fault
  unless_stopped (Err stop.ReadFault) read write nodes refused memory = read refl
  unless_stopped (Err stop.WriteFault) read write nodes refused memory = write refl
  unless_stopped (Err (stop.Walk walk.Failed)) read write nodes refused memory = nodes refl
  unless_stopped (Err (stop.Walk (walk.Refused number word))) read write nodes refused memory = refused number word refl
  unless_stopped (Err stop.Memory) read write nodes refused memory = memory refl

status_by_end : {T : Type 0} (result : Result T LineStop) → status_of_lines result ≡ status_of_end (result_err result)
status_by_end (Ok done) = refl
status_by_end (Err stop) = refl

forgot_for_points : (kind : QueryKind) (grid : GridShape) (cells : List Cell) (queries : List Query) (out : Change) → kind ≡ Points → PutsSomeAnswers grid cells queries out.before out.after → AnswersLines kind grid cells queries out Memory
forgot_for_points Rays grid cells queries out points answered = absurd cc
forgot_for_points Points grid cells queries out points answered = answered

lines_put : {T : Type 0} (kind : QueryKind) (grid : GridShape) (cells : List Cell) (queries : List Query) (out : Change) (result : Result T LineStop) → IfErr result (MayStop kind)
    → HasAnswered grid cells queries out.before out.after result → AnswersLines kind grid cells queries out (status_of_lines result)
lines_put kind grid cells queries out (Ok done) may answered = answered
lines_put kind grid cells queries out (Err (stop.AtLine fault)) may answered = by_line (AnswersLines kind grid cells queries out) (λ refused place. answered) (λ range. answered) fault
lines_put kind grid cells queries out (Err stop.ReadFault) may answered = answered
lines_put kind grid cells queries out (Err stop.WriteFault) may answered = answered
lines_put kind grid cells queries out (Err (stop.Walk walk.Failed)) may answered = answered
lines_put kind grid cells queries out (Err (stop.Walk (walk.Refused number word))) may answered = absurd answered
lines_put kind grid cells queries out (Err stop.Memory) may answered = forgot_for_points kind grid cells queries out may answered

ended_so : {T : Type 0} (result : Result T LineStop) (end : Option LineStop) → (result_err result ≡ end) ⊎ (result ≡ Err stop.Memory) → (status_of_lines result ≡ status_of_end end) ⊎ (status_of_lines result ≡ Memory)
ended_so result end (inl is) = inl (status_by_end result ∙ ap status_of_end is)
ended_so result end (inr is) = inr (ap status_of_lines is)

pub answers_input : {T : Type 0} (kind : QueryKind) (file : FileView) (input out : Change) (before after : ℕ) (result : Result T LineStop) → IfErr result (MayStop kind)
    → ((text : List ℕ) (cells : List Cell) → input.before ≡ Some text → TellsCells file cells → HasAnswered file.grid cells (queries_of kind text).queries out.before out.after result)
    → ((text : List ℕ) (cells : List Cell) → input.before ≡ Some text → TellsCells file cells → IsFaultless input → IsFaultless out → DidNotRise before after
    → (result_err result ≡ (queries_of kind text).end) ⊎ (result ≡ Err stop.Memory))
    → (cells : List Cell) → KeepsCells file cells → AnswersInput kind file.grid cells input out before after (status_of_lines result)
answers_input kind file input out before after result may answered complete cells keeps =
    let tells : TellsCells file cells = record { words = keeps.words; told = keeps.told; stand = keeps.stand } in
    record {
      answered = λ text told. lines_put kind file.grid cells (queries_of kind text).queries out result may (answered text cells told tells);
      complete = λ text told a b c. ended_so result (queries_of kind text).end (complete text cells told tells a b c);
    }

-- the text was read up to the line that is named
ends_at_line : (text : List ℕ) (end : Option LineStop) (left : Option (List ℕ)) (fault : LineFault) → EndsAt end fault → IsReadTo (fault_place fault) text left → EndsText text end left (status_of_line fault)
ends_at_line text end left (line.BadRay place) ends read = (ends, read)
ends_at_line text end left (line.BadPoint place) ends read = (ends, read)
ends_at_line text end left (line.LineTooLong place) ends read = (ends, read)
ends_at_line text end left (line.TooLong place) ends read = (ends, read)
ends_at_line text end left (line.RayRange place) ends read = (ends, read)
ends_at_line text end left (line.PointRange place) ends read = (ends, read)

reads_of : {T : Type 0} (kind : QueryKind) (input : Change) (result : Result T LineStop)
    → ((text : List ℕ) → input.before ≡ Some text → EndsSo (queries_of kind text).end result) → ((text : List ℕ) → input.before ≡ Some text → HasRead text input.after result)
    → ReadsLines kind input (status_of_lines result)
reads_of kind input (Ok done) ends read = λ text told. (ends text told, read text told)
reads_of kind input (Err (stop.AtLine fault)) ends read = λ text told.
    let count = read text told in
    ends_at_line text (queries_of kind text).end input.after fault (ends text told) (record { count = count.0; reached = count.1; behind = count.2 })
reads_of kind input (Err stop.ReadFault) ends read = λ text told. tt
reads_of kind input (Err stop.WriteFault) ends read = λ text told. tt
reads_of kind input (Err (stop.Walk walk.Failed)) ends read = λ text told. tt
reads_of kind input (Err (stop.Walk (walk.Refused number word))) ends read = λ text told. tt
reads_of kind input (Err stop.Memory) ends read = λ text told. tt

-- a line is no range of the grid
pub unbarred_lines : {T : Type 0} (result : Result T LineStop) (fault : RangeFault) → NeedsGrid fault → status_of_lines result ≡ Range fault → ⊥
unbarred_lines (Ok done) fault needs e = cc
unbarred_lines (Err (stop.AtLine one)) fault needs e = at_line one needs e
  where
    at_line : (one : LineFault) → NeedsGrid fault → status_of_line one ≡ Range fault → ⊥
    at_line (line.BadRay place) needs e = cc
    at_line (line.BadPoint place) needs e = cc
    at_line (line.LineTooLong place) needs e = cc
    at_line (line.TooLong place) needs e = cc
    at_line (line.RayRange place) needs e = let same : Ray place ≡ fault = cc in subst NeedsGrid (sym same) needs
    at_line (line.PointRange place) needs e = let same : Point place ≡ fault = cc in subst NeedsGrid (sym same) needs
unbarred_lines (Err stop.ReadFault) fault needs e = cc
unbarred_lines (Err stop.WriteFault) fault needs e = cc
unbarred_lines (Err (stop.Walk walk.Failed)) fault needs e = cc
unbarred_lines (Err (stop.Walk (walk.Refused number word))) fault needs e = cc
unbarred_lines (Err stop.Memory) fault needs e = cc

-- for rays no memory is taken
points_take : (kind : QueryKind) → kind ≡ Points → takes_memory (question.Lines kind) ≡ false → ⊥
points_take Rays points kept = cc
points_take Points points kept = cc

pub no_memory : {T : Type 0} (kind : QueryKind) (result : Result T LineStop) → IfErr result (MayStop kind) → takes_memory (question.Lines kind) ≡ false → status_of_lines result ≡ Memory → ⊥
no_memory kind result may kept = unless_stopped (λ s. s ≡ Memory → ⊥) (λ e. cc) (λ refused place e. cc) (λ fault e. cc) result (λ is e. cc) (λ is e. cc) (λ is e. cc) (λ number word is e. cc)
    (λ is e. points_take kind (subst (λ r. IfErr r (MayStop kind)) is may) kept)

-- how a question about lines ends
pub lines_end : {T : Type 0} (kind : QueryKind) (input out : Change) (before after : ℕ) (result : Result T LineStop) → IfErr result (MayStop kind)
    → ((text : List ℕ) → input.before ≡ Some text → EndsSo (queries_of kind text).end result) → ((text : List ℕ) → input.before ≡ Some text → HasRead text input.after result)
    → HasLineCause input.faults_before input.faults_after out.faults_before out.faults_after before after result
    → Ends (question.Lines kind) input out before after (status_of_lines result)
lines_end {T} kind input out before after result may ends read cause = record {
  may = may_of result may;
  reads = reads_of kind input result ends read;
  read = unless_stopped (λ s. s ≡ Device Read → IsFaulted input) (λ e. absurd cc) (λ refused place e. absurd cc) (λ fault e. absurd cc) result
      (λ is e. cause.input is) (λ is e. absurd cc) (λ is e. absurd cc) (λ number word is e. absurd cc) (λ is e. absurd cc);
  written = unless_stopped (λ s. s ≡ Device Write → IsFaulted out) (λ e. absurd cc) (λ refused place e. absurd cc) (λ fault e. absurd cc) result
      (λ is e. absurd cc) (λ is e. cause.out is) (λ is e. absurd cc) (λ number word is e. absurd cc) (λ is e. absurd cc);
  looked = unless_stopped (λ s. s ≡ Device Nodes → Rose before after) (λ e. absurd cc) (λ refused place e. absurd cc) (λ fault e. absurd cc) result
      (λ is e. absurd cc) (λ is e. absurd cc) (λ is e. cause.nodes is) (λ number word is e. absurd cc) (λ is e. absurd cc);
  memory = λ kept e. absurd (no_memory kind result may kept e);
  barred = λ fault needs e. absurd (unbarred_lines result fault needs e);
}
  where
    may_at : (fault : LineFault) → IsFaultOf kind fault → MayEnd (question.Lines kind) (status_of_line fault)
    may_at (line.BadRay place) own = own
    may_at (line.BadPoint place) own = own
    may_at (line.LineTooLong place) own = tt
    may_at (line.TooLong place) own = tt
    may_at (line.RayRange place) own = own
    may_at (line.PointRange place) own = own

    may_of : (result : Result T LineStop) → IfErr result (MayStop kind) → MayEnd (question.Lines kind) (status_of_lines result)
    may_of (Ok done) may = tt
    may_of (Err (stop.AtLine fault)) may = may_at fault may
    may_of (Err stop.ReadFault) may = tt
    may_of (Err stop.WriteFault) may = tt
    may_of (Err (stop.Walk walk.Failed)) may = tt
    may_of (Err (stop.Walk (walk.Refused number word))) may = tt
    may_of (Err stop.Memory) may = refl

-- no word is refused where none is
pub sure_lines : {T : Type 0} (result : Result T LineStop) → RefusesNoWord result → (refusal : NodeRefusal) → status_of_lines result ≡ Refused refusal → ⊥
sure_lines result sure refusal = unless_stopped (λ s. s ≡ Refused refusal → ⊥) (λ e. cc) (λ refused place e. cc) (λ fault e. cc) result (λ is e. cc) (λ is e. cc) (λ is e. cc)
    (λ number word is e. subst (λ r. RefusesNoWord r) is sure) (λ is e. cc)

-- ---- accepted words

at_some : {T : Type 0} (o : Option T) (x : T) (P : T → Type 0) → o ≡ Some x → IfSome o P → P x
at_some o x P is holds = subst (λ p. IfSome p P) is holds

not_two : {T : Type 0} (o : Option T) (x : T) → o ≡ None → o ≡ Some x → ⊥
not_two o x none some = let both : ◌≡◌ {A = Option _} None (Some x) = sym none ∙ some in cc

some_words : (file : FileView) (words : List ℕ) → IsFileView file → file.words ≡ Some words → 0 < length words
some_words file words framed told =
    let long : length words ≡ file.totals.records = at_some file.words words (λ words. length words ≡ file.totals.records) told framed.told in
    omega (arith, framed.some, long)

-- words that the checker accepts are those of some cells
pub keeps_if_accepted : (file : FileView) (words : List ℕ) → IsFileView file → file.words ≡ Some words → refused_of file words ≡ None → (cells : List Cell) × KeepsCells file cells
keeps_if_accepted file words framed told accepted =
    let at : (levels : ℕ) × (file.grid.depth ≡ suc levels) = at_depth file.grid.depth framed.limits.halved in
    let there : refused_in file.format (suc at.0) words file.totals.cells ≡ None = subst (λ d. refused_in file.format d words file.totals.cells ≡ None) at.1 accepted in
    let many : StandForMany file.format (suc at.0) words file.totals.cells = stand_if_accepted file.format at.0 file.totals.cells words framed.known (some_words file words framed told) there in
    (many.cells, record { words = words; told = told; stand = subst (λ d. StandFor file.format d words many.cells) (sym at.1) many.stand; count = many.count_is })

-- and those of cells are accepted
pub accepted_if_keeps : (file : FileView) (cells : List Cell) → IsFileView file → (keeps : KeepsCells file cells) → refused_of file keeps.words ≡ None
accepted_if_keeps file cells framed keeps =
    let at : (levels : ℕ) × (file.grid.depth ≡ suc levels) = at_depth file.grid.depth framed.limits.halved in
    let there : StandFor file.format (suc at.0) keeps.words cells = subst (λ d. StandFor file.format d keeps.words cells) at.1 keeps.stand in
    let accepted : refused_in file.format (suc at.0) keeps.words (length cells) ≡ None = accepted_if_stand file.format at.0 keeps.words cells there in
    subst (λ n. refused_in file.format file.grid.depth keeps.words n ≡ None) keeps.count
    (subst (λ d. refused_in file.format d keeps.words (length cells) ≡ None) (sym at.1) accepted)

-- ---- a store that had counted before

-- a count that did not rise in the end did not rise later
pub later_quiet : (before between after : ℕ) → before ≤ between → between ≤ after → DidNotRise before after → DidNotRise between after
later_quiet before between after early late quiet = (omega (arith, early, quiet.0), quiet.1)

pub answers_later : (text : List ℕ) (out : Change) (before between after : ℕ) (status : Status) → before ≤ between → between ≤ after → Answers text out between after status → Answers text out before after status
answers_later text out before between after status early late answers = record {
  done = answers.done;
  front = answers.front;
  complete = λ written quiet. answers.complete written (later_quiet before between after early late quiet);
}

pub works_later : (question : Question) (format : ℕ) (grid : GridShape) (cells : List Cell) (input out : Change) (before between after : ℕ) (status : Status) → before ≤ between → between ≤ after
    → Works question format grid cells input out between after status → Works question format grid cells input out before after status
works_later question.Check format grid cells input out before between after status early late works = answers_later _ out before between after status early late works
works_later (question.Has code) format grid cells input out before between after status early late works = answers_later _ out before between after status early late works
works_later question.Cells format grid cells input out before between after status early late works = answers_later _ out before between after status early late works
works_later question.Lift format grid cells input out before between after status early late works = answers_later _ out before between after status early late works
works_later (question.Slice axis at) format grid cells input out before between after status early late works = answers_later _ out before between after status early late works
works_later (question.Coarse levels) format grid cells input out before between after status early late works = answers_later _ out before between after status early late works
works_later (question.View camera) format grid cells input out before between after status early late works = record {
  done = works.done;
  front = works.front;
  complete = λ written quiet. works.complete written (later_quiet before between after early late quiet);
}
works_later (question.Lines kind) format grid cells input out before between after status early late works = record {
  answered = works.answered;
  complete = λ text told read written quiet. works.complete text told read written (later_quiet before between after early late quiet);
}

-- ---- a question that was stopped before its work

nothing_put : (told : Option (List ℕ)) → append_known told [] ≡ told
nothing_put None = refl
nothing_put (Some bytes) = ap Some (append-nil bytes)

-- nothing was put out, and the run is not done
module _ (out : Change) (before after : ℕ) (unwritten : IsKept out) where
  pub unanswered : (text : List ℕ) (status : Status) → (status ≡ Done → ⊥) → (IsFaultless out → DidNotRise before after → status ≡ Memory) → Answers text out before after status
  unanswered text status undone memory = record {
    done = λ e. absurd (undone e);
    front = (0, unwritten.0 ∙ sym (nothing_put out.before));
    complete = λ a b. inr (memory a b);
  }

  none_answered : (grid : GridShape) (cells : List Cell) (queries : List Query) → PutsSomeAnswers grid cells queries out.before out.after
  none_answered grid cells queries = record { first = []; later = queries; parts = refl; answers = []; are = refl; front = (0, unwritten.0 ∙ sym (nothing_put out.before)) }

  left_out : (kind : QueryKind) (grid : GridShape) (cells : List Cell) (queries : List Query) → LeavesOut kind grid cells queries out
  left_out Rays grid cells queries = unwritten
  left_out Points grid cells queries = none_answered grid cells queries

  -- of a view nothing is a beginning
  unshown : (camera : CameraShape) (grid : GridShape) (cells : List Cell) (status : Status) → (status ≡ Done → ⊥) → (DidNotRise before after → status ≡ Memory) → Views camera grid cells out before after status
  unshown camera grid cells status undone memory = record {
    done = λ e. absurd (undone e);
    front = (
      pgm_header camera.width camera.height ++ [],
      (0, omega arith, record { greys = []; counted = refl; shown = greys_none camera grid cells 0; picture_is = refl }),
      (0, unwritten.0 ∙ sym (nothing_put out.before)),
    );
    complete = λ a quiet. inr (memory quiet);
  }

  pub works_failed : (question : Question) (format : ℕ) (grid : GridShape) (cells : List Cell) (input : Change) → IsKept input → Rose before after → Works question format grid cells input out before after (Device Nodes)
  works_failed question.Check format grid cells input unread rose = unanswered _ (Device Nodes) (λ e. cc) (λ a quiet. absurd (clash before after rose quiet))
  works_failed (question.Has code) format grid cells input unread rose = unanswered _ (Device Nodes) (λ e. cc) (λ a quiet. absurd (clash before after rose quiet))
  works_failed question.Cells format grid cells input unread rose = unanswered _ (Device Nodes) (λ e. cc) (λ a quiet. absurd (clash before after rose quiet))
  works_failed question.Lift format grid cells input unread rose = unanswered _ (Device Nodes) (λ e. cc) (λ a quiet. absurd (clash before after rose quiet))
  works_failed (question.Slice axis at) format grid cells input unread rose = unanswered _ (Device Nodes) (λ e. cc) (λ a quiet. absurd (clash before after rose quiet))
  works_failed (question.Coarse levels) format grid cells input unread rose = unanswered _ (Device Nodes) (λ e. cc) (λ a quiet. absurd (clash before after rose quiet))
  works_failed (question.View camera) format grid cells input unread rose = unshown camera grid cells (Device Nodes) (λ e. cc) (λ quiet. absurd (clash before after rose quiet))
  works_failed (question.Lines kind) format grid cells input unread rose = record {
    answered = λ text told. none_answered grid cells (queries_of kind text).queries;
    complete = λ text told a b quiet. absurd (clash before after rose quiet);
  }

  pub works_memory : (question : Question) (format : ℕ) (grid : GridShape) (cells : List Cell) (input : Change) → IsKept input → Works question format grid cells input out before after Memory
  works_memory question.Check format grid cells input unread = unanswered _ Memory (λ e. cc) (λ a b. refl)
  works_memory (question.Has code) format grid cells input unread = unanswered _ Memory (λ e. cc) (λ a b. refl)
  works_memory question.Cells format grid cells input unread = unanswered _ Memory (λ e. cc) (λ a b. refl)
  works_memory question.Lift format grid cells input unread = unanswered _ Memory (λ e. cc) (λ a b. refl)
  works_memory (question.Slice axis at) format grid cells input unread = unanswered _ Memory (λ e. cc) (λ a b. refl)
  works_memory (question.Coarse levels) format grid cells input unread = unanswered _ Memory (λ e. cc) (λ a b. refl)
  works_memory (question.View camera) format grid cells input unread = unshown camera grid cells Memory (λ e. cc) (λ quiet. refl)
  works_memory (question.Lines kind) format grid cells input unread = record { answered = λ text told. left_out kind grid cells (queries_of kind text).queries; complete = λ text told a b c. inr refl }

-- ---- a file that was not admitted

module _ (question : Question) (file : FileView) (framed : IsFileView file) (input out : Change) (before after : ℕ) (unread : IsKept input) (unwritten : IsKept out) where
  at_once : (wanted status : Status) → (DidNotRise before after → status ≡ wanted) → EndsAtOnce wanted input out before after status
  at_once wanted status is = record { unread = unread; unwritten = unwritten; is = is }

  -- the store failed
  failed_file : Rose before after → AsksFile question file input out before after (Device Nodes)
  failed_file rose = record {
    refused = λ words refusal told e. absurd cc;
    refuses = λ words number told is. at_once (Refused (Number number)) (Device Nodes) (λ quiet. absurd (clash before after rose quiet));
    barred = λ words fault told needs e. absurd cc;
    bars = λ cells fault keeps is. at_once (Range fault) (Device Nodes) (λ quiet. absurd (clash before after rose quiet));
    accepted = λ words told after. absurd after;
    works = λ cells keeps free. works_failed out before after unwritten question file.format file.grid cells input unread rose;
  }

  -- the checker refused a word
  refused_file : (number : ℕ) → IfSome file.words (λ words. refused_of file words ≡ Some number) → AsksFile question file input out before after (Refused (Number number))
  refused_file number refused = record {
    refused = λ words refusal told e. (number, same_refusal refusal e, named words told);
    refuses = λ words other told is. at_once (Refused (Number other)) (Refused (Number number)) (λ quiet. ap (λ n. Refused (Number n)) (one_value number other (sym (named words told) ∙ is)));
    barred = λ words fault told needs e. absurd cc;
    bars = λ cells fault keeps is. absurd (kept cells keeps);
    accepted = λ words told after. absurd after;
    works = λ cells keeps free. absurd (kept cells keeps);
  }
    where
      named : (words : List ℕ) → file.words ≡ Some words → refused_of file words ≡ Some number
      named words told = at_some file.words words (λ words. refused_of file words ≡ Some number) told refused

      kept : (cells : List Cell) → KeepsCells file cells → ⊥
      kept cells keeps = not_two (refused_of file keeps.words) number (accepted_if_keeps file cells framed keeps) (named keeps.words keeps.told)

      one_value : (x y : ℕ) → Some x ≡ Some y → x ≡ y
      one_value x y same = cc

      same_refusal : (refusal : NodeRefusal) → Refused (Number number) ≡ Refused refusal → refusal ≡ Number number
      same_refusal refusal e = cc

  -- a number is out of its grid
  barred_file : (fault : RangeFault) → NeedsGrid fault → IfSome file.words (λ words. refused_of file words ≡ None) → bar question file.grid.depth ≡ Some fault → AsksFile question file input out before after (Range fault)
  barred_file fault needs_grid accepted barred = record {
    refused = λ words refusal told e. absurd cc;
    refuses = λ words number told is. absurd (not_two (refused_of file words) number (at_some file.words words (λ words. refused_of file words ≡ None) told accepted) is);
    barred = λ words other told needs e. (at_some file.words words (λ words. refused_of file words ≡ None) told accepted, barred ∙ ap Some (same_fault other e));
    bars = λ cells other keeps is. at_once (Range other) (Range fault) (λ quiet. ap Range (one_fault other (sym barred ∙ is)));
    accepted = λ words told after. absurd (early fault needs_grid after);
    works = λ cells keeps free. absurd (not_two (bar question file.grid.depth) fault free barred);
  }
    where
      early : (one : RangeFault) → NeedsGrid one → ComesAfterFile (Range one) → ⊥
      early Decimals needs after = needs
      early (Grid one) needs after = needs
      early TooLarge needs after = needs
      early (TooSmall least) needs after = needs
      early Triangle needs after = needs
      early Cube needs after = needs
      early Keep needs after = needs
      early Code needs after = after
      early Made needs after = needs
      early BadSlice needs after = after
      early BadView needs after = needs
      early (Ray place) needs after = needs
      early (Point place) needs after = needs
      early Grids needs after = needs
      early Levels needs after = after

      one_fault : (other : RangeFault) → Some fault ≡ Some other → fault ≡ other
      one_fault other same = cc

      same_fault : (other : RangeFault) → Range fault ≡ Range other → fault ≡ other
      same_fault other same = cc

  pub not_admitted : (status : Status) → Admits {T = Unit {0}} question file before after (Err status) → AsksFile question file input out before after status
  not_admitted Done admits = absurd admits
  not_admitted (Usage kind) admits = absurd admits
  not_admitted (Input kind place) admits = absurd admits
  not_admitted (Range fault) admits = barred_file fault admits.2 admits.0 admits.1
  not_admitted (Device Read) admits = absurd admits
  not_admitted (Device Scratch) admits = absurd admits
  not_admitted (Device Write) admits = absurd admits
  not_admitted (Device Nodes) admits = failed_file admits
  not_admitted (Refused NoFile) admits = absurd admits
  not_admitted (Refused NotNodes) admits = absurd admits
  not_admitted (Refused (Number number)) admits = refused_file number admits
  not_admitted (Refused WithNoFile) admits = absurd admits
  not_admitted (Refused WithNotNodes) admits = absurd admits
  not_admitted (Refused (WithNumber number)) admits = absurd admits
  not_admitted Memory admits = absurd admits

-- ---- a file that was admitted

module _ (question : Question) (file : FileView) (framed : IsFileView file) (input out : Change) (before between after : ℕ) (status : Status) where
  pub admitted : before ≤ between → between ≤ after → IfSome file.words (λ words. refused_of file words ≡ None) → bar question file.grid.depth ≡ None
      → ((cells : List Cell) → KeepsCells file cells → Works question file.format file.grid cells input out between after status)
      → ((cells : List Cell) → KeepsCells file cells → (refusal : NodeRefusal) → status ≡ Refused refusal → ⊥)
      → ((fault : RangeFault) → NeedsGrid fault → status ≡ Range fault → ⊥)
      → AsksFile question file input out before after status
  admitted early late accepted free works sure unbarred = record {
    refused = λ words refusal told e. let keeps = kept words told in absurd (sure keeps.0 keeps.1 refusal e);
    refuses = λ words number told is. absurd (not_two (refused_of file words) number (at_some file.words words (λ words. refused_of file words ≡ None) told accepted) is);
    barred = λ words fault told needs e. absurd (unbarred fault needs e);
    bars = λ cells fault keeps is. absurd (not_two (bar question file.grid.depth) fault free is);
    accepted = λ words told after. (at_some file.words words (λ words. refused_of file words ≡ None) told accepted, free);
    works = λ cells keeps none. works_later question file.format file.grid cells input out before between after status early late (works cells keeps);
  }
    where
      kept : (words : List ℕ) → file.words ≡ Some words → (cells : List Cell) × KeepsCells file cells
      kept words told = keeps_if_accepted file words framed told (at_some file.words words (λ words. refused_of file words ≡ None) told accepted)
