-- A question has one answer over a node file, whatever blocks are kept.
use Rattle.std.proofs.Common.{◌≡◌, ◌≢◌, ◌⊎◌, ℕ, List, Option, None, Some, refl, sym, ap, ◌∙◌, subst, inl, inr}
use Rattle.std.specs.Io.KnownBytes.{append_known}
use Rattle.svo_base.specs.GridShape.{GridShape}
use Rattle.dev_traits.specs.Change.{Change, IsFaultless}
use Rattle.dev_traits.specs.Faults.{DidNotRise}
use Rattle.octree_specs.specs.Cells.{Cell}
use Rattle.ray_answers.specs.Answering.{PutsAnswers}
use Rattle.ray_answers.specs.QueryTexts.{queries_of}
use Rattle.ray_answers.specs.Laws.{AnswersAreOne as LinesHaveOneText}
use Rattle.slice_view.specs.Laws.{ViewsAreOne}
use Rattle.ray_answers.specs.declared.queries.Query.{Query}
use Rattle.ray_answers.specs.declared.queries.QueryKind.{QueryKind}
use Rattle.svo_top.specs.FileAnswers.{bar}
use Rattle.svo_top.specs.FileQuestion.{Answers, Works, Ends, Asks}
use Rattle.svo_top.specs.Laws.{IsAnswered, AnswersAreOne}
use Rattle.svo_top.specs.NodeFiles.{Tells, Keeps}
use Rattle.svo_top.specs.Picturing.{Views}
use Rattle.slice_view.specs.Cameras.{CameraShape}
use Rattle.svo_top.specs.InputLines.{AnswersInput, AnswersLines, status_of_end}
use Rattle.svo_top.specs.declared.file_question.Question.{Question}
use Rattle.svo_top.specs.declared.file_question.Question.TheVariants as question
use Rattle.svo_top.specs.declared.outcome.Status.{Status}
use Rattle.svo_top.specs.declared.outcome.Status.TheVariants.{Done, Usage, Input, Range, Device, Refused, Memory}
use Rattle.svo_top.specs.declared.outcome.Device.TheVariants.{Read, Scratch, Write, Nodes}
use Rattle.svo_top.proofs.OpenFileAnswers.{clash}

-- a run that is not answered `Memory` ends as it would with memory
ended : (status wanted : Status) → status ≢ Memory → (status ≡ wanted) ⊎ (status ≡ Memory) → status ≡ wanted
ended status wanted remembered (inl is) = is
ended status wanted remembered (inr is) = absurd (remembered is)

one_growth : (before after other_before other_after : Option (List ℕ)) (told put other added too : List ℕ) → before ≡ Some told → other_before ≡ Some told → after ≡ Some put → other_after ≡ Some other
    → after ≡ append_known before added → other_after ≡ append_known other_before too → added ≡ too → put ≡ other
one_growth before after other_before other_after told put other added too begins too_begins ends too_ends grew too_grew same =
    let here : Some put ≡ append_known (Some told) added = sym ends ∙ (grew ∙ ap (λ b. append_known b added) begins) in
    let there : Some other ≡ append_known (Some told) too = sym too_ends ∙ (too_grew ∙ ap (λ b. append_known b too) too_begins) in
    one_value put other (here ∙ (ap (λ a. append_known (Some told) a) same ∙ sym there))
  where
    one_value : (x y : List ℕ) → Some x ≡ Some y → x ≡ y
    one_value x y is = cc

-- lines of which no device failed were all answered
all_answered : (kind : QueryKind) (grid : GridShape) (cells : List Cell) (queries : List Query) (input out : Change) (before after : ℕ) (status : Status) → IsFaultless input → IsFaultless out → DidNotRise before after
    → status ≢ Memory → Ends (question.Lines kind) input out before after status → AnswersLines kind grid cells queries out status → PutsAnswers grid cells queries out.before out.after
all_answered kind grid cells queries input out before after Done read written looked remembered ends answers = answers
all_answered kind grid cells queries input out before after (Usage usage) read written looked remembered ends answers = absurd answers
all_answered kind grid cells queries input out before after (Input refused place) read written looked remembered ends answers = answers
all_answered kind grid cells queries input out before after (Range fault) read written looked remembered ends answers = answers
all_answered kind grid cells queries input out before after (Device Read) read written looked remembered ends answers = absurd (clash input.faults_before input.faults_after (ends.read refl) read)
all_answered kind grid cells queries input out before after (Device Scratch) read written looked remembered ends answers = absurd ends.may
all_answered kind grid cells queries input out before after (Device Write) read written looked remembered ends answers = absurd (clash out.faults_before out.faults_after (ends.written refl) written)
all_answered kind grid cells queries input out before after (Device Nodes) read written looked remembered ends answers = absurd (clash before after (ends.looked refl) looked)
all_answered kind grid cells queries input out before after (Refused refusal) read written looked remembered ends answers = absurd answers
all_answered kind grid cells queries input out before after Memory read written looked remembered ends answers = absurd (remembered refl)

-- the two laws below: of the answers to lines, and of views
module _ (lines_are_one : LinesHaveOneText) (views_are_one : ViewsAreOne) where
  module _ (asked : Question) (bytes : Option (List ℕ)) (text told put other : List ℕ) (status ends : Status) (one : IsAnswered asked bytes text told put status) (two : IsAnswered asked bytes text told other ends) where
    abbrev Alike : Type 0
    Alike = (put ≡ other) × (status ≡ ends)

    -- one text is put out
    same_text : (answer : List ℕ) → Answers answer one.out one.nodes.faults_before one.nodes.faults_after status → Answers answer two.out two.nodes.faults_before two.nodes.faults_after ends → Alike
    same_text answer here there =
        let done : status ≡ Done = ended status Done one.remembered (here.complete one.unfailed.1 one.unfailed.2) in
        let too : ends ≡ Done = ended ends Done two.remembered (there.complete two.unfailed.1 two.unfailed.2) in (
          one_growth one.out.before one.out.after two.out.before two.out.after told put other answer answer one.begins two.begins one.ends two.ends (here.done done) (there.done too) refl,
          done ∙ sym too,
        )

    same_view : (camera : CameraShape) (grid : GridShape) (cells : List Cell) → Views camera grid cells one.out one.nodes.faults_before one.nodes.faults_after status → Views camera grid cells two.out two.nodes.faults_before two.nodes.faults_after ends → Alike
    same_view camera grid cells here there =
        let done : status ≡ Done = ended status Done one.remembered (here.complete one.unfailed.1 one.unfailed.2) in
        let too : ends ≡ Done = ended ends Done two.remembered (there.complete two.unfailed.1 two.unfailed.2) in
        let picture = here.done done in
        let shown = there.done too in (
          one_growth one.out.before one.out.after two.out.before two.out.after told put other picture.0 shown.0 one.begins two.begins one.ends two.ends picture.2 shown.2
              (views_are_one camera grid cells picture.0 shown.0 picture.1 shown.1),
          done ∙ sym too,
        )

    same_lines : (kind : QueryKind) (grid : GridShape) (cells : List Cell) → Ends (question.Lines kind) one.input one.out one.nodes.faults_before one.nodes.faults_after status
        → Ends (question.Lines kind) two.input two.out two.nodes.faults_before two.nodes.faults_after ends
        → AnswersInput kind grid cells one.input one.out one.nodes.faults_before one.nodes.faults_after status → AnswersInput kind grid cells two.input two.out two.nodes.faults_before two.nodes.faults_after ends → Alike
    same_lines kind grid cells ends_here ends_there here there =
        let wanted : Status = status_of_end (queries_of kind text).end in
        let is : status ≡ wanted = ended status wanted one.remembered (here.complete text one.reads one.unfailed.0 one.unfailed.1 one.unfailed.2) in
        let too : ends ≡ wanted = ended ends wanted two.remembered (there.complete text two.reads two.unfailed.0 two.unfailed.1 two.unfailed.2) in
        let mine = all_answered kind grid cells (queries_of kind text).queries one.input one.out one.nodes.faults_before one.nodes.faults_after status one.unfailed.0 one.unfailed.1 one.unfailed.2 one.remembered ends_here (here.answered text one.reads) in
        let theirs = all_answered kind grid cells (queries_of kind text).queries two.input two.out two.nodes.faults_before two.nodes.faults_after ends two.unfailed.0 two.unfailed.1 two.unfailed.2 two.remembered ends_there (there.answered text two.reads) in (
          one_growth one.out.before one.out.after two.out.before two.out.after told put other mine.answers theirs.answers one.begins two.begins one.ends two.ends mine.put theirs.put
              (lines_are_one grid cells (queries_of kind text).queries mine.answers theirs.answers mine.are theirs.are),
          is ∙ sym too,
        )

  same_works : (question : Question) (bytes : Option (List ℕ)) (format : ℕ) (grid : GridShape) (cells : List Cell) (text told put other : List ℕ) (status ends : Status) (one : IsAnswered question bytes text told put status)
      (two : IsAnswered question bytes text told other ends) → Works question format grid cells one.input one.out one.nodes.faults_before one.nodes.faults_after status
      → Works question format grid cells two.input two.out two.nodes.faults_before two.nodes.faults_after ends → (put ≡ other) × (status ≡ ends)
  same_works question.Check bytes format grid cells text told put other status ends one two here there = same_text question.Check bytes text told put other status ends one two _ here there
  same_works (question.Has code) bytes format grid cells text told put other status ends one two here there = same_text (question.Has code) bytes text told put other status ends one two _ here there
  same_works question.Cells bytes format grid cells text told put other status ends one two here there = same_text question.Cells bytes text told put other status ends one two _ here there
  same_works question.Lift bytes format grid cells text told put other status ends one two here there = same_text question.Lift bytes text told put other status ends one two _ here there
  same_works (question.Lines kind) bytes format grid cells text told put other status ends one two here there =
      same_lines (question.Lines kind) bytes text told put other status ends one two kind grid cells one.asks.ends two.asks.ends here there
  same_works (question.Slice axis at) bytes format grid cells text told put other status ends one two here there = same_text (question.Slice axis at) bytes text told put other status ends one two _ here there
  same_works (question.Coarse levels) bytes format grid cells text told put other status ends one two here there = same_text (question.Coarse levels) bytes text told put other status ends one two _ here there
  same_works (question.View camera) bytes format grid cells text told put other status ends one two here there = same_view (question.View camera) bytes text told put other status ends one two camera grid cells here there

  pub one_answer : AnswersAreOne
  one_answer question bytes format grid cells text told put other status ends keeps free one two =
      same_works question bytes format grid cells text told put other status ends one two ((one.asks.told bytes one.tells).works format grid cells keeps free) ((two.asks.told bytes two.tells).works format grid cells keeps free)
