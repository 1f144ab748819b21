-- How the answering of a text ends.
use Rattle.std.proofs.Common.{◌≡◌, ℕ, ◌+◌, ◌-◌, ◌⊎◌, inl, inr, ⊎_elim, List, [], ◌++◌, length, drop, refl, sym, ap, ◌∙◌, subst, arith, Option, None, Some, Result, Ok, Err, append-nil}
use Rattle.std.specs.Result.{result_err}
use Rattle.std.specs.Io.KnownBytes.{append_known}
use Rattle.std.proofs.Math.Seq.{take-length}
use Rattle.dev_traits.specs.Faults.{Rose, DidNotRise}
use Rattle.svo_base.specs.GridShape.{GridShape}
use Rattle.octree_specs.specs.Cells.{Cell}
use Rattle.node_check.specs.Stops.{PutsFront}
use Rattle.node_check.specs.declared.walking.WalkFault.TheVariants.{Failed, Refused}
use Rattle.node_file.specs.FileView.{FileView}
use Rattle.dev_traits.specs.declared.device.ByteSource.{Ghosts}
use Rattle.ply_text.specs.declared.tokens.Tokens.{Tokens}
use Rattle.ply_text.specs.Reading.{Reading, StandsIn, reading}
use Rattle.ply_text.proofs.Callers.{source_behind}
use Rattle.node_file.proofs.Fronts.{front_of_none}
use Rattle.ray_answers.specs.declared.queries.Query.{Query}
use Rattle.ray_answers.specs.declared.queries.QueryKind.{QueryKind}
use Rattle.ray_walk.specs.Answers.{TellsCells}
use Rattle.ray_answers.specs.QueryTexts.{QueryText, queries_in, queries_of}
use Rattle.ray_answers.specs.Answering.{PutsAnswers, PutsSomeAnswers, EndsSo, HasAnswered, HasRead, HasLineCause}
use Rattle.ray_answers.specs.Runs.{AreGiven, AreCut, IsUnderWay, EndsQueries, GivesQueries, HasPassed, IsOver, PutsAll, PutsRest}
use Rattle.ray_answers.specs.declared.stops.LineStop.{LineStop}
use Rattle.ray_answers.specs.declared.stops.LineStop.TheVariants.{AtLine, ReadFault, WriteFault, Walk, Memory}
use Rattle.ray_answers.proofs.AnswerTexts.{still_front}

-- ---- what ends the queries

ends_queries : {T : Type 0} (queries : List Query) (whole : QueryText) (result : Result T LineStop) → EndsQueries queries whole result → EndsSo whole.end result
ends_queries queries whole (Ok answered) is = ap (λ w. w.end) is
ends_queries queries whole (Err (AtLine fault)) is = ap (λ w. w.end) is
ends_queries queries whole (Err ReadFault) is = tt
ends_queries queries whole (Err WriteFault) is = tt
ends_queries queries whole (Err (Walk fault)) is = tt
ends_queries queries whole (Err Memory) is = tt

-- what the last put may answer: what was answered, or that the output failed
abbrev IsLast : {T : Type 0} → Result T LineStop → Result T LineStop → Type 0
IsLast answered result = (result ≡ answered) ⊎ (result ≡ Err WriteFault)

last_of_all : {T : Type 0} (before : Option (List ℕ)) (waiting : List ℕ) (after : Option (List ℕ)) (answered result : Result T LineStop) → PutsAll before waiting after answered result → IsLast answered result
last_of_all before waiting after answered result puts = ⊎_elim (λ p. inl p.0) (λ p. inr p.0) puts

last_of : {T : Type 0} (before : Option (List ℕ)) (waiting : List ℕ) (after : Option (List ℕ)) (answered result : Result T LineStop) → PutsRest before waiting after answered result → IsLast answered result
last_of before waiting after (Ok answered) result puts = last_of_all before waiting after (Ok answered) result puts
last_of before waiting after (Err (AtLine fault)) result puts = last_of_all before waiting after (Err (AtLine fault)) result puts
last_of before waiting after (Err ReadFault) result puts = last_of_all before waiting after (Err ReadFault) result puts
last_of before waiting after (Err WriteFault) result puts = inr puts.0
last_of before waiting after (Err (Walk fault)) result puts = last_of_all before waiting after (Err (Walk fault)) result puts
last_of before waiting after (Err Memory) result puts = last_of_all before waiting after (Err Memory) result puts

-- what holds of an answer, and of a failed output, holds of what the last put answers
last_has : {T : Type 0} (P : Result T LineStop → Type 0) (answered result : Result T LineStop) → P answered → P (Err WriteFault) → IsLast answered result → P result
last_has P answered result here failed last = ⊎_elim (λ same. subst P (sym same) here) (λ same. subst P (sym same) failed) last

-- ---- what is put

-- all that was given was put, or a front of it
some_put : (grid : GridShape) (cells : List Cell) (queries later whole : List Query) (start written after : Option (List ℕ)) (waiting : List ℕ) → whole ≡ queries ++ later
    → AreGiven grid cells queries start written waiting → (after ≡ append_known written waiting) ⊎ PutsFront written after waiting → PutsSomeAnswers grid cells whole start after
some_put grid cells queries later whole start written after waiting parts are put = record {
  first = queries;
  later = later;
  parts = parts;
  answers = are.answers;
  are = are.are;
  front = ⊎_elim
      (λ all. (length are.answers, all ∙ (are.given ∙ ap (append_known start) (sym (take-length are.answers)))))
      (λ front. still_front start written after are.answers waiting are.front are.given front) put;
}

all_put : (grid : GridShape) (cells : List Cell) (queries whole : List Query) (start written after : Option (List ℕ)) (waiting : List ℕ) → whole ≡ queries
    → AreGiven grid cells queries start written waiting → after ≡ append_known written waiting → PutsAnswers grid cells whole start after
all_put grid cells queries whole start written after waiting same are put =
    subst (λ r. PutsAnswers grid cells r start after) (sym same) (record { answers = are.answers; are = are.are; put = put ∙ are.given })

-- the answers of all queries, where the text stopped
module _ {T : Type 0} (grid : GridShape) (cells : List Cell) (queries whole : List Query) (start written after : Option (List ℕ)) (waiting : List ℕ) where
  all_answered : (answered result : Result T LineStop) → whole ≡ queries → AreGiven grid cells queries start written waiting
      → (PutsAnswers grid cells whole start after → HasAnswered grid cells whole start after answered) → PutsAll written waiting after answered result → HasAnswered grid cells whole start after result
  all_answered answered result same are here puts =
      ⊎_elim
      (λ p. subst (λ r. HasAnswered grid cells whole start after r) (sym p.0) (here (all_put grid cells queries whole start written after waiting same are p.1)))
      (λ p. subst (λ r. HasAnswered grid cells whole start after r) (sym p.0) (some_put grid cells queries [] whole start written after waiting (same ∙ sym (append-nil queries)) are (inr p.1)))
      puts

  some_answered : (answered result : Result T LineStop) (later : List Query) → whole ≡ queries ++ later → AreGiven grid cells queries start written waiting
      → (PutsSomeAnswers grid cells whole start after → HasAnswered grid cells whole start after answered) → PutsAll written waiting after answered result → HasAnswered grid cells whole start after result
  some_answered answered result later parts are here puts =
      ⊎_elim
      (λ p. subst (λ r. HasAnswered grid cells whole start after r) (sym p.0) (here (some_put grid cells queries later whole start written after waiting parts are (inl p.1))))
      (λ p. subst (λ r. HasAnswered grid cells whole start after r) (sym p.0) (some_put grid cells queries later whole start written after waiting parts are (inr p.1)))
      puts

  cut_answered : (result : Result T LineStop) (later : List Query) → whole ≡ queries ++ later → AreCut grid cells queries start written
      → (result ≡ Err WriteFault) × (after ≡ written) → HasAnswered grid cells whole start after result
  cut_answered result later parts are puts =
      subst (λ r. HasAnswered grid cells whole start after r) (sym puts.0) (record {
        first = queries;
        later = later;
        parts = parts;
        answers = are.answers;
        are = are.are;
        front = (are.front.0, puts.1 ∙ are.front.1);
      })

queries_answered : {T : Type 0} (grid : GridShape) (cells : List Cell) (queries : List Query) (whole : QueryText) (start written after : Option (List ℕ)) (waiting : List ℕ) (answered result : Result T LineStop)
    → EndsQueries queries whole answered → GivesQueries grid cells queries start written waiting answered → PutsRest written waiting after answered result → HasAnswered grid cells whole.queries start after result
queries_answered grid cells queries whole start written after waiting (Ok answered) result is given puts = all_answered grid cells queries whole.queries start written after waiting (Ok answered) result (ap (λ w. w.queries) is) given (λ p. p) puts
queries_answered grid cells queries whole start written after waiting (Err (AtLine fault)) result is given puts = all_answered grid cells queries whole.queries start written after waiting (Err (AtLine fault)) result (ap (λ w. w.queries) is) given (λ p. p) puts
queries_answered grid cells queries whole start written after waiting (Err ReadFault) result is given puts = some_answered grid cells queries whole.queries start written after waiting (Err ReadFault) result is.0 is.1 given (λ p. p) puts
queries_answered grid cells queries whole start written after waiting (Err WriteFault) result is given puts = cut_answered grid cells queries whole.queries start written after waiting result is.0 is.1 given puts
queries_answered grid cells queries whole start written after waiting (Err (Walk Failed)) result is given puts = some_answered grid cells queries whole.queries start written after waiting (Err (Walk Failed)) result is.0 is.1 given (λ p. p) puts
queries_answered grid cells queries whole start written after waiting (Err (Walk (Refused number word))) result is given puts = absurd given
queries_answered grid cells queries whole start written after waiting (Err Memory) result is given puts = some_answered grid cells queries whole.queries start written after waiting (Err Memory) result is.0 is.1 given (λ p. p) puts

-- ---- the whole text

-- the queries of a text, read from its start
from_start : (kind : QueryKind) (place : ℕ) (text : List ℕ) → place ≡ 0 → queries_in kind (length text + 1) place text ≡ queries_of kind text
unfolding queries_of
from_start kind place text start = ap (λ p. queries_in kind (length text + 1) p text) start

module _ {T : Type 0} (kind : QueryKind) (file : FileView) (a b : Reading) (start written after : Option (List ℕ)) (waiting : List ℕ) (answered result : Result T LineStop)
    (over : IsOver kind file a b start written waiting answered) (puts : PutsRest written waiting after answered result) (begin : a.place ≡ 0) where
  told_queries : (text : List ℕ) → a.left ≡ Some text → EndsQueries over.queries (queries_of kind text) answered
  told_queries text told = subst (λ whole. EndsQueries over.queries whole answered) (from_start kind a.place text begin) (over.told text told)

  pub text_ends : (text : List ℕ) → a.left ≡ Some text → EndsSo (queries_of kind text).end result
  text_ends text told = last_has (EndsSo (queries_of kind text).end) answered result (ends_queries over.queries (queries_of kind text) answered (told_queries text told)) tt (last_of written waiting after answered result puts)

  pub text_answered : (text : List ℕ) (cells : List Cell) → a.left ≡ Some text → TellsCells file cells → HasAnswered file.grid cells (queries_of kind text).queries start after result
  text_answered text cells told tells =
      queries_answered file.grid cells over.queries (queries_of kind text) start written after waiting answered result (told_queries text told) (over.given cells tells) puts

-- a count that rose is none that did not
rose_not : (before after : ℕ) → Rose before after → DidNotRise before after → ⊥
rose_not before after rose not_risen = ⊎_elim (λ less. absurd (omega (arith, less, not_risen.0))) (λ last. absurd (not_risen.1 last)) rose

-- where no device failed, the answer is the one that the queries end with
pub complete : {T : Type 0} (end : Option LineStop) (grid : GridShape) (cells : List Cell) (queries : List Query) (start after : Option (List ℕ)) (i k o p n q : ℕ) (result : Result T LineStop)
    → EndsSo end result → HasAnswered grid cells queries start after result → DidNotRise i k → DidNotRise o p → DidNotRise n q → HasLineCause i k o p n q result → (result_err result ≡ end) ⊎ (result ≡ Err Memory)
complete end grid cells queries start after i k o p n q (Ok answered) ends answers input out nodes cause = inl (sym ends)
complete end grid cells queries start after i k o p n q (Err (AtLine fault)) ends answers input out nodes cause = inl (sym ends)
complete end grid cells queries start after i k o p n q (Err ReadFault) ends answers input out nodes cause = absurd (rose_not i k (cause.input refl) input)
complete end grid cells queries start after i k o p n q (Err WriteFault) ends answers input out nodes cause = absurd (rose_not o p (cause.out refl) out)
complete end grid cells queries start after i k o p n q (Err (Walk Failed)) ends answers input out nodes cause = absurd (rose_not n q (cause.nodes refl) nodes)
complete end grid cells queries start after i k o p n q (Err (Walk (Refused number word))) ends answers input out nodes cause = absurd answers
complete end grid cells queries start after i k o p n q (Err Memory) ends answers input out nodes cause = inr refl

-- ---- the start

-- nothing is taken yet
pub begins : (kind : QueryKind) (file : FileView) (a : Reading) (start : Option (List ℕ)) (waiting : List ℕ) → a.stopped ≡ None → waiting ≡ [] → IsUnderWay kind file a a start start waiting
begins kind file a start waiting free none = record {
  queries = [];
  free = free;
  stands = λ text stands. stands;
  told = λ text told. record { rest = text; lines = length text + 1; left = told; few = omega arith; whole = refl };
  given = λ cells tells. record { answers = []; are = refl; given = ap (append_known start) none; front = front_of_none start [] };
}

-- ---- what was read

module _ {I : Type 0} {g : Ghosts I} where
  -- at the end no byte is left; at a stop the source has still to give what stands behind some place, and that is not before the stop's
  passed_read : {T : Type 0} (t : Tokens I g) (a : Reading) (text : List ℕ) (source : Option (List ℕ)) (answered : Result T LineStop) → a.left ≡ Some text → StandsIn text (reading t)
      → HasPassed a (reading t) answered → source ≡ g.rest t.input.now → HasRead text source answered
  passed_read t a text source (Ok answered) told at passed same =
      let end = passed text told in
      let sum : t.place + (t.to - t.from) ≡ t.place = omega (arith, end.1) in
      let both : Some [] ≡ Some (drop t.place text) = sym end.0 ∙ at.left in
      let empty : drop t.place text ≡ [] = sym (cc both) in
      same ∙ (source_behind t text at ∙ ap Some (ap (λ n. drop n text) sum ∙ empty))
  passed_read t a text source (Err stop) told at passed same = (t.place + (t.to - t.from), passed, same ∙ source_behind t text at)

  pub text_read : {T : Type 0} (kind : QueryKind) (t : Tokens I g) (a : Reading) (text : List ℕ) (source : Option (List ℕ)) (file : FileView) (start written after : Option (List ℕ)) (waiting : List ℕ) (answered result : Result T LineStop)
      → a.left ≡ Some text → StandsIn text a → IsOver kind file a (reading t) start written waiting answered → PutsRest written waiting after answered result → source ≡ g.rest t.input.now → HasRead text source result
  text_read {T} kind t a text source file start written after waiting answered result told at over puts same =
      let here = over.stands text at in
      let failed : HasRead {T = T} text source (Err WriteFault) = (t.place + (t.to - t.from), omega arith, same ∙ source_behind t text here) in
      last_has (HasRead text source) answered result (passed_read t a text source answered told here over.passed same) failed (last_of written waiting after answered result puts)
