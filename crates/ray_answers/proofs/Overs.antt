-- The same end of answering, for results of another type.
use Rattle.std.proofs.Common.{◌≡◌, ℕ, Bool, true, false, List, sym, subst, Option, Result, Ok, Err}
use Rattle.svo_base.specs.GridShape.{GridShape}
use Rattle.octree_specs.specs.Cells.{Cell}
use Rattle.node_check.specs.declared.walking.WalkFault.TheVariants.{Failed, Refused}
use Rattle.node_file.specs.FileView.{FileView}
use Rattle.ply_text.specs.Reading.{Reading}
use Rattle.ray_answers.specs.declared.queries.Query.{Query}
use Rattle.ray_answers.specs.declared.queries.QueryKind.{QueryKind}
use Rattle.ray_walk.specs.Answers.{TellsCells}
use Rattle.ray_answers.specs.Answering.{RefusesNoWord}
use Rattle.ray_answers.specs.QueryTexts.{QueryText}
use Rattle.ray_answers.specs.Runs.{EndsQueries, GivesQueries, IsUnderWay, IsOver, GoesOn}
use Rattle.ray_answers.specs.declared.stops.LineStop.{LineStop}
use Rattle.ray_answers.specs.declared.stops.LineStop.TheVariants.{AtLine, ReadFault, WriteFault, Walk, Memory}

ends_as : (T U : Type 0) (queries : List Query) (whole : QueryText) (stop : LineStop) → EndsQueries {T = T} queries whole (Err stop) → EndsQueries {T = U} queries whole (Err stop)
ends_as T U queries whole (AtLine fault) is = is
ends_as T U queries whole ReadFault is = is
ends_as T U queries whole WriteFault is = is
ends_as T U queries whole (Walk fault) is = is
ends_as T U queries whole Memory is = is

gives_as : (T U : Type 0) (grid : GridShape) (cells : List Cell) (queries : List Query) (start written : Option (List ℕ)) (waiting : List ℕ) (stop : LineStop)
    → GivesQueries {T = T} grid cells queries start written waiting (Err stop) → GivesQueries {T = U} grid cells queries start written waiting (Err stop)
gives_as T U grid cells queries start written waiting (AtLine fault) is = is
gives_as T U grid cells queries start written waiting ReadFault is = is
gives_as T U grid cells queries start written waiting WriteFault is = is
gives_as T U grid cells queries start written waiting (Walk Failed) is = is
gives_as T U grid cells queries start written waiting (Walk (Refused number word)) is = is
gives_as T U grid cells queries start written waiting Memory is = is

module _ (kind : QueryKind) (old file : FileView) (same : file ≡ old) (a b d : Reading) (start written after : Option (List ℕ)) (waiting left : List ℕ) (result : Result Bool LineStop)
    (goes : IsUnderWay kind file a b start written waiting → GoesOn kind file a d start after left result) (way : IsUnderWay kind old a b start written waiting) where
  gone : GoesOn kind old a d start after left result
  gone = subst (λ (f : FileView). GoesOn kind f a d start after left result) same (goes (subst (λ (f : FileView). IsUnderWay kind f a b start written waiting) (sym same) way))

  -- a line more
  pub more_lines : result ≡ Ok true → IsUnderWay kind old a d start after left
  more_lines is = subst (λ r. GoesOn kind old a d start after left r) is gone

  -- no line more
  pub no_more_lines : (U : Type 0) (answered : U) → result ≡ Ok false → IsOver {T = U} kind old a d start after left (Ok answered)
  no_more_lines U answered is =
      let over : IsOver {T = Bool} kind old a d start after left (Ok false) = subst (λ r. GoesOn kind old a d start after left r) is gone in
      record { queries = over.queries; stands = over.stands; passed = over.passed; told = over.told; given = over.given }

  -- a stop
  pub lines_stop : (U : Type 0) (stop : LineStop) → result ≡ Err stop → IsOver {T = U} kind old a d start after left (Err stop)
  lines_stop U stop is =
      let over : IsOver {T = Bool} kind old a d start after left (Err stop) = subst (λ r. GoesOn kind old a d start after left r) is gone in
      record {
        queries = over.queries;
        stands = over.stands;
        passed = over.passed;
        told = λ text told. ends_as Bool U over.queries _ stop (over.told text told);
        given = λ cells tells. gives_as Bool U old.grid cells over.queries start after left stop (over.given cells tells);
      }

-- a result that refuses no word, of another type
sound_as : (T U : Type 0) (stop : LineStop) → RefusesNoWord {T = T} (Err stop) → RefusesNoWord {T = U} (Err stop)
sound_as T U (AtLine fault) is = is
sound_as T U ReadFault is = is
sound_as T U WriteFault is = is
sound_as T U (Walk Failed) is = is
sound_as T U (Walk (Refused number word)) is = is
sound_as T U Memory is = is

-- the line that stops refuses no word
pub sound_stop : (U : Type 0) (old file : FileView) (cells : List Cell) (result : Result Bool LineStop) (stop : LineStop) → file ≡ old → result ≡ Err stop
    → (TellsCells file cells → RefusesNoWord result) → TellsCells old cells → RefusesNoWord {T = U} (Err stop)
sound_stop U old file cells result stop same is sound tells =
    sound_as Bool U stop (subst (λ r. RefusesNoWord r) is (sound (subst (λ (f : FileView). TellsCells f cells) (sym same) tells)))
