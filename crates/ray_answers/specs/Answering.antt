-- What answering the queries of a text says of its devices.
use Rattle.std.specs.Prelude.{◌≡◌, ℕ, ◌≤◌, ◌⊎◌, ⊤, List, [], ◌++◌, drop, Option, None, Some, IfSome, Result, Ok, Err, MatchResult, slice_index}
use Rattle.std.specs.Io.KnownBytes.{append_known}
use Rattle.dev_traits.specs.Faults.{Rose}
use Rattle.svo_base.specs.GridShape.{GridShape}
use Rattle.octree_specs.specs.Cells.{Cell}
use Rattle.node_check.specs.Stops.{PutsFront, IsNoCellAtAll}
use Rattle.node_check.specs.Walks.{IsAbove}
use Rattle.node_check.specs.declared.walking.WalkFault.TheVariants.{Failed, Refused}
use Rattle.ray_walk.specs.Faults.{IsMisplaced}
use Rattle.ray_answers.specs.declared.queries.Query.{Query}
use Rattle.ray_answers.specs.declared.queries.QueryKind.{QueryKind}
use Rattle.ray_answers.specs.declared.queries.QueryKind.TheVariants.{Rays, Points}
use Rattle.ray_answers.specs.declared.stops.LineFault.{LineFault}
use Rattle.ray_answers.specs.declared.stops.LineFault.TheVariants.{BadRay, BadPoint, LineTooLong, TooLong, RayRange, PointRange}
use Rattle.ray_answers.specs.declared.stops.LineStop.{LineStop}
use Rattle.ray_answers.specs.declared.stops.LineStop.TheVariants.{AtLine, ReadFault, WriteFault, Walk, Memory}
use Rattle.ray_answers.specs.AnswerLines.{AreAnswers}

-- a sink was given the answers to these queries
pub record PutsAnswers (grid : GridShape) (cells : List Cell) (queries : List Query) (before after : Option (List ℕ)) : Type 0 where
  pub answers : List ℕ
  pub are : AreAnswers grid cells queries answers
  pub put : after ≡ append_known before answers

-- it was given some front of the answers to the first of these queries
pub record PutsSomeAnswers (grid : GridShape) (cells : List Cell) (queries : List Query) (before after : Option (List ℕ)) : Type 0 where
  pub first : List Query
  pub later : List Query
  pub parts : queries ≡ first ++ later
  pub answers : List ℕ
  pub are : AreAnswers grid cells first answers
  pub front : PutsFront before after answers

-- a text is answered to its end, or up to what its queries end at, unless a device failed or memory ran out
abbrev pub EndsSo : {T : Type 0} → Option LineStop → Result T LineStop → Type 0
EndsSo end (Ok answer) = end ≡ None
EndsSo end (Err (AtLine fault)) = end ≡ Some (AtLine fault)
EndsSo end (Err ReadFault) = ⊤
EndsSo end (Err WriteFault) = ⊤
EndsSo end (Err (Walk fault)) = ⊤
EndsSo end (Err Memory) = ⊤

-- the answers to its queries were put out, or a front of them where a device failed or memory ran out; no word is refused
abbrev pub HasAnswered : {T : Type 0} → GridShape → List Cell → List Query → Option (List ℕ) → Option (List ℕ) → Result T LineStop → Type 0
HasAnswered grid cells queries before after (Ok answer) = PutsAnswers grid cells queries before after
HasAnswered grid cells queries before after (Err (AtLine fault)) = PutsAnswers grid cells queries before after
HasAnswered grid cells queries before after (Err ReadFault) = PutsSomeAnswers grid cells queries before after
HasAnswered grid cells queries before after (Err WriteFault) = PutsSomeAnswers grid cells queries before after
HasAnswered grid cells queries before after (Err (Walk Failed)) = PutsSomeAnswers grid cells queries before after
HasAnswered grid cells queries before after (Err (Walk (Refused number word))) = ⊥
HasAnswered grid cells queries before after (Err Memory) = PutsSomeAnswers grid cells queries before after

-- the place that is named
abbrev pub fault_place : LineFault → ℕ
fault_place (BadRay place) = place
fault_place (BadPoint place) = place
fault_place (LineTooLong place) = place
fault_place (TooLong place) = place
fault_place (RayRange place) = place
fault_place (PointRange place) = place

abbrev pub stop_place : LineStop → ℕ
stop_place (AtLine fault) = fault_place fault
stop_place ReadFault = 0
stop_place WriteFault = 0
stop_place (Walk fault) = 0
stop_place Memory = 0

-- the fault is one of a line of this kind
abbrev pub IsFaultOf : QueryKind → LineFault → Type 0
IsFaultOf kind (BadRay place) = kind ≡ Rays
IsFaultOf kind (BadPoint place) = kind ≡ Points
IsFaultOf kind (LineTooLong place) = ⊤
IsFaultOf kind (TooLong place) = ⊤
IsFaultOf kind (RayRange place) = kind ≡ Rays
IsFaultOf kind (PointRange place) = kind ≡ Points

-- the answers to queries of this kind may end so: for points alone memory may run out
abbrev pub MayStop : QueryKind → LineStop → Type 0
MayStop kind (AtLine fault) = IsFaultOf kind fault
MayStop kind ReadFault = ⊤
MayStop kind WriteFault = ⊤
MayStop kind (Walk fault) = ⊤
MayStop kind Memory = kind ≡ Points

-- the text was read to its end, or at least up to the place that the stop names
abbrev pub HasRead : {T : Type 0} → List ℕ → Option (List ℕ) → Result T LineStop → Type 0
HasRead text after result =
    MatchResult result (λ _. after ≡ Some []) (λ stop. (count : ℕ) × (stop_place stop ≤ count) × (after ≡ Some (drop count text)))

-- no word is refused
abbrev pub RefusesNoWord : {T : Type 0} → Result T LineStop → Type 0
RefusesNoWord (Ok answer) = ⊤
RefusesNoWord (Err (AtLine fault)) = ⊤
RefusesNoWord (Err ReadFault) = ⊤
RefusesNoWord (Err WriteFault) = ⊤
RefusesNoWord (Err (Walk Failed)) = ⊤
RefusesNoWord (Err (Walk (Refused number word))) = ⊥
RefusesNoWord (Err Memory) = ⊤

-- the word, which has this number where the words are told, places a child not before itself
pub record IsLate (told : Option (List ℕ)) (number word : ℕ) : Type 0 where
  pub misplaced : IsMisplaced number word
  pub own : IfSome told (λ words. word ≡ slice_index words number)

-- no word is refused but one whose children do not all stand before it, or one to which masks and bases lead as a cell's and which is none
abbrev pub RefusesSo : {T : Type 0} → Option (List ℕ) → ℕ → ℕ → Result T LineStop → Type 0
RefusesSo told records depth (Ok answer) = ⊤
RefusesSo told records depth (Err (AtLine fault)) = ⊤
RefusesSo told records depth (Err ReadFault) = ⊤
RefusesSo told records depth (Err WriteFault) = ⊤
RefusesSo told records depth (Err (Walk Failed)) = ⊤
RefusesSo told records depth (Err (Walk (Refused number word))) = IsLate told number word ⊎ IsAbove told records number word ⊎ IsNoCellAtAll told records depth number word
RefusesSo told records depth (Err Memory) = ⊤

-- no count of faults fell, and a device is blamed only where its count rose
pub record HasLineCause {T : Type 0} (input_before input_after out_before out_after nodes_before nodes_after : ℕ) (result : Result T LineStop) : Type 0 where
  pub input_later : input_before ≤ input_after
  pub out_later : out_before ≤ out_after
  pub nodes_later : nodes_before ≤ nodes_after
  pub input : result ≡ Err ReadFault → Rose input_before input_after
  pub out : result ≡ Err WriteFault → Rose out_before out_after
  pub nodes : result ≡ Err (Walk Failed) → Rose nodes_before nodes_after
