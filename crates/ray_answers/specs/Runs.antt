-- What the steps of answering a text of rays or points do.
use Rattle.std.specs.Prelude.{◌≡◌, ℕ, ◌+◌, ◌<◌, ◌≤◌, ◌⊎◌, ⊤, Bool, true, false, List, [], ◌++◌, length, ℤ, Option, None, Some, Result, Ok, Err}
use Rattle.std.specs.Io.KnownBytes.{append_known}
use Rattle.dev_traits.specs.Faults.{Rose}
use Rattle.svo_base.specs.GridShape.{GridShape}
use Rattle.octree_specs.specs.Cells.{Cell}
use Rattle.node_file.specs.FileView.{FileView}
use Rattle.node_check.specs.Stops.{PutsFront, IsNoCellAtAll}
use Rattle.node_check.specs.Walks.{IsAbove, face_at}
use Rattle.node_check.specs.declared.walking.WalkFault.{WalkFault}
use Rattle.node_check.specs.declared.walking.WalkFault.TheVariants.{Failed, Refused}
use Rattle.ply_text.specs.Reading.{Reading, StandsIn}
use Rattle.ray_walk.specs.Answers.{TellsCells}
use Rattle.ray_walk.specs.declared.hits.Hit.{Hit}
use Rattle.arrayvec.specs.ArrayString.{ArrayString}
use Rattle.near_query.specs.declared.cells.NearCell.{NearCell}
use Rattle.near_query.specs.declared.cells.NearFault.{NearFault}
use Rattle.near_query.specs.declared.cells.NearFault.TheVariants as near
use Rattle.ray_fraction.specs.RayShape.{RayShape}
use Rattle.ray_answers.specs.declared.hits.FacedHit.{FacedHit}
use Rattle.ray_answers.specs.declared.neighbours.FacedCell.{FacedCell}
use Rattle.ray_answers.specs.declared.queries.Query.{Query}
use Rattle.ray_answers.specs.declared.queries.QueryKind.{QueryKind}
use Rattle.ray_answers.specs.declared.queries.QueryKind.TheVariants.{Points}
use Rattle.ray_answers.specs.declared.stops.LineStop.{LineStop}
use Rattle.ray_answers.specs.declared.stops.LineStop.TheVariants.{AtLine, ReadFault, WriteFault, Walk, Memory}
use Rattle.ray_answers.specs.AnswerLines.{IsAnswer, IsHit, IsNeighbour, AreAnswers}
use Rattle.ray_answers.specs.Answering.{IsLate, stop_place}
use Rattle.ray_answers.specs.QueryTexts.{QueryText, behind, queries_in}

-- ---- one query

-- the cell that a ray hits, or the nearest one to a point, unless a read failed or memory ran out
abbrev pub FindsHit : GridShape → List Cell → RayShape → Result (Option FacedHit) WalkFault → Type 0
FindsHit grid cells ray (Ok hit) = IsHit grid cells ray hit
FindsHit grid cells ray (Err Failed) = ⊤
FindsHit grid cells ray (Err (Refused number word)) = ⊥

abbrev pub FindsNeighbour : GridShape → List Cell → List ℤ → Result (Option FacedCell) NearFault → Type 0
FindsNeighbour grid cells point (Ok cell) = IsNeighbour grid cells point cell
FindsNeighbour grid cells point (Err (near.Walk Failed)) = ⊤
FindsNeighbour grid cells point (Err (near.Walk (Refused number word))) = ⊥
FindsNeighbour grid cells point (Err near.Memory) = ⊤

-- the line of a query's answer
abbrev pub FindsLine : GridShape → List Cell → Query → Result ArrayString NearFault → Type 0
FindsLine grid cells query (Ok line) = IsAnswer grid cells query line.bytes
FindsLine grid cells query (Err (near.Walk Failed)) = ⊤
FindsLine grid cells query (Err (near.Walk (Refused number word))) = ⊥
FindsLine grid cells query (Err near.Memory) = ⊤

-- the hit, or the cell, with the face that the cells have for it, unless a read failed
abbrev pub HasFace : List Cell → Hit → Result (Option FacedHit) WalkFault → Type 0
HasFace cells hit (Ok None) = face_at cells hit.code ≡ None
HasFace cells hit (Ok (Some faced)) = (faced.n ≡ hit.time.n) × (faced.m ≡ hit.time.m) × (faced.code ≡ hit.code) × (face_at cells hit.code ≡ Some faced.face)
HasFace cells hit (Err Failed) = ⊤
HasFace cells hit (Err (Refused number word)) = ⊥

abbrev pub HasCellFace : List Cell → NearCell → Result (Option FacedCell) NearFault → Type 0
HasCellFace cells cell (Ok None) = face_at cells cell.code ≡ None
HasCellFace cells cell (Ok (Some faced)) = (faced.distance ≡ cell.distance) × (faced.code ≡ cell.code) × (face_at cells cell.code ≡ Some faced.face)
HasCellFace cells cell (Err (near.Walk Failed)) = ⊤
HasCellFace cells cell (Err (near.Walk (Refused number word))) = ⊥
HasCellFace cells cell (Err near.Memory) = ⊥

-- a walk refuses nothing but such words
abbrev pub RefusesWord : Option (List ℕ) → ℕ → ℕ → WalkFault → Type 0
RefusesWord told records depth Failed = ⊤
RefusesWord told records depth (Refused number word) = IsLate told number word ⊎ IsAbove told records number word ⊎ IsNoCellAtAll told records depth number word

abbrev pub RefusesWalk : {T : Type 0} → Option (List ℕ) → ℕ → ℕ → Result T WalkFault → Type 0
RefusesWalk told records depth (Ok answer) = ⊤
RefusesWalk told records depth (Err fault) = RefusesWord told records depth fault

abbrev pub RefusesNear : {T : Type 0} → Option (List ℕ) → ℕ → ℕ → Result T NearFault → Type 0
RefusesNear told records depth (Ok answer) = ⊤
RefusesNear told records depth (Err (near.Walk fault)) = RefusesWord told records depth fault
RefusesNear told records depth (Err near.Memory) = ⊤

-- a query's answer was added to what was given; where it was not found, nothing was; where a put failed, nothing is said of it
abbrev pub GivesAnswer : {T : Type 0} → GridShape → List Cell → Query → Option (List ℕ) → Option (List ℕ) → Result T LineStop → Type 0
GivesAnswer grid cells query before after (Ok answered) = (line : List ℕ) × IsAnswer grid cells query line × (after ≡ append_known before line)
GivesAnswer grid cells query before after (Err (AtLine fault)) = ⊥
GivesAnswer grid cells query before after (Err ReadFault) = ⊥
GivesAnswer grid cells query before after (Err WriteFault) = ⊤
GivesAnswer grid cells query before after (Err (Walk Failed)) = ⊤
GivesAnswer grid cells query before after (Err (Walk (Refused number word))) = ⊥
GivesAnswer grid cells query before after (Err Memory) = ⊤

-- where no answer was found, what was given stayed as it was; nothing of the text stops a query
abbrev pub KeepsGiven : {T : Type 0} → Option (List ℕ) → Option (List ℕ) → Result T LineStop → Type 0
KeepsGiven before after (Ok answered) = ⊤
KeepsGiven before after (Err (AtLine fault)) = ⊥
KeepsGiven before after (Err ReadFault) = ⊥
KeepsGiven before after (Err WriteFault) = ⊤
KeepsGiven before after (Err (Walk fault)) = after ≡ before
KeepsGiven before after (Err Memory) = after ≡ before

-- a stop that a query of this kind may give
abbrev pub IsQueryStop : QueryKind → LineStop → Type 0
IsQueryStop kind (AtLine fault) = ⊥
IsQueryStop kind ReadFault = ⊥
IsQueryStop kind WriteFault = ⊤
IsQueryStop kind (Walk fault) = ⊤
IsQueryStop kind Memory = kind ≡ Points

-- ---- the queries of a text

-- the answers to these queries were given, and a front of them was put
pub record AreGiven (grid : GridShape) (cells : List Cell) (queries : List Query) (start written : Option (List ℕ)) (waiting : List ℕ) : Type 0 where
  pub answers : List ℕ
  pub are : AreAnswers grid cells queries answers
  pub given : append_known written waiting ≡ append_known start answers
  pub front : PutsFront start written answers

-- a front of the answers to these queries was put
pub record AreCut (grid : GridShape) (cells : List Cell) (queries : List Query) (start written : Option (List ℕ)) : Type 0 where
  pub answers : List ℕ
  pub are : AreAnswers grid cells queries answers
  pub front : PutsFront start written answers

-- of a text these queries were taken; of what is left no more lines are to be read than so many
pub record IsLeft (kind : QueryKind) (text : List ℕ) (queries : List Query) (a b : Reading) : Type 0 where
  pub rest : List ℕ
  pub lines : ℕ
  pub left : b.left ≡ Some rest
  pub few : length rest < lines
  pub whole : queries_in kind (length text + 1) a.place text ≡ behind queries (queries_in kind lines b.place rest)

-- the queries of a text up to some line were taken and answered
pub record IsUnderWay (kind : QueryKind) (file : FileView) (a b : Reading) (start written : Option (List ℕ)) (waiting : List ℕ) : Type 0 where
  pub queries : List Query
  pub free : b.stopped ≡ None
  pub stands : (text : List ℕ) → StandsIn text a → StandsIn text b
  pub told : (text : List ℕ) → a.left ≡ Some text → IsLeft kind text queries a b
  pub given : (cells : List Cell) → TellsCells file cells → AreGiven file.grid cells queries start written waiting

-- the queries are all that a text has up to its end or what stops it, or the first ones
abbrev pub EndsQueries : {T : Type 0} → List Query → QueryText → Result T LineStop → Type 0
EndsQueries queries whole (Ok answered) = whole ≡ record { queries = queries; end = None }
EndsQueries queries whole (Err (AtLine fault)) = whole ≡ record { queries = queries; end = Some (AtLine fault) }
EndsQueries queries whole (Err ReadFault) = (later : List Query) × (whole.queries ≡ queries ++ later)
EndsQueries queries whole (Err WriteFault) = (later : List Query) × (whole.queries ≡ queries ++ later)
EndsQueries queries whole (Err (Walk fault)) = (later : List Query) × (whole.queries ≡ queries ++ later)
EndsQueries queries whole (Err Memory) = (later : List Query) × (whole.queries ≡ queries ++ later)

-- their answers were given; a front of them was put where the output failed; no word is refused
abbrev pub GivesQueries : {T : Type 0} → GridShape → List Cell → List Query → Option (List ℕ) → Option (List ℕ) → List ℕ → Result T LineStop → Type 0
GivesQueries grid cells queries start written waiting (Ok answered) = AreGiven grid cells queries start written waiting
GivesQueries grid cells queries start written waiting (Err (AtLine fault)) = AreGiven grid cells queries start written waiting
GivesQueries grid cells queries start written waiting (Err ReadFault) = AreGiven grid cells queries start written waiting
GivesQueries grid cells queries start written waiting (Err WriteFault) = AreCut grid cells queries start written
GivesQueries grid cells queries start written waiting (Err (Walk Failed)) = AreGiven grid cells queries start written waiting
GivesQueries grid cells queries start written waiting (Err (Walk (Refused number word))) = ⊥
GivesQueries grid cells queries start written waiting (Err Memory) = AreGiven grid cells queries start written waiting

-- at the end no byte is left, and all bytes before a stop's place were read
abbrev pub HasPassed : {T : Type 0} → Reading → Reading → Result T LineStop → Type 0
HasPassed a b (Ok answered) = (text : List ℕ) → a.left ≡ Some text → (b.left ≡ Some []) × (b.ahead ≡ 0)
HasPassed a b (Err stop) = stop_place stop ≤ b.place + b.ahead

-- the answering of a text is over
pub record IsOver {T : Type 0} (kind : QueryKind) (file : FileView) (a b : Reading) (start written : Option (List ℕ)) (waiting : List ℕ) (result : Result T LineStop) : Type 0 where
  pub queries : List Query
  pub stands : (text : List ℕ) → StandsIn text a → StandsIn text b
  pub passed : HasPassed a b result
  pub told : (text : List ℕ) → a.left ≡ Some text → EndsQueries queries (queries_in kind (length text + 1) a.place text) result
  pub given : (cells : List Cell) → TellsCells file cells → GivesQueries file.grid cells queries start written waiting result

-- after a line the answering goes on where there was one, and is over else
abbrev pub GoesOn : QueryKind → FileView → Reading → Reading → Option (List ℕ) → Option (List ℕ) → List ℕ → Result Bool LineStop → Type 0
GoesOn kind file a b start written waiting (Ok true) = IsUnderWay kind file a b start written waiting
GoesOn kind file a b start written waiting (Ok false) = IsOver kind file a b start written waiting (Ok false)
GoesOn kind file a b start written waiting (Err stop) = IsOver {T = Bool} kind file a b start written waiting (Err stop)

-- ---- the end

-- what waited was put behind an answer, or a front of it where the output failed; nothing is put where it had failed before
abbrev pub PutsAll : {T : Type 0} → Option (List ℕ) → List ℕ → Option (List ℕ) → Result T LineStop → Result T LineStop → Type 0
PutsAll before waiting after answered result =
    ((result ≡ answered) × (after ≡ append_known before waiting)) ⊎ ((result ≡ Err WriteFault) × PutsFront before after waiting)

abbrev pub PutsRest : {T : Type 0} → Option (List ℕ) → List ℕ → Option (List ℕ) → Result T LineStop → Result T LineStop → Type 0
PutsRest before waiting after (Ok answered) result = PutsAll before waiting after (Ok answered) result
PutsRest before waiting after (Err (AtLine fault)) result = PutsAll before waiting after (Err (AtLine fault)) result
PutsRest before waiting after (Err ReadFault) result = PutsAll before waiting after (Err ReadFault) result
PutsRest before waiting after (Err WriteFault) result = (result ≡ Err WriteFault) × (after ≡ before)
PutsRest before waiting after (Err (Walk fault)) result = PutsAll before waiting after (Err (Walk fault)) result
PutsRest before waiting after (Err Memory) result = PutsAll before waiting after (Err Memory) result

-- the count of faults did not fall, and the output is blamed where it was before, or where its count rose
pub record HasRestCause {T : Type 0} (before after : ℕ) (answered result : Result T LineStop) : Type 0 where
  pub later : before ≤ after
  pub blamed : result ≡ Err WriteFault → (answered ≡ Err WriteFault) ⊎ Rose before after
