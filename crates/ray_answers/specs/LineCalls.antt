-- What reading the next line of a text of rays or points does to a reader.
use Rattle.std.specs.Prelude.{◌≡◌, ◌≢◌, ℕ, ◌+◌, ◌<◌, ◌≤◌, List, [], ◌∷◌, drop, Option, None, Some, Result, Ok, Err, IfOk, IfErr, ⊤}
use Rattle.dev_traits.specs.Faults.{Rose}
use Rattle.ply_text.specs.NextPieces.{next_line_of, line_size}
use Rattle.ply_text.specs.Reading.{Reading, StandsIn}
use Rattle.ray_answers.specs.declared.lines.Line.{Line}
use Rattle.ray_answers.specs.declared.queries.Query.{Query}
use Rattle.ray_answers.specs.declared.queries.Query.TheVariants.{Ray, Point}
use Rattle.ray_answers.specs.declared.queries.QueryKind.{QueryKind}
use Rattle.ray_answers.specs.declared.queries.QueryKind.TheVariants.{Rays, Points}
use Rattle.ray_answers.specs.declared.lines.Line.TheVariants.{End, Blank, Asks}
use Rattle.ray_answers.specs.declared.stops.LineFault.{LineFault}
use Rattle.ray_answers.specs.declared.stops.LineStop.{LineStop}
use Rattle.ray_answers.specs.declared.stops.LineStop.TheVariants.{AtLine, ReadFault, WriteFault, Walk, Memory}
use Rattle.ray_answers.specs.Answering.{IsFaultOf, stop_place}
use Rattle.ray_answers.specs.QueryTexts.{QueryText, ends, behind, with_line}

-- a line with this meaning
abbrev pub line_of : Result (Option Query) LineFault → Result Line LineStop
line_of (Ok None) = Ok Blank
line_of (Ok (Some query)) = Ok (Asks query)
line_of (Err fault) = Err (AtLine fault)

-- what a line adds to the queries of what follows
abbrev pub with_read : Result Line LineStop → QueryText → QueryText
with_read (Ok End) later = ends None
with_read (Ok Blank) later = later
with_read (Ok (Asks query)) later = behind (query ∷ []) later
with_read (Err stop) later = ends (Some stop)

-- a stop that reading a line may give
abbrev pub IsTextStop : QueryKind → LineStop → Type 0
IsTextStop kind (AtLine fault) = IsFaultOf kind fault
IsTextStop kind ReadFault = ⊤
IsTextStop kind WriteFault = ⊥
IsTextStop kind (Walk fault) = ⊥
IsTextStop kind Memory = ⊥

-- the query is of this kind
abbrev pub IsOfKind : QueryKind → Query → Type 0
IsOfKind kind (Ray ray) = kind ≡ Rays
IsOfKind kind (Point point) = kind ≡ Points

abbrev pub IsLineOf : QueryKind → Line → Type 0
IsLineOf kind End = ⊤
IsLineOf kind Blank = ⊤
IsLineOf kind (Asks query) = IsOfKind kind query

-- a line was read: of told bytes it is the next one, which is passed unless it stops the reading; nothing follows the end;
-- the source is blamed only where it counted a fault, and all bytes before a stop's place were read
pub record ReadsLine (kind : QueryKind) (old new : Reading) (result : Result Line LineStop) : Type 0 where
  pub later : old.faults ≤ new.faults
  pub failed : result ≡ Err ReadFault → Rose old.faults new.faults
  pub text_only : IfErr result (IsTextStop kind)
  pub asks : IfOk result (IsLineOf kind)
  pub free : IfOk result (λ _. new.stopped ≡ None)
  pub onward : IfOk result (λ line. line ≢ End → old.place < new.place)
  pub ended : (text : List ℕ) → old.left ≡ Some text → result ≡ Ok End → (new.left ≡ Some []) × (new.ahead ≡ 0)
  pub reached : IfErr result (λ stop. stop_place stop ≤ new.place + new.ahead)
  pub stands : (text : List ℕ) → StandsIn text old → StandsIn text new
  pub passed : (text : List ℕ) → old.left ≡ Some text → IfOk result (λ _. (new.left ≡ Some (drop (line_size text) text)) × (new.place ≡ old.place + line_size text))
  pub told : (text : List ℕ) (later : QueryText) → old.left ≡ Some text → result ≢ Err ReadFault → with_line kind (next_line_of old.place text) later ≡ with_read result later
