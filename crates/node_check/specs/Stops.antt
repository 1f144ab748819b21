-- What a call that puts out an answer from a file's words says of the output, and of what stopped it.
use Rattle.std.specs.Prelude.{◌≡◌, ℕ, ◌^◌, ◌<◌, ◌≤◌, ◌⊎◌, ⊤, List, take, Option, Result, Ok, Err}
use Rattle.std.specs.Io.KnownBytes.{append_known}
use Rattle.dev_traits.specs.Faults.{Rose}
use Rattle.node_check.specs.Walks.{IsAbove, IsNoCell}
use Rattle.node_check.specs.declared.stops.AnswerStop.{AnswerStop}
use Rattle.node_check.specs.declared.stops.AnswerStop.TheVariants.{WriteFault, Walk}
use Rattle.node_check.specs.declared.walking.WalkFault.TheVariants.{Failed, Refused}

-- a sink was given some front of these bytes
abbrev pub PutsFront : Option (List ℕ) → Option (List ℕ) → List ℕ → Type 0
PutsFront before after text = (n : ℕ) × (after ≡ append_known before (take n text))

-- the text was put out, or a front of it where a put or a read failed; no word is refused
abbrev pub Puts : {T : Type 0} → Option (List ℕ) → Option (List ℕ) → List ℕ → Result T AnswerStop → Type 0
Puts before after text (Ok answer) = after ≡ append_known before text
Puts before after text (Err WriteFault) = PutsFront before after text
Puts before after text (Err (Walk Failed)) = PutsFront before after text
Puts before after text (Err (Walk (Refused number word))) = ⊥

-- no word is refused but one whose children do not all stand before it
abbrev pub StopsAbove : {T : Type 0} → Option (List ℕ) → ℕ → Result T AnswerStop → Type 0
StopsAbove told records (Ok answer) = ⊤
StopsAbove told records (Err WriteFault) = ⊤
StopsAbove told records (Err (Walk Failed)) = ⊤
StopsAbove told records (Err (Walk (Refused number word))) = IsAbove told records number word

-- masks and bases lead some code to this word, and it is none of a cell
pub record IsNoCellAtAll (told : Option (List ℕ)) (records depth number word : ℕ) : Type 0 where
  pub code : ℕ
  pub inside : code < 8 ^ depth
  pub no_cell : IsNoCell told records depth code number word

-- no word is refused but such ones
abbrev pub StopsAtNoCell : {T : Type 0} → Option (List ℕ) → ℕ → ℕ → Result T AnswerStop → Type 0
StopsAtNoCell told records depth (Ok answer) = ⊤
StopsAtNoCell told records depth (Err WriteFault) = ⊤
StopsAtNoCell told records depth (Err (Walk Failed)) = ⊤
StopsAtNoCell told records depth (Err (Walk (Refused number word))) = IsAbove told records number word ⊎ IsNoCellAtAll told records depth number word

-- neither count of faults fell, and a put or a read failed only where that device's count rose
pub record HasStopCause {T : Type 0} (out_before out_after nodes_before nodes_after : ℕ) (result : Result T AnswerStop) : Type 0 where
  pub out_later : out_before ≤ out_after
  pub nodes_later : nodes_before ≤ nodes_after
  pub written : result ≡ Err WriteFault → Rose out_before out_after
  pub read : result ≡ Err (Walk Failed) → Rose nodes_before nodes_after
