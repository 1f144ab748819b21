-- What a call does to a reader.
use Rattle.std.specs.Prelude.{◌≡◌, ◌≢◌, ℕ, ◌+◌, ◌-◌, ◌^◌, ◌<◌, ◌≤◌, List, [], ◌∷◌, length, drop, Option, None, Some, IfSome, IfNone, MatchOption, Result, Err, IfOk, IfErr, ⊤}
use Rattle.std.specs.Result.{result_err, result_map_both}
use Rattle.std.specs.Option.{option_map}
use Rattle.std.specs.List.{prefix_len}
use Rattle.dev_traits.specs.declared.device.ByteSource.{Ghosts}
use Rattle.dev_traits.specs.Faults.{Rose}
use Rattle.ply_text.specs.declared.fault.TextFault.{TextFault}
use Rattle.ply_text.specs.declared.fault.TextFault.TheVariants.{LineTooLong, TokenTooLong, TooLong, ReadFault}
use Rattle.ply_text.specs.declared.tokens.Tokens.{Tokens}
use Rattle.ply_text.specs.declared.tokens.Line.{Line as LineStruct}
use Rattle.ply_text.specs.declared.tokens.Token.{Token as TokenStruct}
use Rattle.ply_text.specs.declared.run.Run.{Run}
use Rattle.ply_text.specs.declared.run.Run.TheVariants.{Line, Token}
use Rattle.ply_text.specs.Pieces.{Piece, IsLine, IsToken, belongs}
use Rattle.ply_text.specs.HeaderLines.{header_lines}
use Rattle.ply_text.specs.BodyTokens.{body_tokens}
use Rattle.ply_text.specs.NextPieces.{next_line_of, next_place_of, next_token_of, line_size, token_size, white_size}
use Rattle.ply_text.specs.Reading.{Reading}

-- the answer of a call, with slices as lists
abbrev pub answered : {A B : Type 0} → (A → B) → Result (Option A) TextFault → Result (Option B) TextFault
answered piece result = result_map_both (λ found. option_map piece found) (λ fault. fault) result

abbrev pub line_piece : LineStruct → Piece
line_piece line = record { place = line.place; bytes = line.bytes.now }

abbrev pub token_piece : TokenStruct → Piece
token_piece token = record { place = token.place; bytes = token.bytes.now }

-- the reader holds the same source, which its lender knows again, and the same block
pub record SameLent {I : Type 0} {g : Ghosts I} (old new : Tokens I g) : Type 0 where
  pub input : new.input.ghost_name ≡ old.input.ghost_name
  pub block : new.block.ghost_name ≡ old.block.ghost_name
  pub lender : g.lender new.input.now ≡ g.lender old.input.now

-- the place that a fault is about: all bytes before it were read
abbrev pub fault_place : TextFault → ℕ
fault_place (LineTooLong place) = place
fault_place (TokenTooLong place) = place
fault_place TooLong = 2 ^ 62
fault_place ReadFault = 0

-- how far a text was read at least, to find a fault: behind the first byte that is too many
abbrev pub fault_end : TextFault → ℕ
fault_end (LineTooLong place) = place + 1025
fault_end (TokenTooLong place) = place + 256
fault_end TooLong = 2 ^ 62 + 1
fault_end ReadFault = 0

-- the faults of each call, and the places that they name
abbrev pub IsLineFault : ℕ → TextFault → Type 0
IsLineFault here (LineTooLong place) = place ≡ here
IsLineFault here (TokenTooLong place) = ⊥
IsLineFault here TooLong = ⊤
IsLineFault here ReadFault = ⊤

abbrev pub IsTokenFault : ℕ → TextFault → Type 0
IsTokenFault here (LineTooLong place) = ⊥
IsTokenFault here (TokenTooLong place) = place ≡ here
IsTokenFault here TooLong = ⊤
IsTokenFault here ReadFault = ⊤

abbrev pub IsPlaceFault : TextFault → Type 0
IsPlaceFault (LineTooLong place) = ⊥
IsPlaceFault (TokenTooLong place) = ⊥
IsPlaceFault TooLong = ⊤
IsPlaceFault ReadFault = ⊤

-- what each call does: a stopped reader answers its fault again and stays as it is; a fault stops the reader;
-- a read fails only where the source counted a fault; no byte comes back, none that was read is left where nothing is given, and at a fault all bytes that show it were read;
-- of told bytes a front was passed, at Ok of the size that is given, and the answer is the one defined where the source did not fail
pub record Call {A : Type 0} (next : ℕ → List ℕ → Result (Option A) TextFault) (size : List ℕ → ℕ)
    (old new : Reading) (result : Result (Option A) TextFault) : Type 0 where
  pub stays : (fault : TextFault) → old.stopped ≡ Some fault → (result ≡ Err fault) × (new ≡ old)
  pub stops : new.stopped ≡ result_err result
  pub later : old.faults ≤ new.faults
  pub failed : old.stopped ≡ None → result ≡ Err ReadFault → Rose old.faults new.faults
  pub onward : (old.place ≤ new.place) × (old.place + old.ahead ≤ new.place + new.ahead)
  pub ended : IfOk result (λ found. IfNone found (new.ahead ≡ 0))
  pub reached : old.stopped ≡ None → IfErr result (λ fault. fault_end fault ≤ new.place + new.ahead)
  pub front : (text : List ℕ) → old.left ≡ Some text
      → (new.left ≡ Some (drop (new.place - old.place) text)) × (new.place - old.place ≤ length text)
  pub answer : (text : List ℕ) → old.left ≡ Some text → old.stopped ≡ None → result ≢ Err ReadFault
      → result ≡ next old.place text
  pub passed : (text : List ℕ) → old.left ≡ Some text → IfOk result (λ _.
      (new.left ≡ Some (drop (size text) text)) × (new.place ≡ old.place + size text))

-- where a read fails, no more is held than what belongs to the run that is sought, and at most so many bytes of it; so no answer was already held
pub record IsSought (run : Run) (limit ahead : ℕ) (left : Option (List ℕ)) : Type 0 where
  pub few : ahead ≤ limit
  pub inside : (text : List ℕ) → left ≡ Some text → ahead ≤ prefix_len (belongs run) text

-- a line, of any source, begins at the reader's place, which comes to stand behind it;
-- of told bytes it is the first line of those left, and none is given only where no byte is left
pub record LineCall (old new : Reading) (result : Result (Option Piece) TextFault) : Type 0 where
  pub call : Call next_line_of line_size old new result
  pub refused : old.stopped ≡ None → IfErr result (λ fault. (new.place ≡ old.place) × IsLineFault old.place fault)
  pub sought : old.stopped ≡ None → result ≡ Err ReadFault → IsSought Line 1024 new.ahead new.left
  pub bounds : IfOk result (λ found. IfSome found (λ line.
      (line.place ≡ old.place) × (old.place < new.place) × (line.place + length line.bytes ≤ new.place) × IsLine line))
  pub whole : (text : List ℕ) → old.left ≡ Some text → IfOk result (λ found.
      MatchOption found (text ≡ []) (λ line. header_lines old.place text ≡ line ∷ header_lines new.place (drop (line_size text) text)))

-- the reader's place comes to stand behind a token, of any source, and at a fault only white space was passed; of told bytes it is the first token of those left,
-- and none is given only where no token is left, and then no byte is left
pub record TokenCall (old new : Reading) (result : Result (Option Piece) TextFault) : Type 0 where
  pub call : Call next_token_of token_size old new result
  pub refused : old.stopped ≡ None → IfErr result (IsTokenFault new.place)
  pub only_white : (text : List ℕ) → old.left ≡ Some text → IfErr result (λ _. new.place - old.place ≤ white_size text)
  pub sought : old.stopped ≡ None → result ≡ Err ReadFault → IsSought Token 255 new.ahead new.left
  pub bounds : IfOk result (λ found. IfSome found (λ token.
      (old.place ≤ token.place) × (token.place + length token.bytes ≡ new.place) × IsToken token))
  pub whole : (text : List ℕ) → old.left ≡ Some text → IfOk result (λ found.
      MatchOption found ((body_tokens old.place text ≡ []) × (new.left ≡ Some [])) (λ token.
      body_tokens old.place text ≡ token ∷ body_tokens new.place (drop (token_size text) text)))

-- a place is the reader's own behind the white space, which alone is passed; of told bytes the tokens left stay as they were,
-- and none is given only where no byte is left behind the white space
pub record PlaceCall (old new : Reading) (result : Result (Option ℕ) TextFault) : Type 0 where
  pub call : Call next_place_of white_size old new result
  pub refused : old.stopped ≡ None → IfErr result IsPlaceFault
  pub only_white : (text : List ℕ) → old.left ≡ Some text → IfErr result (λ _. new.place - old.place ≤ white_size text)
  pub sought : old.stopped ≡ None → result ≡ Err ReadFault → new.ahead ≡ 0
  pub place : IfOk result (λ found. IfSome found (λ place. place ≡ new.place))
  pub whole : (text : List ℕ) → old.left ≡ Some text → IfOk result (λ found.
      (body_tokens old.place text ≡ body_tokens new.place (drop (white_size text) text)) × MatchOption found (new.left ≡ Some []) (λ _. ⊤))
