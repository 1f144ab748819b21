-- Steps through a text.
use Rattle.std.specs.Prelude.{ℕ, ◌+◌, ◌^◌, List, length, drop, Option, None, Some, Result, Ok, Err}
use Rattle.ply_text.specs.declared.fault.TextFault.{TextFault}
use Rattle.ply_text.specs.declared.fault.TextFault.TheVariants as texts
use Rattle.ply_text.specs.Pieces.{Piece}
use Rattle.ply_text.specs.NextPieces.{next_token_of, token_size}
use Rattle.ply_reader.specs.declared.fault.PlyFault.{PlyFault}
use Rattle.ply_reader.specs.declared.fault.PlyFault.TheVariants.{Refused, ReadFault}
use Rattle.ply_reader.specs.declared.fault.PlyKind.TheVariants.{LineTooLong, TokenTooLong, TooLong, Truncated}

-- a place in a text, and the bytes from there on
pub record Cursor : Type 0 where
  pub place : ℕ
  pub text : List ℕ

abbrev pub at : ℕ → List ℕ → Cursor
at place text = record { place = place; text = text }

-- a step takes something from the text and goes on behind it, or refuses the text
abbrev pub Step : Type 0 → Type 0
Step A = Cursor → Result (A × Cursor) PlyFault

-- one step, and then another one
abbrev pub onward : {A B : Type 0} → Result (A × Cursor) PlyFault → (A → Step B) → Result (B × Cursor) PlyFault
onward (Ok found) next = next found.0 found.1
onward (Err fault) next = Err fault

-- a step that takes nothing
abbrev pub done : {A : Type 0} → A → Step A
done a c = Ok (a, c)

-- what stops the reading of lines and tokens refuses a mesh
abbrev pub ply_fault : TextFault → PlyFault
ply_fault (texts.LineTooLong place) = Refused LineTooLong place
ply_fault (texts.TokenTooLong place) = Refused TokenTooLong place
ply_fault texts.TooLong = Refused TooLong (2 ^ 62)
ply_fault texts.ReadFault = ReadFault

abbrev pub behind_token : Cursor → Cursor
behind_token c = at (c.place + token_size c.text) (drop (token_size c.text) c.text)

abbrev pub with_cursor : {A : Type 0} → Cursor → Result A PlyFault → Result (A × Cursor) PlyFault
with_cursor c (Ok a) = Ok (a, c)
with_cursor c (Err fault) = Err fault

-- what is read from the next token; a text without one is too short
abbrev pub token_read : {A : Type 0} → (Piece → Result A PlyFault) → Cursor → Result (Option Piece) TextFault → Result (A × Cursor) PlyFault
token_read read c (Err fault) = Err (ply_fault fault)
token_read read c (Ok None) = Err (Refused Truncated (c.place + length c.text))
token_read read c (Ok (Some token)) = with_cursor (behind_token c) (read token)

-- a step over the next token
unfoldable pub taken : {A : Type 0} → (Piece → Result A PlyFault) → Step A
taken read c = token_read read c (next_token_of c.place c.text)

-- a result with its value changed
abbrev pub mapped : {A B : Type 0} → (A → B) → Result A PlyFault → Result B PlyFault
mapped f (Ok a) = Ok (f a)
mapped f (Err fault) = Err fault
