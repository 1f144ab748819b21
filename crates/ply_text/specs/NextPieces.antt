-- What a call answers on a text whose first byte has the place `place`.
use Rattle.std.specs.Prelude.{ℕ, ◌+◌, ◌-◌, ◌^◌, min, ◌&&◌, ◌==◌, if◌then◌else◌, nat_lt, nat_le, List, [], ◌∷◌, length, take, drop, Option, None, Some, Result, Ok, Err}
use Rattle.std.specs.List.{prefix_len}
use Rattle.ply_text.specs.declared.fault.TextFault.{TextFault}
use Rattle.ply_text.specs.declared.fault.TextFault.TheVariants.{LineTooLong, TokenTooLong, TooLong}
use Rattle.ply_text.specs.declared.run.Run.{Run}
use Rattle.ply_text.specs.declared.run.Run.TheVariants.{Line, Token, White}
use Rattle.ply_text.specs.Pieces.{Piece, belongs}

-- how many bytes from a place on may be passed
abbrev pub room_at : ℕ → ℕ
room_at place = 2 ^ 62 - place

-- the size of the run at the front of a text; `TooLong` where it fills the room and bytes stand behind
unfoldable pub run_size : Run → ℕ → List ℕ → Result ℕ TextFault
run_size run room text =
    let size = prefix_len (belongs run) text in
    if nat_le room size && nat_lt room (length text) then Err TooLong else Ok size

-- the same, and the fault where more bytes than the limit belong to the run within the room
unfoldable pub short_run_size : Run → ℕ → TextFault → ℕ → List ℕ → Result ℕ TextFault
short_run_size run limit fault room text =
    if nat_lt limit (min (prefix_len (belongs run) text) room) then Err fault else run_size run room text

-- goes on with the size, or stays at the fault
abbrev pub sized : {A : Type 0} → Result ℕ TextFault → (ℕ → Result A TextFault) → Result A TextFault
sized (Ok size) next = next size
sized (Err fault) next = Err fault

-- a line's bytes without a CR at their end
abbrev pub without_return : List ℕ → List ℕ
without_return [] = []
without_return (byte ∷ behind) = if (byte == 13) && (length behind == 0) then [] else byte ∷ without_return behind

-- the first bytes of a text as a line, without the CR before its LF
abbrev pub line_of : List ℕ → ℕ → List ℕ
line_of text size = if nat_lt size (length text) then without_return (take size text) else take size text

-- the next line
unfoldable pub next_line_of : ℕ → List ℕ → Result (Option Piece) TextFault
next_line_of place text = sized (short_run_size Line 1024 (LineTooLong place) (room_at place) text) (λ size.
    Ok (if length text == 0 then None else Some (record { place = place; bytes = line_of text size })))

-- how many bytes the next line takes, with its LF
abbrev pub line_size : List ℕ → ℕ
line_size text = min (prefix_len (belongs Line) text + 1) (length text)

-- how many bytes of white space stand at the front of a text
abbrev pub white_size : List ℕ → ℕ
white_size text = prefix_len (belongs White) text

-- the place of the next byte other than white space
unfoldable pub next_place_of : ℕ → List ℕ → Result (Option ℕ) TextFault
next_place_of place text = sized (run_size White (room_at place) text) (λ size.
    Ok (if size == length text then None else Some (place + size)))

-- the token at the front of a text
unfoldable pub front_token_of : ℕ → List ℕ → Result (Option Piece) TextFault
front_token_of place text = sized (short_run_size Token 255 (TokenTooLong place) (room_at place) text) (λ size.
    Ok (if size == 0 then None else Some (record { place = place; bytes = take size text })))

-- the next token
unfoldable pub next_token_of : ℕ → List ℕ → Result (Option Piece) TextFault
next_token_of place text = sized (run_size White (room_at place) text) (λ size. front_token_of (place + size) (drop size text))

-- how many bytes the next token takes, with the white space before it
abbrev pub token_size : List ℕ → ℕ
token_size text = white_size text + prefix_len (belongs Token) (drop (white_size text) text)
