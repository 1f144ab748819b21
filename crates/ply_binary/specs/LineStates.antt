-- The lines of a header, as the code has them.
use Rattle.std.specs.Prelude.{◌≡◌, ℕ, ◌+◌, ◌<◌, ◌≤◌, min, nat_lt, nat_le, ◌&&◌, ◌||◌, Bool, true, false, List, ◌++◌, length, take, drop, Option, None, Some, Result, Ok, Err}
use Rattle.std.specs.Option.{option_map}
use Rattle.ply_text.specs.NextPieces.{room_at}
use Rattle.ply_reader.specs.declared.fault.PlyKind.{PlyKind}
use Rattle.ply_reader.specs.Declarations.{Declared}
use Rattle.ply_reader.specs.LineWords.{line_words}
use Rattle.ply_binary.specs.declared.lines.Format.{Format}
use Rattle.ply_binary.specs.declared.lines.Format.TheVariants.{Unsaid, Binary, Other}
use Rattle.ply_binary.specs.declared.lines.ShownLine.{ShownLine}
use Rattle.ply_binary.specs.declared.source.Stage.{Stage}
use Rattle.ply_binary.specs.declared.source.Stage.TheVariants.{Head, Values, Plain}
use Rattle.ply_binary.specs.HeaderTexts.{Shown, is_format, is_binary, ascii_line, ascii_with, header_left, taken_line}

-- what a line says of the format
abbrev pub IsFormat : List ℕ → Format → Type 0
IsFormat line Unsaid = is_format (line_words line) ≡ false
IsFormat line (Binary tail) = (is_format (line_words line) ≡ true) × (is_binary (line_words line) ≡ true)
    × (ascii_line line ≡ ascii_with line tail.now) × (length tail.now + 20 ≤ length line)
IsFormat line Other = (is_format (line_words line) ≡ true) × (is_binary (line_words line) ≡ false)

-- a shown line by its text and the size of what is judged
abbrev pub shown_by : ShownLine → Shown
shown_by shown = record { text = shown.text; line = take shown.size shown.text; found = shown.found }

abbrev pub shown_of : Option ShownLine → Option Shown
shown_of result = option_map shown_by result

-- whether a line with so many bytes before its LF is one that may be taken, where so many bytes are held
abbrev pub is_line : ℕ → ℕ → ℕ → Bool
is_line held size place = nat_lt 0 held && (nat_le (min size (room_at place)) 1024 && (nat_lt size (room_at place) || nat_le held (room_at place)))

-- what follows a header line, by what the header said of it
abbrev pub stage_behind : Bool → Result Bool PlyKind → Stage
stage_behind found (Ok true) = Values
stage_behind found (Ok false) = Head found
stage_behind found (Err kind) = Plain

-- what a shown line says of the text: `whole` bytes of those held are the line with its end
abbrev pub IsShown : Bool → Declared → ℕ → List ℕ → List ℕ → ℕ → Option ShownLine → Type 0
IsShown found d place bytes more whole None = header_left found d place (bytes ++ more) ≡ bytes ++ more
IsShown found d place bytes more whole (Some shown) = header_left found d place (bytes ++ more)
    ≡ shown.text ++ taken_line (λ d behind. header_left shown.found d (place + whole) behind) d (take shown.size shown.text) (drop whole bytes ++ more)

-- the text of a shown line is as long as the line, and not empty
pub record IsLong (whole : ℕ) (shown : ShownLine) : Type 0 where
  pub text : length shown.text ≡ whole
  pub size : shown.size ≤ whole
  pub some : 0 < whole
