-- The pieces that a text is cut into, and the bytes that belong to them.
use Rattle.std.specs.Prelude.{ℕ, ◌<◌, ◌≤◌, length, Bool, ◌&&◌, ◌||◌, not, ◌==◌, nat_le, List}
use Rattle.std.specs.List.{AllPass}
use Rattle.ply_text.specs.declared.run.Run.{Run}
use Rattle.ply_text.specs.declared.run.Run.TheVariants.{Line, Token, White}

-- bytes of a text, and the place of the first of them, counted from the text's start
pub record Piece : Type 0 where
  pub place : ℕ
  pub bytes : List ℕ

-- tab, LF, VT, FF, CR or space
abbrev pub is_white : ℕ → Bool
is_white byte = (nat_le 9 byte && nat_le byte 13) || byte == 32

-- a line ends before LF, a token before white space, white space before anything else
unfoldable pub belongs : Run → ℕ → Bool
belongs Line byte = not (byte == 10)
belongs Token byte = not (is_white byte)
belongs White byte = is_white byte

-- a line that may be given: at most 1024 bytes, and no LF
abbrev pub IsLine : Piece → Type 0
IsLine line = (length line.bytes ≤ 1024) × AllPass (belongs Line) line.bytes

-- a token that may be given: 1 to 255 bytes, none of them white space
abbrev pub IsToken : Piece → Type 0
IsToken token = (0 < length token.bytes) × (length token.bytes ≤ 255) × AllPass (belongs Token) token.bytes
