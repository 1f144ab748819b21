-- A text with a header: as it is, or, where its format line says binary, rewritten as ASCII.
use Rattle.std.specs.Prelude.{ℕ, zero, suc, ◌+◌, ◌-◌, Bool, true, false, ◌&&◌, ◌||◌, not, if◌then◌else◌, List, [], ◌∷◌, ◌++◌, length, take, drop, replicate, Option, None, Some, Result, Ok, Err, codes}
use Rattle.std.specs.Str.{bytes_eq}
use Rattle.ply_text.specs.declared.fault.TextFault.{TextFault}
use Rattle.ply_text.specs.Pieces.{Piece}
use Rattle.ply_text.specs.NextPieces.{next_line_of, line_size}
use Rattle.ply_reader.specs.declared.fault.PlyKind.{PlyKind}
use Rattle.ply_reader.specs.Declarations.{Declared, nothing_declared}
use Rattle.ply_reader.specs.HeaderRules.{rules_of, first_broken, is_end, after}
use Rattle.ply_reader.specs.LineWords.{line_words}
use Rattle.text_words.specs.LineWords.{next_word}
use Rattle.ply_binary.specs.Bodies.{body_text}

-- what stands behind the first word of a line
abbrev pub behind_word : Option (List ℕ × List ℕ) → List ℕ
behind_word None = []
behind_word (Some found) = found.1

-- the first word is `format`
abbrev pub is_format : List (List ℕ) → Bool
is_format [] = false
is_format (word ∷ _) = bytes_eq word (codes "format")

-- the words are `format binary_little_endian 1.0`, the first of which is known
abbrev pub is_binary : List (List ℕ) → Bool
is_binary [] = false
is_binary (_ ∷ []) = false
is_binary (_ ∷ _ ∷ []) = false
is_binary (_ ∷ format ∷ version ∷ []) = bytes_eq format (codes "binary_little_endian") && bytes_eq version (codes "1.0")
is_binary (_ ∷ _ ∷ _ ∷ _ ∷ _) = false

-- a line with `ascii` in the place of the 20 bytes before its tail, and 15 spaces at its end, so that no place moves
abbrev pub ascii_with : List ℕ → List ℕ → List ℕ
ascii_with line tail = take (length line - (length tail + 20)) line ++ codes "ascii" ++ tail ++ replicate 15 32

-- a format line with `ascii` as its second word
unfoldable pub ascii_line : List ℕ → List ℕ
ascii_line line = ascii_with line (behind_word (next_word (behind_word (next_word line))))

-- what follows an accepted line: the body behind the header's last line, else the next line; behind a refused line all stays as it is
abbrev pub behind_line : (Declared → List ℕ → List ℕ) → Declared → List (List ℕ) → Option PlyKind → List ℕ → List ℕ
behind_line next d words (Some kind) behind = behind
behind_line next d words None behind = if is_end d words then body_text (after d words) behind else next (after d words) behind

abbrev pub taken_line : (Declared → List ℕ → List ℕ) → Declared → List ℕ → List ℕ → List ℕ
taken_line next d line behind = behind_line next d (line_words line) (first_broken (rules_of d (line_words line))) behind

-- a line as it is given, with its end; the line by which the header's rules judge; and whether the header's format line was
pub record Shown : Type 0 where
  pub text : List ℕ
  pub line : List ℕ
  pub found : Bool

-- a line stays as it is, but for a binary format line; `None` at another format line. `found` says whether the format line was
abbrev pub shown_line : Bool → List ℕ → List ℕ → Option Shown
shown_line found line whole =
    if found || not (is_format (line_words line)) then Some (record { text = whole; line = line; found = found }) else
    if is_binary (line_words line) then Some (record { text = ascii_line line ++ drop (length line) whole; line = ascii_line line; found = true }) else
    None

-- a line and what follows it; behind a format line that is not binary all stays as it is
abbrev pub shown_then : (Bool → Declared → List ℕ → List ℕ) → Declared → List ℕ → ℕ → Option Shown → List ℕ
shown_then next d text size None = text
shown_then next d text size (Some shown) = shown.text ++ taken_line (next shown.found) d shown.line (drop size text)

-- where no line is, all stays as it is
abbrev pub line_then : (Bool → Declared → List ℕ → List ℕ) → Bool → Declared → List ℕ → ℕ → Result (Option Piece) TextFault → List ℕ
line_then next found d text size (Err fault) = text
line_then next found d text size (Ok None) = text
line_then next found d text size (Ok (Some line)) = shown_then next d text size (shown_line found line.bytes (take size text))

-- the lines of a header from a place on, at most so many, by the rules of headers
unfoldable pub lines_then : ℕ → Bool → Declared → ℕ → List ℕ → List ℕ
lines_then zero found d place text = text
lines_then (suc n) found d place text =
    line_then (λ found d behind. lines_then n found d (place + line_size text) behind) found d text (line_size text) (next_line_of place text)

-- no text has more lines than bytes
abbrev pub header_left : Bool → Declared → ℕ → List ℕ → List ℕ
header_left found d place text = lines_then (length text + 1) found d place text

-- a text as ASCII
unfoldable pub ascii : List ℕ → List ℕ
ascii text = header_left false nothing_declared 0 text
