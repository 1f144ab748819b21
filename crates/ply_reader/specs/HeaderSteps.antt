-- The header of a text: its lines, one after the other, until one ends it.
use Rattle.std.specs.Prelude.{ℕ, zero, suc, ◌+◌, Bool, if◌then◌else◌, List, length, drop, Option, None, Some, Result, Ok, Err}
use Rattle.ply_text.specs.declared.fault.TextFault.{TextFault}
use Rattle.ply_text.specs.Pieces.{Piece}
use Rattle.ply_text.specs.NextPieces.{next_line_of, line_size}
use Rattle.ply_reader.specs.declared.fault.PlyFault.{PlyFault}
use Rattle.ply_reader.specs.declared.fault.PlyFault.TheVariants.{Refused}
use Rattle.ply_reader.specs.declared.fault.PlyKind.{PlyKind}
use Rattle.ply_reader.specs.declared.fault.PlyKind.TheVariants.{NotPly, Truncated}
use Rattle.ply_reader.specs.LineWords.{line_words}
use Rattle.ply_reader.specs.Declarations.{Declared, nothing_declared}
use Rattle.ply_reader.specs.HeaderRules.{rules_of, first_broken, is_end, after}
use Rattle.ply_reader.specs.Cursors.{Cursor, Step, at, onward, done, ply_fault}

-- what a line declares, and whether it ends the header
pub record Taken : Type 0 where
  pub ended : Bool
  pub declared : Declared

-- a line by the first rule that it breaks, or by what it adds
abbrev pub line_taken : Declared → ℕ → List (List ℕ) → Cursor → Option PlyKind → Result (Taken × Cursor) PlyFault
line_taken d place words behind None = Ok (record { ended = is_end d words; declared = after d words }, behind)
line_taken d place words behind (Some kind) = Err (Refused kind place)

-- a text that ends here has no header; an empty one is none at all
abbrev pub cut_off : Declared → ℕ → PlyFault
cut_off d place = Refused (if d.begun then Truncated else NotPly) place

abbrev pub behind_line : Cursor → Cursor
behind_line c = at (c.place + line_size c.text) (drop (line_size c.text) c.text)

abbrev pub line_read : Declared → Cursor → Result (Option Piece) TextFault → Result (Taken × Cursor) PlyFault
line_read d c (Err fault) = Err (ply_fault fault)
line_read d c (Ok None) = Err (cut_off d c.place)
line_read d c (Ok (Some line)) =
    line_taken d line.place (line_words line.bytes) (behind_line c) (first_broken (rules_of d (line_words line.bytes)))

-- the next line
unfoldable pub header_line : Declared → Step Taken
header_line d c = line_read d c (next_line_of c.place c.text)

-- the lines up to the one that ends the header, at most so many
unfoldable pub header_of : ℕ → Declared → Step Declared
header_of zero d c = Err (cut_off d c.place)
header_of (suc n) d c =
    onward (header_line d c) (λ taken. if taken.ended then done taken.declared else header_of n taken.declared)

-- the header of a text: no text has more lines than bytes
unfoldable pub whole_header : Step Declared
whole_header c = header_of (length c.text + 1) nothing_declared c

-- what is taken from a header
abbrev pub taken_from : Declared → Bool → Taken
taken_from d ended = record { ended = ended; declared = d }

abbrev pub refused_at : ℕ → Result Bool PlyKind → Result Bool PlyFault
refused_at place (Ok ended) = Ok ended
refused_at place (Err kind) = Err (Refused kind place)
