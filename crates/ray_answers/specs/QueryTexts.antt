-- What a text asks: the queries of its lines, up to its end or to the first line that neither asks nor is without words.
use Rattle.std.specs.Prelude.{ℕ, zero, suc, ◌+◌, List, [], ◌∷◌, ◌++◌, length, drop, Option, None, Some, Result, Ok, Err}
use Rattle.ply_text.specs.declared.fault.TextFault.{TextFault}
use Rattle.ply_text.specs.Pieces.{Piece}
use Rattle.ply_text.specs.NextPieces.{next_line_of, line_size}
use Rattle.ray_answers.specs.declared.queries.Query.{Query}
use Rattle.ray_answers.specs.declared.queries.QueryKind.{QueryKind}
use Rattle.ray_answers.specs.declared.stops.LineFault.{LineFault}
use Rattle.ray_answers.specs.declared.stops.LineStop.{LineStop}
use Rattle.ray_answers.specs.declared.stops.LineStop.TheVariants.{AtLine}
use Rattle.ray_answers.specs.LineWords.{line_words}
use Rattle.ray_answers.specs.LineMeanings.{line_meaning, stop_of}

-- the queries, and what ends them: none where it is the end of the text
pub record QueryText : Type 0 where
  pub queries : List Query
  pub end : Option LineStop

-- queries, and then those of what follows
abbrev pub behind : List Query → QueryText → QueryText
behind queries later = record { queries = queries ++ later.queries; end = later.end }

-- a text that ends here
abbrev pub ends : Option LineStop → QueryText
ends end = record { queries = []; end = end }

-- what a line means, and then what follows
abbrev pub with_meaning : Result (Option Query) LineFault → QueryText → QueryText
with_meaning (Ok None) later = later
with_meaning (Ok (Some query)) later = behind (query ∷ []) later
with_meaning (Err fault) later = ends (Some (AtLine fault))

-- a line, and then what follows
abbrev pub with_line : QueryKind → Result (Option Piece) TextFault → QueryText → QueryText
with_line kind (Ok None) later = ends None
with_line kind (Ok (Some line)) later = with_meaning (line_meaning kind line.place (line_words line.bytes)) later
with_line kind (Err fault) later = ends (Some (stop_of fault))

-- the queries of at most so many lines of a text, whose first byte has that place
unfoldable pub queries_in : QueryKind → ℕ → ℕ → List ℕ → QueryText
queries_in kind zero place text = ends None
queries_in kind (suc n) place text = with_line kind (next_line_of place text) (queries_in kind n (place + line_size text) (drop (line_size text) text))

-- the queries of a text: no text has more lines than bytes
unfoldable pub queries_of : QueryKind → List ℕ → QueryText
queries_of kind text = queries_in kind (length text + 1) 0 text
