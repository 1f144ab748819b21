-- The lines of a text.
use Rattle.std.specs.Prelude.{ℕ, ◌+◌, Bool, false, ◌&&◌, ◌==◌, if◌then◌else◌, List, [], ◌∷◌}
use Rattle.ply_text.specs.Pieces.{Piece}

-- the text begins with LF
abbrev pub begins_with_feed : List ℕ → Bool
begins_with_feed [] = false
begins_with_feed (byte ∷ _) = byte == 10

-- a byte before a text joins the text's first line, or is a line where the text is empty; a CR before LF adds nothing
abbrev pub with_first : ℕ → ℕ → List ℕ → List Piece → List Piece
with_first place byte behind [] = record { place = place; bytes = byte ∷ [] } ∷ []
with_first place byte behind (line ∷ lines) =
    record { place = place; bytes = if (byte == 13) && begins_with_feed behind then line.bytes else byte ∷ line.bytes } ∷ lines

-- the lines of a text whose first byte has that place
abbrev pub header_lines : ℕ → List ℕ → List Piece
header_lines place [] = []
header_lines place (byte ∷ behind) =
    if byte == 10 then record { place = place; bytes = [] } ∷ header_lines (place + 1) behind
    else with_first place byte behind (header_lines (place + 1) behind)
