-- The tokens of a text: its longest runs of bytes other than white space.
use Rattle.std.specs.Prelude.{ℕ, ◌+◌, ◌==◌, if◌then◌else◌, List, [], ◌∷◌}
use Rattle.ply_text.specs.Pieces.{Piece, is_white}

-- a byte joins the token that begins directly behind it, or is a token of its own
abbrev pub with_byte : ℕ → ℕ → List Piece → List Piece
with_byte place byte [] = record { place = place; bytes = byte ∷ [] } ∷ []
with_byte place byte (token ∷ tokens) =
    if token.place == place + 1 then record { place = place; bytes = byte ∷ token.bytes } ∷ tokens
    else record { place = place; bytes = byte ∷ [] } ∷ token ∷ tokens

-- the tokens of a text whose first byte has that place
abbrev pub body_tokens : ℕ → List ℕ → List Piece
body_tokens place [] = []
body_tokens place (byte ∷ behind) =
    if is_white byte then body_tokens (place + 1) behind
    else with_byte place byte (body_tokens (place + 1) behind)
