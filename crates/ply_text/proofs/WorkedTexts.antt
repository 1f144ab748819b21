-- Small texts whose lines, tokens and answers were worked out by hand.
use Rattle.std.proofs.Common.{◌≡◌, ◌-◌, ◌^◌, [], ◌∷◌, None, Some, Ok, Err, refl}
use Rattle.ply_text.specs.declared.fault.TextFault.TheVariants.{TooLong}
use Rattle.ply_text.specs.Pieces.{belongs}
use Rattle.ply_text.specs.HeaderLines.{header_lines}
use Rattle.ply_text.specs.BodyTokens.{body_tokens}
use Rattle.ply_text.specs.NextPieces.{run_size, short_run_size, next_line_of, next_token_of, next_place_of, front_token_of, line_size, token_size}

-- "a", CR LF, LF, "b", CR: a line of one byte, a blank one, and a last one whose CR stays
three_lines : header_lines 5 (97 ∷ 13 ∷ 10 ∷ 10 ∷ 98 ∷ 13 ∷ [])
    ≡ record { place = 5; bytes = 97 ∷ [] } ∷ record { place = 8; bytes = [] } ∷ record { place = 9; bytes = 98 ∷ 13 ∷ [] } ∷ []
three_lines = refl

-- a space, "ab", a tab, LF, "c": two tokens
two_tokens : body_tokens 5 (32 ∷ 97 ∷ 98 ∷ 9 ∷ 10 ∷ 99 ∷ []) ≡ record { place = 6; bytes = 97 ∷ 98 ∷ [] } ∷ record { place = 10; bytes = 99 ∷ [] } ∷ []
two_tokens = refl

-- the line "a" before CR LF takes three bytes
one_line : (next_line_of 5 (97 ∷ 13 ∷ 10 ∷ 98 ∷ []) ≡ Ok (Some (record { place = 5; bytes = 97 ∷ [] }))) × (line_size (97 ∷ 13 ∷ 10 ∷ 98 ∷ []) ≡ 3)
unfolding next_line_of short_run_size run_size belongs
one_line = (refl, refl)

-- a space and "ab" before a space
one_token : (next_token_of 5 (32 ∷ 97 ∷ 98 ∷ 32 ∷ []) ≡ Ok (Some (record { place = 6; bytes = 97 ∷ 98 ∷ [] }))) × (token_size (32 ∷ 97 ∷ 98 ∷ 32 ∷ []) ≡ 3)
unfolding next_token_of front_token_of short_run_size run_size belongs
one_token = (refl, refl)

-- two bytes before place 2^62: a line of two bytes may end with the text, and not with LF behind them
last_places : (next_line_of (2 ^ 62 - 2) (97 ∷ 98 ∷ []) ≡ Ok (Some (record { place = 2 ^ 62 - 2; bytes = 97 ∷ 98 ∷ [] })))
    × (next_line_of (2 ^ 62 - 2) (97 ∷ 98 ∷ 10 ∷ []) ≡ Err TooLong) × (next_place_of (2 ^ 62 - 2) (32 ∷ 32 ∷ []) ≡ Ok None)
    × (next_place_of (2 ^ 62 - 2) (32 ∷ 32 ∷ 97 ∷ []) ≡ Err TooLong)
unfolding next_line_of next_place_of short_run_size run_size belongs
last_places = (refl, refl, refl, refl)
