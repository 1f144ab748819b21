-- Cells as pairs of a code and a face.
use Rattle.std.proofs.Common.{◌≡◌, ℕ, ◌+◌, ◌<◌, List, [], ◌∷◌, ◌++◌, length, map, take, get_or, ap, ◌∙◌, sym}
use Rattle.std.proofs.lemmas.List.{map-append, take_more}
use Rattle.octree_specs.specs.Cells.{Cell}

abbrev pub cells_of : List (ℕ × ℕ) → List Cell
cells_of pairs = map (λ (pair : ℕ × ℕ). record { code = pair.0; face = pair.1 }) pairs

pub cells-more : (pairs : List (ℕ × ℕ)) (at : ℕ) (pair d : ℕ × ℕ) → at < length pairs → pair ≡ get_or pairs at d
    → cells_of (take (at + 1) pairs) ≡ cells_of (take at pairs) ++ record { code = pair.0; face = pair.1 } ∷ []
cells-more pairs at pair d within here =
    ap cells_of (take_more pairs at d within) ∙ (map-append (λ (pair : ℕ × ℕ). record { code = pair.0; face = pair.1 }) (take at pairs) (get_or pairs at d ∷ [])
    ∙ ap (λ (pair : ℕ × ℕ). cells_of (take at pairs) ++ record { code = pair.0; face = pair.1 } ∷ []) (sym here))
