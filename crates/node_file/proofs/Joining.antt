-- Bytes that are added piece by piece.
use Rattle.std.proofs.Common.{◌≡◌, ℕ, ◌∷◌, List, [], ◌++◌, length, get_or, refl, ap, ◌∙◌, arith, append_assoc, append-nil, ℤ}
use Rattle.std.specs.List.{flat_map}
use Rattle.std.proofs.lemmas.List.Concat.{flat_map-cons}

-- pieces joined one after another
pub ruleset joining = (append_assoc)

-- five pieces are added in order
pub five_pieces : (a b c d e : List ℕ) → [] ++ a ++ b ++ c ++ d ++ e ≡ a ++ b ++ c ++ d ++ e
five_pieces a b c d e = refl

-- the bytes of three numbers
pub three_bytes : (each : ℤ → List ℕ) (x y z : ℤ) → flat_map each (x ∷ y ∷ z ∷ []) ≡ each x ++ each y ++ each z
three_bytes each x y z =
    flat_map-cons each x (y ∷ z ∷ []) ∙ (ap (λ l. each x ++ l) (flat_map-cons each y (z ∷ []) ∙ ap (λ l. each y ++ l) (flat_map-cons each z [] ∙ append-nil (each z)))
    ∙ simp append_assoc)
