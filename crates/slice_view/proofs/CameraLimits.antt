-- The limits of a camera's numbers, from their tests.
use Rattle.std.proofs.Common.{◌≡◌, ℕ, ◌≤◌, true, List, [], ◌∷◌, ℤ}
use Rattle.std.specs.Prelude.{All, unsigned_abs}
use Rattle.std.specs.List.{list_all}
use Rattle.std.proofs.lemmas.Bool.{and_parts, leb-true}
use Rattle.std.proofs.lemmas.List.Elements.{All-nil, All-cons}
use Rattle.svo_base.specs.GridLimits.{is_within}

pub all_within : (limit : ℕ) (xs : List ℤ) → list_all (is_within limit) xs ≡ true → All (λ z. unsigned_abs z ≤ limit) xs
all_within limit [] test = All-nil (λ z. unsigned_abs z ≤ limit)
all_within limit (x ∷ xs) test =
    let parts = and_parts (is_within limit x) (list_all (is_within limit) xs) test in
    All-cons (λ z. unsigned_abs z ≤ limit) x xs (leb-true (unsigned_abs x) limit parts.0) (all_within limit xs parts.1)

pub three : (x y z u v w : ℤ) → x ≡ u → y ≡ v → z ≡ w → x ∷ y ∷ z ∷ [] ≡ u ∷ v ∷ w ∷ []
three x y z u v w a b c = cc
