-- Elements whose properties are among those that were declared.
use Rattle.std.proofs.Common.{ℕ, ◌+◌, ◌≤◌, List, [], ◌∷◌, ◌++◌, arith, Some, refl}
use Rattle.std.proofs.lemmas.List.Elements.{All-weaker, All-push, All-pop}
use Rattle.ply_reader.specs.declared.elements.Element.{Element}
use Rattle.ply_reader.specs.Ranges.{AreWithin, IsFew, AreFew}
use Rattle.ply_reader.specs.Declarations.{one_more}

-- they stay so where more are declared
pub within_more : (n : ℕ) (elements : List Element) → AreWithin n elements → AreWithin (n + 1) elements
within_more n elements within = All-weaker (λ e. e.first + e.properties ≤ n) (λ e. e.first + e.properties ≤ n + 1) (λ e h. omega (arith, h)) elements within

-- also where the last element has one more
pub within_one_more : (n : ℕ) (front : List Element) (last : Element) → AreWithin n (front ++ last ∷ []) → AreWithin (n + 1) (front ++ one_more last ∷ [])
within_one_more n front last within =
    let parts = All-pop (λ e. e.first + e.properties ≤ n) (front ++ last ∷ []) front (Some last) refl within in
    All-push (λ e. e.first + e.properties ≤ n + 1) front (one_more last) (within_more n front parts.0) (omega (arith, parts.1))

-- nor does one more property change a count
pub few_one_more : (front : List Element) (last : Element) → AreFew (front ++ last ∷ []) → AreFew (front ++ one_more last ∷ [])
few_one_more front last few =
    let parts = All-pop IsFew (front ++ last ∷ []) front (Some last) refl few in
    All-push IsFew front (one_more last) parts.0 parts.1
