-- The first of the nodes that wait is the nearest.
use Rattle.std.proofs.Common.{◌≡◌, ℕ, ◌≤◌, false, List, [], ◌∷◌, map, arith, refl}
use Rattle.std.specs.Prelude.{All}
use Rattle.std.specs.BinaryHeap.{IsUpperBound}
use Rattle.std.specs.Ordering.{is_lt, nat_cmp, ordering_then}
use Rattle.std.specs.declared.cmp.Ordering.{Ordering}
use Rattle.std.specs.declared.cmp.Ordering.TheVariants.{Less, Equal, Greater}
use Rattle.std.specs.declared.cmp.Reverse.{Reverse}
use Rattle.std.proofs.lemmas.Bool.Decides.{nat_tests}
use Rattle.std.proofs.lemmas.List.Elements.{All-cons, All-nil}
use Rattle.near_query.specs.Queues.{waiting_cmp}
use Rattle.near_query.specs.declared.queues.Waiting.{Waiting}

first_not_lt : (first then : Ordering) → is_lt (ordering_then first then) ≡ false → is_lt first ≡ false
first_not_lt Less then is = is
first_not_lt Equal then is = refl
first_not_lt Greater then is = refl

at_most : (a b : ℕ) → is_lt (nat_cmp b a) ≡ false → a ≤ b
at_most a b is = grind (arith, nat_tests, is)

pub least_of : (first : Reverse Waiting) (others : List (Reverse Waiting)) → IsUpperBound (λ x y. waiting_cmp y.0 x.0) first others
    → All (λ other. first.0.distance ≤ other.distance) (map (λ r. r.0) others)
least_of first [] bound = All-nil (λ other. first.0.distance ≤ other.distance)
least_of first (other ∷ rest) bound =
    All-cons (λ other. first.0.distance ≤ other.distance) other.0 (map (λ r. r.0) rest) (at_most first.0.distance other.0.distance (first_not_lt _ _ bound.0)) (least_of first rest bound.1)
