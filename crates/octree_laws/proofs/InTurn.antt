-- Lists that nodes have, one after another, each placed after those before.
use Rattle.std.proofs.Common.{◌≡◌, ℕ, ◌+◌, List, [], ◌∷◌, ◌++◌, length, refl, sym, ap, ◌∙◌, arith, add-zero, append_assoc}
use Rattle.std.specs.List.{sum_by}
use Rattle.std.proofs.lemmas.List.{length-append}
use Rattle.std.proofs.lemmas.List.Sums.{sum_by-cons}
use Rattle.octree_specs.specs.Octree.{in_turn}

pub in_turn-append : {A : Type 0} (size : ℕ → ℕ) (each : ℕ → ℕ → List A) (at : ℕ) (xs ys : List ℕ)
    → in_turn size each at (xs ++ ys) ≡ in_turn size each at xs ++ in_turn size each (at + sum_by size xs) ys
in_turn-append size each at [] ys = rw (add-zero at) refl
in_turn-append size each at (x ∷ xs) ys =
    let e : at + size x + sum_by size xs ≡ at + sum_by size (x ∷ xs) = rw (sum_by-cons size x xs) (omega arith) in
    ap (λ rest. each x at ++ rest) (in_turn-append size each (at + size x) xs ys)
    ∙ (ap (λ from. each x at ++ (in_turn size each (at + size x) xs ++ in_turn size each from ys)) e
    ∙ sym (append_assoc (each x at) (in_turn size each (at + size x) xs) (in_turn size each (at + sum_by size (x ∷ xs)) ys)))

pub length-in_turn : {A : Type 0} (size : ℕ → ℕ) (each : ℕ → ℕ → List A) (long : ℕ → ℕ) → ((node at : ℕ) → length (each node at) ≡ long node)
    → (at : ℕ) (nodes : List ℕ) → length (in_turn size each at nodes) ≡ sum_by long nodes
length-in_turn size each long is at [] = refl
length-in_turn size each long is at (x ∷ xs) =
    length-append (each x at) (in_turn size each (at + size x) xs)
    ∙ rw (is x at, length-in_turn size each long is (at + size x) xs, sum_by-cons long x xs) refl

-- one more for each
pub sum_by-one_more : (size : ℕ → ℕ) (nodes : List ℕ) → sum_by (λ node. 1 + size node) nodes ≡ sum_by size nodes + length nodes
sum_by-one_more size [] = refl
sum_by-one_more size (x ∷ xs) =
    let more : sum_by (λ node. 1 + size node) xs ≡ sum_by size xs + length xs = sum_by-one_more size xs in
    rw (sum_by-cons (λ node. 1 + size node) x xs, sum_by-cons size x xs) (omega arith)

pub sum_by-ones : (nodes : List ℕ) → sum_by (λ node. 1) nodes ≡ length nodes
sum_by-ones [] = refl
sum_by-ones (x ∷ xs) = rw (sum_by-cons (λ (node : ℕ). 1) x xs) (let more : sum_by (λ (node : ℕ). 1) xs ≡ length xs = sum_by-ones xs in omega arith)
