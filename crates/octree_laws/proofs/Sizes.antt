-- How many words there are.
use Rattle.std.proofs.Common.{◌≡◌, ℕ, zero, suc, ◌+◌, ◌*◌, ◌^◌, ◌≤◌, List, [], ◌∷◌, length, get_or, refl, ap, ◌∙◌, arith, lit≤}
use Rattle.std.specs.List.{sum_by}
use Rattle.std.proofs.Math.Nat.{pow-suc, mul-le-mul_right}
use Rattle.std.proofs.lemmas.List.{length-append, length_push}
use Rattle.std.proofs.lemmas.List.Sums.{sum_by-le}
use Rattle.octree_specs.specs.Octree.{Leaf, children_of, size_of, word_of, in_turn, below_of, words_of}
use Rattle.octree_laws.proofs.FirstChildren.{length-first_children}
use Rattle.octree_laws.proofs.InTurn.{length-in_turn, sum_by-one_more, sum_by-ones}

-- the words below the nodes of a list, one node after another
unfoldable pub words_below : List Leaf → ℕ → ℕ → List ℕ → List ℕ
words_below leaves height at nodes = in_turn (size_of leaves height) (below_of leaves height) at nodes

-- and the words of these nodes
unfoldable pub words_at : List Leaf → ℕ → ℕ → List ℕ → List ℕ
words_at leaves height at nodes = in_turn (size_of leaves height) (λ child from. word_of leaves height child from ∷ []) at nodes

pub length-words_at : (leaves : List Leaf) (height at : ℕ) (nodes : List ℕ) → length (words_at leaves height at nodes) ≡ length nodes
unfolding words_at
length-words_at leaves height at nodes =
    length-in_turn (size_of leaves height) (λ child from. word_of leaves height child from ∷ []) (λ node. 1) (λ node from. refl) at nodes ∙ sum_by-ones nodes

-- there is a word for each node below
pub length-below_of : (leaves : List Leaf) (height node at : ℕ) → length (below_of leaves height node at) ≡ size_of leaves height node
unfolding below_of size_of words_below words_at
length-below_of leaves zero node at = refl
length-below_of leaves (suc height) node at =
    let children : List ℕ = children_of leaves height node in
    let under : length (words_below leaves height at children) ≡ sum_by (size_of leaves height) children =
    length-in_turn (size_of leaves height) (below_of leaves height) (size_of leaves height) (length-below_of leaves height) at children in
    length-append (words_below leaves height at children) (words_at leaves height at children)
    ∙ rw (length-words_at leaves height at children, under, sum_by-one_more (size_of leaves height) children) refl

pub length-words_below : (leaves : List Leaf) (height at : ℕ) (nodes : List ℕ) → length (words_below leaves height at nodes) ≡ sum_by (size_of leaves height) nodes
unfolding words_below
length-words_below leaves height at nodes = length-in_turn (size_of leaves height) (below_of leaves height) (size_of leaves height) (length-below_of leaves height) at nodes

-- and the root's
pub length-words_of : (leaves : List Leaf) (levels : ℕ) → length (words_of leaves levels) ≡ size_of leaves levels 0 + 1
unfolding words_of
length-words_of leaves levels = length_push (below_of leaves levels 0 0) (word_of leaves levels 0 0) ∙ ap (λ n. n + 1) (length-below_of leaves levels 0 0)

-- the size of a node above others, by its children
pub size-suc : (leaves : List Leaf) (height node : ℕ) → size_of leaves (suc height) node ≡ sum_by (size_of leaves height) (children_of leaves height node) + length (children_of leaves height node)
unfolding size_of
size-suc leaves height node = sum_by-one_more (size_of leaves height) (children_of leaves height node)

-- below a node there are fewer nodes than a full octree has
pub size-few : (leaves : List Leaf) (height node : ℕ) → 7 * size_of leaves height node + 8 ≤ 8 ^ suc height
unfolding size_of
size-few leaves zero node = lit≤ tt
size-few leaves (suc height) node =
    let size : ℕ → ℕ = size_of leaves height in
    let children : List ℕ = children_of leaves height node in
    let most : (m : ℕ) × (7 * m + 8 ≡ 8 ^ suc height + 7) = bound height in
    let each : (child : ℕ) → 1 + size child ≤ most.0 =
    λ child. let few : 7 * size child + 8 ≤ 8 ^ suc height = size-few leaves height child in omega (arith, most.1) in
    let all : sum_by (λ child. 1 + size child) children ≤ length children * most.0 =
    sum_by-le (λ child. 1 + size child) most.0 children (λ k d within. each (get_or children k d)) in
    let eight : length children * most.0 ≤ 8 * most.0 = mul-le-mul_right most.0 (length-first_children leaves height node 8) in
    let power : 8 ^ suc (suc height) ≡ 8 ^ suc height * 8 = pow-suc 8 (suc height) in
    omega (arith, most.1)
  where
    bound : (height : ℕ) → (m : ℕ) × (7 * m + 8 ≡ 8 ^ suc height + 7)
    bound zero = (1, refl)
    bound (suc height) =
        let before : (m : ℕ) × (7 * m + 8 ≡ 8 ^ suc height + 7) = bound height in
        let power : 8 ^ suc (suc height) ≡ 8 ^ suc height * 8 = pow-suc 8 (suc height) in
        (8 * before.0 + 1, omega (arith, before.1))
