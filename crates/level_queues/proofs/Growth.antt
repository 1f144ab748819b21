-- What nodes have where two octrees are alike at each of them.
use Rattle.std.proofs.Common.{◌≡◌, ℕ, List, [], ◌∷◌}
use Rattle.octree_specs.specs.Octree.{Leaf, size_of, word_of, below_of}
use Rattle.octree_laws.proofs.Growth.{Each, IsSameAt}

pub belows_same : (xs ys : List Leaf) (height : ℕ) (nodes : List ℕ) → Each (IsSameAt xs ys height) nodes
    → Each (λ node. (size_of xs height node ≡ size_of ys height node) × ((at : ℕ) → below_of xs height node at ≡ below_of ys height node at)) nodes
unfolding Each
belows_same xs ys height [] same = tt
belows_same xs ys height (x ∷ rest) same = ((same.0.size, same.0.below), belows_same xs ys height rest same.1)

pub words_same : (xs ys : List Leaf) (height : ℕ) (nodes : List ℕ) → Each (IsSameAt xs ys height) nodes
    → Each (λ node. (size_of xs height node ≡ size_of ys height node) × ((at : ℕ) → word_of xs height node at ≡ word_of ys height node at)) nodes
unfolding Each
words_same xs ys height [] same = tt
words_same xs ys height (x ∷ rest) same = ((same.0.size, same.0.word), words_same xs ys height rest same.1)
