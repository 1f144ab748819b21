-- The nonempty ones of the first children of a node, as their number grows.
use Rattle.std.proofs.Common.{◌≡◌, ℕ, zero, suc, ◌+◌, ◌*◌, ◌≤◌, true, false, cond, List, [], ◌∷◌, ◌++◌, length, refl, sym, ap, ◌∙◌, arith, add-zero, append-nil}
use Rattle.std.specs.List.{filter, range_with_len}
use Rattle.std.proofs.lemmas.List.FromFn.{length-range_with_len}
use Rattle.std.proofs.lemmas.List.Elements.{filter-append}
use Rattle.std.proofs.lemmas.List.Sums.{length-filter, count_by-le-length}
use Rattle.octree_specs.specs.Octree.{Leaf, is_nonempty, first_children}

-- a run is one of its first numbers and one of the others
pub range-add : (from count more : ℕ) → range_with_len from (count + more) ≡ range_with_len from count ++ range_with_len (from + count) more
range-add from zero more = let e : zero + more ≡ more = omega arith in rw (e, add-zero from) refl
range-add from (suc count) more =
    let e : suc count + more ≡ suc (count + more) = omega arith in
    let f : (from + 1) + count ≡ from + suc count = omega arith in
    rw (e, ← f) (ap (λ rest. from ∷ rest) (range-add (from + 1) count more))

-- nonempty ones of a run of children from a place on
unfoldable pub later_children : List Leaf → ℕ → ℕ → ℕ → ℕ → List ℕ
later_children leaves height node place count = filter (is_nonempty leaves height) (range_with_len (8 * node + place) count)

module _ (leaves : List Leaf) (height node : ℕ) where
  pub first_children-zero : first_children leaves height node 0 ≡ []
  unfolding first_children
  first_children-zero = refl

  pub first_children-add : (count more : ℕ) → first_children leaves height node (count + more) ≡ first_children leaves height node count ++ later_children leaves height node count more
  unfolding first_children later_children
  first_children-add count more =
      ap (filter (is_nonempty leaves height)) (range-add (8 * node) count more)
      ∙ filter-append (is_nonempty leaves height) (range_with_len (8 * node) count) (range_with_len (8 * node + count) more)

  -- the first of a run, if it is nonempty
  pub later_children-suc : (place count : ℕ) → later_children leaves height node place (suc count)
      ≡ cond (is_nonempty leaves height (8 * node + place)) ((8 * node + place) ∷ []) [] ++ later_children leaves height node (place + 1) count
  unfolding later_children
  later_children-suc place count =
      let e : 8 * node + place + 1 ≡ 8 * node + (place + 1) = omega arith in
      filter-append (is_nonempty leaves height) ((8 * node + place) ∷ []) (range_with_len (8 * node + place + 1) count)
      ∙ ap (λ from. filter (is_nonempty leaves height) ((8 * node + place) ∷ []) ++ filter (is_nonempty leaves height) (range_with_len from count)) e

  -- one more child
  pub first_children_more : (count : ℕ) → first_children leaves height node (count + 1)
      ≡ first_children leaves height node count ++ cond (is_nonempty leaves height (8 * node + count)) ((8 * node + count) ∷ []) []
  unfolding first_children later_children
  first_children_more count = first_children-add count 1

  pub one_in : (count : ℕ) → is_nonempty leaves height (8 * node + count) ≡ true
      → first_children leaves height node (count + 1) ≡ first_children leaves height node count ++ (8 * node + count) ∷ []
  one_in count nonempty = first_children_more count ∙ rw nonempty refl

  pub one_out : (count : ℕ) → is_nonempty leaves height (8 * node + count) ≡ false → first_children leaves height node (count + 1) ≡ first_children leaves height node count
  one_out count empty = first_children_more count ∙ rw empty (append-nil (first_children leaves height node count))

  pub length-first_children : (count : ℕ) → length (first_children leaves height node count) ≤ count
  unfolding first_children
  length-first_children count =
      omega (arith, length-filter (is_nonempty leaves height) (range_with_len (8 * node) count), count_by-le-length (is_nonempty leaves height) (range_with_len (8 * node) count), length-range_with_len (8 * node) count)

  -- a nonempty child among all eight: those before it, itself, and those behind it
  pub children_at : (place rest : ℕ) → place + (1 + rest) ≡ 8 → is_nonempty leaves height (8 * node + place) ≡ true
      → first_children leaves height node 8 ≡ first_children leaves height node place ++ (8 * node + place) ∷ later_children leaves height node (place + 1) rest
  children_at place rest eight nonempty =
      let e : 1 + rest ≡ suc rest = omega arith in
      ap (first_children leaves height node) (sym eight ∙ ap (λ n. place + n) e) ∙ (first_children-add place (suc rest)
      ∙ ap (λ more. first_children leaves height node place ++ more) (later_children-suc place rest ∙ rw nonempty refl))
