-- Lists that nodes have in turn, where two octrees are alike, or nodes are added.
use Rattle.std.proofs.Common.{map, ◌≡◌, ℕ, zero, suc, ◌+◌, ◌*◌, ◌%◌, ◌^◌, ◌<◌, ◌≤◌, false, List, [], ◌∷◌, ◌++◌, length, refl, sym, ap, ◌∙◌, inl, inr, arith, add-zero}
use Rattle.std.specs.List.{sum_by}
use Rattle.std.proofs.lemmas.Bool.{cases_Bool}
use Rattle.std.proofs.lemmas.List.Sums.{sum_by-cons}
use Rattle.octree_specs.specs.Octree.{Leaf, is_nonempty, first_children, size_of, word_of, in_turn}
use Rattle.octree_laws.proofs.FirstChildren.{first_children-zero, first_children_more, one_in, one_out}
use Rattle.octree_laws.proofs.InTurn.{in_turn-append}
use Rattle.octree_laws.proofs.Growth.{Each, each-append}
use Rattle.room_plan.specs.declared.queues.QueueEntry.{QueueEntry}
use Rattle.level_queues.specs.Queued.{entries_of, bits_of}

-- of each of the first children
pub each_child : (P : ℕ → Type 0) (leaves : List Leaf) (height node count : ℕ) → ((k : ℕ) → k < count → P (8 * node + k)) → Each P (first_children leaves height node count)
unfolding Each
each_child P leaves height node zero all = rw (first_children-zero leaves height node) tt
each_child P leaves height node (suc count) all =
    let e : suc count ≡ count + 1 = omega arith in
    let before : Each P (first_children leaves height node count) = each_child P leaves height node count (λ k below. all k (omega (arith, below))) in
    let whole : Each P (first_children leaves height node (count + 1)) =
    elim (cases_Bool (is_nonempty leaves height (8 * node + count))) [
      | inl nonempty ↦ rw (one_in leaves height node count nonempty) (each-append P (first_children leaves height node count) ((8 * node + count) ∷ []) before (all count (omega arith), tt))
      | inr empty ↦ rw (one_out leaves height node count empty) before
    ] in
    rw e whole

-- the same children, where the same of them are nonempty
pub first_children-same : (xs ys : List Leaf) (height node count : ℕ) → ((k : ℕ) → k < count → is_nonempty xs height (8 * node + k) ≡ is_nonempty ys height (8 * node + k))
    → first_children xs height node count ≡ first_children ys height node count
first_children-same xs ys height node zero same = first_children-zero xs height node ∙ sym (first_children-zero ys height node)
first_children-same xs ys height node (suc count) same =
    let e : suc count ≡ count + 1 = omega arith in
    let before : first_children xs height node count ≡ first_children ys height node count = first_children-same xs ys height node count (λ k below. same k (omega (arith, below))) in
    let whole : first_children xs height node (count + 1) ≡ first_children ys height node (count + 1) =
    first_children_more xs height node count ∙ (rw (before, same count (omega arith)) refl ∙ sym (first_children_more ys height node count)) in
    rw e whole

-- none of the others is nonempty
pub many_out : (leaves : List Leaf) (height node count more : ℕ) → ((k : ℕ) → count ≤ k → is_nonempty leaves height (8 * node + k) ≡ false)
    → first_children leaves height node (count + more) ≡ first_children leaves height node count
many_out leaves height node count zero none = ap (first_children leaves height node) (add-zero count)
many_out leaves height node count (suc more) none =
    let e : count + suc more ≡ (count + more) + 1 = omega arith in
    ap (first_children leaves height node) e ∙ (one_out leaves height node (count + more) (none (count + more) (omega arith)) ∙ many_out leaves height node count more none)

-- ---- entries

module _ (leaves : List Leaf) (height : ℕ) where
  pub entries-nil : (at : ℕ) → entries_of leaves height at [] ≡ []
  unfolding entries_of
  entries-nil at = refl

  pub entries-one : (at node : ℕ) → entries_of leaves height at (node ∷ []) ≡ record { word = word_of leaves height node at; state = node } ∷ []
  unfolding entries_of
  entries-one at node = refl

  pub entries-append : (at : ℕ) (xs ys : List ℕ) → entries_of leaves height at (xs ++ ys) ≡ entries_of leaves height at xs ++ entries_of leaves height (at + sum_by (size_of leaves height) xs) ys
  unfolding entries_of
  entries-append at xs ys = in_turn-append (size_of leaves height) (λ node from. record { word = word_of leaves height node from; state = node } ∷ []) at xs ys

  -- their words
  pub entries-words : (at : ℕ) (nodes : List ℕ) → map (λ (entry : QueueEntry). entry.word) (entries_of leaves height at nodes) ≡ in_turn (size_of leaves height) (λ node from. word_of leaves height node from ∷ []) at nodes
  unfolding entries_of
  entries-words at [] = refl
  entries-words at (x ∷ xs) = ap (λ rest. word_of leaves height x at ∷ rest) (entries-words (at + size_of leaves height x) xs)

  -- their bits
  pub entries-bits : (at : ℕ) (nodes : List ℕ) → bits_of (entries_of leaves height at nodes) ≡ sum_by (λ child. 2 ^ (child % 8)) nodes
  unfolding entries_of
  entries-bits at [] = refl
  entries-bits at (x ∷ xs) =
      sum_by-cons (λ (entry : QueueEntry). 2 ^ (entry.state % 8)) (record { word = word_of leaves height x at; state = x }) (entries_of leaves height (at + size_of leaves height x) xs)
      ∙ (ap (λ n. 2 ^ (x % 8) + n) (entries-bits (at + size_of leaves height x) xs) ∙ sym (sum_by-cons (λ child. 2 ^ (child % 8)) x xs))

  pub length-entries : (at : ℕ) (nodes : List ℕ) → length (entries_of leaves height at nodes) ≡ length nodes
  unfolding entries_of
  length-entries at [] = refl
  length-entries at (x ∷ xs) = ap suc (length-entries (at + size_of leaves height x) xs)

pub entries-same : (xs ys : List Leaf) (height at : ℕ) (nodes : List ℕ)
    → Each (λ node. (size_of xs height node ≡ size_of ys height node) × ((from : ℕ) → word_of xs height node from ≡ word_of ys height node from)) nodes
    → entries_of xs height at nodes ≡ entries_of ys height at nodes
unfolding Each entries_of
entries-same xs ys height at [] same = refl
entries-same xs ys height at (x ∷ rest) same =
    rw (same.0.1 at, same.0.0) (ap (λ l. record { word = word_of ys height x at; state = x } ∷ l) (entries-same xs ys height (at + size_of ys height x) rest same.1))
