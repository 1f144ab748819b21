-- A leaf is put into the lowest queue.
use Rattle.std.proofs.Common.{◌≡◌, ℕ, zero, suc, ◌+◌, ◌-◌, ◌*◌, ◌/◌, ◌%◌, ◌^◌, ◌<◌, ◌≤◌, false, List, [], ◌∷◌, ◌++◌, length, refl, sym, ap, subst, ◌∙◌, arith, append-nil, add-zero}
use Rattle.std.specs.List.{sum_by}
use Rattle.std.proofs.Math.Nat.{div-mul-le_self, pow-suc}
use Rattle.std.proofs.lemmas.Nat.{le-div}
use Rattle.octree_specs.specs.Octree.{Leaf, is_nonempty, first_children, children_of, size_of, word_of, in_turn, below_of}
use Rattle.octree_laws.proofs.Growth.{Each, IsSameAt, in_turn-same, leaf_word-here, nonempty_elsewhere, nonempty_here, same_elsewhere}
use Rattle.octree_laws.proofs.MaskLeaves.{no_children}
use Rattle.octree_laws.proofs.Under.{div-up, div-leaf}
use Rattle.room_plan.specs.declared.queues.QueueEntry.{QueueEntry}
use Rattle.level_queues.specs.Queued.{elder_of, before_of, entries_of, AreHeld, AreQueued}
use Rattle.level_queues.proofs.Runs.{each_child, many_out, first_children-same, entries-append, entries-one, entries-nil, entries-same}
use Rattle.level_queues.proofs.Growth.{belows_same, words_same}
use Rattle.level_queues.proofs.Closing.{children-end, held-kept}

-- ancestors of greater codes are not less
pub ancestors_rise : (m n height : ℕ) → m ≤ n → m / 8 ^ height ≤ n / 8 ^ height
ancestors_rise m n height rises = le-div (m / 8 ^ height) n (8 ^ height) (some_eights height) (omega (arith, rises, div-mul-le_self m (8 ^ height)))
  where
    some_eights : (height : ℕ) → 0 < 8 ^ height
    some_eights zero = omega arith
    some_eights (suc height) = omega (arith, some_eights height, pow-suc 8 height)

-- the queues before a node's own: all that comes before the node is given or waits
pub record HasReached (leaves : List Leaf) (above height node : ℕ) (queues : ℕ → List QueueEntry) (words : List ℕ) : Type 0 where
  pub written : words ≡ before_of leaves above height node
  pub higher : AreHeld leaves queues above height node
  pub closed : (k : ℕ) → k < height → queues k ≡ []

-- where a later node has the same parent, the lowest queue holds its elder siblings
turn : (leaves : List Leaf) (above height last node : ℕ) (queues : ℕ → List QueueEntry) (words : List ℕ) → AreQueued leaves above height last queues words
    → node / 8 ≡ last / 8 ^ suc height → ((k : ℕ) → node ≤ k → is_nonempty leaves height k ≡ false) → HasReached leaves (suc above) height node queues words
unfolding before_of AreHeld
turn leaves above height last node queues words are parent none =
    let eight : node % 8 + (8 - node % 8) ≡ 8 = omega arith in
    let children : children_of leaves height (node / 8) ≡ elder_of leaves height node =
    ap (first_children leaves height (node / 8)) (sym eight) ∙ many_out leaves height (node / 8) (node % 8) (8 - node % 8) (λ k up. none (8 * (node / 8) + k) (omega (arith, up))) in
    record {
      written = are.written ∙ rw (← parent, children) refl;
      higher = (are.lowest ∙ rw (← parent, children) refl, rw parent are.higher);
      closed = are.closed;
    }

-- a level lower, where the node is empty
down : (leaves : List Leaf) (above height child : ℕ) (queues : ℕ → List QueueEntry) (words : List ℕ) → HasReached leaves above (suc height) (child / 8) queues words
    → is_nonempty leaves (suc height) (child / 8) ≡ false → HasReached leaves (suc above) height child queues words
unfolding before_of AreHeld
down leaves above height child queues words reached empty =
    let elder : elder_of leaves height child ≡ [] = no_children leaves height (child / 8) empty (child % 8) (omega arith) in
    record {
      written = reached.written ∙ rw elder (sym (append-nil (before_of leaves above (suc height) (child / 8))));
      higher = (reached.closed height (omega arith) ∙ rw elder (sym (entries-nil leaves height (length (before_of leaves above (suc height) (child / 8))))), reached.higher);
      closed = λ k low. reached.closed k (omega (arith, low));
    }

sink : (leaves : List Leaf) (code above height : ℕ) (queues : ℕ → List QueueEntry) (words : List ℕ) → HasReached leaves above height (code / 8 ^ height) queues words
    → ((h : ℕ) → h ≤ height → is_nonempty leaves h (code / 8 ^ h) ≡ false) → HasReached leaves (above + height) 0 code queues words
sink leaves code above zero queues words reached empty =
    rw (add-zero above) (subst (λ n. HasReached leaves above 0 n queues words) (div-leaf code) reached)
sink leaves code above (suc height) queues words reached empty =
    let e : suc above + height ≡ above + suc height = omega arith in
    let lower : HasReached leaves (suc above) height (code / 8 ^ height) queues words =
    down leaves above height (code / 8 ^ height) queues words (subst (λ n. HasReached leaves above (suc height) n queues words) (div-up code height) reached) (rw (← div-up code height) (empty (suc height) (omega arith))) in
    subst (λ n. HasReached leaves n 0 code queues words) e (sink leaves code (suc above) height queues words lower (λ h low. empty h (omega (arith, low))))

-- a new leaf changes nothing before it
module _ (leaves : List Leaf) (leaf : Leaf) where
  grown : List Leaf
  grown = leaves ++ leaf ∷ []

  elder_same : (height node : ℕ) → node ≡ leaf.node / 8 ^ height → Each (IsSameAt grown leaves height) (elder_of leaves height node)
  unfolding grown
  elder_same height node path =
      each_child (IsSameAt grown leaves height) leaves height (node / 8) (node % 8) (λ k low. same_elsewhere leaves leaf height (8 * (node / 8) + k) (λ same. omega (arith, low, same, path)))

  elder-grown : (height node : ℕ) → node ≡ leaf.node / 8 ^ height → elder_of grown height node ≡ elder_of leaves height node
  unfolding grown
  elder-grown height node path =
      first_children-same grown leaves height (node / 8) (node % 8) (λ k low. nonempty_elsewhere leaves leaf height (8 * (node / 8) + k) (λ same. omega (arith, low, same, path)))

  pub before-grown : (above height node : ℕ) → node ≡ leaf.node / 8 ^ height → before_of (leaves ++ leaf ∷ []) above height node ≡ before_of leaves above height node
  unfolding before_of grown
  before-grown zero height node path = refl
  before-grown (suc above) height node path =
      let higher : before_of grown above (suc height) (node / 8) ≡ before_of leaves above (suc height) (node / 8) =
      before-grown above (suc height) (node / 8) (ap (λ n. n / 8) path ∙ sym (div-up leaf.node height)) in
      rw (higher, elder-grown height node path)
      (ap (λ l. before_of leaves above (suc height) (node / 8) ++ l)
      (in_turn-same (size_of grown height) (size_of leaves height) (below_of grown height) (below_of leaves height) (length (before_of leaves above (suc height) (node / 8))) (elder_of leaves height node)
      (belows_same grown leaves height (elder_of leaves height node) (elder_same height node path))))

  entries-grown : (height at node : ℕ) → node ≡ leaf.node / 8 ^ height → entries_of grown height at (elder_of grown height node) ≡ entries_of leaves height at (elder_of leaves height node)
  entries-grown height at node path =
      ap (entries_of grown height at) (elder-grown height node path)
      ∙ entries-same grown leaves height at (elder_of leaves height node) (words_same grown leaves height (elder_of leaves height node) (elder_same height node path))

  pub held-grown : (queues : ℕ → List QueueEntry) (above height node : ℕ) → node ≡ leaf.node / 8 ^ height → AreHeld leaves queues above height node → AreHeld (leaves ++ leaf ∷ []) queues above height node
  unfolding AreHeld grown
  held-grown queues zero height node path held = tt
  held-grown queues (suc above) height node path held =
      let up : node / 8 ≡ leaf.node / 8 ^ suc height = ap (λ n. n / 8) path ∙ sym (div-up leaf.node height) in
      let before : before_of grown above (suc height) (node / 8) ≡ before_of leaves above (suc height) (node / 8) = before-grown above (suc height) (node / 8) up in (
        held.0 ∙ sym (ap (λ l. entries_of grown height (length l) (elder_of grown height node)) before ∙ entries-grown height (length (before_of leaves above (suc height) (node / 8))) node path),
        held-grown queues above (suc height) (node / 8) up held.1,
      )

  -- the leaf is put behind its elder siblings
  put_leaf : (above : ℕ) (before after : ℕ → List QueueEntry) (words : List ℕ) → HasReached leaves (suc above) 0 leaf.node before words
      → ((h k : ℕ) → leaf.node / 8 ^ h < k → is_nonempty leaves h k ≡ false) → is_nonempty leaves 0 leaf.node ≡ false
      → after 0 ≡ before 0 ++ record { word = leaf.word; state = leaf.node } ∷ [] → ((k : ℕ) → (k ≡ 0 → ⊥) → after k ≡ before k)
      → AreQueued (leaves ++ leaf ∷ []) above 0 leaf.node after words
  unfolding before_of AreHeld grown word_of below_of
  put_leaf above before after words reached none empty put kept =
      let node : ℕ = leaf.node in
      let here : node ≡ node / 8 ^ 0 = sym (div-leaf node) in
      let up : node / 8 ^ suc 0 ≡ node / 8 = div-up node 0 ∙ ap (λ n. n / 8) (div-leaf node) in
      let beyond : (h k : ℕ) → node / 8 ^ h < k → is_nonempty grown h k ≡ false =
      λ h k far. nonempty_elsewhere leaves leaf h k (λ same. omega (arith, same, far)) ∙ none h k far in
      let front : List ℕ = before_of leaves above 1 (node / 8) in
      let same_front : before_of grown above 1 (node / 8) ≡ front = before-grown above 1 (node / 8) (sym up) in
      let children : children_of grown 0 (node / 8) ≡ elder_of grown 0 node ++ node ∷ [] =
      children-end grown 0 node (rw (div-leaf node) at (nonempty_here leaves leaf 0 (node / 8 ^ 0) refl)) (λ k far. beyond 0 k (omega (arith, far, here))) in
      record {
        written = rw (up, same_front) (reached.written ∙ ap (λ l. front ++ l) (no_words leaves (length front) (elder_of leaves 0 node) ∙ sym (no_words grown (length front) (children_of grown 0 (node / 8)))));
        lowest = rw (up, same_front)
            (put
            ∙ (ap (λ l. l ++ record { word = leaf.word; state = node } ∷ []) reached.higher.0
            ∙ sym (ap (entries_of grown 0 (length front)) children
            ∙ (entries-append grown 0 (length front) (elder_of grown 0 node) (node ∷ [])
            ∙ (ap (λ l. l ++ entries_of grown 0 (length front + sum_by (size_of grown 0) (elder_of grown 0 node)) (node ∷ [])) (entries-grown 0 (length front) node here)
            ∙ ap (λ l. entries_of leaves 0 (length front) (elder_of leaves 0 node) ++ l)
            (entries-one grown 0 (length front + sum_by (size_of grown 0) (elder_of grown 0 node)) node ∙ ap (λ w. record { word = w; state = node } ∷ []) (leaf_word-here leaves leaf empty)))))));
        higher = rw up (held-kept grown before after above 1 (node / 8) (λ k high. kept k (λ same. omega (arith, same, high))) (held-grown before above 1 (node / 8) (sym up) reached.higher.1));
        closed = λ k low. absurd (omega (arith, low));
        none = beyond;
        some = λ higher h. nonempty_here leaves leaf h (leaf.node / 8 ^ h) refl;
      }
    where
      no_words : (leaves : List Leaf) (at : ℕ) (nodes : List ℕ) → in_turn (size_of leaves 0) (below_of leaves 0) at nodes ≡ []
      no_words leaves at [] = refl
      no_words leaves at (x ∷ rest) = no_words leaves (at + size_of leaves 0 x) rest

  -- all before the new leaf is given or waits
  pub reach_leaf : (above height last : ℕ) (queues : ℕ → List QueueEntry) (words : List ℕ) → AreQueued leaves above height last queues words
      → leaf.node / 8 ^ suc height ≡ last / 8 ^ suc height → ((h k : ℕ) → h ≤ height → leaf.node / 8 ^ h ≤ k → is_nonempty leaves h k ≡ false)
      → HasReached leaves (suc (above + height)) 0 leaf.node queues words
  reach_leaf above height last queues words are path none =
      subst (λ n. HasReached leaves n 0 leaf.node queues words) (let e : suc above + height ≡ suc (above + height) = omega arith in e)
      (sink leaves leaf.node (suc above) height queues words
      (turn leaves above height last (leaf.node / 8 ^ height) queues words are (sym (div-up leaf.node height) ∙ path) (λ k far. none height k (omega arith) far))
      (λ h low. none h (leaf.node / 8 ^ h) low (omega arith)))

  pub push_leaf : (above height last : ℕ) (before after : ℕ → List QueueEntry) (words : List ℕ) → AreQueued leaves above height last before words
      → leaf.node / 8 ^ suc height ≡ last / 8 ^ suc height → ((h k : ℕ) → h ≤ height → leaf.node / 8 ^ h ≤ k → is_nonempty leaves h k ≡ false)
      → ((h k : ℕ) → leaf.node / 8 ^ h < k → is_nonempty leaves h k ≡ false)
      → after 0 ≡ before 0 ++ record { word = leaf.word; state = leaf.node } ∷ [] → ((k : ℕ) → (k ≡ 0 → ⊥) → after k ≡ before k)
      → AreQueued (leaves ++ leaf ∷ []) (above + height) 0 leaf.node after words
  push_leaf above height last before after words are path none later put kept =
      put_leaf (above + height) before after words (reach_leaf above height last before words are path none)
      later (none 0 leaf.node (omega arith) (omega (arith, div-leaf leaf.node))) put kept
