-- A height is closed: its queue's words are given, and their parent waits in the next queue.
use Rattle.std.proofs.Common.{map, ◌≡◌, ℕ, zero, suc, ◌+◌, ◌-◌, ◌*◌, ◌/◌, ◌%◌, ◌^◌, ◌<◌, ◌≤◌, true, false, List, [], ◌∷◌, ◌++◌, length, refl, sym, ap, ◌∙◌, inl, inr, arith, append-nil, append_assoc}
use Rattle.std.specs.List.{sum_by}
use Rattle.std.proofs.lemmas.List.{length-append}
use Rattle.std.proofs.Math.Nat.{eq-or-lt_of_le}
use Rattle.octree_specs.specs.Octree.{Leaf, is_nonempty, first_children, children_of, size_of, word_of, in_turn, below_of, words_of, mask_of}
use Rattle.octree_laws.proofs.FirstChildren.{one_in}
use Rattle.octree_laws.proofs.InTurn.{in_turn-append, length-in_turn}
use Rattle.octree_laws.proofs.Sizes.{length-below_of}
use Rattle.octree_laws.proofs.Under.{div-up}
use Rattle.room_plan.specs.declared.queues.QueueEntry.{QueueEntry}
use Rattle.level_queues.specs.Queued.{elder_of, before_of, entries_of, AreHeld, AreQueued, bits_of}
use Rattle.level_queues.proofs.Runs.{many_out, entries-append, entries-one, entries-words, entries-bits}

-- the children of a node's parent end with it, where it is nonempty and none beyond is
pub children-end : (leaves : List Leaf) (height node : ℕ) → is_nonempty leaves height node ≡ true → ((k : ℕ) → node < k → is_nonempty leaves height k ≡ false)
    → children_of leaves height (node / 8) ≡ elder_of leaves height node ++ node ∷ []
children-end leaves height node here none =
    let place : 8 * (node / 8) + node % 8 ≡ node = omega arith in
    let eight : (node % 8 + 1) + (7 - node % 8) ≡ 8 = omega arith in
    let out : first_children leaves height (node / 8) ((node % 8 + 1) + (7 - node % 8)) ≡ first_children leaves height (node / 8) (node % 8 + 1) =
    many_out leaves height (node / 8) (node % 8 + 1) (7 - node % 8) (λ k above. none (8 * (node / 8) + k) (omega (arith, above))) in
    let in_last : first_children leaves height (node / 8) (node % 8 + 1) ≡ elder_of leaves height node ++ (8 * (node / 8) + node % 8) ∷ [] =
    one_in leaves height (node / 8) (node % 8) (rw place here) in
    ap (first_children leaves height (node / 8)) (sym eight) ∙ (out ∙ (in_last ∙ ap (λ n. elder_of leaves height node ++ n ∷ []) place))

-- other queues from a height on are as they were
pub held-kept : (leaves : List Leaf) (queues others : ℕ → List QueueEntry) (above height node : ℕ) → ((k : ℕ) → height ≤ k → others k ≡ queues k)
    → AreHeld leaves queues above height node → AreHeld leaves others above height node
unfolding AreHeld
held-kept leaves queues others zero height node kept held = tt
held-kept leaves queues others (suc above) height node kept held =
    (kept height (omega arith) ∙ held.0, held-kept leaves queues others above (suc height) (node / 8) (λ k up. kept k (omega (arith, up))) held.1)

module _ (leaves : List Leaf) (above height last : ℕ) (queues : ℕ → List QueueEntry) (words : List ℕ) (are : AreQueued leaves above height last queues words) where
  parent : ℕ
  parent = last / 8 ^ suc height

  front : List ℕ
  front = before_of leaves above (suc height) parent

  -- with the words of its queue, all words below the parent are given
  pub closed_words : words ++ map (λ (entry : QueueEntry). entry.word) (queues height)
      ≡ before_of leaves above (suc height) (last / 8 ^ suc height) ++ below_of leaves (suc height) (last / 8 ^ suc height) (length (before_of leaves above (suc height) (last / 8 ^ suc height)))
  unfolding below_of parent front
  closed_words =
      let children : List ℕ = children_of leaves height parent in
      let own : map (λ (entry : QueueEntry). entry.word) (queues height) ≡ in_turn (size_of leaves height) (λ node from. word_of leaves height node from ∷ []) (length front) children =
      ap (map (λ (entry : QueueEntry). entry.word)) are.lowest ∙ entries-words leaves height (length front) children in
      ap (λ l. l ++ map (λ (entry : QueueEntry). entry.word) (queues height)) are.written
      ∙ (ap (λ l. (front ++ in_turn (size_of leaves height) (below_of leaves height) (length front) children) ++ l) own
      ∙ append_assoc front (in_turn (size_of leaves height) (below_of leaves height) (length front) children) (in_turn (size_of leaves height) (λ node from. word_of leaves height node from ∷ []) (length front) children))

  -- and these are the parent's bits and base
  pub closed_word : bits_of (queues height) + 256 * length words ≡ word_of leaves (suc height) (last / 8 ^ suc height) (length (before_of leaves above (suc height) (last / 8 ^ suc height)))
  unfolding word_of parent front
  closed_word =
      let children : List ℕ = children_of leaves height parent in
      let bits : bits_of (queues height) ≡ mask_of children = ap bits_of are.lowest ∙ entries-bits leaves height (length front) children in
      let under : length (in_turn (size_of leaves height) (below_of leaves height) (length front) children) ≡ sum_by (size_of leaves height) children =
      length-in_turn (size_of leaves height) (below_of leaves height) (size_of leaves height) (length-below_of leaves height) (length front) children in
      let long : length words ≡ length front + sum_by (size_of leaves height) children =
      ap length are.written ∙ (length-append front (in_turn (size_of leaves height) (below_of leaves height) (length front) children) ∙ ap (λ n. length front + n) under) in
      rw (bits, long) refl

-- the queues after a height was closed
pub record IsClosed (before after : ℕ → List QueueEntry) (height : ℕ) (entry : QueueEntry) : Type 0 where
  pub emptied : after height ≡ []
  pub put : after (suc height) ≡ before (suc height) ++ entry ∷ []
  pub kept : (k : ℕ) → (k ≡ height → ⊥) → (k ≡ suc height → ⊥) → after k ≡ before k

pub close_queue : (leaves : List Leaf) (above height last : ℕ) (before after : ℕ → List QueueEntry) (words : List ℕ) (entry : QueueEntry)
    → AreQueued leaves (suc above) height last before words
    → entry.word ≡ bits_of (before height) + 256 * length words → entry.state ≡ last / 8 ^ suc height
    → IsClosed before after height entry
    → AreQueued leaves above (suc height) last after (words ++ map (λ (entry : QueueEntry). entry.word) (before height))
unfolding before_of AreHeld
close_queue leaves above height last before after words entry are word state closed =
    let node : ℕ = last / 8 ^ suc height in
    let front : List ℕ = before_of leaves above (suc (suc height)) (node / 8) in
    let elder : List ℕ = elder_of leaves (suc height) node in
    let size : ℕ → ℕ = size_of leaves (suc height) in
    let below : ℕ → ℕ → List ℕ = below_of leaves (suc height) in
    let up : last / 8 ^ suc (suc height) ≡ node / 8 = div-up last (suc height) in
    let children : children_of leaves (suc height) (node / 8) ≡ elder ++ node ∷ [] =
    children-end leaves (suc height) node (are.some (omega arith) (suc height)) (are.none (suc height)) in
    let at : ℕ = length front + sum_by size elder in
    let long : length (front ++ in_turn size below (length front) elder) ≡ at =
    length-append front (in_turn size below (length front) elder) ∙ ap (λ n. length front + n) (length-in_turn size below size (length-below_of leaves (suc height)) (length front) elder) in
    let own : entry ≡ record { word = word_of leaves (suc height) node at; state = node } =
    let w : entry.word ≡ word_of leaves (suc height) node at =
    word ∙ (closed_word leaves (suc above) height last before words are ∙ ap (word_of leaves (suc height) node) long) in
    rw (← w, ← state) refl in
    record {
      written = rw up
          (closed_words leaves (suc above) height last before words are
          ∙ (ap (λ n. (front ++ in_turn size below (length front) elder) ++ below node n) long
          ∙ (append_assoc front (in_turn size below (length front) elder) (below node at)
          ∙ ap (λ l. front ++ l)
          (sym (ap (in_turn size below (length front)) children ∙ (in_turn-append size below (length front) elder (node ∷ []) ∙ ap (λ l. in_turn size below (length front) elder ++ l) (append-nil (below node at))))))));
      lowest = rw up
          (closed.put
          ∙ (ap (λ l. l ++ entry ∷ []) are.higher.0
          ∙ sym (ap (entries_of leaves (suc height) (length front)) children
          ∙ (entries-append leaves (suc height) (length front) elder (node ∷ [])
          ∙ ap (λ l. entries_of leaves (suc height) (length front) elder ++ l) (entries-one leaves (suc height) at node ∙ ap (λ e. e ∷ []) (sym own))))));
      higher = rw up (held-kept leaves before after above (suc (suc height)) (node / 8) (λ k high. closed.kept k (λ same. omega (arith, same, high)) (λ same. omega (arith, same, high))) are.higher.1);
      closed = λ k low. elim (eq-or-lt_of_le {n = k} {m = height} (omega (arith, low))) [
        | inr less ↦ closed.kept k (λ same. omega (arith, same, less)) (λ same. omega (arith, same, less)) ∙ are.closed k less
        | inl same ↦ ap after same ∙ closed.emptied
      ];
      none = are.none;
      some = λ higher. are.some (omega arith);
    }

-- the words of the highest queue and of the root are the last
pub root_words : (leaves : List Leaf) (height last : ℕ) (queues : ℕ → List QueueEntry) (words : List ℕ) → AreQueued leaves 0 height last queues words → last / 8 ^ suc height ≡ 0
    → (words ++ map (λ (entry : QueueEntry). entry.word) (queues height)) ++ (bits_of (queues height) + 256 * length words) ∷ [] ≡ words_of leaves (suc height)
unfolding words_of before_of
root_words leaves height last queues words are root =
    let given : words ++ map (λ (entry : QueueEntry). entry.word) (queues height) ≡ below_of leaves (suc height) 0 0 =
    closed_words leaves 0 height last queues words are ∙ ap (λ n. below_of leaves (suc height) n 0) root in
    let word : bits_of (queues height) + 256 * length words ≡ word_of leaves (suc height) 0 0 =
    closed_word leaves 0 height last queues words are ∙ ap (λ n. word_of leaves (suc height) n 0) root in
    rw (given, word) refl
