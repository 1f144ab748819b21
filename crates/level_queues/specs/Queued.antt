-- What waits in the queues, and which words were given, after some leaves of an octree in ascending order.
--
-- For each height there is a queue of nodes of that height whose parent is not yet complete. The nodes on the path from the last leaf to the root are still open up to some height; below it nothing waits.
use Rattle.std.specs.Prelude.{◌≡◌, ℕ, zero, suc, ◌*◌, ◌/◌, ◌%◌, ◌^◌, ◌<◌, true, false, List, [], ◌∷◌, ◌++◌, length, take, drop, slice_index_or}
use Rattle.std.specs.List.{sum_by}
use Rattle.octree_specs.specs.Octree.{Leaf, is_nonempty, first_children, children_of, size_of, word_of, in_turn, below_of}
use Rattle.room_plan.specs.declared.queues.QueueEntry.{QueueEntry}

-- the nonempty children of a node's parent that come before it
abbrev pub elder_of : List Leaf → ℕ → ℕ → List ℕ
elder_of leaves height node = first_children leaves height (node / 8) (node % 8)

-- the words below all nodes that come before a node; `above` is how many levels it is below the root
unfoldable pub before_of : List Leaf → ℕ → ℕ → ℕ → List ℕ
before_of leaves zero height node = []
before_of leaves (suc above) height node =
    before_of leaves above (suc height) (node / 8)
    ++ in_turn (size_of leaves height) (below_of leaves height) (length (before_of leaves above (suc height) (node / 8))) (elder_of leaves height node)

-- an entry for each of these nodes: its word, and its number
unfoldable pub entries_of : List Leaf → ℕ → ℕ → List ℕ → List QueueEntry
entries_of leaves height at nodes = in_turn (size_of leaves height) (λ node from. record { word = word_of leaves height node from; state = node } ∷ []) at nodes

-- the queue of each height from this node's on up to the root's children holds the elder siblings of the node's ancestor of that height
unfoldable pub AreHeld : List Leaf → (ℕ → List QueueEntry) → ℕ → ℕ → ℕ → Type 0
AreHeld leaves queues zero height node = Unit {0}
AreHeld leaves queues (suc above) height node =
    (queues height ≡ entries_of leaves height (length (before_of leaves above (suc height) (node / 8))) (elder_of leaves height node))
    × AreHeld leaves queues above (suc height) (node / 8)

-- the words before those of a node's children, and the words below these
abbrev pub written_of : List Leaf → ℕ → ℕ → ℕ → List ℕ
written_of leaves above height parent =
    before_of leaves above (suc height) parent
    ++ in_turn (size_of leaves height) (below_of leaves height) (length (before_of leaves above (suc height) parent)) (children_of leaves height parent)

-- all below this height is closed: the parent, of the next height, of the last leaf has all its children so far in its queue, and the words given are those below them and before
pub record AreQueued (leaves : List Leaf) (above height last : ℕ) (queues : ℕ → List QueueEntry) (words : List ℕ) : Type 0 where
  pub written : words ≡ written_of leaves above height (last / 8 ^ suc height)
  pub lowest : queues height ≡ entries_of leaves height (length (before_of leaves above (suc height) (last / 8 ^ suc height))) (children_of leaves height (last / 8 ^ suc height))
  pub higher : AreHeld leaves queues above (suc height) (last / 8 ^ suc height)
  pub closed : (k : ℕ) → k < height → queues k ≡ []
  pub none : (h k : ℕ) → last / 8 ^ h < k → is_nonempty leaves h k ≡ false
  pub some : 0 < above → (h : ℕ) → is_nonempty leaves h (last / 8 ^ h) ≡ true

-- the queue of a height: so many entries from place 8 * height on
abbrev pub queue_of : List QueueEntry → List ℕ → ℕ → List QueueEntry
queue_of entries counts height = take (slice_index_or counts height 0) (drop (8 * height) entries)

-- a bit for each node of a queue, at its place among the parent's children
abbrev pub bits_of : List QueueEntry → ℕ
bits_of queue = sum_by (λ entry. 2 ^ (entry.state % 8)) queue
