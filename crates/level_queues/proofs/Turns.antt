-- The steps of a push over the queues' fields.
use Rattle.std.proofs.Common.{◌≡◌, ℕ, suc, ◌+◌, ◌-◌, ◌*◌, ◌/◌, ◌^◌, ◌<◌, ◌≤◌, false, List, [], ◌∷◌, ◌++◌, length, get_or, set, ap, ◌∙◌, subst, inl, inr, arith, add-one}
use Rattle.std.proofs.lemmas.List.{length-append, length-map, length-set, get_or-set_same, get_or-set_other}
use Rattle.std.proofs.lemmas.Bool.{cases_eq}
use Rattle.svo_base.specs.declared.grids.TheConstants.{MAX_DEPTH}
use Rattle.octree_specs.specs.Octree.{Leaf, is_nonempty}
use Rattle.room_plan.specs.declared.queues.QueueEntry.{QueueEntry}
use Rattle.level_queues.specs.GivenWords.{words_in}
use Rattle.level_queues.specs.Queued.{AreQueued, queue_of, bits_of}
use Rattle.level_queues.specs.declared.levels.LevelQueues.{LevelQueues}
use Rattle.level_queues.proofs.Closing.{IsClosed, close_queue}
use Rattle.level_queues.proofs.Bounds.{words-few, room_above, room_reached}
use Rattle.level_queues.proofs.Pushing.{reach_leaf, push_leaf}
use Rattle.level_queues.proofs.QueueRows.{row-length, row-put, row-kept, row-emptied, row-left}

-- rows of queues over lent entries
pub record AreRows (depth : ℕ) (entries : List QueueEntry) (counts : List ℕ) : Type 0 where
  pub shallow : depth ≤ MAX_DEPTH
  pub room : length entries ≡ 8 * depth
  pub wide : length counts ≡ MAX_DEPTH
  pub rows : (k : ℕ) → get_or counts k 0 ≤ 8

pub are_rows : (queues : LevelQueues) → AreRows queues.depth queues.queues.entries queues.counts
are_rows queues = record { shallow = queues.most; room = queues.room; wide = queues.wide; rows = queues.rows }

module _ (depth : ℕ) (entries : List QueueEntry) (counts : List ℕ) (are : AreRows depth entries counts) where
  pub row_long : (height : ℕ) → height < depth → length (queue_of entries counts height) ≡ get_or counts height 0
  row_long height low = row-length entries counts height (omega (arith, low, are.room, are.rows height))

  pub few_given : (leaves : List Leaf) (height last : ℕ) (words : List ℕ) → height < depth → AreQueued leaves (depth - suc height) height last (queue_of entries counts) words → length words ≤ 2 ^ 40
  few_given leaves height last words low queued = words-few leaves (depth - suc height) height last (queue_of entries counts) words queued (omega (arith, low, are.shallow))

  emptied_rows : (height : ℕ) → height < length counts → (k : ℕ) → get_or (set counts height 0) k 0 ≤ 8
  emptied_rows height wide k = elim (cases_eq k height) [
    | inl same ↦ omega (arith, ap (λ n. get_or (set counts height 0) n 0) same, get_or-set_same counts height 0 0 wide)
    | inr other ↦ omega (arith, get_or-set_other counts height k 0 0 other, are.rows k)
  ]

  -- a level less above
  lifted : (leaves : List Leaf) (height last : ℕ) (words : List ℕ) → height + 1 < depth → AreQueued leaves (depth - suc height) height last (queue_of entries counts) words
      → AreQueued leaves (suc (depth - suc (suc height))) height last (queue_of entries counts) words
  lifted leaves height last words low queued =
      let e : depth - suc height ≡ suc (depth - suc (suc height)) = omega (arith, low) in
      subst (λ n. AreQueued leaves n height last (queue_of entries counts) words) e queued

  pub room_next : (leaves : List Leaf) (height last : ℕ) (words : List ℕ) → height + 1 < depth → AreQueued leaves (depth - suc height) height last (queue_of entries counts) words
      → get_or (set counts height 0) (height + 1) 0 < 8
  room_next leaves height last words low queued =
      let room : length (queue_of entries counts (suc height)) < 8 = room_above leaves (depth - suc (suc height)) height last (queue_of entries counts) words (lifted leaves height last words low queued) in
      let other : get_or (set counts height 0) (height + 1) 0 ≡ get_or counts (height + 1) 0 = get_or-set_other counts height (height + 1) 0 0 (λ same. omega (arith, same)) in
      let e : height + 1 ≡ suc height = add-one height in
      omega (arith, other, ap (λ n. get_or counts n 0) e, row_long (suc height) (omega (arith, low)), room)

  -- a height is closed
  pub close_rows : (leaves : List Leaf) (height last : ℕ) (words : List ℕ) (entry : QueueEntry) → suc height < depth
      → AreQueued leaves (depth - suc height) height last (queue_of entries counts) words
      → entry.word ≡ bits_of (queue_of entries counts height) + 256 * length words → entry.state ≡ last / 8 ^ suc height
      → (after : List QueueEntry) (counted : List ℕ)
      → after ≡ set entries (8 * suc height + get_or (set counts height 0) (suc height) 0) entry
      → counted ≡ set (set counts height 0) (suc height) (get_or (set counts height 0) (suc height) 0 + 1)
      → AreQueued leaves (depth - suc (suc height)) (suc height) last (queue_of after counted) (words ++ words_in (queue_of entries counts height))
  close_rows leaves height last words entry low queued word state after counted placed counting =
      let emptied : List ℕ = set counts height 0 in
      let next : ℕ = suc height in
      let above : AreQueued leaves (suc (depth - suc next)) height last (queue_of entries counts) words = lifted leaves height last words (omega (arith, low)) queued in
      let long : length (queue_of entries counts next) < 8 = room_above leaves (depth - suc next) height last (queue_of entries counts) words above in
      let same : get_or emptied next 0 ≡ get_or counts next 0 = get_or-set_other counts height next 0 0 (λ same. omega (arith, same)) in
      let few : get_or emptied next 0 < 8 = omega (arith, same, row_long next low, long) in
      let wide : next < length emptied = omega (arith, low, are.wide, are.shallow, length-set counts height 0) in
      let rows : (k : ℕ) → get_or emptied k 0 ≤ 8 = emptied_rows height (omega (arith, low, are.wide, are.shallow)) in
      let closed : IsClosed (queue_of entries counts) (queue_of (set entries (8 * next + get_or emptied next 0) entry) (set emptied next (get_or emptied next 0 + 1))) height entry = record {
        emptied = row-kept entries emptied next entry wide few rows height (λ e. omega (arith, e)) ∙ row-emptied entries counts height (omega (arith, low, are.wide, are.shallow));
        put = row-put entries emptied next entry wide (omega (arith, few, low, are.room)) ∙ ap (λ l. l ++ entry ∷ []) (row-left entries counts height next (λ e. omega (arith, e)));
        kept = λ k other another. row-kept entries emptied next entry wide few rows k another ∙ row-left entries counts height k other;
      } in
      rw (placed, counting) (close_queue leaves (depth - suc next) height last (queue_of entries counts) (queue_of (set entries (8 * next + get_or emptied next 0) entry) (set emptied next (get_or emptied next 0 + 1))) words entry above word state closed)

  pub close_fields : (leaves : List Leaf) (height last : ℕ) (words : List ℕ) (entry : QueueEntry) (next deep kept : ℕ) (middle after : List QueueEntry) (emptied counted : List ℕ)
      → next ≡ suc height → next < depth → AreQueued leaves (depth - suc height) height last (queue_of entries counts) words
      → entry.word ≡ bits_of (queue_of entries counts height) + 256 * length words → entry.state ≡ last / 8 ^ next
      → middle ≡ entries → emptied ≡ set counts height 0
      → after ≡ set middle (8 * next + get_or emptied next 0) entry → counted ≡ set emptied next (get_or emptied next 0 + 1)
      → deep ≡ depth → kept ≡ last
      → AreQueued leaves (deep - suc next) next kept (queue_of after counted) (words ++ words_in (queue_of entries counts height))
  close_fields leaves height last words entry next deep kept middle after emptied counted up low queued word state same empty placed counting depth_same last_same =
      rw (up, depth_same, last_same)
      (close_rows leaves height last words entry (omega (arith, up, low)) queued word (state ∙ ap (λ n. last / 8 ^ n) up) after counted
      (placed ∙ (ap (λ l. set l (8 * next + get_or emptied next 0) entry) same ∙ (ap (λ m. set entries (8 * next + get_or m next 0) entry) empty ∙ ap (λ n. set entries (8 * n + get_or (set counts height 0) n 0) entry) up)))
      (counting ∙ (ap (λ m. set m next (get_or m next 0 + 1)) empty ∙ ap (λ n. set (set counts height 0) n (get_or (set counts height 0) n 0 + 1)) up)))

  pub length-queue : (words : List ℕ) (height : ℕ) → height < depth → length (words ++ words_in (queue_of entries counts height)) ≡ length words + get_or counts height 0
  length-queue words height low =
      length-append words (words_in (queue_of entries counts height))
      ∙ ap (λ n. length words + n) (length-map (queue_of entries counts height) (λ (e : QueueEntry). e.word) ∙ row_long height low)

  -- a leaf is put into the lowest queue
  pub room_leaf : (leaves : List Leaf) (leaf : Leaf) (height last : ℕ) (words : List ℕ) → height < depth → AreQueued leaves (depth - suc height) height last (queue_of entries counts) words
      → leaf.node / 8 ^ suc height ≡ last / 8 ^ suc height → ((h k : ℕ) → h ≤ height → leaf.node / 8 ^ h ≤ k → is_nonempty leaves h k ≡ false)
      → get_or counts 0 0 < 8
  room_leaf leaves leaf height last words low queued path none =
      let room : length (queue_of entries counts 0) < 8 =
      room_reached leaves ((depth - suc height) + height) 0 leaf.node (queue_of entries counts) words (reach_leaf leaves leaf (depth - suc height) height last (queue_of entries counts) words queued path none) in
      omega (arith, room, row_long 0 (omega (arith, low)))

  pub put_rows : (leaves : List Leaf) (leaf : Leaf) (height last : ℕ) (words : List ℕ) → height < depth → AreQueued leaves (depth - suc height) height last (queue_of entries counts) words
      → leaf.node / 8 ^ suc height ≡ last / 8 ^ suc height → ((h k : ℕ) → h ≤ height → leaf.node / 8 ^ h ≤ k → is_nonempty leaves h k ≡ false)
      → ((h k : ℕ) → leaf.node / 8 ^ h < k → is_nonempty leaves h k ≡ false)
      → (after : List QueueEntry) (counted : List ℕ)
      → after ≡ set entries (8 * 0 + get_or counts 0 0) (record { word = leaf.word; state = leaf.node })
      → counted ≡ set counts 0 (get_or counts 0 0 + 1)
      → AreQueued (leaves ++ leaf ∷ []) (depth - suc 0) 0 leaf.node (queue_of after counted) words
  put_rows leaves leaf height last words low queued path none later after counted placed counting =
      let few : get_or counts 0 0 < 8 = room_leaf leaves leaf height last words low queued path none in
      let entry : QueueEntry = record { word = leaf.word; state = leaf.node } in
      let wide : 0 < length counts = omega (arith, are.wide) in
      let e : (depth - suc height) + height ≡ depth - suc 0 = omega (arith, low) in
      rw (placed, counting)
      (subst (λ n. AreQueued (leaves ++ leaf ∷ []) n 0 leaf.node (queue_of (set entries (8 * 0 + get_or counts 0 0) entry) (set counts 0 (get_or counts 0 0 + 1))) words) e
      (push_leaf leaves leaf (depth - suc height) height last (queue_of entries counts) (queue_of (set entries (8 * 0 + get_or counts 0 0) entry) (set counts 0 (get_or counts 0 0 + 1))) words queued path none later
      (row-put entries counts 0 entry wide (omega (arith, few, low, are.room)))
      (row-kept entries counts 0 entry wide few are.rows)))
