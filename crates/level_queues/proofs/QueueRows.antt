-- The queues' rows of eight entries: one entry put, and a row emptied.
use Rattle.std.proofs.Common.{◌≡◌, ℕ, ◌+◌, ◌-◌, ◌*◌, ◌<◌, ◌≤◌, List, [], ◌∷◌, ◌++◌, length, take, drop, get_or, set, ap, ◌∙◌, inl, inr, arith}
use Rattle.std.proofs.lemmas.List.{get_or-set_same, get_or-set_other, drop-set-add, drop-set-lt, take_more_set, take-set-le, length-take-le, length-drop}
use Rattle.std.proofs.lemmas.Bool.{cases_lt}
use Rattle.std.proofs.Math.Nat.{eq-or-lt_of_le}
use Rattle.room_plan.specs.declared.queues.QueueEntry.{QueueEntry}
use Rattle.level_queues.specs.Queued.{queue_of}

-- a queue has as many entries as are counted
pub row-length : (entries : List QueueEntry) (counts : List ℕ) (height : ℕ) → 8 * height + get_or counts height 0 ≤ length entries → length (queue_of entries counts height) ≡ get_or counts height 0
row-length entries counts height room =
    length-take-le (get_or counts height 0) (drop (8 * height) entries) (omega (arith, room, length-drop (8 * height) entries))

-- an entry is put behind those of a queue
module _ (entries : List QueueEntry) (counts : List ℕ) (height : ℕ) (entry : QueueEntry) (wide : height < length counts) where
  pub row-put : 8 * height + get_or counts height 0 < length entries
      → queue_of (set entries (8 * height + get_or counts height 0) entry) (set counts height (get_or counts height 0 + 1)) height ≡ queue_of entries counts height ++ entry ∷ []
  row-put room =
      let count : ℕ = get_or counts height 0 in
      let inside : count < length (drop (8 * height) entries) = omega (arith, room, length-drop (8 * height) entries) in
      ap (λ n. take n (drop (8 * height) (set entries (8 * height + count) entry))) (get_or-set_same counts height (count + 1) 0 wide)
      ∙ (ap (take (count + 1)) (drop-set-add (8 * height) entries count entry)
      ∙ take_more_set (drop (8 * height) entries) count entry inside)

  -- and the others stay
  pub row-kept : get_or counts height 0 < 8 → ((k : ℕ) → get_or counts k 0 ≤ 8) → (k : ℕ) → (k ≡ height → ⊥)
      → queue_of (set entries (8 * height + get_or counts height 0) entry) (set counts height (get_or counts height 0 + 1)) k ≡ queue_of entries counts k
  row-kept few rows k other =
      ap (λ n. take n (drop (8 * k) (set entries (8 * height + get_or counts height 0) entry))) (get_or-set_other counts height k (get_or counts height 0 + 1) 0 other)
      ∙ elim (cases_lt height k) [
        | inl before ↦ ap (take (get_or counts k 0)) (drop-set-lt (8 * k) entries (8 * height + get_or counts height 0) entry (omega (arith, before, few)))
        | inr behind ↦ behind_kept (rows k) behind
      ]
    where
      behind_kept : get_or counts k 0 ≤ 8 → k ≤ height → take (get_or counts k 0) (drop (8 * k) (set entries (8 * height + get_or counts height 0) entry)) ≡ take (get_or counts k 0) (drop (8 * k) entries)
      behind_kept most behind =
          let less : k < height = elim (eq-or-lt_of_le {n = k} {m = height} behind) [
            | inl same ↦ absurd (other same)
            | inr less ↦ less
          ] in
          let past : ℕ = (8 * height + get_or counts height 0) - 8 * k in
          let place : 8 * height + get_or counts height 0 ≡ 8 * k + past = omega (arith, less) in
          ap (λ at. take (get_or counts k 0) (drop (8 * k) (set entries at entry))) place
          ∙ (ap (take (get_or counts k 0)) (drop-set-add (8 * k) entries past entry)
          ∙ take-set-le (get_or counts k 0) (drop (8 * k) entries) past entry (omega (arith, less, most)))

-- an emptied row
pub row-emptied : (entries : List QueueEntry) (counts : List ℕ) (height : ℕ) → height < length counts → queue_of entries (set counts height 0) height ≡ []
row-emptied entries counts height wide = ap (λ n. take n (drop (8 * height) entries)) (get_or-set_same counts height 0 0 wide)

pub row-left : (entries : List QueueEntry) (counts : List ℕ) (height k : ℕ) → (k ≡ height → ⊥) → queue_of entries (set counts height 0) k ≡ queue_of entries counts k
row-left entries counts height k other = ap (λ n. take n (drop (8 * k) entries)) (get_or-set_other counts height k 0 0 other)
