-- The words of the highest queue and the root's are the last of the file.
use Rattle.std.proofs.Common.{◌≡◌, ℕ, suc, ◌+◌, ◌-◌, ◌*◌, ◌/◌, ◌^◌, ◌<◌, List, [], ◌∷◌, ◌++◌, length, get_or, sym, ap, ◌∙◌, subst, arith, append_assoc}
use Rattle.std.specs.Prelude.{Option}
use Rattle.std.specs.Int.{w64, to_le_bytes}
use Rattle.std.specs.Io.KnownBytes.{append_known}
use Rattle.std.proofs.Math.Nat.{div-eq_of_lt}
use Rattle.std.proofs.lemmas.List.{length-append}
use Rattle.octree_specs.specs.Cells.{Cell}
use Rattle.octree_specs.specs.Formats.{face_leaves, file_words}
use Rattle.room_plan.specs.declared.queues.QueueEntry.{QueueEntry}
use Rattle.level_queues.specs.GivenWords.{with_words, words_in}
use Rattle.level_queues.specs.Queued.{AreQueued, queue_of, bits_of}
use Rattle.level_queues.specs.Pushed.{GoesOn}
use Rattle.level_queues.proofs.Closing.{root_words}
use Rattle.level_queues.proofs.Turns.{AreRows, length-queue}
use Rattle.level_queues.proofs.Wording.{with-more}

module _ (depth : ℕ) (entries : List QueueEntry) (counts : List ℕ) (are : AreRows depth entries counts) (cells : List Cell) (top last : ℕ) (words : List ℕ) (high : suc top ≡ depth) (inside : last < 8 ^ depth)
    (queued : AreQueued (face_leaves cells) (depth - suc top) top last (queue_of entries counts) words) where
  last_words : (words ++ words_in (queue_of entries counts top)) ++ (bits_of (queue_of entries counts top) + 256 * length words) ∷ [] ≡ file_words 2 depth cells
  unfolding file_words
  last_words =
      let root : depth - suc top ≡ 0 = omega (arith, high) in
      let over : last / 8 ^ suc top ≡ 0 = ap (λ h. last / 8 ^ h) high ∙ div-eq_of_lt inside in
      rw (← high)
      (root_words (face_leaves cells) top last (queue_of entries counts) words (subst (λ above. AreQueued (face_leaves cells) above top last (queue_of entries counts) words) root queued) over)

  pub count_words : length (file_words 2 depth cells) ≡ length words + get_or counts top 0 + 1
  count_words =
      omega (
        arith,
        ap length (sym last_words),
        length-append (words ++ words_in (queue_of entries counts top)) ((bits_of (queue_of entries counts top) + 256 * length words) ∷ []),
        length-queue depth entries counts are words top (omega (arith, high)),
      )

  -- they are given in two calls
  pub goes_to_root : (before middle after : Option (List ℕ)) (word : ℕ) → word ≡ bits_of (queue_of entries counts top) + 256 * length words
      → middle ≡ with_words before (words_in (queue_of entries counts top)) → after ≡ append_known middle (to_le_bytes w64 word)
      → GoesOn words before after (λ all. all ≡ file_words 2 depth cells)
  goes_to_root before middle after word is row root = record {
    more = words_in (queue_of entries counts top) ++ word ∷ [];
    grown = root ∙ (ap (λ told. append_known told (to_le_bytes w64 word)) row ∙ with-more before (words_in (queue_of entries counts top)) word);
    holds =
        sym (append_assoc words (words_in (queue_of entries counts top)) (word ∷ []))
        ∙ (ap (λ w. (words ++ words_in (queue_of entries counts top)) ++ w ∷ []) is ∙ last_words);
  }
