-- Words given one by one.
use Rattle.std.proofs.Common.{◌≡◌, ℕ, ◌+◌, ◌*◌, ◌%◌, ◌^◌, ◌<◌, List, [], ◌∷◌, ◌++◌, length, take, drop, get_or, Some, None, refl, sym, ap, ◌∙◌, arith, append-nil, append_assoc}
use Rattle.std.specs.Prelude.{Option}
use Rattle.std.specs.List.{flat_map}
use Rattle.std.specs.Int.{w64, to_le_bytes}
use Rattle.std.specs.Io.KnownBytes.{append_known}
use Rattle.std.proofs.lemmas.List.{map-append, take_more, get_or-drop, length-drop}
use Rattle.std.proofs.lemmas.List.Concat.{flat_map-append, flat_map-cons}
use Rattle.std.proofs.lemmas.List.Sums.{sum_by-append}
use Rattle.std.proofs.lemmas.Nat.{pow_below, one_shl}
use Rattle.room_plan.specs.declared.queues.QueueEntry.{QueueEntry}
use Rattle.level_queues.specs.GivenWords.{with_words, words_in}
use Rattle.level_queues.specs.Queued.{bits_of}

pub append-none : (told : Option (List ℕ)) → append_known told [] ≡ told
append-none None = refl
append-none (Some x) = ap Some (append-nil x)

pub append-twice : (told : Option (List ℕ)) (xs ys : List ℕ) → append_known (append_known told xs) ys ≡ append_known told (xs ++ ys)
append-twice None xs ys = refl
append-twice (Some x) xs ys = ap Some (append_assoc x xs ys)

pub with-none : (told : Option (List ℕ)) → with_words told [] ≡ told
unfolding with_words
with-none told = append-none told

pub with-append : (told : Option (List ℕ)) (xs ys : List ℕ) → with_words (with_words told xs) ys ≡ with_words told (xs ++ ys)
unfolding with_words
with-append told xs ys =
    append-twice told (flat_map (to_le_bytes w64) xs) (flat_map (to_le_bytes w64) ys) ∙ ap (append_known told) (sym (flat_map-append (to_le_bytes w64) xs ys))

pub with-one : (told : Option (List ℕ)) (word : ℕ) → append_known told (to_le_bytes w64 word) ≡ with_words told (word ∷ [])
unfolding with_words
with-one told word = ap (append_known told) (sym (flat_map-cons (to_le_bytes w64) word [] ∙ append-nil (to_le_bytes w64 word)))

pub with-more : (told : Option (List ℕ)) (xs : List ℕ) (word : ℕ) → append_known (with_words told xs) (to_le_bytes w64 word) ≡ with_words told (xs ++ word ∷ [])
with-more told xs word = with-one (with_words told xs) word ∙ with-append told xs (word ∷ [])

-- one entry more of a run
module _ (entries : List QueueEntry) (from n : ℕ) (entry d : QueueEntry) (inside : from + n < length entries) (here : entry ≡ get_or entries (from + n) d) where
  pub run-more : take (n + 1) (drop from entries) ≡ take n (drop from entries) ++ entry ∷ []
  run-more =
      let room : n < length (drop from entries) = omega (arith, inside, length-drop from entries) in
      take_more (drop from entries) n d room ∙ ap (λ e. take n (drop from entries) ++ e ∷ []) (get_or-drop from entries n d ∙ sym here)

  pub run_bits : bits_of (take (n + 1) (drop from entries)) ≡ bits_of (take n (drop from entries)) + 2 ^ (entry.state % 8)
  run_bits = ap bits_of run-more ∙ sum_by-append (λ (e : QueueEntry). 2 ^ (e.state % 8)) (take n (drop from entries)) (entry ∷ []) ∙ omega arith

  pub run_words : words_in (take (n + 1) (drop from entries)) ≡ words_in (take n (drop from entries)) ++ entry.word ∷ []
  run_words = ap words_in run-more ∙ map-append (λ (e : QueueEntry). e.word) (take n (drop from entries)) (entry ∷ [])

-- a node's bit fits
pub bit_small : (node : ℕ) → 2 ^ (node % 8) < 256
bit_small node = pow_below (node % 8) 8 (omega arith)

pub bit_whole : (node : ℕ) → (1 * 2 ^ (node % 8)) % 2 ^ 64 ≡ 2 ^ (node % 8)
bit_whole node = one_shl (node % 8) 64 (omega arith)
