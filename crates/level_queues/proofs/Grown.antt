-- A sink that grew by fronts in calls one after another.
use Rattle.std.proofs.Common.{◌≡◌, ◌<◌, ◌≤◌, ◌+◌, ◌-◌, ◌/◌, ◌^◌, suc, List, [], ◌++◌, ℕ, take, drop, refl, sym, ap, subst, ◌∙◌, arith, append-nil, append_assoc}
use Rattle.std.specs.Prelude.{Option}
use Rattle.std.specs.List.{flat_map}
use Rattle.std.specs.Int.{w64, to_le_bytes}
use Rattle.std.specs.Io.KnownBytes.{append_known}
use Rattle.std.proofs.Math.Nat.{div-eq_of_lt}
use Rattle.std.proofs.Math.Seq.{take-add}
use Rattle.std.proofs.lemmas.List.{append_cancel_left, map-append}
use Rattle.std.proofs.lemmas.List.Concat.{flat_map-append}
use Rattle.octree_specs.specs.Cells.{Cell}
use Rattle.octree_specs.specs.Formats.{face_leaves, file_words}
use Rattle.octree_specs.specs.Octree.{Leaf, words_of}
use Rattle.node_file.specs.Waiting.{GrewByFront}
use Rattle.node_file.proofs.Fronts.{front_of_none, front_of_more, front_of_longer}
use Rattle.level_queues.specs.Fronts.{GrewByWords, GrewToward}
use Rattle.room_plan.specs.declared.queues.QueueEntry.{QueueEntry}
use Rattle.level_queues.specs.GivenWords.{with_words, words_in}
use Rattle.level_queues.specs.Queued.{AreQueued, written_of}
use Rattle.level_queues.proofs.Ahead.{row_toward}
use Rattle.level_queues.proofs.Continuing.{IsFrontOf, front_of_root}
use Rattle.level_queues.proofs.Wording.{append-twice}

words_split : (p xs ys : List ℕ) → (p ++ flat_map (to_le_bytes w64) xs) ++ flat_map (to_le_bytes w64) ys ≡ p ++ flat_map (to_le_bytes w64) (xs ++ ys)
words_split p xs ys =
    append_assoc p (flat_map (to_le_bytes w64) xs) (flat_map (to_le_bytes w64) ys) ∙ ap (λ l. p ++ l) (sym (flat_map-append (to_le_bytes w64) xs ys))

-- nothing was put
pub grew_nothing : (a : Option (List ℕ)) (p words : List ℕ) → GrewByWords a a p words
grew_nothing a p words = record { front = front_of_none a (p ++ flat_map (to_le_bytes w64) words) }

-- fewer entries have a front of the words
pub fewer_words : (entries : List QueueEntry) (n count : ℕ) → n ≤ count → IsFrontOf (words_in (take n entries)) (words_in (take count entries))
fewer_words entries n count few =
    let e : n + (count - n) ≡ count = omega (arith, few) in
    record {
      rest = words_in (take (count - n) (drop n entries));
      whole_is = sym (map-append (λ (entry : QueueEntry). entry.word) (take n entries) (take (count - n) (drop n entries))) ∙ ap words_in (sym (take-add n (count - n) entries) ∙ ap (λ k. take k entries) e);
    }

-- some of what waited was put
pub grew_waiting : (a b : Option (List ℕ)) (p words : List ℕ) → GrewByFront a b p → GrewByWords a b p words
grew_waiting a b p words grew = record { front = front_of_longer a b p (flat_map (to_le_bytes w64) words) grew }

-- a front of some words is one of these and more
pub grew_longer : (a b : Option (List ℕ)) (p xs ys : List ℕ) → GrewByWords a b p xs → IsFrontOf xs ys → GrewByWords a b p ys
grew_longer a b p xs ys grew front = record {
  front = subst (λ l. GrewByFront a b l) (words_split p xs front.rest ∙ ap (λ l. p ++ flat_map (to_le_bytes w64) l) front.whole_is)
      (front_of_longer a b (p ++ flat_map (to_le_bytes w64) xs) (flat_map (to_le_bytes w64) front.rest) grew.front);
}

-- a front of some words, which were given, and then of more
pub grew_twice : (a b c : Option (List ℕ)) (p q xs ys : List ℕ) → GrewByWords a b p xs → append_known b q ≡ with_words (append_known a p) xs → GrewByWords b c q ys → GrewByWords a c p (xs ++ ys)
unfolding with_words
grew_twice a b c p q xs ys first given next =
    let bytes : List ℕ = flat_map (to_le_bytes w64) ys in
    let front : List ℕ = p ++ flat_map (to_le_bytes w64) xs in
    let joined : append_known b (q ++ bytes) ≡ append_known (append_known a front) bytes =
    sym (append-twice b q bytes) ∙ ap (λ o. append_known o bytes) (given ∙ append-twice a p (flat_map (to_le_bytes w64) xs)) in
    record { front = subst (λ l. GrewByFront a c l) (words_split p xs ys) (front_of_more a b c front (q ++ bytes) bytes first.front joined next.front) }

-- ---- toward all words

pub toward_none : (words : List ℕ) (a : Option (List ℕ)) (p : List ℕ) → GrewToward words words a a p
toward_none words a p = record { rest = []; whole = append-nil words; front = front_of_none a (p ++ flat_map (to_le_bytes w64) []) }

pub toward_longer : (words all whole : List ℕ) (a b : Option (List ℕ)) (p : List ℕ) → GrewToward words all a b p → IsFrontOf all whole → GrewToward words whole a b p
toward_longer words all whole a b p grew front =
    let longer : GrewByWords a b p (grew.rest ++ front.rest) = grew_longer a b p grew.rest (grew.rest ++ front.rest) (record { front = grew.front }) (record { rest = front.rest; whole_is = refl }) in
    record {
      rest = grew.rest ++ front.rest;
      whole = sym (append_assoc words grew.rest front.rest) ∙ (ap (λ l. l ++ front.rest) grew.whole ∙ front.whole_is);
      front = longer.front;
    }

-- words that bring those given to all are put, and then those of a queue
pub toward_row : (words all more row whole : List ℕ) (a b c : Option (List ℕ)) (p q : List ℕ) → GrewToward words all a b p → append_known b q ≡ with_words (append_known a p) more → words ++ more ≡ all
    → GrewByWords b c q row → IsFrontOf (all ++ row) whole → GrewToward words whole a c p
toward_row words all more row whole a b c p q grew given reached next front =
    let same : grew.rest ≡ more = append_cancel_left words grew.rest more (grew.whole ∙ sym reached) in
    let both : GrewByWords a c p (grew.rest ++ row) = grew_twice a b c p q grew.rest row (record { front = grew.front }) (given ∙ ap (with_words (append_known a p)) (sym same)) next in
    let gone : GrewToward words (all ++ row) a c p =
    record { rest = grew.rest ++ row; whole = sym (append_assoc words grew.rest row) ∙ ap (λ l. l ++ row) grew.whole; front = both.front } in
    toward_longer words (all ++ row) whole a c p gone front

-- a height's queue is put, on the way to a height above
pub toward_above : (leaves : List Leaf) (depth last deep lasting height target : ℕ) (queues : ℕ → List QueueEntry) (words more : List ℕ) (a b c : Option (List ℕ)) (p q : List ℕ)
    → deep ≡ depth → lasting ≡ last → height < target → target < depth → AreQueued leaves (deep - suc height) height lasting queues (words ++ more)
    → GrewToward words (written_of leaves (depth - suc height) height (last / 8 ^ suc height)) a b p → append_known b q ≡ with_words (append_known a p) more → GrewByWords b c q (words_in (queues height))
    → GrewToward words (written_of leaves (depth - suc target) target (last / 8 ^ suc target)) a c p
toward_above leaves depth last deep lasting height target queues words more a b c p q same_depth same_last low high queued grew given next =
    let are : AreQueued leaves (depth - suc height) height last queues (words ++ more) =
    subst (λ n. AreQueued leaves (depth - suc height) height n queues (words ++ more)) same_last (subst (λ n. AreQueued leaves (n - suc height) height lasting queues (words ++ more)) same_depth queued) in
    let all : List ℕ = written_of leaves (depth - suc height) height (last / 8 ^ suc height) in
    let whole : List ℕ = written_of leaves (depth - suc target) target (last / 8 ^ suc target) in
    let front : IsFrontOf (all ++ words_in (queues height)) whole =
    subst (λ l. IsFrontOf (l ++ words_in (queues height)) whole) {x = words ++ more} are.written (row_toward leaves depth last height target queues (words ++ more) low high are) in
    toward_row words all more (words_in (queues height)) whole a b c p q grew given are.written next front

-- a queue's words are put, and then some of what waits behind them
pub grew_row : (b c d : Option (List ℕ)) (q r row : List ℕ) → GrewByWords b c q row → append_known c r ≡ with_words (append_known b q) row → GrewByFront c d r → GrewByWords b d q row
grew_row b c d q r row next given last = subst (GrewByWords b d q) (append-nil row) (grew_twice b c d q r row [] next given (grew_waiting c d r [] last))

-- the highest queue is put, on the way to the root
pub toward_root : (cells : List Cell) (depth last deep lasting top : ℕ) (queues : ℕ → List QueueEntry) (words more : List ℕ) (a b c : Option (List ℕ)) (p q : List ℕ)
    → deep ≡ depth → lasting ≡ last → suc top ≡ depth → last < 8 ^ depth → AreQueued (face_leaves cells) (deep - suc top) top lasting queues (words ++ more)
    → GrewToward words (written_of (face_leaves cells) (depth - suc top) top (last / 8 ^ suc top)) a b p → append_known b q ≡ with_words (append_known a p) more → GrewByWords b c q (words_in (queues top))
    → GrewToward words (file_words 2 depth cells) a c p
unfolding file_words
toward_root cells depth last deep lasting top queues words more a b c p q same_depth same_last high inside queued grew given next =
    let leaves : List Leaf = face_leaves cells in
    let root : deep - suc top ≡ 0 = omega (arith, same_depth, high) in
    let e : depth ≡ suc (0 + top) = omega (arith, high) in
    let f : depth - suc top ≡ 0 = omega (arith, high) in
    let are : AreQueued leaves 0 top last queues (words ++ more) =
    subst (λ n. AreQueued leaves 0 top n queues (words ++ more)) same_last (subst (λ n. AreQueued leaves n top lasting queues (words ++ more)) root queued) in
    let all : List ℕ = written_of leaves (depth - suc top) top (last / 8 ^ suc top) in
    let written : words ++ more ≡ all = are.written ∙ ap (λ n. written_of leaves n top (last / 8 ^ suc top)) (sym f) in
    let front : IsFrontOf (all ++ words_in (queues top)) (words_of leaves depth) =
    subst (λ l. IsFrontOf (l ++ words_in (queues top)) (words_of leaves depth)) {x = words ++ more} written
    (front_of_root leaves last 0 top depth queues (words ++ more) e (div-eq_of_lt inside) are) in
    toward_row words all more (words_in (queues top)) (words_of leaves depth) a b c p q grew given written next front
