-- What the words of a cache give for the numbers of blocks.
use Rattle.std.proofs.Common.{◌≡◌, ℕ, zero, suc, ◌+◌, ◌-◌, ◌*◌, ◌/◌, ◌%◌, ◌<◌, ◌≤◌, ◌⊎◌, true, false, List, [], ◌∷◌, ◌++◌, length, take, drop, min, nat_eq, Option, Some, None, refl, sym, ap, ◌∙◌, subst, inl, inr, arith}
use Rattle.std.specs.Prelude.{slice_index, IfSome, Result, Ok, Err, OnOk, OnErr, option_map}
use Rattle.std.proofs.lemmas.Bool.{eqb-true}
use Rattle.std.proofs.lemmas.List.{take_at}
use Rattle.std.specs.Option.{ForSome}
use Rattle.std.specs.Map.{keys_of, lookup, lookup_entry, remove_entry}
use Rattle.lru.specs.LruCache.{LruCache, lru_cache, promoted, put_entries}
use Rattle.lru.proofs.CallerLemmas.{Contains-lookup, Contains-promoted, Contains-put_entries}
use Rattle.node_file.specs.FileView.{FileView}
use Rattle.block_cache.specs.Kept.{word_at, front_of, HoldsBlock, AreOfFile, is_kept, without, BringsBlock, KeepsBlock}

-- the first block is found by a look-up too, and stays where it is
pub front_found : (block : ℕ) (es : List (ℕ × List ℕ)) (bytes : List ℕ) → front_of block es ≡ Some bytes
    → (lookup (nat_eq block) es ≡ Some bytes) × (promoted (nat_eq block) es ≡ es)
front_found block [] bytes h = cc
front_found block (e ∷ es) bytes h = (elim (nat_eq block e.0) as (λ y. nat_eq block e.0 ≡ y → (lookup (nat_eq block) (e ∷ es) ≡ Some bytes) × (promoted (nat_eq block) (e ∷ es) ≡ e ∷ es)) [
  | true ↦ λ t. (rw t (rw t at h), rw t)
  | false ↦ λ t. let h' = rw t at h in absurd cc
]) refl

keys_taken : (n : ℕ) (es : List (ℕ × List ℕ)) → keys_of (take n es) ≡ take n (keys_of es)
keys_taken zero es = refl
keys_taken (suc n) [] = refl
keys_taken (suc n) (e ∷ es) = ap (λ l. e.0 ∷ l) (keys_taken n es)

pub record Missing (block : ℕ) (es : List (ℕ × List ℕ)) : Type 0 where
  pub kept : is_kept block (keys_of es) ≡ false
  pub entry : lookup_entry (nat_eq block) es ≡ None

pub missing : (block : ℕ) (es : List (ℕ × List ℕ)) → lookup (nat_eq block) es ≡ None → Missing block es
missing block [] h = record { kept = refl; entry = refl }
missing block (e ∷ es) h = (elim (nat_eq block e.0) as (λ y. nat_eq block e.0 ≡ y → Missing block (e ∷ es)) [
  | true ↦ λ t. let h' = rw t at h in absurd cc
  | false ↦ λ t. let on = missing block es (rw t at h) in record { kept = rw t on.kept; entry = rw t on.entry }
]) refl

-- a block that is not among the numbers has no entry
pub no_entry : (block : ℕ) (es : List (ℕ × List ℕ)) → is_kept block (keys_of es) ≡ false → lookup_entry (nat_eq block) es ≡ None
no_entry block [] h = refl
no_entry block (e ∷ es) h = (elim (nat_eq block e.0) as (λ y. nat_eq block e.0 ≡ y → lookup_entry (nat_eq block) (e ∷ es) ≡ None) [
  | true ↦ λ t. let h' = rw t at h in absurd cc
  | false ↦ λ t. rw t (no_entry block es (rw t at h))
]) refl

pub record Found (block : ℕ) (es : List (ℕ × List ℕ)) : Type 0 where
  pub kept : is_kept block (keys_of es) ≡ true
  pub removed : keys_of (remove_entry (nat_eq block) es) ≡ without block (keys_of es)
  pub bytes : List ℕ
  pub key : ℕ
  pub same : nat_eq block key ≡ true
  pub entry : lookup_entry (nat_eq block) es ≡ Some (key, bytes)

pub found : (block : ℕ) (es : List (ℕ × List ℕ)) (bytes : List ℕ) → lookup (nat_eq block) es ≡ Some bytes → Found block es
found block [] bytes h = cc
found block (e ∷ es) bytes h = (elim (nat_eq block e.0) as (λ y. nat_eq block e.0 ≡ y → Found block (e ∷ es)) [
  | true ↦ λ t. record { kept = rw t; removed = rw t; bytes = e.1; key = e.0; same = t; entry = rw t }
  | false ↦ λ t. let on = found block es bytes (rw t at h) in
      record { kept = rw t on.kept; removed = rw t (ap (λ l. e.0 ∷ l) on.removed); bytes = on.bytes; key = on.key; same = on.same; entry = rw t on.entry }
]) refl

pub moved_keys : (block : ℕ) (es : List (ℕ × List ℕ)) → Found block es → keys_of (promoted (nat_eq block) es) ≡ block ∷ without block (keys_of es)
moved_keys block es f = rw f.entry (ap (λ l. f.key ∷ l) f.removed ∙ ap (λ k. k ∷ without block (keys_of es)) (sym (eqb-true block f.key f.same)))

pub unmoved : (block : ℕ) (es : List (ℕ × List ℕ)) → Missing block es → promoted (nat_eq block) es ≡ es
unmoved block es m = rw m.entry

taken_front : (block cap : ℕ) (ks : List ℕ) → 0 < cap → block ∷ take (cap - 1) ks ≡ take cap (block ∷ ks)
taken_front block zero ks some = absurd (omega (arith, some))
taken_front block (suc n) ks some = let less : suc n - 1 ≡ n = omega arith in ap (λ m. block ∷ take m ks) less

pub keys_put : (c : LruCache ℕ (List ℕ)) (block : ℕ) (bytes : List ℕ) → is_kept block (keys_of c.entries) ≡ false → 0 < c.cap
    → keys_of (put_entries nat_eq c block bytes) ≡ take c.cap (block ∷ keys_of c.entries)
keys_put c block bytes h some = rw (no_entry block c.entries h) (ap (λ l. block ∷ l) (keys_taken (c.cap - 1) c.entries) ∙ taken_front block c.cap (keys_of c.entries) some)

-- ---- the bytes of blocks

same_block : (file : FileView) (bytes : List ℕ) (a b : ℕ) → a ≡ b → HoldsBlock file a bytes → HoldsBlock file b bytes
same_block file bytes a b same = subst (λ n. HoldsBlock file n bytes) same

pub right_moved : (file : FileView) (block : ℕ) (es : List (ℕ × List ℕ)) → AreOfFile file es → AreOfFile file (promoted (nat_eq block) es)
right_moved file block es right = λ e is. right e (Contains-promoted (nat_eq block) es e is)

pub right_put : (file : FileView) (c : LruCache ℕ (List ℕ)) (block : ℕ) (bytes : List ℕ) → AreOfFile file c.entries → HoldsBlock file block bytes
    → AreOfFile file (put_entries nat_eq c block bytes)
right_put file c block bytes right new = λ e is. elim (Contains-put_entries nat_eq c block bytes e is) [
  | inl was ↦ right e was
  | inr put ↦
      let key : block ≡ e.0 = elim put.1 [
        | inl same ↦ sym same
        | inr old ↦ eqb-true block e.0 old.2
      ] in
      subst (λ b. HoldsBlock file e.0 b) (sym put.0) (same_block file bytes block e.0 key new)
]

pub right_found : (file : FileView) (block : ℕ) (es : List (ℕ × List ℕ)) (bytes : List ℕ) → AreOfFile file es → lookup (nat_eq block) es ≡ Some bytes → HoldsBlock file block bytes
right_found file block es bytes right h =
    let on = Contains-lookup (nat_eq block) es bytes h in
    same_block file bytes on.0 block (sym (eqb-true block on.0 on.2)) (right (on.0, bytes) on.1)

pub room_for_word : (records number size : ℕ) → number < records → size ≡ 8 * min 512 (records - 512 * (number / 512)) → 8 * (number % 512) + 8 ≤ size
room_for_word records number size within long = omega (arith, within, long)

word_of : (told : Option (List ℕ)) (bytes : List ℕ) (number : ℕ) → 8 * (number % 512) + 8 ≤ length bytes
    → ForSome told (λ words. (at : ℕ) → 8 * at < length bytes → slice_index words (512 * (number / 512) + at) ≡ word_at bytes at)
    → IfSome told (λ words. word_at bytes (number % 512) ≡ slice_index words number)
word_of None bytes number room words = tt
word_of (Some told) bytes number room words =
    let place : 512 * (number / 512) + number % 512 ≡ number = omega arith in
    sym (ap (slice_index told) (sym place) ∙ words told refl (number % 512) (omega (arith, room)))

pub held_word : (file : FileView) (bytes : List ℕ) (number : ℕ) → number < file.totals.records → HoldsBlock file (number / 512) bytes
    → IfSome file.words (λ words. word_at bytes (number % 512) ≡ slice_index words number)
held_word file bytes number within holds = word_of file.words bytes number (room_for_word file.totals.records number (length bytes) within holds.size) holds.words

-- ---- a block that is read

-- a vector that was written through a loan of all of it holds what was written
pub all_written : (size : ℕ) (into room : List ℕ) → length into ≡ size → take size (into ++ drop (length into) room) ≡ into
all_written size into room long = take_at into (drop (length into) room) size long

for_some : {X : Type 0} (P : X → Type 0) (o : Option X) → IfSome o P → (x : X) → o ≡ Some x → P x
for_some P None h x is = cc
for_some P (Some y) h x is = let same : y ≡ x = cc in subst P same h

pub whole_block : (records number from size : ℕ) → number < records → from ≡ number - number % 512 → size ≡ 8 * min 512 (records - 512 * (number / 512))
    → (count : ℕ) × (size ≡ 8 * count) × (1 ≤ count) × (from + count ≤ records)
whole_block records number from size within first long =
    (min 512 (records - 512 * (number / 512)), long, omega (arith, within), omega (arith, within, first))

pub fetched : (file : FileView) (number from : ℕ) (bytes : List ℕ) → from ≡ number - number % 512
    → length bytes ≡ 8 * min 512 (file.totals.records - 512 * (number / 512))
    → IfSome file.words (λ words. (k : ℕ) → 8 * k < length bytes → slice_index words (from + k) ≡ word_at bytes k)
    → HoldsBlock file (number / 512) bytes
fetched file number from bytes first long words = record {
  size = long;
  words = λ told is k within.
      let place : 512 * (number / 512) + k ≡ from + k = omega (arith, first) in
      ap (slice_index told) place ∙ for_some (λ ws. (j : ℕ) → 8 * j < length bytes → slice_index ws (from + j) ≡ word_at bytes j) file.words words told is k within;
}

pub read_word : (file : FileView) (bytes : List ℕ) (number word : ℕ) → number < file.totals.records → HoldsBlock file (number / 512) bytes → word ≡ word_at bytes (number % 512)
    → IfSome file.words (λ words. word ≡ slice_index words number)
read_word file bytes number word within holds is =
    subst (λ w. IfSome file.words (λ words. w ≡ slice_index words number)) (sym is) (held_word file bytes number within holds)

pub right_kept : (file other : FileView) (c d : LruCache ℕ (List ℕ)) (block : ℕ) (bytes : List ℕ) → (d ≡ lru_cache (put_entries nat_eq c block bytes) c.cap) ⊎ (d ≡ c)
    → other ≡ file → AreOfFile file c.entries → HoldsBlock file block bytes → AreOfFile other d.entries
right_kept file other c d block bytes kept same right new = subst (λ f. AreOfFile f d.entries) (sym same) (elim kept [
  | inl put ↦ subst (λ (l : LruCache ℕ (List ℕ)). AreOfFile file l.entries) (sym put) (right_put file c block bytes right new)
  | inr as_before ↦ subst (λ (l : LruCache ℕ (List ℕ)). AreOfFile file l.entries) (sym as_before) right
])

pub keys_kept : (c d : LruCache ℕ (List ℕ)) (block : ℕ) (bytes : List ℕ) → (d ≡ lru_cache (put_entries nat_eq c block bytes) c.cap) ⊎ (d ≡ c)
    → is_kept block (keys_of c.entries) ≡ false → 1 ≤ c.cap
    → (keys_of d.entries ≡ take c.cap (block ∷ keys_of c.entries)) ⊎ (keys_of d.entries ≡ keys_of c.entries)
keys_kept c d block bytes kept missing some = elim kept [
  | inl put ↦ inl (ap (λ (l : LruCache ℕ (List ℕ)). keys_of l.entries) put ∙ keys_put c block bytes missing some)
  | inr as_before ↦ inr (ap (λ (l : LruCache ℕ (List ℕ)). keys_of l.entries) as_before)
]

-- ---- a word that is asked for

if_some : {X : Type 0} (P : X → Type 0) (o : Option X) → ((x : X) → o ≡ Some x → P x) → IfSome o P
if_some P None h = tt
if_some P (Some x) h = h x refl

pub kept_room : (file : FileView) (number : ℕ) (es : List (ℕ × List ℕ)) → AreOfFile file es → number < file.totals.records
    → IfSome (lookup (nat_eq (number / 512)) es) (λ bytes. 8 * (number % 512) + 8 ≤ length bytes)
kept_room file number es right within = if_some (λ (bytes : List ℕ). 8 * (number % 512) + 8 ≤ length bytes) (lookup (nat_eq (number / 512)) es) (λ bytes is.
    room_for_word file.totals.records number (length bytes) within (right_found file (number / 512) es bytes right is).size)

pub right_now : (file : FileView) (block cap : ℕ) (es : List (ℕ × List ℕ)) (d : LruCache ℕ (List ℕ)) → d ≡ lru_cache (promoted (nat_eq block) es) cap
    → AreOfFile file es → AreOfFile file d.entries
right_now file block cap es d is right = subst (λ (l : LruCache ℕ (List ℕ)). AreOfFile file l.entries) (sym is) (right_moved file block es right)

looked_up : (number word : ℕ) (o : Option (List ℕ)) → Some word ≡ option_map (λ bytes. word_at bytes (number % 512)) o
    → (bytes : List ℕ) × (o ≡ Some bytes) × (word ≡ word_at bytes (number % 512))
looked_up number word None h = cc
looked_up number word (Some bytes) h = (bytes, refl, cc)

not_found : (number : ℕ) (o : Option (List ℕ)) → None ≡ option_map (λ bytes. word_at bytes (number % 512)) o → o ≡ None
not_found number None h = refl
not_found number (Some bytes) h = cc

pub kept_word : (file : FileView) (number word : ℕ) (es : List (ℕ × List ℕ)) → AreOfFile file es → number < file.totals.records
    → Some word ≡ option_map (λ bytes. word_at bytes (number % 512)) (lookup (nat_eq (number / 512)) es) → IfSome file.words (λ words. word ≡ slice_index words number)
kept_word file number word es right within h =
    let up = looked_up number word (lookup (nat_eq (number / 512)) es) h in
    read_word file up.0 number word within (right_found file (number / 512) es up.0 right up.1) up.2

pub keeps_hit : {S E : Type 0} (number word keep : ℕ) (es : List (ℕ × List ℕ)) (d : LruCache ℕ (List ℕ)) (store : S)
    → Some word ≡ option_map (λ bytes. word_at bytes (number % 512)) (lookup (nat_eq (number / 512)) es) → d ≡ lru_cache (promoted (nat_eq (number / 512)) es) keep
    → KeepsBlock {S = S} {T = ℕ} {E = E} keep (number / 512) (keys_of es) (keys_of d.entries) store store (Ok word)
keeps_hit number word keep es d store h is =
    let up = looked_up number word (lookup (nat_eq (number / 512)) es) h in
    let on : Found (number / 512) es = found (number / 512) es up.0 up.1 in
    record {
      hit = λ _. (refl, refl, ap (λ (l : LruCache ℕ (List ℕ)). keys_of l.entries) is ∙ moved_keys (number / 512) es on);
      miss = λ no. let both : true ≡ false = sym on.kept ∙ no in cc;
    }

module _ (number keep : ℕ) (es : List (ℕ × List ℕ)) (d : LruCache ℕ (List ℕ)) (h : None ≡ option_map (λ bytes. word_at bytes (number % 512)) (lookup (nat_eq (number / 512)) es)) (is : d ≡ lru_cache (promoted (nat_eq (number / 512)) es) keep) where
  gone : Missing (number / 512) es
  gone = missing (number / 512) es (not_found number (lookup (nat_eq (number / 512)) es) h)

  same_keys : keys_of d.entries ≡ keys_of es
  same_keys = ap (λ (l : LruCache ℕ (List ℕ)). keys_of l.entries) is ∙ ap keys_of (unmoved (number / 512) es gone)

  pub still_missing : is_kept (number / 512) (keys_of d.entries) ≡ false
  still_missing = ap (is_kept (number / 512)) same_keys ∙ gone.kept

  pub keeps_miss : {S T E : Type 0} (after : List ℕ) (before_store after_store : S) (result : Result T E)
      → BringsBlock d.cap (number / 512) (keys_of d.entries) after result → KeepsBlock keep (number / 512) (keys_of es) after before_store after_store result
  keeps_miss after before_store after_store result brings = record {
    hit = λ yes. let both : true ≡ false = sym yes ∙ gone.kept in cc;
    miss = λ _. subst (λ ks. BringsBlock keep (number / 512) ks after result) same_keys
        (subst (λ n. BringsBlock n (number / 512) (keys_of d.entries) after result) (ap (λ (l : LruCache ℕ (List ℕ)). l.cap) is) brings);
  }

pub brings_block : {T E : Type 0} (keep block : ℕ) (before after : List ℕ) (result : Result T E) → OnOk result ((after ≡ take keep (block ∷ before)) ⊎ (after ≡ before)) → OnErr result (after ≡ before)
    → BringsBlock keep block before after result
brings_block keep block before after (Ok x) ok err = ok
brings_block keep block before after (Err e) ok err = err

pub brings_none : {T E : Type 0} (keep block : ℕ) (before : List ℕ) (result : Result T E) → BringsBlock keep block before before result
brings_none keep block before (Ok x) = inr refl
brings_none keep block before (Err e) = refl
