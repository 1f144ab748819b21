-- Streams that grow by the parcels of parts, a run of one part at a time.
use Rattle.std.proofs.Common.{◌≡◌, ◌≤◌, ◌<◌, ◌+◌, ◌-◌, ◌^◌, ℕ, zero, suc, List, [], ◌∷◌, ◌++◌, map, length, take, drop, get_or, set, Some, None, Result, Ok, Err, refl, arith, sym, ap, subst, ◌∙◌, append-nil}
use Rattle.std.specs.Prelude.{All, IsPermutation, Option, OnOk}
use Rattle.std.specs.List.{flat_map, sum_by, range_with_len}
use Rattle.std.proofs.Math.Seq.{take-add, take-suc-set}
use Rattle.std.proofs.lemmas.List.{take_at, length-take-le}
use Rattle.std.proofs.lemmas.List.Elements.{All-append, All-cons, All-nil}
use Rattle.std.proofs.lemmas.List.Concat.{flat_map-cons}
use Rattle.std.proofs.lemmas.Grind.{flat_map-append}
use Rattle.std.proofs.lemmas.List.Sums.{sum_by-append}
use Rattle.std.proofs.lemmas.List.Sorted.{sum_by-IsPermutation}
use Rattle.dev_traits.specs.Streams.{grown, grown_known}
use Rattle.dev_traits.proofs.GrownStreams.{grown_none, grown_twice}
use Rattle.octree_specs.specs.Parcels.{HoldAlike}
use Rattle.room_plan.specs.declared.elements.Parcel.{Parcel}
use Rattle.tri_partition.specs.PartStreams.{HasStream}
use Rattle.tri_partition.specs.Partitioning.{bytes_of, appended, appended_known, Spills}
use Rattle.tri_partition.proofs.ReachedParts.{few_parts}

-- ---- runs of parcels

appended-append : (streams : List (List ℕ)) (xs ys : List Parcel) → appended streams (xs ++ ys) ≡ appended (appended streams xs) ys
unfolding appended
appended-append streams [] ys = refl
appended-append streams (x ∷ xs) ys = appended-append (grown streams (1 + x.part) (bytes_of x)) xs ys

appended_run : (streams : List (List ℕ)) (part : ℕ) (run : List Parcel) → ((k : ℕ) → (none : Parcel) → k < length run → (get_or run k none).part ≡ part)
    → appended streams run ≡ grown streams (1 + part) (flat_map bytes_of run)
unfolding appended
appended_run streams part [] same = sym (grown_none streams (1 + part))
appended_run streams part (x ∷ rest) same =
    let here : x.part ≡ part = same 0 x (omega arith) in
    let later : (k : ℕ) → (none : Parcel) → k < length rest → (get_or rest k none).part ≡ part = λ k none within. same (suc k) none (omega (arith, within)) in
    ap (λ stream. appended (grown streams (1 + stream) (bytes_of x)) rest) here
    ∙ (appended_run (grown streams (1 + part) (bytes_of x)) part rest later
    ∙ (grown_twice streams (1 + part) (bytes_of x) (flat_map bytes_of rest)
    ∙ ap (grown streams (1 + part)) (sym (flat_map-cons bytes_of x rest))))

-- a run of one part is appended by one call
pub known_run : (told : Option (List (List ℕ))) (part : ℕ) (run : List Parcel) → All (λ p. p.part ≡ part) run
    → grown_known told (1 + part) (flat_map bytes_of run) ≡ appended_known told run
known_run None part run same = refl
known_run (Some streams) part run same = ap Some (sym (appended_run streams part run (λ k none within. same k none within)))

pub run_appended : (told after : Option (List (List ℕ))) (part : ℕ) (bytes : List ℕ) (run : List Parcel) → All (λ p. p.part ≡ part) run
    → bytes ≡ flat_map bytes_of run → after ≡ grown_known told (part + 1) bytes → after ≡ appended_known told run
run_appended told after part bytes run same written is =
    let stream : part + 1 ≡ 1 + part = omega arith in
    is
    ∙ (ap (λ n. grown_known told n bytes) stream
    ∙ (ap (grown_known told (1 + part)) written ∙ known_run told part run same))

known-append : (told : Option (List (List ℕ))) (xs ys : List Parcel) → appended_known told (xs ++ ys) ≡ appended_known (appended_known told xs) ys
known-append None xs ys = refl
known-append (Some streams) xs ys = ap Some (appended-append streams xs ys)

pub known_no_parcels : (told : Option (List (List ℕ))) → appended_known told [] ≡ told
unfolding appended
known_no_parcels None = refl
known_no_parcels (Some streams) = refl

-- one run after another
pub known_next : (told now after : Option (List (List ℕ))) (from more : ℕ) (parcels : List Parcel) → now ≡ appended_known told (take from parcels)
    → after ≡ appended_known now (take more (drop from parcels)) → after ≡ appended_known told (take (from + more) parcels)
known_next told now after from more parcels before is =
    is
    ∙ (ap (λ known. appended_known known (take more (drop from parcels))) before
    ∙ (sym (known-append told (take from parcels) (take more (drop from parcels))) ∙ ap (appended_known told) (sym (take-add from more parcels))))

-- ---- parcels that wait

-- all that waited was appended, in another order
pub all_spilled : (before after : Option (List (List ℕ))) (waited sorted : List Parcel) → IsPermutation waited sorted → after ≡ appended_known before sorted
    → Spills before after waited [] []
all_spilled before after waited sorted same is = record {
  parcels = sorted;
  grew = is;
  alike = λ f. ap (sum_by f) (append-nil sorted) ∙ (sum_by-IsPermutation f waited sorted same ∙ ap (sum_by f) (sym (append-nil waited)));
}

-- nothing was appended
pub none_spilled : (told : Option (List (List ℕ))) (waiting : List Parcel) → Spills told told waiting [] waiting
none_spilled told waiting = record {
  parcels = [];
  grew = sym (known_no_parcels told);
  alike = λ f. ap (sum_by f) (sym (append-nil waiting));
}

-- ---- the sorted front of a pool

pub front_is : (pool sorted : List Parcel) (used : ℕ) → used ≤ length pool → length sorted ≡ length (take used pool) → take used (sorted ++ drop used pool) ≡ sorted
front_is pool sorted used within long = take_at sorted (drop used pool) used (omega (arith, long, length-take-le used pool within))

-- ---- parcels of a grid's parts

pub have_streams : (levels before started : ℕ) (parcels : List Parcel) → levels ≤ 4 → before ≤ 8 ^ 4 → before + 8 ^ levels < started → All (λ p. p.part < before + 8 ^ levels) parcels
    → All (λ p. HasStream started p.part) parcels
have_streams levels before started parcels few low streams inside = λ k none within.
    let below : (get_or parcels k none).part < before + 8 ^ levels = inside k none within in
    record { is_started = omega (arith, below, streams); numbered = omega (arith, below, few_parts levels few, low) }

pub put_in_parts : (pool : List Parcel) (used parts : ℕ) (parcel : Parcel) → used < length pool → All (λ p. p.part < parts) (take used pool) → parcel.part < parts
    → All (λ p. p.part < parts) (take (used + 1) (set pool used parcel))
put_in_parts pool used parts parcel within inside below =
    let one : used + 1 ≡ suc used = omega arith in
    subst (λ n. All (λ p. p.part < parts) (take n (set pool used parcel))) (sym one)
    (subst (λ l. All (λ p. p.part < parts) l) (sym (take-suc-set pool used parcel within))
    (All-append (λ p. p.part < parts) (take used pool) (parcel ∷ []) inside (All-cons (λ p. p.part < parts) parcel [] below (All-nil (λ p. p.part < parts)))))

-- ---- one step after another

-- lists that hold alike may take each other's place
pub spills_alike : (before after : Option (List (List ℕ))) (waited more others waits : List Parcel) → HoldAlike more others → Spills before after waited more waits
    → Spills before after waited others waits
spills_alike before after waited more others waits same is = record {
  parcels = is.parcels;
  grew = is.grew;
  alike = λ f. omega (arith, is.alike f, sum_by-append f waited more, sum_by-append f waited others, same f);
}

pub spills_alike_if_ok : {T E : Type 0} (result : Result T E) (before after : Option (List (List ℕ))) (waiting waited more others waits : List Parcel) → waiting ≡ waited → HoldAlike more others
    → OnOk result (Spills before after waiting more waits) → OnOk result (Spills before after waited others waits)
spills_alike_if_ok (Ok value) before after waiting waited more others waits is same spills =
    subst (λ l. Spills before after l others waits) is (spills_alike before after waiting more others waits same spills)
spills_alike_if_ok (Err fault) before after waiting waited more others waits is same spills = tt

-- what is put behind those that wait waits
pub spill_put : (before after : Option (List (List ℕ))) (waited pool : List Parcel) (used : ℕ) (parcel : Parcel) → used < length pool
    → Spills before after waited [] (take used pool) → Spills before after waited (parcel ∷ []) (take (used + 1) (set pool used parcel))
spill_put before after waited pool used parcel within is =
    let one : used + 1 ≡ suc used = omega arith in
    let waits : take (used + 1) (set pool used parcel) ≡ take used pool ++ parcel ∷ [] = ap (λ n. take n (set pool used parcel)) one ∙ take-suc-set pool used parcel within in
    subst (λ l. Spills before after waited (parcel ∷ []) l) (sym waits) (record {
      parcels = is.parcels;
      grew = is.grew;
      alike = λ f.
          let old = is.alike f in
          omega (
            arith,
            old,
            sum_by-append f is.parcels (take used pool),
            sum_by-append f waited [],
            sum_by-append f waited (parcel ∷ []),
            sum_by-append f is.parcels (take used pool ++ parcel ∷ []),
            sum_by-append f (take used pool) (parcel ∷ []),
          );
    })

pub spills_more : (first between last : Option (List (List ℕ))) (waited more then_wait further wait : List Parcel) → Spills first between waited more then_wait
    → Spills between last then_wait further wait → Spills first last waited (more ++ further) wait
spills_more first between last waited more then_wait further wait one other = record {
  parcels = one.parcels ++ other.parcels;
  grew = other.grew ∙ (ap (λ known. appended_known known other.parcels) one.grew ∙ sym (known-append first one.parcels other.parcels));
  alike = λ f. omega (
    arith,
    one.alike f,
    other.alike f,
    sum_by-append f one.parcels then_wait,
    sum_by-append f waited more,
    sum_by-append f other.parcels wait,
    sum_by-append f then_wait further,
    sum_by-append f (one.parcels ++ other.parcels) wait,
    sum_by-append f one.parcels other.parcels,
    sum_by-append f waited (more ++ further),
    sum_by-append f more further,
  );
}

-- ---- one part, row or layer after another

pub range_more : (from count : ℕ) → range_with_len from (suc count) ≡ range_with_len from count ++ (from + count) ∷ []
range_more from zero =
    let same : from ≡ from + 0 = omega arith in
    ap (λ n. n ∷ []) same
range_more from (suc count) =
    let same : from + 1 + count ≡ from + suc count = omega arith in
    ap (λ l. from ∷ l) (range_more (from + 1) count ∙ ap (λ n. range_with_len (from + 1) count ++ n ∷ []) same)

-- the numbers up to one more
one_further : (from at : ℕ) → from ≤ at → range_with_len from (at + 1 - from) ≡ range_with_len from (at - from) ++ at ∷ []
one_further from at order =
    let count : at + 1 - from ≡ suc (at - from) = omega arith in
    let last : from + (at - from) ≡ at = omega arith in
    ap (range_with_len from) count ∙ (range_more from (at - from) ∙ ap (λ n. range_with_len from (at - from) ++ n ∷ []) last)

map-append : {A B : Type 0} (f : A → B) (xs ys : List A) → map f (xs ++ ys) ≡ map f xs ++ map f ys
map-append f [] ys = refl
map-append f (x ∷ xs) ys = ap (λ l. f x ∷ l) (map-append f xs ys)

pub spills_part : (first between last : Option (List (List ℕ))) (waited then_wait wait : List Parcel) (f : ℕ → Parcel) (from at : ℕ) → from ≤ at
    → Spills first between waited (map f (range_with_len from (at - from))) then_wait → Spills between last then_wait (f at ∷ []) wait
    → Spills first last waited (map f (range_with_len from (at + 1 - from))) wait
spills_part first between last waited then_wait wait f from at order one other =
    let all : map f (range_with_len from (at + 1 - from)) ≡ map f (range_with_len from (at - from)) ++ f at ∷ [] =
    ap (map f) (one_further from at order) ∙ map-append f (range_with_len from (at - from)) (at ∷ []) in
    subst (λ l. Spills first last waited l wait) (sym all) (spills_more first between last waited (map f (range_with_len from (at - from))) then_wait (f at ∷ []) wait one other)

pub spills_row : (first between last : Option (List (List ℕ))) (waited then_wait wait : List Parcel) (f : ℕ → List Parcel) (from at : ℕ) → from ≤ at
    → Spills first between waited (flat_map f (range_with_len from (at - from))) then_wait → Spills between last then_wait (f at) wait
    → Spills first last waited (flat_map f (range_with_len from (at + 1 - from))) wait
spills_row first between last waited then_wait wait f from at order one other =
    let all : flat_map f (range_with_len from (at + 1 - from)) ≡ flat_map f (range_with_len from (at - from)) ++ f at =
    ap (flat_map f) (one_further from at order)
    ∙ (flat_map-append f (range_with_len from (at - from)) (at ∷ [])
    ∙ ap (λ l. flat_map f (range_with_len from (at - from)) ++ l) (flat_map-cons f at [] ∙ append-nil (f at))) in
    subst (λ l. Spills first last waited l wait) (sym all) (spills_more first between last waited (flat_map f (range_with_len from (at - from))) then_wait (f at) wait one other)

pub no_range : (from : ℕ) → range_with_len from (from - from) ≡ []
no_range from =
    let none : from - from ≡ 0 = omega arith in
    ap (range_with_len from) none
