-- What a stream holds once the parcels of triangles were appended.
use Rattle.std.proofs.Common.{◌≡◌, ◌≢◌, ◌<◌, ◌+◌, ◌^◌, ◌==◌, ℕ, zero, suc, Bool, true, false, cond, List, [], ◌∷◌, ◌++◌, map, filter, inl, inr, length, Some, None, refl, arith, sym, ap, subst, ◌∙◌, append_assoc, append-nil}
use Rattle.std.specs.Prelude.{Option}
use Rattle.std.specs.List.{flat_map, sum_by, range_with_len}
use Rattle.std.proofs.Math.Nat.{zero-add}
use Rattle.std.proofs.lemmas.Bool.{cases_Bool, eqb-true, eq-eqb}
use Rattle.std.proofs.lemmas.Bool.Decides.{leb_tells}
use Rattle.std.proofs.lemmas.List.{get_or_past, nil_from_length}
use Rattle.std.proofs.lemmas.List.Concat.{flat_map-cons}
use Rattle.svo_base.specs.GridShape.{GridShape}
use Rattle.dev_traits.specs.Streams.{stream_of, grown}
use Rattle.dev_traits.proofs.GrownStreams.{length_grown, grown_here, grown_elsewhere}
use Rattle.octree_specs.specs.FacedTriangles.{Faced}
use Rattle.octree_specs.specs.Parcels.{parcel_bytes, HoldAlike}
use Rattle.octree_specs.specs.Parts.{is_in_part}
use Rattle.room_plan.specs.declared.elements.Parcel.{Parcel}
use Rattle.tri_partition.specs.PartStreams.{faced_of}
use Rattle.tri_partition.specs.Partitioning.{bytes_of, parcel_of, parcels_of, appended}
use Rattle.tri_partition.specs.Laws.{SpillsInSteps, GrewByParcels, IsPartitioned, PartsAreSpilled}
use Rattle.tri_partition.proofs.PartSums.{total, total_same, total_cond, sum_filter}
use Rattle.tri_partition.proofs.SpilledRuns.{none_spilled, spills_more}
use Rattle.tri_partition.proofs.BoxParcels.{sum_cons, sum_map, sum_flat}

-- ---- one stream among those that grow

pub length_appended : (streams : List (List ℕ)) (parcels : List Parcel) → length (appended streams parcels) ≡ length streams
unfolding appended
length_appended streams [] = refl
length_appended streams (p ∷ rest) = length_appended (grown streams (1 + p.part) (bytes_of p)) rest ∙ length_grown streams (1 + p.part) (bytes_of p)

-- a parcel goes to a stream
goes_to : ℕ → Parcel → Bool
goes_to stream p = (1 + p.part) == stream

differ_from : (a b : ℕ) → (a == b) ≡ false → a ≢ b
differ_from a b fails same = both_fail (a == b) fails (eq-eqb a b same)
  where
    both_fail : (test : Bool) → test ≡ false → test ≡ true → ⊥
    both_fail test p q = cc

-- a stream grows by the parcels that go to it, in their order
appended_at : (streams : List (List ℕ)) (parcels : List Parcel) (stream : ℕ) → stream < length streams
    → stream_of (appended streams parcels) stream ≡ stream_of streams stream ++ flat_map bytes_of (filter (goes_to stream) parcels)
unfolding appended goes_to
appended_at streams [] stream within = sym (append-nil (stream_of streams stream))
appended_at streams (p ∷ rest) stream within =
    let next : List (List ℕ) = grown streams (1 + p.part) (bytes_of p) in
    let later = appended_at next rest stream (omega (arith, within, length_grown streams (1 + p.part) (bytes_of p))) in
    later ∙ elim (cases_Bool ((1 + p.part) == stream)) [
      | inl here ↦
          let same : 1 + p.part ≡ stream = eqb-true (1 + p.part) stream here in
          let grew : stream_of next stream ≡ stream_of streams stream ++ bytes_of p =
          subst (λ n. stream_of (grown streams n (bytes_of p)) stream ≡ stream_of streams stream ++ bytes_of p) (sym same) (grown_here streams stream (bytes_of p) within) in
          ap (λ l. l ++ flat_map bytes_of (filter (goes_to stream) rest)) grew
          ∙ (append_assoc (stream_of streams stream) (bytes_of p) (flat_map bytes_of (filter (goes_to stream) rest))
          ∙ ap (λ l. stream_of streams stream ++ l) (sym (flat_map-cons bytes_of p (filter (goes_to stream) rest)) ∙ ap (λ b. flat_map bytes_of (cond b (p ∷ filter (goes_to stream) rest) (filter (goes_to stream) rest))) (sym here)))
      | inr other ↦
          ap (λ l. l ++ flat_map bytes_of (filter (goes_to stream) rest)) (grown_elsewhere streams (1 + p.part) stream (bytes_of p) (differ_from (1 + p.part) stream other))
          ∙ ap (λ b. stream_of streams stream ++ flat_map bytes_of (cond b (p ∷ filter (goes_to stream) rest) (filter (goes_to stream) rest))) (sym other)
    ]

-- ---- what is counted of the parcels that go to a stream

kept_or_not : {A : Type 0} (f : A → ℕ) (b : Bool) (x : A) (kept : List A) (n : ℕ) → sum_by f kept ≡ n → sum_by f (cond b (x ∷ kept) kept) ≡ cond b (f x) 0 + n
kept_or_not f true x kept n is = sum_cons f x kept ∙ ap (λ m. f x + m) is
kept_or_not f false x kept n is = is ∙ sym (zero-add n)

pub sum_kept : {A : Type 0} (f : A → ℕ) (p : A → Bool) (xs : List A) → sum_by f (filter p xs) ≡ sum_by (λ x. cond (p x) (f x) 0) xs
sum_kept f p [] = refl
sum_kept f p (x ∷ xs) =
    kept_or_not f (p x) x (filter p xs) (sum_by (λ y. cond (p y) (f y) 0) xs) (sum_kept f p xs) ∙ sym (sum_cons (λ y. cond (p y) (f y) 0) x xs)

-- no part below so many, as they are numbered, has the stream
total_nowhere : (number : ℕ → ℕ) (p : ℕ → Bool) (stream value n : ℕ) → ((k : ℕ) → k < n → 1 + number k ≢ stream) → total (λ k. cond (p k) (cond ((1 + number k) == stream) value 0) 0) n ≡ 0
total_nowhere number p stream value n none =
    total_same (λ k. cond (p k) (cond ((1 + number k) == stream) value 0) 0) (λ k. cond false (value + k) 0) n (λ k within. nothing (p k) ((1 + number k) == stream) (unlike k (none k within)))
    ∙ total_cond false (λ k. value + k) n
  where
    unlike : (k : ℕ) → 1 + number k ≢ stream → ((1 + number k) == stream) ≡ false
    unlike k differ = elim (cases_Bool ((1 + number k) == stream)) [ inl same ↦ absurd (differ (eqb-true (1 + number k) stream same)) | inr other ↦ other ]

    nothing : (a b : Bool) → b ≡ false → cond a (cond b value 0) 0 ≡ 0
    nothing true b fails = rw fails refl
    nothing false b fails = refl

-- one of them has it
total_somewhere : (number : ℕ → ℕ) → ((k m : ℕ) → number k ≡ number m → k ≡ m) → (p : ℕ → Bool) (place value n : ℕ) → place < n
    → total (λ k. cond (p k) (cond ((1 + number k) == (1 + number place)) value 0) 0) n ≡ cond (p place) value 0
unfolding total
total_somewhere number distinct p place value zero within = absurd (omega (arith, within))
total_somewhere number distinct p place value (suc n) within = elim (cases_Bool (n == place)) [
  | inl last ↦
      let same : n ≡ place = eqb-true n place last in
      let before = total_nowhere number p (1 + number place) value n (λ k below is. absurd (omega (arith, below, distinct k place (omega (arith, is)), same))) in
      let here : cond (p n) (cond ((1 + number n) == (1 + number place)) value 0) 0 ≡ cond (p place) value 0 =
      ap (λ b. cond (p n) (cond b value 0) 0) (eq-eqb (1 + number n) (1 + number place) (ap (λ k. 1 + number k) same)) ∙ ap (λ k. cond (p k) value 0) same in
      omega (arith, before, here)
  | inr other ↦
      let differ : n ≢ place = differ_from n place other in
      let before = total_somewhere number distinct p place value n (omega (arith, within, differ)) in
      let here : cond (p n) (cond ((1 + number n) == (1 + number place)) value 0) 0 ≡ 0 =
      not_here (p n) ((1 + number n) == (1 + number place)) (unlike (λ same. differ (distinct n place (omega (arith, same))))) in
      omega (arith, before, here)
]
  where
    not_here : (a b : Bool) → b ≡ false → cond a (cond b value 0) 0 ≡ 0
    not_here true b fails = rw fails refl
    not_here false b fails = refl

    unlike : ((1 + number n ≡ 1 + number place) → ⊥) → ((1 + number n) == (1 + number place)) ≡ false
    unlike differ = elim (cases_Bool ((1 + number n) == (1 + number place))) [ inl same ↦ absurd (differ (eqb-true (1 + number n) (1 + number place) same)) | inr fails ↦ fails ]

pub sum_same : {A : Type 0} (f g : A → ℕ) (xs : List A) → ((x : A) → f x ≡ g x) → sum_by f xs ≡ sum_by g xs
sum_same f g [] same = refl
sum_same f g (x ∷ xs) same =
    let here : f x ≡ g x = same x in
    let later : sum_by f xs ≡ sum_by g xs = sum_same f g xs same in
    sum_cons f x xs ∙ (omega (arith, here, later) ∙ sym (sum_cons g x xs))

-- the triangle of a parcel
faced_is : (x : Faced) (part : ℕ) → faced_of (parcel_of x part) ≡ x
unfolding faced_of parcel_of
faced_is x part = refl

part_is : (x : Faced) (part : ℕ) → (parcel_of x part).part ≡ part
unfolding parcel_of
part_is x part = refl

-- a count of the parcels that go to a stream
counted_to : (f : Faced → ℕ) (stream : ℕ) → Parcel → ℕ
counted_to f stream p = cond (goes_to stream p) (f (faced_of p)) 0

counted_parcel : (f : Faced → ℕ) (stream : ℕ) (x : Faced) (k : ℕ) → counted_to f stream (parcel_of x k) ≡ cond ((1 + k) == stream) (f x) 0
unfolding counted_to goes_to
counted_parcel f stream x k = ap (λ n. cond ((1 + n) == stream) (f (faced_of (parcel_of x k))) 0) (part_is x k) ∙ ap (λ y. cond ((1 + k) == stream) (f y) 0) (faced_is x k)

-- ---- what a stream has grown by

bytes_stand : (parcels : List Parcel) → flat_map bytes_of parcels ≡ flat_map parcel_bytes (map faced_of parcels)
bytes_stand [] = refl
bytes_stand (p ∷ rest) = flat_map-cons bytes_of p rest ∙ (ap (λ l. bytes_of p ++ l) (bytes_stand rest) ∙ sym (flat_map-cons parcel_bytes (faced_of p) (map faced_of rest)))

goes_to_sum : (f : Faced → ℕ) (stream : ℕ) (parcels : List Parcel) → sum_by f (map faced_of (filter (goes_to stream) parcels)) ≡ sum_by (counted_to f stream) parcels
unfolding counted_to
goes_to_sum f stream parcels = sum_map f faced_of (filter (goes_to stream) parcels) ∙ sum_kept (λ p. f (faced_of p)) (goes_to stream) parcels

sum_zero : {A : Type 0} (xs : List A) → sum_by (λ _. 0) xs ≡ 0
sum_zero [] = refl
sum_zero (x ∷ xs) = sum_cons (λ _. 0) x xs ∙ omega (arith, sum_zero xs)

pub sum_ones : {A : Type 0} (xs : List A) → sum_by (λ _. 1) xs ≡ length xs
sum_ones [] = refl
sum_ones (x ∷ xs) = sum_cons (λ _. 1) x xs ∙ omega (arith, sum_ones xs)

-- the parcels of triangles for the places that pass a test, each with the number of its place
module _ (parcels : Faced → List Parcel) (reached : ℕ → Faced → Bool) (number : ℕ → ℕ) (count : ℕ)
    (are : (x : Faced) → parcels x ≡ map (λ k. parcel_of x (number k)) (filter (λ k. reached k x) (range_with_len 0 count))) where
  count_of_one : (f : Parcel → ℕ) (x : Faced) → sum_by f (parcels x) ≡ total (λ k. cond (reached k x) (f (parcel_of x (number k))) 0) count
  count_of_one f x =
      ap (sum_by f) (are x)
      ∙ (sum_map f (λ k. parcel_of x (number k)) (filter (λ k. reached k x) (range_with_len 0 count))
      ∙ sum_filter (λ k. f (parcel_of x (number k))) (λ k. reached k x) count)

  count_to : (f : Faced → ℕ) (stream : ℕ) (faced : List Faced)
      → sum_by (counted_to f stream) (flat_map parcels faced) ≡ sum_by (λ x. total (λ k. cond (reached k x) (cond ((1 + number k) == stream) (f x) 0) 0) count) faced
  count_to f stream faced =
      sum_flat (counted_to f stream) parcels faced
      ∙ sum_same (λ x. sum_by (counted_to f stream) (parcels x)) (λ x. total (λ k. cond (reached k x) (cond ((1 + number k) == stream) (f x) 0) 0) count) faced
      (λ x. count_of_one (counted_to f stream) x
      ∙ total_same (λ k. cond (reached k x) (counted_to f stream (parcel_of x (number k))) 0) (λ k. cond (reached k x) (cond ((1 + number k) == stream) (f x) 0) 0) count
      (λ k within. ap (λ n. cond (reached k x) n 0) (counted_parcel f stream x (number k))))

  place_alike : (place : ℕ) (faced : List Faced) (spilled : List Parcel) → ((k m : ℕ) → number k ≡ number m → k ≡ m) → place < count → HoldAlike spilled (flat_map parcels faced)
      → HoldAlike (map faced_of (filter (goes_to (1 + number place)) spilled)) (filter (reached place) faced)
  place_alike place faced spilled distinct within alike = λ f.
      goes_to_sum f (1 + number place) spilled
      ∙ (alike (counted_to f (1 + number place))
      ∙ (count_to f (1 + number place) faced
      ∙ (sum_same (λ x. total (λ k. cond (reached k x) (cond ((1 + number k) == (1 + number place)) (f x) 0) 0) count) (λ x. cond (reached place x) (f x) 0) faced
      (λ x. total_somewhere number distinct (λ k. reached k x) place (f x) count within)
      ∙ sym (sum_kept f (reached place) faced))))

  -- the stream of a place has grown by the parcels of the triangles that pass its test
  pub stream_grew : (place : ℕ) (faced : List Faced) (first : List (List ℕ)) (spilled : List Parcel) → ((k m : ℕ) → number k ≡ number m → k ≡ m) → place < count
      → 1 + number place < length first → HoldAlike spilled (flat_map parcels faced)
      → GrewByParcels (stream_of first (1 + number place)) (stream_of (appended first spilled) (1 + number place)) (filter (reached place) faced)
  stream_grew place faced first spilled distinct within started alike = record {
    stand = map faced_of (filter (goes_to (1 + number place)) spilled);
    bytes = appended_at first spilled (1 + number place) started ∙ ap (λ l. stream_of first (1 + number place) ++ l) (bytes_stand (filter (goes_to (1 + number place)) spilled));
    alike = place_alike place faced spilled distinct within alike;
  }

  -- no parcel goes to the stream of no place
  none_goes : (stream : ℕ) (faced : List Faced) (spilled : List Parcel) → ((k : ℕ) → k < count → 1 + number k ≢ stream) → HoldAlike spilled (flat_map parcels faced)
      → map faced_of (filter (goes_to stream) spilled) ≡ []
  none_goes stream faced spilled none alike =
      nil_from_length (map faced_of (filter (goes_to stream) spilled)) (
      sym (sum_ones (map faced_of (filter (goes_to stream) spilled)))
      ∙ (goes_to_sum (λ _. 1) stream spilled
      ∙ (alike (counted_to (λ _. 1) stream)
      ∙ (count_to (λ _. 1) stream faced
      ∙ (sum_same (λ x. total (λ k. cond (reached k x) (cond ((1 + number k) == stream) 1 0) 0) count) (λ _. 0) faced (λ x. total_nowhere number (λ k. reached k x) stream 1 count none)
      ∙ sum_zero faced)))))

  pub stays : (stream : ℕ) (faced : List Faced) (first : List (List ℕ)) (spilled : List Parcel) → ((k : ℕ) → k < count → 1 + number k ≢ stream) → HoldAlike spilled (flat_map parcels faced)
      → stream_of (appended first spilled) stream ≡ stream_of first stream
  stays stream faced first spilled none alike = elim (leb_tells (suc stream) (length first)) [
    | inl inside ↦
        appended_at first spilled stream (omega (arith, inside.1))
        ∙ (ap (λ l. stream_of first stream ++ l) (bytes_stand (filter (goes_to stream) spilled) ∙ ap (flat_map parcel_bytes) (none_goes stream faced spilled none alike))
        ∙ append-nil (stream_of first stream))
    | inr outside ↦
        get_or_past (appended first spilled) stream [] (omega (arith, outside.1, length_appended first spilled)) ∙ sym (get_or_past first stream [] (omega (arith, outside.1)))
  ]

-- ---- the parts of a grid

pub some_told : {A : Type 0} {a b : A} → Some a ≡ Some b → a ≡ b
some_told {A} {a} {b} same = ap (λ o. from_some a o) same
  where
    from_some : A → Option A → A
    from_some other None = other
    from_some other (Some x) = x

first_are : (grid : GridShape) (split : ℕ) (x : Faced) → parcels_of grid split x ≡ map (λ k. parcel_of x k) (filter (λ k. is_in_part grid split k x) (range_with_len 0 (8 ^ split)))
unfolding parcels_of
first_are grid split x = refl

partitioned : (grid : GridShape) (split : ℕ) (faced : List Faced) (first now : List (List ℕ)) (spilled : List Parcel) → now ≡ appended first spilled
    → HoldAlike spilled (flat_map (parcels_of grid split) faced) → IsPartitioned grid split faced first now
partitioned grid split faced first now spilled is alike = subst (λ streams. IsPartitioned grid split faced first streams) (sym is) (record {
  many = length_appended first spilled;
  parts = λ part inside within. stream_grew (parcels_of grid split) (is_in_part grid split) (λ k. k) (8 ^ split) (first_are grid split) part faced first spilled (λ k m same. same) inside within alike;
  front = stays (parcels_of grid split) (is_in_part grid split) (λ k. k) (8 ^ split) (first_are grid split) 0 faced first spilled (λ k within same. absurd (omega (arith, same))) alike;
  behind = λ stream beyond. stays (parcels_of grid split) (is_in_part grid split) (λ k. k) (8 ^ split) (first_are grid split) stream faced first spilled
      (λ k within same. absurd (omega (arith, same, within, beyond))) alike;
})

pub parts_spilled : PartsAreSpilled
parts_spilled grid split faced first now spills =
    partitioned grid split faced first now spills.parcels (some_told spills.grew)
    (λ f. ap (sum_by f) (sym (append-nil spills.parcels)) ∙ spills.alike f)

pub in_steps : SpillsInSteps
in_steps = record { none = none_spilled; more = spills_more }
