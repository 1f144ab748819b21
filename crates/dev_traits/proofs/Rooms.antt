-- Lists with room as the streams of a scratch.
use Rattle.std.proofs.Common.{◌≡◌, ℕ, zero, suc, ◌+◌, ◌-◌, ◌<◌, ◌≤◌, List, [], ◌∷◌, ◌++◌, length, take, drop, map, slice_index_or, slice_set, replicate, arith, min, Option, refl, sym, ap, subst}
use Rattle.std.specs.List.{All}
use Rattle.std.proofs.lemmas.List.{drop-set-lt, length-set, length-append, length-take}
use Rattle.std.proofs.lemmas.List.Elements.{All-weaker, All-set, All-head, All-tail, All-drop, All-push}
use Rattle.dev_traits.specs.ScratchRooms.{AreRooms, AreMade}
use Rattle.dev_traits.specs.Streams.{grown, stream_of}
use Rattle.dev_traits.specs.Failing.{taken_of}
use Rattle.dev_traits.specs.declared.failing.PartFail.{PartFail}

pub rooms_made : {X : Type 0} (lists : List X) (items : X → List ℕ) (capacity : X → ℕ) (room : ℕ)
    → AreMade lists items capacity room → AreRooms lists items capacity 0 room
rooms_made lists items capacity room made = record {
  within = omega arith;
  rooms = All-weaker (λ list. (items list ≡ []) × (room ≤ capacity list)) (λ list. (length (items list) ≤ room) × (room ≤ capacity list))
      (λ list is. (rw is.0 (omega arith), is.1)) lists made;
  empty = All-weaker (λ list. (items list ≡ []) × (room ≤ capacity list)) (λ list. items list ≡ []) (λ list is. is.0) lists made;
}

-- lists that are empty, started
empty_front : {X : Type 0} (items : X → List ℕ) (count : ℕ) (lists : List X) → count ≤ length lists → All (λ list. items list ≡ []) lists
    → take count (map items lists) ≡ replicate count []
empty_front items zero lists within all = refl
empty_front items (suc count) [] within all = absurd (omega arith)
empty_front items (suc count) (list ∷ lists) within all =
    rw (All-head (λ list. items list ≡ []) list lists all)
    (ap (λ rest. [] ∷ rest) (empty_front items count lists (omega arith) (All-tail (λ list. items list ≡ []) list lists all)))

pub starts_empty : {X : Type 0} (lists : List X) (items : X → List ℕ) (capacity : X → ℕ) (started room count : ℕ)
    → AreRooms lists items capacity started room → started ≡ 0 → count ≤ length lists → take count (map items lists) ≡ replicate count []
starts_empty lists items capacity started room count rooms none within =
    empty_front items count lists within (subst (λ n. All (λ list. items list ≡ []) (drop n lists)) none rooms.empty)

pub rooms_started : {X : Type 0} (lists : List X) (items : X → List ℕ) (capacity : X → ℕ) (started room count : ℕ)
    → AreRooms lists items capacity started room → started ≡ 0 → count ≤ length lists → AreRooms lists items capacity count room
rooms_started lists items capacity started room count rooms none within = record {
  within = within;
  rooms = rooms.rooms;
  empty = All-drop (λ list. items list ≡ []) count lists (subst (λ n. All (λ list. items list ≡ []) (drop n lists)) none rooms.empty);
}

-- the stream of a list
pub stream_is : {X : Type 0} (items : X → List ℕ) (started stream : ℕ) (lists : List X) (list : X) → stream < started → started ≤ length lists
    → list ≡ slice_index_or lists stream list → stream_of (take started (map items lists)) stream ≡ items list
stream_is items zero stream lists list inside within is = absurd (omega arith)
stream_is items (suc started) stream [] list inside within is = absurd (omega arith)
stream_is items (suc started) zero (first ∷ lists) list inside within is = ap items (sym is)
stream_is items (suc started) (suc stream) (first ∷ lists) list inside within is =
    stream_is items started stream lists list (omega arith) (omega arith) is

pub length-grown : (streams : List (List ℕ)) (stream : ℕ) (bytes : List ℕ) → length (grown streams stream bytes) ≡ length streams
unfolding grown
length-grown [] stream bytes = refl
length-grown (first ∷ rest) zero bytes = refl
length-grown (first ∷ rest) (suc stream) bytes = ap suc (length-grown rest stream bytes)

-- a list that takes the place of a started one with some bytes more
pub grown_is : {X : Type 0} (items : X → List ℕ) (started stream : ℕ) (lists : List X) (longer : X) (bytes : List ℕ) → stream < started → started ≤ length lists
    → items longer ≡ stream_of (take started (map items lists)) stream ++ bytes
    → take started (map items (slice_set lists stream longer)) ≡ grown (take started (map items lists)) stream bytes
unfolding grown
grown_is items zero stream lists longer bytes inside within is = absurd (omega arith)
grown_is items (suc started) stream [] longer bytes inside within is = absurd (omega arith)
grown_is items (suc started) zero (list ∷ lists) longer bytes inside within is = ap (λ first. first ∷ take started (map items lists)) is
grown_is items (suc started) (suc stream) (list ∷ lists) longer bytes inside within is =
    ap (λ rest. items list ∷ rest) (grown_is items started stream lists longer bytes (omega arith) (omega arith) is)

-- so much of a piece as an entry and the room allow
pub grown_as : {X : Type 0} (items : X → List ℕ) (started stream : ℕ) (lists : List X) (old longer : X) (piece : List ℕ) (room taken : ℕ) (entry : Option PartFail)
    → stream < started → started ≤ length lists → old ≡ slice_index_or lists stream old → items longer ≡ items old ++ take taken piece
    → taken ≡ taken_of entry (min (length piece) (room - length (items old)))
    → take started (map items (slice_set lists stream longer))
    ≡ grown (take started (map items lists)) stream (take (taken_of entry (min (length piece) (room - length (stream_of (take started (map items lists)) stream)))) piece)
grown_as items started stream lists old longer piece room taken entry inside within is longer_is taken_is =
    let whole = stream_is items started stream lists old inside within is in
    let bytes = take (taken_of entry (min (length piece) (room - length (stream_of (take started (map items lists)) stream)))) piece in
    let same : items longer ≡ stream_of (take started (map items lists)) stream ++ bytes = rw (whole, ← taken_is) longer_is in
    grown_is items started stream lists longer bytes inside within same

pub rooms_grown : {X : Type 0} (lists : List X) (items : X → List ℕ) (capacity : X → ℕ) (started room stream : ℕ) (longer : X)
    → AreRooms lists items capacity started room → stream < started → length (items longer) ≤ room → room ≤ capacity longer
    → AreRooms (slice_set lists stream longer) items capacity started room
rooms_grown lists items capacity started room stream longer rooms inside fits has = record {
  within = rw (length-set lists stream longer) rooms.within;
  rooms = All-set (λ list. (length (items list) ≤ room) × (room ≤ capacity list)) lists stream longer (fits, has) rooms.rooms;
  empty = rw (drop-set-lt started lists stream longer inside) rooms.empty;
}

-- a further list is made
pub next_made : {X : Type 0} (lists pushed : List X) (list : X) (items : X → List ℕ) (capacity : X → ℕ) (room count : ℕ)
    → length lists ≡ count → AreMade lists items capacity room → items list ≡ [] → room ≤ capacity list → pushed ≡ lists ++ list ∷ []
    → (length pushed ≡ count + 1) × AreMade pushed items capacity room
next_made lists pushed list items capacity room count long made none has is = (
  rw (is, length-append lists (list ∷ [])) (omega (arith, long)),
  subst (λ xs. AreMade xs items capacity room) (sym is) (All-push (λ list. (items list ≡ []) × (room ≤ capacity list)) lists list made (none, has)),
)

pub is_started : {X : Type 0} (items : X → List ℕ) (started stream : ℕ) (lists : List X)
    → stream < length (take started (map items lists)) → stream < started
is_started items started stream lists inside = omega (arith, length-take started (map items lists))
