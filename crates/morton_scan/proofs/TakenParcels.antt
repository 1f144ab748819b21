-- The parcels of a stream are taken one after another.
use Rattle.std.proofs.Common.{◌≡◌, ℕ, ◌+◌, ◌-◌, ◌*◌, ◌^◌, ◌≤◌, Bool, List, [], ◌∷◌, ◌++◌, length, map, min, get_or, Option, None, Some, Result, Ok, Err, arith, refl, sym, ap, subst, ◌∙◌}
use Rattle.std.specs.Prelude.{IfSome, IsErr}
use Rattle.std.proofs.lemmas.Result.{IfOk-from_err}
use Rattle.std.specs.List.{sum_by}
use Rattle.std.proofs.lemmas.List.Sums.{sum_by_push, sum_by-cons}
use Rattle.std.proofs.lemmas.List.{append_assoc, append-nil, map-append}
use Rattle.svo_base.specs.GridShape.{GridShape}
use Rattle.octree_specs.specs.FacedTriangles.{Faced}
use Rattle.octree_specs.specs.Parcels.{HoldAlike}
use Rattle.octree_specs.specs.Parts.{passing, PassWhereMet}
use Rattle.grid_parts.proofs.PartCells.{any_alike, fills, slot_by_tests}
use Rattle.room_plan.specs.declared.elements.Parcel.{Parcel}
use Rattle.tri_partition.specs.PartStreams.{faced_of, part_stream, parcels_in}
use Rattle.tri_partition.specs.Reading.{GivesNext, GoesOn, ReaderView, StillHolds, left_of}
use Rattle.morton_scan.specs.FilledParts.{AddsTriangles, HasSlotsFor, TakesParcels, TestEachParcel, limited, tests_of}
use Rattle.morton_scan.specs.Putting.{ArePut, MeetsInPart, first_of_part}
use Rattle.morton_scan.proofs.FilledParts.{no_triangle, triangle_more}

-- what is kept between parcels: those so far were taken, and the others are still to be read
pub record IsTaking (grid : GridShape) (split part : ℕ) (told : Option (List (List ℕ))) (old slots : List ℕ) (before now : ℕ) (reader : ReaderView) : Type 0 where
  pub parcels : List Faced
  pub taken : AddsTriangles grid split part old slots (map limited parcels)
  pub tests : (test : Faced → ℕ → ℕ → Bool) → TestEachParcel grid test → now ≤ before + tests_of grid split part test parcels
  pub left : IfSome told (λ streams. parcels_in (part_stream streams part) ≡ parcels ++ left_of (part_stream streams part) reader)

-- before the first parcel
pub none_taken : (grid : GridShape) (split part : ℕ) (told : Option (List (List ℕ))) (slots : List ℕ) (tests : ℕ) → IsTaking grid split part told slots slots tests tests (record { part = part; place = 0; held = [] })
none_taken grid split part told slots tests = record {
  parcels = [];
  taken = λ faced has. rw (append-nil faced) has;
  tests = λ test each. omega arith;
  left = at_start told;
}
  where
    at_start : (known : Option (List (List ℕ))) → IfSome known (λ streams. parcels_in (part_stream streams part) ≡ [] ++ left_of (part_stream streams part) (record { part = part; place = 0; held = [] }))
    at_start None = tt
    at_start (Some streams) = refl

-- nothing was taken where the first call was refused
pub none_refused : {T E : Type 0} (grid : GridShape) (split part : ℕ) (told : Option (List (List ℕ))) (slots : List ℕ) (tests : ℕ) (result : Result T E) → IsErr result
    → TakesParcels grid split part told tests tests result (AddsTriangles grid split part slots slots)
none_refused grid split part told slots tests result refused = record {
  parcels = [];
  taken = λ faced has. rw (append-nil faced) has;
  tests = λ test each. omega arith;
  front = all_left told;
  all = IfOk-from_err result (λ _. IfSome told (λ streams. [] ≡ parcels_in (part_stream streams part))) refused;
}
  where
    all_left : (known : Option (List (List ℕ))) → IfSome known (λ streams. (rest : List Faced) × (parcels_in (part_stream streams part) ≡ [] ++ rest))
    all_left None = tt
    all_left (Some streams) = (parcels_in (part_stream streams part), refl)

-- an item that comes last in place of first
behind : {A : Type 0} (x : A) (xs : List A) → HoldAlike (x ∷ xs) (xs ++ x ∷ [])
behind x xs f =
    let first : sum_by f (x ∷ xs) ≡ f x + sum_by f xs = sum_by-cons f x xs in
    let last : sum_by f (xs ++ x ∷ []) ≡ sum_by f xs + f x = sum_by_push f xs x in
    omega (arith, first, last)

-- one triangle more, behind the others
triangle_behind : (grid : GridShape) (split part : ℕ) (x : Faced) (faced : List Faced) (old new : List ℕ) → HasSlotsFor grid split part faced old
    → ArePut (MeetsInPart grid split part x.triangle) (first_of_part grid split part) x.face old new → HasSlotsFor grid split part (faced ++ x ∷ []) new
triangle_behind grid split part x faced old new before are_put place within =
    slot_by_tests grid (first_of_part grid split part + place) (get_or new place 0) (x ∷ faced) (faced ++ x ∷ [])
    (λ face. any_alike (fills grid (first_of_part grid split part + place) face) (x ∷ faced) (faced ++ x ∷ []) (behind x faced))
    (triangle_more grid split part x faced old new before are_put place within)

-- the next parcel is taken
pub next_taken : (grid : GridShape) (split part : ℕ) (told : Option (List (List ℕ))) (old slots new : List ℕ) (before now after : ℕ) (reader moved : ReaderView) (x : Faced)
    → IsTaking grid split part told old slots before now reader
    → ArePut (MeetsInPart grid split part x.triangle) (first_of_part grid split part) (min x.face (2 ^ 32 - 2)) slots new
    → ((test : ℕ → ℕ → Bool) → PassWhereMet grid x.triangle test → after ≤ now + 1 + 8 * passing test (grid.depth - split) part)
    → IfSome told (λ streams. left_of (part_stream streams part) reader ≡ x ∷ left_of (part_stream streams part) moved)
    → IsTaking grid split part told old new before after moved
next_taken grid split part told old slots new before now after reader moved x taking are_put counted left = record {
  parcels = taking.parcels ++ x ∷ [];
  taken = λ faced has.
      let more : HasSlotsFor grid split part ((faced ++ map limited taking.parcels) ++ limited x ∷ []) new =
      triangle_behind grid split part (limited x) (faced ++ map limited taking.parcels) slots new (taking.taken faced has) are_put in
      let grouped : (faced ++ map limited taking.parcels) ++ limited x ∷ [] ≡ faced ++ map limited (taking.parcels ++ x ∷ []) =
      append_assoc faced (map limited taking.parcels) (limited x ∷ []) ∙ ap (λ rest. faced ++ rest) (sym (map-append limited taking.parcels (x ∷ []))) in
      subst (λ faced. HasSlotsFor grid split part faced new) grouped more;
  tests = λ test each.
      let so_far = taking.tests test each in
      let one = counted (test x) (each x) in
      let all = sum_by_push (λ y. 1 + 8 * passing (test y) (grid.depth - split) part) taking.parcels x in
      omega (arith, so_far, one, all);
  left = step told taking.left left;
}
  where
    step : (known : Option (List (List ℕ))) → IfSome known (λ streams. parcels_in (part_stream streams part) ≡ taking.parcels ++ left_of (part_stream streams part) reader)
        → IfSome known (λ streams. left_of (part_stream streams part) reader ≡ x ∷ left_of (part_stream streams part) moved)
        → IfSome known (λ streams. parcels_in (part_stream streams part) ≡ (taking.parcels ++ x ∷ []) ++ left_of (part_stream streams part) moved)
    step None whole next = tt
    step (Some streams) whole next = whole ∙ ap (λ rest. taking.parcels ++ rest) next ∙ sym (append_assoc taking.parcels (x ∷ []) (left_of (part_stream streams part) moved))

-- where a call is refused
pub refused_after : {T E : Type 0} (grid : GridShape) (split part : ℕ) (told : Option (List (List ℕ))) (old slots : List ℕ) (before now : ℕ) (reader : ReaderView) (fault : E)
    → IsTaking grid split part told old slots before now reader
    → TakesParcels {T = T} {E = E} grid split part told before now (Err fault) (AddsTriangles grid split part old slots)
refused_after grid split part told old slots before now reader fault taking = record {
  parcels = taking.parcels;
  taken = taking.taken;
  tests = taking.tests;
  front = rest told taking.left;
  all = tt;
}
  where
    rest : (known : Option (List (List ℕ))) → IfSome known (λ streams. parcels_in (part_stream streams part) ≡ taking.parcels ++ left_of (part_stream streams part) reader)
        → IfSome known (λ streams. (rest : List Faced) × (parcels_in (part_stream streams part) ≡ taking.parcels ++ rest))
    rest None whole = tt
    rest (Some streams) whole = (left_of (part_stream streams part) reader, whole)

-- at the stream's end
pub taken_at_end : {T E : Type 0} (grid : GridShape) (split part : ℕ) (told : Option (List (List ℕ))) (old slots : List ℕ) (before now : ℕ) (reader : ReaderView) (value : T)
    → IsTaking grid split part told old slots before now reader → IfSome told (λ streams. left_of (part_stream streams part) reader ≡ [])
    → TakesParcels {T = T} {E = E} grid split part told before now (Ok value) (AddsTriangles grid split part old slots)
taken_at_end grid split part told old slots before now reader value taking none = record {
  parcels = taking.parcels;
  taken = taking.taken;
  tests = taking.tests;
  front = rest told taking.left;
  all = whole told taking.left none;
}
  where
    rest : (known : Option (List (List ℕ))) → IfSome known (λ streams. parcels_in (part_stream streams part) ≡ taking.parcels ++ left_of (part_stream streams part) reader)
        → IfSome known (λ streams. (rest : List Faced) × (parcels_in (part_stream streams part) ≡ taking.parcels ++ rest))
    rest None whole = tt
    rest (Some streams) whole = (left_of (part_stream streams part) reader, whole)

    whole : (known : Option (List (List ℕ))) → IfSome known (λ streams. parcels_in (part_stream streams part) ≡ taking.parcels ++ left_of (part_stream streams part) reader)
        → IfSome known (λ streams. left_of (part_stream streams part) reader ≡ []) → IfSome known (λ streams. taking.parcels ≡ parcels_in (part_stream streams part))
    whole None is none = tt
    whole (Some streams) is none = sym (is ∙ ap (λ rest. taking.parcels ++ rest) none ∙ append-nil taking.parcels)

-- ---- what the reader's answers say

abbrev pub at_start : ℕ → ReaderView
at_start part = record { part = part; place = 0; held = [] }

-- a fresh reader holds nothing
pub fresh_holds : (told : Option (List (List ℕ))) (part : ℕ) (reader : ReaderView) → reader ≡ at_start part → IfSome told (λ streams. StillHolds (part_stream streams part) reader)
fresh_holds None part reader is = tt
fresh_holds (Some streams) part reader is = subst (λ r. StillHolds (part_stream streams part) r) (sym is) refl

-- the length that a fresh reader asks for is that of the part's stream
pub known_end : (told : Option (List (List ℕ))) (part : ℕ) (reader : ReaderView) → reader ≡ at_start part → (end : ℕ)
    → IfSome told (λ streams. end ≡ length (part_stream streams reader.part)) → IfSome told (λ streams. end ≡ length (part_stream streams part))
known_end None part reader is end asked = tt
known_end (Some streams) part reader is end asked = subst (λ r. end ≡ length (part_stream streams r.part)) is asked

-- a parcel that was given is the first that is left
pub given_left : {E : Type 0} (told now : Option (List (List ℕ))) (part number : ℕ) (reader moved : ReaderView) (result : Result (Option Parcel) E) (parcel : Parcel)
    → now ≡ told → number ≡ part → result ≡ Ok (Some parcel)
    → IfSome now (λ streams. GivesNext (part_stream streams number) reader moved result)
    → IfSome told (λ streams. left_of (part_stream streams part) reader ≡ faced_of parcel ∷ left_of (part_stream streams part) moved)
given_left {E} told now part number reader moved result parcel is_told is_part is_result gives =
    step told (subst (λ k. IfSome k (λ streams. GivesNext {E = E} (part_stream streams part) reader moved (Ok (Some parcel)))) is_told
    (subst (λ r. IfSome now (λ streams. GivesNext (part_stream streams part) reader moved r)) is_result
    (subst (λ n. IfSome now (λ streams. GivesNext (part_stream streams n) reader moved result)) is_part gives)))
  where
    step : (known : Option (List (List ℕ))) → IfSome known (λ streams. GivesNext {E = E} (part_stream streams part) reader moved (Ok (Some parcel)))
        → IfSome known (λ streams. left_of (part_stream streams part) reader ≡ faced_of parcel ∷ left_of (part_stream streams part) moved)
    step None gives = tt
    step (Some streams) gives = gives.answer.left

-- and what the reader then holds still stands
pub given_holds : {E : Type 0} (told now : Option (List (List ℕ))) (part number : ℕ) (reader moved : ReaderView) (result : Result (Option Parcel) E)
    → now ≡ told → number ≡ part
    → IfSome now (λ streams. GivesNext (part_stream streams number) reader moved result) → IfSome told (λ streams. StillHolds (part_stream streams part) moved)
given_holds {E} told now part number reader moved result is_told is_part gives =
    step told (subst (λ k. IfSome k (λ streams. GivesNext (part_stream streams part) reader moved result)) is_told
    (subst (λ n. IfSome now (λ streams. GivesNext (part_stream streams n) reader moved result)) is_part gives))
  where
    step : (known : Option (List (List ℕ))) → IfSome known (λ streams. GivesNext {E = E} (part_stream streams part) reader moved result) → IfSome known (λ streams. StillHolds (part_stream streams part) moved)
    step None gives = tt
    step (Some streams) gives = gives.holds

-- where none is given, none is left
pub none_left : {E : Type 0} (told now : Option (List (List ℕ))) (part number : ℕ) (reader moved : ReaderView) (result : Result (Option Parcel) E)
    → now ≡ told → number ≡ part → result ≡ Ok None
    → IfSome now (λ streams. GivesNext (part_stream streams number) reader moved result) → IfSome told (λ streams. left_of (part_stream streams part) reader ≡ [])
none_left {E} told now part number reader moved result is_told is_part is_result gives =
    step told (subst (λ k. IfSome k (λ streams. GivesNext {E = E} (part_stream streams part) reader moved (Ok None))) is_told
    (subst (λ r. IfSome now (λ streams. GivesNext (part_stream streams part) reader moved r)) is_result
    (subst (λ n. IfSome now (λ streams. GivesNext (part_stream streams n) reader moved result)) is_part gives)))
  where
    step : (known : Option (List (List ℕ))) → IfSome known (λ streams. GivesNext {E = E} (part_stream streams part) reader moved (Ok None)) → IfSome known (λ streams. left_of (part_stream streams part) reader ≡ [])
    step None gives = tt
    step (Some streams) gives = gives.answer.left

-- a parcel leaves the reader's part
pub moved_part : {E : Type 0} (reader moved : ReaderView) (result : Result (Option Parcel) E) (parcel : Parcel) → result ≡ Ok (Some parcel) → GoesOn reader moved result → (moved.part ≡ reader.part) × (moved.place ≡ reader.place + 40)
moved_part {E} reader moved result parcel is goes =
    let on : GoesOn {E = E} reader moved (Ok (Some parcel)) = subst (λ r. GoesOn reader moved r) is goes in
    (on.1, on.2)

-- slots that were empty are those of the parcels alone
pub taken_alone : {T E : Type 0} (grid : GridShape) (split part : ℕ) (told : Option (List (List ℕ))) (old new : List ℕ) (before after : ℕ) (result : Result T E)
    → ((place : ℕ) → get_or old place 0 ≡ 0) → TakesParcels grid split part told before after result (AddsTriangles grid split part old new)
    → TakesParcels grid split part told before after result (λ parcels. HasSlotsFor grid split part parcels new)
taken_alone grid split part told old new before after result zeros takes = record {
  parcels = takes.parcels;
  taken = takes.taken [] (no_triangle grid split part old zeros);
  tests = takes.tests;
  front = takes.front;
  all = takes.all;
}
