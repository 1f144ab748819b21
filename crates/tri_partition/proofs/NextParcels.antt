-- The next parcel of a reader, from what it holds.
use Rattle.std.proofs.Common.{◌≡◌, ◌≢◌, ◌≤◌, ◌<◌, ◌+◌, ℕ, List, [], ◌∷◌, length, drop, take, min, Some, None, Ok, arith, subst, sym, ap, ◌∙◌}
use Rattle.std.specs.Prelude.{Option, IfSome}
use Rattle.std.proofs.lemmas.List.{length-take, length-drop, drop-take, drop-drop, take-take}
use Rattle.room_plan.specs.declared.elements.Parcel.{Parcel}
use Rattle.tri_partition.specs.PartStreams.{faced_of, parcel_from, parcels_in, part_stream}
use Rattle.tri_partition.specs.Reading.{ReaderView, StillHolds, IsNext, GivesNext}
use Rattle.tri_partition.proofs.Held.{no_parcel, next_parcel}

-- a reader that holds nothing after it looked for more held nothing before
stays_at : (part place : ℕ) (held : List ℕ) (new : ReaderView) → new.part ≡ part → new.place ≡ place → new.held ≡ []
    → (held ≢ [] → new ≡ record { part = part; place = place; held = held }) → new ≡ record { part = part; place = place; held = held }
stays_at part place [] new p q none kept = λ i. record { part = p i; place = q i; held = none i }
stays_at part place (byte ∷ rest) new p q none kept = kept (λ e. absurd (omega (arith, ap length e)))

pub stays : (old new : ReaderView) → new.part ≡ old.part → new.place ≡ old.place → new.held ≡ [] → (old.held ≢ [] → new ≡ old) → new ≡ old
stays old new p q none kept = stays_at old.part old.place old.held new p q none kept

pub gives_none : (E : Type 0) (told : Option (List (List ℕ))) (part : ℕ) (old new : ReaderView) → new.held ≡ []
    → IfSome told (λ streams. StillHolds (part_stream streams part) new) → IfSome told (λ streams. new.held ≡ [] → length (part_stream streams part) < old.place + 40)
    → IfSome told (λ streams. GivesNext {E = E} (part_stream streams part) old new (Ok None))
gives_none E None part old new none holds few = tt
gives_none E (Some streams) part old new none holds few =
    let bytes : List ℕ = part_stream streams part in
    let cut : length bytes < old.place + 40 = few none in
    record { answer = record { cut = cut; left = no_parcel (drop old.place bytes) (omega (arith, cut, length-drop old.place bytes)) }; holds = holds }

-- a parcel is the front of the bytes held, and what is held then is what is behind it
next_of : (bytes : List ℕ) (part place : ℕ) (held : List ℕ) (old : ReaderView) (parcel : Parcel) → old.place ≡ place → 40 ≤ length held
    → held ≡ take (length held) (drop place bytes) → faced_of parcel ≡ parcel_from (take 40 held)
    → IsNext bytes old (record { part = part; place = place + 40; held = drop 40 held }) parcel
next_of bytes part place held old parcel at some holds faced =
    let rest : List ℕ = drop place bytes in
    let same_rest : drop old.place bytes ≡ rest = ap (λ n. drop n bytes) at in
    let long : length held ≡ min (length held) (length rest) = ap length holds ∙ length-take (length held) rest in
    let enough : 40 ≤ length rest = omega (arith, long, some) in
    let whole : place + 40 ≤ length bytes = omega (arith, enough, length-drop place bytes) in
    let front : take 40 held ≡ take 40 rest = ap (take 40) holds ∙ take-take 40 (length held) rest some in
    let parcel_is : faced_of parcel ≡ parcel_from (take 40 rest) = faced ∙ ap parcel_from front in
    record {
      whole = omega (arith, whole, at);
      stands = parcel_is ∙ ap (λ l. parcel_from (take 40 l)) (sym same_rest);
      left =
          ap parcels_in same_rest
          ∙ (next_parcel rest enough
          ∙ (ap (λ x. x ∷ parcels_in (drop 40 rest)) (sym parcel_is) ∙ ap (λ l. faced_of parcel ∷ parcels_in l) (drop-drop 40 place bytes)));
    }

holds_behind : (bytes : List ℕ) (place : ℕ) (held : List ℕ) → 40 ≤ length held → held ≡ take (length held) (drop place bytes)
    → drop 40 held ≡ take (length (drop 40 held)) (drop (place + 40) bytes)
holds_behind bytes place held some holds =
    let count : length held ≡ 40 + length (drop 40 held) = omega (arith, length-drop 40 held) in
    ap (drop 40) holds
    ∙ (ap (λ n. drop 40 (take n (drop place bytes))) count
    ∙ (drop-take 40 (length (drop 40 held)) (drop place bytes) ∙ ap (take (length (drop 40 held))) (drop-drop 40 place bytes)))

pub gives_some : (E : Type 0) (told : Option (List (List ℕ))) (part : ℕ) (old middle new : ReaderView) (parcel : Parcel)
    → middle.place ≡ old.place → 40 ≤ length middle.held → faced_of parcel ≡ parcel_from (take 40 middle.held)
    → new ≡ record { part = middle.part; place = middle.place + 40; held = drop 40 middle.held }
    → IfSome told (λ streams. StillHolds (part_stream streams part) middle)
    → IfSome told (λ streams. GivesNext {E = E} (part_stream streams part) old new (Ok (Some parcel)))
gives_some E None part old middle new parcel place some faced after holds = tt
gives_some E (Some streams) part old middle new parcel place some faced after holds =
    let bytes : List ℕ = part_stream streams part in
    subst (λ view. GivesNext {E = E} bytes old view (Ok (Some parcel))) (sym after) (record {
      answer = next_of bytes middle.part middle.place middle.held old parcel (sym place) some holds faced;
      holds = holds_behind bytes middle.place middle.held some holds;
    })
