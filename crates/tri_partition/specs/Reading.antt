-- What a reader of a stream of parcels does.
use Rattle.std.specs.Prelude.{◌≡◌, ℕ, ◌+◌, ◌≤◌, ◌<◌, List, [], ◌∷◌, length, take, drop, Option, Result, IfOk, MatchOption, MatchResult}
use Rattle.octree_specs.specs.FacedTriangles.{Faced}
use Rattle.room_plan.specs.declared.elements.Parcel.{Parcel}
use Rattle.tri_partition.specs.PartStreams.{faced_of, parcel_from, parcels_in}

-- the part whose stream it reads, the place of the stream behind the parcels that it gave, and the bytes from there on that it read and did not give yet
pub record ReaderView : Type 0 where
  pub part : ℕ
  pub place : ℕ
  pub held : List ℕ

-- what it has still to give of a stream
abbrev pub left_of : List ℕ → ReaderView → List Faced
left_of bytes reader = parcels_in (drop reader.place bytes)

-- the bytes that it holds still stand in the stream, at the same places
abbrev pub StillHolds : List ℕ → ReaderView → Type 0
StillHolds bytes reader = reader.held ≡ take (length reader.held) (drop reader.place bytes)

-- a parcel is what the stream's next 40 bytes stand for
pub record IsNext (bytes : List ℕ) (old new : ReaderView) (parcel : Parcel) : Type 0 where
  pub whole : old.place + 40 ≤ length bytes
  pub stands : faced_of parcel ≡ parcel_from (take 40 (drop old.place bytes))
  pub left : left_of bytes old ≡ faced_of parcel ∷ left_of bytes new

-- none is given, since fewer than 40 bytes are left
pub record HasNoNext (bytes : List ℕ) (old : ReaderView) : Type 0 where
  pub cut : length bytes < old.place + 40
  pub left : left_of bytes old ≡ []

-- the next parcel of a stream, or none exactly where it has no whole one any more
pub record GivesNext {E : Type 0} (bytes : List ℕ) (old new : ReaderView) (result : Result (Option Parcel) E) : Type 0 where
  pub answer : IfOk result (λ next. MatchOption next (HasNoNext bytes old) (IsNext bytes old new))
  pub holds : StillHolds bytes new

-- a parcel of the reader's part brings it on by 40 bytes; it stays as it was where it gives none and where it is refused
abbrev pub GoesOn : {E : Type 0} → ReaderView → ReaderView → Result (Option Parcel) E → Type 0
GoesOn old new result =
    MatchResult result
    (λ next. MatchOption next (new ≡ old) (λ parcel. (parcel.part ≡ old.part) × (new.part ≡ old.part) × (new.place ≡ old.place + 40)))
    (λ _. new ≡ old)
