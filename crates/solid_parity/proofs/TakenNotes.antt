-- The parcels of a stream are noted one after another.
use Rattle.std.proofs.Common.{◌≡◌, ℕ, ◌≤◌, ◌^◌, ◌-◌, List, [], ◌∷◌, ◌++◌, Bool, length, get_or, replicate, Option, None, Some, Result, Ok, arith, refl, sym, ap, subst, ◌∙◌}
use Rattle.std.specs.Prelude.{IfSome, IsErr, true, false}
use Rattle.std.proofs.lemmas.Result.{IfOk-from_err}
use Rattle.std.proofs.lemmas.List.Sums.{sum_by_push}
use Rattle.std.proofs.lemmas.List.{append_assoc, append-nil, length-replicate}
use Rattle.bit_grid.specs.Places.{is_set_at}
use Rattle.bit_grid.specs.Touched.{AreTouched}
use Rattle.bit_grid.specs.declared.touched.TouchedBlocks.{TouchedBlocks}
use Rattle.bit_grid.proofs.PlacesLemmas.{unset_in_zeros}
use Rattle.svo_base.specs.GridShape.{GridShape}
use Rattle.octree_specs.specs.FacedTriangles.{Faced}
use Rattle.tri_partition.specs.PartStreams.{part_stream, parcels_in}
use Rattle.tri_partition.specs.Reading.{ReaderView, left_of}
use Rattle.morton_scan.proofs.TakenParcels.{at_start}
use Rattle.solid_parity.specs.Counts.{HasCounts, AddsCounts, AreKept, IsSettled, notes, noted_of, over_of}
use Rattle.solid_parity.specs.Notes.{is_highest}
use Rattle.solid_parity.specs.Parity.{one}
use Rattle.solid_parity.specs.PartCells.{Part, part_side}
use Rattle.solid_parity.specs.SolidParts.{HasParities, TakesNotes, TakesParities}
use Rattle.solid_parity.proofs.Counts.{adds_none, adds_then}
use Rattle.solid_parity.proofs.Overs.{parities_from, sums_up}

-- what is kept between parcels
pub record IsNoting (p : Part) (told : Option (List (List ℕ))) (old slots : List ℕ) (reader : ReaderView) : Type 0 where
  pub parcels : List Faced
  pub noted : AddsCounts (part_side p.grid p.split) (noted_of p parcels) old slots
  pub left : IfSome told (λ streams. parcels_in (part_stream streams p.part) ≡ parcels ++ left_of (part_stream streams p.part) reader)

pub none_noting : (p : Part) (told : Option (List (List ℕ))) (slots : List ℕ) (reader : ReaderView) → reader ≡ at_start p.part → IsNoting p told slots slots reader
none_noting p told slots reader is = record {
  parcels = [];
  noted = adds_none (part_side p.grid p.split) (noted_of p []) slots (λ x y z lx ly lz. refl);
  left = subst (λ r. IfSome told (λ streams. parcels_in (part_stream streams p.part) ≡ [] ++ left_of (part_stream streams p.part) r)) (sym is) (whole told);
}
  where
    whole : (known : Option (List (List ℕ))) → IfSome known (λ streams. parcels_in (part_stream streams p.part) ≡ [] ++ left_of (part_stream streams p.part) (at_start p.part))
    whole None = tt
    whole (Some streams) = refl

pub next_noting : (p : Part) (told : Option (List (List ℕ))) (old slots new : List ℕ) (reader moved : ReaderView) (x : Faced) → IsNoting p told old slots reader
    → AddsCounts (part_side p.grid p.split) (notes p x.triangle) slots new
    → IfSome told (λ streams. left_of (part_stream streams p.part) reader ≡ x ∷ left_of (part_stream streams p.part) moved)
    → IsNoting p told old new moved
next_noting p told old slots new reader moved x noting adds left = record {
  parcels = noting.parcels ++ x ∷ [];
  noted = adds_then (part_side p.grid p.split) (noted_of p noting.parcels) (notes p x.triangle) (noted_of p (noting.parcels ++ x ∷ [])) old slots new noting.noted adds
      (λ a b c la lb lc. sym (sum_by_push (λ f. one (is_highest p f.triangle a b c)) noting.parcels x));
  left = step told noting.left left;
}
  where
    step : (known : Option (List (List ℕ))) → IfSome known (λ streams. parcels_in (part_stream streams p.part) ≡ noting.parcels ++ left_of (part_stream streams p.part) reader)
        → IfSome known (λ streams. left_of (part_stream streams p.part) reader ≡ x ∷ left_of (part_stream streams p.part) moved)
        → IfSome known (λ streams. parcels_in (part_stream streams p.part) ≡ (noting.parcels ++ x ∷ []) ++ left_of (part_stream streams p.part) moved)
    step None whole next = tt
    step (Some streams) whole next = whole ∙ ap (λ rest. noting.parcels ++ rest) next ∙ sym (append_assoc noting.parcels (x ∷ []) (left_of (part_stream streams p.part) moved))

-- where a call is refused
pub noting_refused : {T E : Type 0} (p : Part) (told : Option (List (List ℕ))) (old slots : List ℕ) (reader : ReaderView) (result : Result T E) → IsErr result → IsNoting p told old slots reader → TakesNotes p told result old slots
noting_refused p told old slots reader result refused noting = record {
  parcels = noting.parcels;
  noted = noting.noted;
  all = IfOk-from_err result (λ _. IfSome told (λ streams. noting.parcels ≡ parcels_in (part_stream streams p.part))) refused;
}

-- at the stream's end
pub noting_ended : {T E : Type 0} (p : Part) (told : Option (List (List ℕ))) (old slots : List ℕ) (reader : ReaderView) (value : T) → IsNoting p told old slots reader
    → IfSome told (λ streams. left_of (part_stream streams p.part) reader ≡ []) → TakesNotes {T = T} {E = E} p told (Ok value) old slots
noting_ended p told old slots reader value noting none = record {
  parcels = noting.parcels;
  noted = noting.noted;
  all = whole told noting.left none;
}
  where
    whole : (known : Option (List (List ℕ))) → IfSome known (λ streams. parcels_in (part_stream streams p.part) ≡ noting.parcels ++ left_of (part_stream streams p.part) reader)
        → IfSome known (λ streams. left_of (part_stream streams p.part) reader ≡ []) → IfSome known (λ streams. noting.parcels ≡ parcels_in (part_stream streams p.part))
    whole None is ends = tt
    whole (Some streams) is ends = sym (is ∙ ap (λ rest. noting.parcels ++ rest) ends ∙ append-nil noting.parcels)

-- ---- the whole part

-- empty slots without marks
pub kept_empty : (p : Part) (slots marks : List ℕ) (blocks : TouchedBlocks) → part_side p.grid p.split ≤ 512 → 8 ^ (p.grid.depth - p.split) ≤ length slots → AreTouched slots blocks
    → ((place : ℕ) → get_or slots place 0 ≡ 0) → marks ≡ replicate 4096 0 → AreKept p slots blocks marks
kept_empty p slots marks blocks small room touched empty zeros = record {
  small = small;
  room = room;
  touched = touched;
  long = ap length zeros ∙ length-replicate {A = ℕ} 4096 0;
  marked = record {
    within = λ mark marked. absurd (differ (is_set_at marks mark) marked (unset_in_zeros marks 4096 zeros mark));
    empty = λ x y z lx ly lz unmarked. empty _;
  };
}
  where
    differ : (test : Bool) → test ≡ true → test ≡ false → ⊥
    differ test is is_not = absurd (cc)

-- notes in slots that were empty, settled
pub settled_parities : (grid : GridShape) (split part : ℕ) (parcels : List Faced) (old noted new : List ℕ) → split ≤ grid.depth → part_side grid split ≤ 512 → ((place : ℕ) → get_or old place 0 ≡ 0)
    → AddsCounts (part_side grid split) (noted_of (record { grid = grid; split = split; part = part }) parcels) old noted → IsSettled (part_side grid split) noted new
    → HasParities grid split part parcels new
settled_parities grid split part parcels old noted new shallow small empty adds settled =
    let p : Part = record { grid = grid; split = split; part = part } in
    let start : HasCounts (part_side grid split) (λ x y z. 0) old = λ x y z lx ly lz. empty _ in
    let counts : HasCounts (part_side grid split) (noted_of p parcels) noted = λ x y z lx ly lz. adds (λ a b c. 0) start x y z lx ly lz ∙ omega arith in
    parities_from grid split part parcels new shallow (omega (arith, small)) (settled (noted_of p parcels) (over_of p parcels) (sums_up p parcels) counts)

pub parities_taken : {T E : Type 0} (grid : GridShape) (split part : ℕ) (told : Option (List (List ℕ))) (noting : Result T E) (value : T) (old noted new : List ℕ) (p : Part) → split ≤ grid.depth → part_side grid split ≤ 512
    → ((place : ℕ) → get_or old place 0 ≡ 0) → p ≡ record { grid = grid; split = split; part = part } → noting ≡ Ok value → TakesNotes p told noting old noted → IsSettled (part_side p.grid p.split) noted new
    → TakesParities {T = T} {E = E} grid split part told (Ok value) new
parities_taken {T} {E} grid split part told noting value old noted new p shallow small empty is_part is_ok takes settled =
    let whole : Part = record { grid = grid; split = split; part = part } in
    let all : TakesNotes {T = T} {E = E} whole told (Ok value) old noted = subst (λ q. TakesNotes {T = T} {E = E} q told (Ok value) old noted) is_part (subst (λ r. TakesNotes p told r old noted) is_ok takes) in
    let then_settled : IsSettled (part_side grid split) noted new = subst (λ q. IsSettled (part_side q.grid q.split) noted new) is_part settled in
    record { parcels = all.parcels; filled = settled_parities grid split part all.parcels old noted new shallow small empty all.noted then_settled; all = all.all }
