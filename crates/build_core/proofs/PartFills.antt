-- The slots of a part, from its stream: they are those that all triangles give its cells, and its tests are few.
use Rattle.std.proofs.Common.{◌≡◌, ℕ, zero, suc, ◌+◌, ◌-◌, ◌*◌, ◌^◌, ◌<◌, ◌≤◌, min, List, [], ◌∷◌, ◌++◌, map, filter, get_or, Bool, inl, inr, arith, refl, sym, subst, ap, ◌∙◌, add-one, mul-le-mul_right, lit<}
use Rattle.std.specs.Prelude.{Option, IfSome, All}
use Rattle.std.specs.List.{sum_by}
use Rattle.std.proofs.lemmas.Bool.{cases_Bool}
use Rattle.std.proofs.lemmas.Nat.{pow-add}
use Rattle.std.proofs.Math.Nat.{pow-le-pow_right}
use Rattle.std.proofs.lemmas.List.Elements.{All-nil, All-cons, All-head, All-tail}
use Rattle.std.proofs.lemmas.List.Sums.{sum_by-cons, sum_by-append}
use Rattle.svo_base.specs.declared.grids.TheConstants.{MAX_DEPTH}
use Rattle.svo_base.specs.GridShape.{GridShape}
use Rattle.octree_specs.specs.FacedTriangles.{Faced}
use Rattle.octree_specs.specs.FilledCells.{MeetsCell, IsLeastFace, IsSlotOf}
use Rattle.octree_specs.specs.Parcels.{HoldAlike}
use Rattle.octree_specs.specs.Parts.{part_with, is_in_part, part_of, passing}
use Rattle.morton_code.proofs.Children.{are_ranges}
use Rattle.grid_parts.proofs.PartCells.{fills_part, of_any}
use Rattle.tri_partition.specs.PartStreams.{part_stream, parcels_in}
use Rattle.morton_scan.specs.FilledParts.{HasSlotsFor, limited, tests_of}
use Rattle.morton_scan.specs.Putting.{first_of_part}
use Rattle.build_core.specs.Pushing.{AreSlotsOf}
use Rattle.build_core.specs.ScratchParts.{HasPartOf}

-- ---- faces within the limit stay as they are

limited_is : (x : Faced) → x.face ≤ 2 ^ 32 - 2 → limited x ≡ x
limited_is x small =
    let same : min x.face (2 ^ 32 - 2) ≡ x.face = omega (arith, small) in
    λ i. record { triangle = x.triangle; face = same i }

sum_limited : (f : Faced → ℕ) (xs : List Faced) → sum_by f (map limited xs) ≡ sum_by (λ x. f (limited x)) xs
sum_limited f [] = refl
sum_limited f (x ∷ xs) =
    sum_by-cons f (limited x) (map limited xs) ∙ (ap (λ n. f (limited x) + n) (sum_limited f xs) ∙ sym (sum_by-cons (λ x. f (limited x)) x xs))

kept : (f : Faced → ℕ) (p : Faced → Bool) (xs : List Faced) → All (λ x. x.face ≤ 2 ^ 32 - 2) xs → sum_by (λ x. f (limited x)) (filter p xs) ≡ sum_by f (filter p xs)
kept f p [] small = refl
kept f p (x ∷ xs) small =
    let later = kept f p xs (All-tail (λ x. x.face ≤ 2 ^ 32 - 2) x xs small) in
    let here : f (limited x) ≡ f x = ap f (limited_is x (All-head (λ x. x.face ≤ 2 ^ 32 - 2) x xs small)) in
    elim (cases_Bool (p x)) [
      | inl passes ↦ rw passes
          (sum_by-cons (λ x. f (limited x)) x (filter p xs) ∙ ((λ i. here i + later i) ∙ sym (sum_by-cons f x (filter p xs))))
      | inr fails ↦ rw fails later
    ]

-- the parcels with limited faces are the part's triangles, in any order
limited_alike : (grid : GridShape) (split part : ℕ) (stream faced : List Faced) → All (λ x. x.face ≤ 2 ^ 32 - 2) faced
    → HoldAlike stream (part_of grid split part faced) → HoldAlike (map limited stream) (part_of grid split part faced)
limited_alike grid split part stream faced small alike f =
    sum_limited f stream ∙ (alike (λ x. f (limited x)) ∙ kept f (is_in_part grid split part) faced small)

-- ---- slots

in_part : (grid : GridShape) (split part place : ℕ) → place < 8 ^ (grid.depth - split) → part_with grid split (first_of_part grid split part + place) ≡ part
in_part grid split part place within =
    let from : part * 8 ^ (grid.depth - split) ≤ part * 8 ^ (grid.depth - split) + place = omega arith in
    let to : part * 8 ^ (grid.depth - split) + place < (part + 1) * 8 ^ (grid.depth - split) = omega (arith, within) in
    (are_ranges (grid.depth - split) (part * 8 ^ (grid.depth - split) + place) part).1 (from, to)

pub part_slots : (grid : GridShape) (split part : ℕ) (told : Option (List (List ℕ))) (parcels : List Faced) (slots : List ℕ) → split ≤ grid.depth
    → HasSlotsFor grid split part (map limited parcels) slots → IfSome told (λ streams. parcels ≡ parcels_in (part_stream streams part))
    → (faced : List Faced) → HasPartOf grid split part told faced → AreSlotsOf slots (first_of_part grid split part) (8 ^ (grid.depth - split)) grid faced
part_slots grid split part told parcels slots within has all faced known place inside =
    let code : ℕ = first_of_part grid split part + place in
    let whole : parcels ≡ parcels_in (part_stream known.streams part) = subst (λ o. IfSome o (λ streams. parcels ≡ parcels_in (part_stream streams part))) known.are_told all in
    let alike : HoldAlike parcels (part_of grid split part faced) = subst (λ l. HoldAlike l (part_of grid split part faced)) (sym whole) known.parcels in
    let same : HoldAlike (map limited parcels) (part_of grid split part faced) = limited_alike grid split part parcels faced known.faces alike in
    fills_part grid split code (get_or slots place 0) faced (map limited parcels) within
    (subst (λ p. HoldAlike (map limited parcels) (part_of grid split p faced)) (sym (in_part grid split part place inside)) same) (has place inside)

all_limited : (xs : List Faced) → All (λ x. x.face ≤ 2 ^ 32 - 2) (map limited xs)
all_limited [] = All-nil (λ (x : Faced). x.face ≤ 2 ^ 32 - 2)
all_limited (x ∷ xs) = All-cons (λ (x : Faced). x.face ≤ 2 ^ 32 - 2) (limited x) (map limited xs) (omega arith) (all_limited xs)

slot_narrow : (grid : GridShape) (parcels : List Faced) (code slot : ℕ) → IsSlotOf grid (map limited parcels) code slot → slot < 2 ^ 32
slot_narrow grid parcels code zero is = omega arith
slot_narrow grid parcels code (suc face) is =
    let least : IsLeastFace grid (map limited parcels) code face = is.some face (sym (add-one face)) in
    let small : face ≤ 2 ^ 32 - 2 = of_any (λ x. x.face ≤ 2 ^ 32 - 2) (λ x. (x.face ≡ face) × MeetsCell grid code x) (map limited parcels) (all_limited parcels)
    (λ x within met. subst (λ f. f ≤ 2 ^ 32 - 2) met.0 within) least.met in
    omega (arith, small)

-- they have 32 bits
pub slots_narrow : (grid : GridShape) (split part : ℕ) (parcels : List Faced) (slots : List ℕ) (codes : ℕ) → codes ≡ 8 ^ (grid.depth - split)
    → HasSlotsFor grid split part (map limited parcels) slots → (place : ℕ) → place < codes → get_or slots place 0 < 2 ^ 32
slots_narrow grid split part parcels slots codes same has place within =
    slot_narrow grid parcels (first_of_part grid split part + place) (get_or slots place 0) (has place (subst (λ n. place < n) same within))

-- ---- tests

-- the first parcels of a part's stream take no more tests than all triangles that reach the part
pub part_tests : (grid : GridShape) (split part : ℕ) (told : Option (List (List ℕ))) (parcels : List Faced) (test : Faced → ℕ → ℕ → Bool) (faced : List Faced)
    → IfSome told (λ streams. (rest : List Faced) × (parcels_in (part_stream streams part) ≡ parcels ++ rest)) → HasPartOf grid split part told faced
    → tests_of grid split part test parcels ≤ tests_of grid split part test (part_of grid split part faced)
part_tests grid split part told parcels test faced front known =
    let f : Faced → ℕ = λ x. 1 + 8 * passing (test x) (grid.depth - split) part in
    let some = subst (λ o. IfSome o (λ streams. (rest : List Faced) × (parcels_in (part_stream streams part) ≡ parcels ++ rest))) known.are_told front in
    let all : sum_by f (parcels_in (part_stream known.streams part)) ≡ sum_by f parcels + sum_by f some.0 = ap (sum_by f) some.1 ∙ sum_by-append f parcels some.0 in
    omega (arith, all, known.parcels f)

-- ---- codes

-- the cells of a part are the grid's
pub part_inside : (depth split part : ℕ) → split ≤ depth → part < 8 ^ split → (part + 1) * 8 ^ (depth - split) ≤ 8 ^ depth
part_inside depth split part within below =
    let power : 8 ^ (split + (depth - split)) ≡ 8 ^ split * 8 ^ (depth - split) = pow-add 8 split (depth - split) in
    let same : split + (depth - split) ≡ depth = omega (arith, within) in
    let less : (part + 1) * 8 ^ (depth - split) ≤ 8 ^ split * 8 ^ (depth - split) = mul-le-mul_right (8 ^ (depth - split)) (omega (arith, below)) in
    omega (arith, less, power, ap (λ n. 8 ^ n) same)

pub eights_few : (depth : ℕ) → depth ≤ MAX_DEPTH → 8 ^ depth ≤ 2 ^ 60
eights_few depth shallow =
    let less : 8 ^ depth ≤ 8 ^ MAX_DEPTH = pow-le-pow_right {n = 8} (lit< tt) {i = depth} {j = MAX_DEPTH} shallow in
    omega (arith, less)
