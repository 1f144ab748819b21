-- Slots that are cleared and then filled with one triangle after another are those of all of them.
use Rattle.std.proofs.Common.{◌≡◌, ℕ, zero, suc, ◌+◌, ◌-◌, ◌*◌, ◌^◌, ◌<◌, ◌≤◌, Bool, true, false, cond, List, [], ◌∷◌, map, length, get_or, min, arith, refl, sym, ap, subst, ◌∙◌, add-one, inl, inr}
use Rattle.std.specs.List.{sum_by}
use Rattle.std.proofs.lemmas.Bool.{cases_Bool, both_ways}
use Rattle.std.proofs.lemmas.List.Elements.{All-nil}
use Rattle.svo_base.specs.GridShape.{GridShape}
use Rattle.octree_specs.proofs.Meetings.{good_exactly_where_met}
use Rattle.octree_specs.specs.Candidates.{has_good_candidate}
use Rattle.octree_specs.specs.FacedTriangles.{Faced}
use Rattle.octree_specs.specs.FilledCells.{MeetsCell, IsSlotOf}
use Rattle.octree_specs.specs.NodeCube.{node_cube}
use Rattle.octree_specs.specs.Parcels.{HoldAlike}
use Rattle.octree_specs.specs.Parts.{part_with, is_in_part, part_of}
use Rattle.morton_code.proofs.Children.{are_ranges}
use Rattle.grid_parts.proofs.Growing.{joined, slot_joined, slot_passed}
use Rattle.grid_parts.proofs.PartCells.{fills_part}
use Rattle.tri_partition.proofs.BoxParcels.{sum_map}
use Rattle.bit_grid.specs.Slots.{lesser_slot}
use Rattle.morton_scan.specs.FilledParts.{FillsFromParcels, HasSlotsFor, GrowsByTriangles, limited}
use Rattle.morton_scan.specs.Putting.{ArePut, MeetsInPart, first_of_part}

-- both say what a slot keeps
joined_is : (slot face : ℕ) → joined slot face ≡ lesser_slot slot face
unfolding lesser_slot
joined_is zero face = refl
joined_is (suc held) face = sym (add-one (min held face))

-- before the first triangle
pub no_triangle : (grid : GridShape) (split part : ℕ) (slots : List ℕ) → ((place : ℕ) → get_or slots place 0 ≡ 0) → HasSlotsFor grid split part [] slots
no_triangle grid split part slots zeros place within = record {
  none = λ empty. All-nil (λ x. MeetsCell grid (first_of_part grid split part + place) x → ⊥);
  some = λ face held. absurd (omega (arith, held, zeros place));
}

-- a cell of a part
in_part : (grid : GridShape) (split part place : ℕ) → place < 8 ^ (grid.depth - split) → part_with grid split (first_of_part grid split part + place) ≡ part
in_part grid split part place within =
    let from : part * 8 ^ (grid.depth - split) ≤ part * 8 ^ (grid.depth - split) + place = omega arith in
    let to : part * 8 ^ (grid.depth - split) + place < (part + 1) * 8 ^ (grid.depth - split) = omega (arith, within) in
    (are_ranges (grid.depth - split) (part * 8 ^ (grid.depth - split) + place) part).1 (from, to)

-- one triangle more
pub triangle_more : (grid : GridShape) (split part : ℕ) (x : Faced) (faced : List Faced) (old new : List ℕ) → HasSlotsFor grid split part faced old
    → ArePut (MeetsInPart grid split part x.triangle) (first_of_part grid split part) x.face old new → HasSlotsFor grid split part (x ∷ faced) new
triangle_more grid split part x faced old new before are_put place within =
    let code : ℕ = first_of_part grid split part + place in
    let is_met = good_exactly_where_met x.triangle (node_cube grid grid.depth code) in
    let met : MeetsCell grid code x → IsSlotOf grid (x ∷ faced) code (get_or new place 0) = λ meets.
    let same : joined (get_or old place 0) x.face ≡ get_or new place 0 = joined_is (get_or old place 0) x.face ∙ sym (are_put.put place (in_part grid split part place within, meets)) in
    subst (λ slot. IsSlotOf grid (x ∷ faced) code slot) same (slot_joined grid code (get_or old place 0) x faced meets (before place within)) in
    let passed : (MeetsCell grid code x → ⊥) → IsSlotOf grid (x ∷ faced) code (get_or new place 0) = λ not_met.
    let same : get_or old place 0 ≡ get_or new place 0 = sym (are_put.others place (λ chosen. not_met chosen.1)) in
    subst (λ slot. IsSlotOf grid (x ∷ faced) code slot) same (slot_passed grid code (get_or old place 0) x faced not_met (before place within)) in
    elim (cases_Bool (has_good_candidate x.triangle (node_cube grid grid.depth code))) [
      | inl yes_good ↦ met (is_met.0 yes_good)
      | inr no_good ↦ passed (λ meets. both_ways (has_good_candidate x.triangle (node_cube grid grid.depth code)) no_good (is_met.1 meets))
    ]

pub grows_by_triangles : GrowsByTriangles
grows_by_triangles = record { none = no_triangle; more = triangle_more }

-- ---- from the parcels of a part

limited_part : (grid : GridShape) (split part : ℕ) (faced : List Faced) → map limited (part_of grid split part faced) ≡ part_of grid split part (map limited faced)
unfolding is_in_part
limited_part grid split part [] = refl
limited_part grid split part (x ∷ rest) = kept (is_in_part grid split part x) (part_of grid split part rest) (limited_part grid split part rest)
  where
    kept : (b : Bool) (others : List Faced) → map limited others ≡ part_of grid split part (map limited rest)
        → map limited (cond b (x ∷ others) others) ≡ cond b (limited x ∷ part_of grid split part (map limited rest)) (part_of grid split part (map limited rest))
    kept true others same = ap (λ l. limited x ∷ l) same
    kept false others same = same

limited_alike : (grid : GridShape) (split part : ℕ) (parcels faced : List Faced) → HoldAlike parcels (part_of grid split part faced)
    → HoldAlike (map limited parcels) (part_of grid split part (map limited faced))
limited_alike grid split part parcels faced alike = λ f.
    sum_map f limited parcels
    ∙ (alike (λ x. f (limited x)) ∙ (sym (sum_map f limited (part_of grid split part faced)) ∙ ap (sum_by f) (limited_part grid split part faced)))

all_slots : (grid : GridShape) (split part : ℕ) (parcels faced : List Faced) (slots : List ℕ) → split ≤ grid.depth
    → HoldAlike parcels (part_of grid split part faced) → HasSlotsFor grid split part (map limited parcels) slots → HasSlotsFor grid split part (map limited faced) slots
all_slots grid split part parcels faced slots within alike has place inside =
    let code : ℕ = first_of_part grid split part + place in
    fills_part grid split code (get_or slots place 0) (map limited faced) (map limited parcels) within
    (subst (λ p. HoldAlike (map limited parcels) (part_of grid split p (map limited faced))) (sym (in_part grid split part place inside)) (limited_alike grid split part parcels faced alike))
    (has place inside)

nothing_limited : (faced : List Faced) → ((k : ℕ) (d : Faced) → k < length faced → (get_or faced k d).face < 2 ^ 32 - 1) → map limited faced ≡ faced
nothing_limited [] all = refl
nothing_limited (x ∷ rest) all =
    let here : min x.face (2 ^ 32 - 2) ≡ x.face = omega (arith, all 0 x (omega arith)) in
    let later = nothing_limited rest (λ k d within. all (suc k) d (omega (arith, within))) in
    λ i. record { triangle = x.triangle; face = here i } ∷ later i

pub fills_from_parcels : FillsFromParcels
fills_from_parcels = record { all = all_slots; unlimited = λ faced all. nothing_limited faced (λ k d within. all k d within) }
