-- What a cell's slot keeps, from the parcels of its part alone.
use Rattle.std.proofs.Common.{◌≡◌, ℕ, zero, suc, ◌+◌, ◌-◌, ◌*◌, ◌/◌, ◌%◌, ◌^◌, ◌≤◌, ◌==◌, Bool, true, false, cond, List, [], ◌∷◌, get_or, arith, refl, sym, ap, subst, ◌∙◌}
use Rattle.std.proofs.Math.Dec.{eqb}
use Rattle.std.specs.Prelude.{◌&&◌, ◌||◌, not, All}
use Rattle.std.specs.List.{Any, list_any, list_all}
use Rattle.std.proofs.Math.Nat.{pow-suc, div-div-eq-div-mul}
use Rattle.std.proofs.lemmas.Bool.{eqb-true, eq-eqb}
use Rattle.std.proofs.lemmas.List.Folds.{Any-from_list_any, list_any-from_Any, sum_by-zero}
use Rattle.std.proofs.lemmas.List.{get_or_default}
use Rattle.std.proofs.lemmas.Map.Views.{any-filter_same}
use Rattle.svo_base.specs.GridShape.{GridShape}
use Rattle.svo_base.specs.declared.shapes.Triangle.{Triangle}
use Rattle.octree_specs.proofs.Meetings.{good_exactly_where_met}
use Rattle.octree_specs.specs.Candidates.{has_good_candidate}
use Rattle.octree_specs.specs.FacedTriangles.{Faced}
use Rattle.octree_specs.specs.FilledCells.{MeetsCell, IsSlotOf}
use Rattle.octree_specs.specs.Meeting.{Meets}
use Rattle.octree_specs.specs.NodeCube.{node_cube}
use Rattle.octree_specs.specs.Parcels.{HoldAlike}
use Rattle.octree_specs.specs.Parts.{part_with, is_in_part, part_of}
use Rattle.morton_code.proofs.Children.{meet_together}
use Rattle.grid_parts.proofs.Boxes.{box_meets_where_met}
use Rattle.grid_parts.specs.Laws.{LiesInPart, FillsPart}

-- ---- a cell's part

-- what meets a cell meets each node above it; so many levels lie between
pub meets_above : (t : Triangle) (grid : GridShape) (levels level code : ℕ) → level + levels ≤ grid.depth
    → Meets t (node_cube grid (level + levels) code) → Meets t (node_cube grid level (code / 8 ^ levels))
meets_above t grid zero level code within met =
    let here : level + 0 ≡ level = omega arith in
    let same : code / 8 ^ 0 ≡ code = omega arith in
    subst (λ c. Meets t (node_cube grid level c)) (sym same) (subst (λ l. Meets t (node_cube grid l code)) here met)
meets_above t grid (suc levels) level code within met =
    let below : level + suc levels ≡ level + levels + 1 = omega arith in
    let digits : code ≡ 8 * (code / 8) + code % 8 = omega arith in
    let child : Meets t (node_cube grid (level + levels + 1) (8 * (code / 8) + code % 8)) =
    subst (λ c. Meets t (node_cube grid (level + levels + 1) c)) digits (subst (λ l. Meets t (node_cube grid l code)) below met)
    in
    let parent = meet_together.parent t grid (level + levels) (code / 8) (code % 8) (omega arith) (omega arith) child in
    let power : 8 * 8 ^ levels ≡ 8 ^ suc levels = omega (arith, pow-suc 8 levels) in
    let same : code / 8 / 8 ^ levels ≡ code / 8 ^ suc levels = div-div-eq-div-mul code 8 (8 ^ levels) ∙ ap (λ n. code / n) power in
    subst (λ c. Meets t (node_cube grid level c)) same (meets_above t grid levels level (code / 8) (omega arith) parent)

pub lies_in_part : LiesInPart
unfolding is_in_part
lies_in_part grid split code x within met =
    let whole : split + (grid.depth - split) ≡ grid.depth = omega arith in
    box_meets_where_met x.triangle (node_cube grid split (part_with grid split code))
    (meets_above x.triangle grid (grid.depth - split) split code (omega arith) (subst (λ l. Meets x.triangle (node_cube grid l code)) (sym whole) met))

-- ---- faces that meet a cell, by a test

-- the triangle has this face, and meets the cell
abbrev pub fills : GridShape → ℕ → ℕ → Faced → Bool
fills grid code face x = has_good_candidate x.triangle (node_cube grid grid.depth code) && (x.face == face)

abbrev pub Fills : GridShape → ℕ → ℕ → Faced → Type 0
Fills grid code face x = (x.face ≡ face) × MeetsCell grid code x

both : (p q : Bool) → (p && q) ≡ true → (p ≡ true) × (q ≡ true)
both true true is = (refl, refl)
both true false is = absurd (cc)
both false q is = absurd (cc)

pub fills_so : (grid : GridShape) (code face : ℕ) (x : Faced) → fills grid code face x ≡ true → Fills grid code face x
fills_so grid code face x passes =
    let parts = both (has_good_candidate x.triangle (node_cube grid grid.depth code)) (x.face == face) passes in
    (eqb-true x.face face parts.1, (good_exactly_where_met x.triangle (node_cube grid grid.depth code)).0 parts.0)

pub fills_from : (grid : GridShape) (code face : ℕ) (x : Faced) → Fills grid code face x → fills grid code face x ≡ true
fills_from grid code face x has =
    rw ((good_exactly_where_met x.triangle (node_cube grid grid.depth code)).1 has.1, eq-eqb x.face face has.0) refl

pub any_weaker : {X : Type 0} (P Q : X → Type 0) (xs : List X) → ((x : X) → P x → Q x) → Any P xs → Any Q xs
any_weaker P Q xs more some = (some.0, some.1, some.2, some.3, more some.1 some.4)

pub any_later : {X : Type 0} (P : X → Type 0) (x : X) (xs : List X) → Any P xs → Any P (x ∷ xs)
any_later P x xs some = (suc some.0, some.1, omega (arith, some.2), some.3, some.4)

pub of_any : {X R : Type 0} (P Q : X → Type 0) (xs : List X) → All P xs → ((x : X) → P x → Q x → R) → Any Q xs → R
of_any P Q xs all then some = then some.1 (subst P some.3 (all some.0 some.1 some.2)) some.4

-- ---- a slot by tests alone

pub slot_by_tests : (grid : GridShape) (code slot : ℕ) (xs ys : List Faced)
    → ((face : ℕ) → list_any (fills grid code face) xs ≡ list_any (fills grid code face) ys) → IsSlotOf grid xs code slot → IsSlotOf grid ys code slot
slot_by_tests grid code slot xs ys same is = record {
  none = λ zero k d within met.
      let has = across (get_or ys k d).face (k, get_or ys k d, within, get_or_default ys k (get_or ys k d) d within, (refl, met)) in
      of_any (λ x. MeetsCell grid code x → ⊥) (Fills grid code (get_or ys k d).face) xs (is.none zero) (λ x not_met fills. not_met fills.1) has;
  some = λ face held.
      let least = is.some face held in
      record {
        met = any_weaker (λ x. fills grid code face x ≡ true) (Fills grid code face) ys (fills_so grid code face)
            (Any-from_list_any (fills grid code face) ys
            (sym (same face) ∙ list_any-from_Any (fills grid code face) xs (any_weaker (Fills grid code face) (λ x. fills grid code face x ≡ true) xs (fills_from grid code face) least.met)));
        least = λ k d within met.
            let has = across (get_or ys k d).face (k, get_or ys k d, within, get_or_default ys k (get_or ys k d) d within, (refl, met)) in
            of_any (λ x. MeetsCell grid code x → face ≤ x.face) (Fills grid code (get_or ys k d).face) xs least.least
            (λ x at_most fills. subst (λ f. face ≤ f) fills.0 (at_most fills.1)) has;
      };
}
  where
    -- what fills it on the one side does on the other
    across : (face : ℕ) → Any (Fills grid code face) ys → Any (Fills grid code face) xs
    across face has =
        any_weaker (λ x. fills grid code face x ≡ true) (Fills grid code face) xs (fills_so grid code face)
        (Any-from_list_any (fills grid code face) xs
        (same face ∙ list_any-from_Any (fills grid code face) ys (any_weaker (Fills grid code face) (λ x. fills grid code face x ≡ true) ys (fills_from grid code face) has)))

-- ---- the parcels of a part

counted : {A : Type 0} → (A → Bool) → A → ℕ
counted p x = cond (p x) 1 0

any_counts : {A : Type 0} (p : A → Bool) (xs : List A) → list_any p xs ≡ not (list_all (λ x. eqb (counted p x) 0) xs)
unfolding counted
any_counts p [] = refl
any_counts p (x ∷ xs) = step (p x) (list_any p xs) (list_all (λ y. eqb (counted p y) 0) xs) (any_counts p xs)
  where
    step : (b any all : Bool) → any ≡ not all → (b || any) ≡ not (eqb (cond b 1 0) 0 && all)
    step true any all same = refl
    step false any all same = same

-- lists alike pass a test alike
pub any_alike : {A : Type 0} (p : A → Bool) (xs ys : List A) → HoldAlike xs ys → list_any p xs ≡ list_any p ys
any_alike p xs ys alike =
    any_counts p xs ∙ ap not (sym (sum_by-zero (counted p) xs) ∙ ap (λ n. eqb n 0) (alike (counted p)) ∙ sum_by-zero (counted p) ys) ∙ sym (any_counts p ys)

pub fills_part : FillsPart
fills_part grid split code slot faced stream within alike is =
    slot_by_tests grid code slot stream faced
    (λ face. any_alike (fills grid code face) stream (part_of grid split (part_with grid split code) faced) alike
    ∙ any-filter_same (fills grid code face) (is_in_part grid split (part_with grid split code)) true
    (λ x passes. lies_in_part grid split code x within (fills_so grid code face x passes).1) faced)
    is
