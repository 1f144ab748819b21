-- The filled cells grow cell by cell, and are one list.
use Rattle.std.proofs.Common.{◌≡◌, ℕ, zero, suc, ◌+◌, ◌^◌, ◌<◌, ◌≤◌, Bool, true, false, min, List, [], ◌∷◌, ◌++◌, arith, refl, sym, subst, inl, inr, add-one}
use Rattle.std.specs.Prelude.{All, cond}
use Rattle.std.specs.List.{Any, Contains}
use Rattle.std.proofs.lemmas.Bool.{cases_Bool, cases_lt}
use Rattle.std.proofs.lemmas.List.{append-nil, map-append}
use Rattle.std.proofs.lemmas.List.Elements.{All-nil, All-cons, All-head, All-tail, All-push, All-weaker, All-map}
use Rattle.svo_base.specs.GridShape.{GridShape}
use Rattle.octree_specs.proofs.CodeSets.{AreAllBelow, none_below, one_in, one_out, one_set}
use Rattle.octree_specs.proofs.Meetings.{good_exactly_where_met}
use Rattle.octree_specs.specs.Candidates.{has_good_candidate}
use Rattle.octree_specs.specs.Cells.{Cell, codes_of}
use Rattle.octree_specs.specs.FacedTriangles.{Faced}
use Rattle.octree_specs.specs.FilledCells.{MeetsCell, IsLeastFace, AreFilledBelow, AreFilledCells, IsSlotOf}
use Rattle.octree_specs.specs.NodeCube.{node_cube}
use Rattle.grid_parts.proofs.PartCells.{any_weaker, any_later, of_any}
use Rattle.grid_parts.specs.Laws.{GrowsBySlots, HaveOneFill}

-- some triangle meets the cell
abbrev pub IsMet : GridShape → List Faced → ℕ → Type 0
IsMet grid faced code = Any (MeetsCell grid code) faced

met_by_least : (grid : GridShape) (faced : List Faced) (code face : ℕ) → IsLeastFace grid faced code face → IsMet grid faced code
met_by_least grid faced code face least = any_weaker (λ x. (x.face ≡ face) × MeetsCell grid code x) (MeetsCell grid code) faced (λ x has. has.1) least.met

-- ---- as a set of codes

to_set : (grid : GridShape) (faced : List Faced) (bound : ℕ) (cells : List Cell) → AreFilledBelow grid faced bound cells → AreAllBelow (IsMet grid faced) bound (codes_of cells)
to_set grid faced bound cells are = record {
  ascending = are.ascending;
  inside = All-map (λ n. n < bound) (λ (cell : Cell). cell.code) cells are.inside;
  right = All-map (IsMet grid faced) (λ (cell : Cell). cell.code) cells
      (All-weaker (λ cell. IsLeastFace grid faced cell.code cell.face) (λ cell. IsMet grid faced cell.code) (λ cell least. met_by_least grid faced cell.code cell.face least) cells are.faces);
  complete = are.complete;
}

grown_codes : (cells : List Cell) (code face : ℕ) → codes_of (cells ++ record { code = code; face = face } ∷ []) ≡ codes_of cells ++ code ∷ []
grown_codes cells code face = map-append (λ (cell : Cell). cell.code) cells (record { code = code; face = face } ∷ [])

pub filled_next : (grid : GridShape) (faced : List Faced) (bound face : ℕ) (cells : List Cell)
    → AreFilledBelow grid faced bound cells → IsSlotOf grid faced bound (face + 1) → AreFilledBelow grid faced (bound + 1) (cells ++ record { code = bound; face = face } ∷ [])
filled_next grid faced bound face cells are slot =
    let least = slot.some face refl in
    let set = one_in (IsMet grid faced) bound (codes_of cells) (met_by_least grid faced bound face least) (to_set grid faced bound cells are) in
    let codes = grown_codes cells bound face in
    record {
      ascending = rw codes set.ascending;
      inside = All-push (λ (cell : Cell). cell.code < bound + 1) cells (record { code = bound; face = face })
          (All-weaker (λ (cell : Cell). cell.code < bound) (λ (cell : Cell). cell.code < bound + 1) (λ cell below. omega (arith, below)) cells are.inside) (omega arith);
      faces = All-push (λ (cell : Cell). IsLeastFace grid faced cell.code cell.face) cells (record { code = bound; face = face }) are.faces least;
      complete = λ code below met. subst (λ codes. Contains codes code) (sym codes) (set.complete code below met);
    }

pub empty_next : (grid : GridShape) (faced : List Faced) (bound : ℕ) (cells : List Cell)
    → AreFilledBelow grid faced bound cells → IsSlotOf grid faced bound 0 → AreFilledBelow grid faced (bound + 1) cells
empty_next grid faced bound cells are slot =
    let set = one_out (IsMet grid faced) bound (codes_of cells)
    (of_any (λ x. MeetsCell grid bound x → ⊥) (MeetsCell grid bound) faced (slot.none refl) (λ x not_met met. not_met met)) (to_set grid faced bound cells are)
    in
    record {
      ascending = set.ascending;
      inside = All-weaker (λ (cell : Cell). cell.code < bound) (λ (cell : Cell). cell.code < bound + 1) (λ cell below. omega (arith, below)) cells are.inside;
      faces = are.faces;
      complete = set.complete;
    }

pub none_filled : (grid : GridShape) (faced : List Faced) → AreFilledBelow grid faced 0 []
none_filled grid faced =
    let set = none_below (IsMet grid faced) in
    record {
      ascending = set.ascending;
      inside = All-nil (λ (cell : Cell). cell.code < 0);
      faces = All-nil (λ (cell : Cell). IsLeastFace grid faced cell.code cell.face);
      complete = set.complete;
    }

pub grows_by_slots : GrowsBySlots
grows_by_slots = record { none = none_filled; filled = filled_next; empty = empty_next }

-- ---- one list

least_at_most : (grid : GridShape) (faced : List Faced) (code first second : ℕ) → IsLeastFace grid faced code first → IsLeastFace grid faced code second → first ≤ second
least_at_most grid faced code first second one other =
    of_any (λ x. MeetsCell grid code x → first ≤ x.face) (λ x. (x.face ≡ second) × MeetsCell grid code x) faced one.least
    (λ x at_most has. subst (λ f. first ≤ f) has.0 (at_most has.1)) other.met

same_cells : (grid : GridShape) (faced : List Faced) (xs ys : List Cell) → codes_of xs ≡ codes_of ys
    → All (λ cell. IsLeastFace grid faced cell.code cell.face) xs → All (λ cell. IsLeastFace grid faced cell.code cell.face) ys → xs ≡ ys
same_cells grid faced [] [] same first second = refl
same_cells grid faced [] (y ∷ ys) same first second = absurd (cc)
same_cells grid faced (x ∷ xs) [] same first second = absurd (cc)
same_cells grid faced (x ∷ xs) (y ∷ ys) same first second =
    let least = λ (cell : Cell). IsLeastFace grid faced cell.code cell.face in
    let code : x.code ≡ y.code = cc in
    let codes : codes_of xs ≡ codes_of ys = cc in
    let one : IsLeastFace grid faced y.code x.face = subst (λ c. IsLeastFace grid faced c x.face) code (All-head least x xs first) in
    let other = All-head least y ys second in
    let face : x.face ≡ y.face = omega (arith, least_at_most grid faced y.code x.face y.face one other, least_at_most grid faced y.code y.face x.face other one) in
    let rest = same_cells grid faced xs ys codes (All-tail least x xs first) (All-tail least y ys second) in
    λ i. record { code = code i; face = face i } ∷ rest i

one_fill : (grid : GridShape) (faced : List Faced) (first second : List Cell) → AreFilledCells grid faced first → AreFilledCells grid faced second → first ≡ second
one_fill grid faced first second one other =
    same_cells grid faced first second
    (one_set (IsMet grid faced) (8 ^ grid.depth) (codes_of first) (codes_of second) (to_set grid faced (8 ^ grid.depth) first one) (to_set grid faced (8 ^ grid.depth) second other))
    one.faces other.faces

-- ---- there is one

-- a slot with one triangle more
abbrev pub joined : ℕ → ℕ → ℕ
joined zero face = face + 1
joined (suc held) face = suc (min held face)

pub slot_joined : (grid : GridShape) (code slot : ℕ) (x : Faced) (xs : List Faced) → MeetsCell grid code x → IsSlotOf grid xs code slot → IsSlotOf grid (x ∷ xs) code (joined slot x.face)
slot_joined grid code zero x xs met is = record {
  none = λ zero. absurd (omega (arith, zero));
  some = λ face held.
      let same : x.face ≡ face = omega (arith, held) in
      record {
        met = (0, x, omega arith, refl, (same, met));
        least = All-cons (λ y. MeetsCell grid code y → face ≤ y.face) x xs (λ _. omega (arith, same))
            (All-weaker (λ y. MeetsCell grid code y → ⊥) (λ y. MeetsCell grid code y → face ≤ y.face) (λ y not_met met. absurd (not_met met)) xs (is.none refl));
      };
}
slot_joined grid code (suc held) x xs met is =
    let before = is.some held (sym (add-one held)) in
    elim (cases_lt x.face held) [
      | inl lesser ↦ record {
        none = λ zero. absurd (omega (arith, zero));
        some = λ face is_face.
            let same : x.face ≡ face = omega (arith, lesser, is_face) in
            record {
              met = (0, x, omega arith, refl, (same, met));
              least = All-cons (λ y. MeetsCell grid code y → face ≤ y.face) x xs (λ _. omega (arith, same))
                  (All-weaker (λ y. MeetsCell grid code y → held ≤ y.face) (λ y. MeetsCell grid code y → face ≤ y.face)
                  (λ y at_most met. omega (arith, at_most met, lesser, same)) xs before.least);
            };
      }
      | inr greater ↦ record {
        none = λ zero. absurd (omega (arith, zero));
        some = λ face is_face.
            let same : held ≡ face = omega (arith, greater, is_face) in
            record {
              met = any_later (λ y. (y.face ≡ face) × MeetsCell grid code y) x xs (subst (λ f. Any (λ y. (y.face ≡ f) × MeetsCell grid code y) xs) same before.met);
              least = All-cons (λ y. MeetsCell grid code y → face ≤ y.face) x xs (λ _. omega (arith, same, greater))
                  (subst (λ f. All (λ y. MeetsCell grid code y → f ≤ y.face) xs) same before.least);
            };
      }
    ]

pub slot_passed : (grid : GridShape) (code slot : ℕ) (x : Faced) (xs : List Faced) → (MeetsCell grid code x → ⊥) → IsSlotOf grid xs code slot → IsSlotOf grid (x ∷ xs) code slot
slot_passed grid code slot x xs not_met is = record {
  none = λ zero. All-cons (λ y. MeetsCell grid code y → ⊥) x xs not_met (is.none zero);
  some = λ face held.
      let least = is.some face held in
      record {
        met = any_later (λ y. (y.face ≡ face) × MeetsCell grid code y) x xs least.met;
        least = All-cons (λ y. MeetsCell grid code y → face ≤ y.face) x xs (λ met. absurd (not_met met)) least.least;
      };
}

-- the slot of a cell, and the filled cells below a bound, computed by trying candidates
unfoldable pub slot_value : GridShape → ℕ → List Faced → ℕ
slot_value grid code [] = 0
slot_value grid code (x ∷ xs) =
    cond (has_good_candidate x.triangle (node_cube grid grid.depth code)) (joined (slot_value grid code xs) x.face) (slot_value grid code xs)

abbrev cells_with : ℕ → ℕ → List Cell
cells_with code zero = []
cells_with code (suc face) = record { code = code; face = face } ∷ []

unfoldable pub cells_value : GridShape → List Faced → ℕ → List Cell
cells_value grid faced zero = []
cells_value grid faced (suc bound) = cells_value grid faced bound ++ cells_with bound (slot_value grid bound faced)

pub slot_is : (grid : GridShape) (code : ℕ) (faced : List Faced) → IsSlotOf grid faced code (slot_value grid code faced)
unfolding slot_value
slot_is grid code [] = record {
  none = λ _. All-nil (λ y. MeetsCell grid code y → ⊥);
  some = λ face held. absurd (omega (arith, held));
}
slot_is grid code (x ∷ xs) =
    let good = good_exactly_where_met x.triangle (node_cube grid grid.depth code) in
    elim (cases_Bool (has_good_candidate x.triangle (node_cube grid grid.depth code))) [
      | inl met ↦ rw met (slot_joined grid code (slot_value grid code xs) x xs (good.0 met) (slot_is grid code xs))
      | inr fails ↦ rw fails (slot_passed grid code (slot_value grid code xs) x xs (λ met. differ (good.1 met) fails) (slot_is grid code xs))
    ]
  where
    differ : {b : Bool} → b ≡ true → b ≡ false → ⊥
    differ yes_so no_so = cc

cells_step : (grid : GridShape) (faced : List Faced) (bound slot : ℕ) (cells : List Cell) → AreFilledBelow grid faced bound cells → IsSlotOf grid faced bound slot
    → AreFilledBelow grid faced (bound + 1) (cells ++ cells_with bound slot)
cells_step grid faced bound zero cells are is = subst (AreFilledBelow grid faced (bound + 1)) (sym (append-nil cells)) (empty_next grid faced bound cells are is)
cells_step grid faced bound (suc face) cells are is =
    filled_next grid faced bound face cells are (subst (λ n. IsSlotOf grid faced bound n) (sym (add-one face)) is)

pub cells_are : (grid : GridShape) (faced : List Faced) (bound : ℕ) → AreFilledBelow grid faced bound (cells_value grid faced bound)
unfolding cells_value
cells_are grid faced zero = none_filled grid faced
cells_are grid faced (suc bound) =
    subst (λ n. AreFilledBelow grid faced n (cells_value grid faced bound ++ cells_with bound (slot_value grid bound faced))) (add-one bound)
    (cells_step grid faced bound (slot_value grid bound faced) (cells_value grid faced bound) (cells_are grid faced bound) (slot_is grid bound faced))

pub have_one_fill : HaveOneFill
have_one_fill = record { some = λ grid faced. (cells_value grid faced (8 ^ grid.depth), cells_are grid faced (8 ^ grid.depth)); one = one_fill }
