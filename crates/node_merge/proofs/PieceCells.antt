-- The least faces of triangles that are put together.
use Rattle.std.proofs.Common.{◌≡◌, ℕ, zero, suc, ◌^◌, ◌<◌, ◌≤◌, ◌==◌, List, [], ◌∷◌, ◌++◌, Option, None, Some, inl, inr, refl, sym, subst, ◌∙◌, arith}
use Rattle.std.specs.Prelude.{All}
use Rattle.std.specs.List.{Any, Contains, slice_index_or}
use Rattle.std.proofs.lemmas.Bool.{cases_eq, eq-eqb, ne_eqb, cond-true, cond-false}
use Rattle.std.proofs.lemmas.List.{map-append}
use Rattle.std.proofs.lemmas.List.Elements.{All-nil, All-append, All-push, All-contains, All-weaker, Contains-get_or, Contains-append_left, Contains-append_right}
use Rattle.svo_base.specs.GridShape.{GridShape}
use Rattle.octree_specs.specs.Cells.{Cell, codes_of}
use Rattle.octree_specs.specs.FacedTriangles.{Faced}
use Rattle.octree_specs.specs.FilledCells.{MeetsCell, IsLeastFace, AreFilledCells}
use Rattle.node_check.specs.Walks.{face_at}
use Rattle.node_merge.specs.Combined.{face_in, cell_of, cells_below, merged}
use Rattle.node_merge.specs.declared.kinds.MergeKind.TheVariants.{Union}
use Rattle.node_merge.proofs.Below.{all_ascend}

-- ---- lists

pub any_item : {X : Type 0} (P : X → Type 0) (xs : List X) → Any P xs → (x : X) × Contains xs x × P x
any_item P xs any = (any.1, (any.0, any.2, any.3), any.4)

pub item_any : {X : Type 0} (P : X → Type 0) (xs : List X) (x : X) → Contains xs x → P x → Any P xs
item_any P xs x there holds = (there.0, x, there.1, there.2, holds)

any_left : {X : Type 0} (P : X → Type 0) (xs ys : List X) → Any P xs → Any P (xs ++ ys)
any_left P xs ys any = let item = any_item P xs any in item_any P (xs ++ ys) item.0 (Contains-append_left xs ys item.0 item.1) item.2

any_right : {X : Type 0} (P : X → Type 0) (xs ys : List X) → Any P ys → Any P (xs ++ ys)
any_right P xs ys any = let item = any_item P ys any in item_any P (xs ++ ys) item.0 (Contains-append_right xs ys item.0 item.1) item.2

contains_later : {X : Type 0} (first : X) (xs : List X) (x : X) → Contains xs x → Contains (first ∷ xs) x
contains_later first xs x there = (suc there.0, omega (arith, there.1), there.2)

-- ---- the face of a cell in a list

found_at : (cells : List Cell) (code face : ℕ) → face_at cells code ≡ Some face → Contains cells (record { code = code; face = face })
unfolding face_at
found_at [] code face is = cc
found_at (cell ∷ rest) code face is = elim (cases_eq cell.code code) [
  | inl same ↦
      let here : Some cell.face ≡ Some face = sym (cond-true (cell.code == code) (Some cell.face) (face_at rest code) (eq-eqb cell.code code same)) ∙ is in
      let alike : cell.face ≡ face = cc in
      (zero, omega arith, λ i. record { code = same i; face = alike i })
  | inr apart ↦
      contains_later cell rest (record { code = code; face = face }) (found_at rest code face (sym (cond-false (cell.code == code) (Some cell.face) (face_at rest code) (ne_eqb cell.code code apart)) ∙ is))
]

not_at : (cells : List Cell) (code : ℕ) → face_at cells code ≡ None → Contains (codes_of cells) code → ⊥
unfolding face_at
not_at [] code none there = absurd (omega (arith, there.1))
not_at (cell ∷ rest) code none (zero, within, is) =
    let some : Some cell.face ≡ None = sym (cond-true (cell.code == code) (Some cell.face) (face_at rest code) (eq-eqb cell.code code is)) ∙ none in cc
not_at (cell ∷ rest) code none (suc k, within, is) = elim (cases_eq cell.code code) [
  | inl same ↦ let some : Some cell.face ≡ None = sym (cond-true (cell.code == code) (Some cell.face) (face_at rest code) (eq-eqb cell.code code same)) ∙ none in cc
  | inr apart ↦ not_at rest code (sym (cond-false (cell.code == code) (Some cell.face) (face_at rest code) (ne_eqb cell.code code apart)) ∙ none) (k, omega (arith, within), is)
]

module _ (grid : GridShape) where
  -- the least face of the triangles that meet a cell, or that there are none
  abbrev pub IsFaceOf : List Faced → ℕ → Option ℕ → Type 0
  IsFaceOf faced code None = All (λ x. MeetsCell grid code x → ⊥) faced
  IsFaceOf faced code (Some face) = IsLeastFace grid faced code face

  -- what the filled cells say of each code
  face_of_answer : (faced : List Faced) (cells : List Cell) → AreFilledCells grid faced cells → (code : ℕ) → code < 8 ^ grid.depth → (answer : Option ℕ) → face_at cells code ≡ answer → IsFaceOf faced code answer
  face_of_answer faced cells are code below None none =
      λ k d within meets. not_at cells code none (are.complete code below (item_any (MeetsCell grid code) faced (slice_index_or faced k d) (Contains-get_or faced k d within) meets))
  face_of_answer faced cells are code below (Some face) some =
      All-contains (λ (cell : Cell). IsLeastFace grid faced cell.code cell.face) cells (record { code = code; face = face }) are.faces (found_at cells code face some)

  pub face_of_filled : (faced : List Faced) (cells : List Cell) → AreFilledCells grid faced cells → (code : ℕ) → code < 8 ^ grid.depth → IsFaceOf faced code (face_at cells code)
  face_of_filled faced cells are code below = face_of_answer faced cells are code below (face_at cells code) refl

  -- and the cells of a function that says so are the filled ones
  module _ (faced : List Faced) (f : ℕ → Option ℕ) (are : (code : ℕ) → code < 8 ^ grid.depth → IsFaceOf faced code (f code)) where
    faces_to : (bound : ℕ) → bound ≤ 8 ^ grid.depth → All (λ (cell : Cell). IsLeastFace grid faced cell.code cell.face) (cells_below bound f)
    unfolding cells_below
    faces_to zero high = All-nil (λ (cell : Cell). IsLeastFace grid faced cell.code cell.face)
    faces_to (suc bound) high =
        All-append (λ (cell : Cell). IsLeastFace grid faced cell.code cell.face) (cells_below bound f) (cell_of bound (f bound)) (faces_to bound (omega (arith, high))) (last (f bound) (are bound (omega (arith, high))))
      where
        last : (face : Option ℕ) → IsFaceOf faced bound face → All (λ (cell : Cell). IsLeastFace grid faced cell.code cell.face) (cell_of bound face)
        last None none = All-nil (λ (cell : Cell). IsLeastFace grid faced cell.code cell.face)
        last (Some face) least = All-push (λ (cell : Cell). IsLeastFace grid faced cell.code cell.face) [] (record { code = bound; face = face }) (All-nil (λ (cell : Cell). IsLeastFace grid faced cell.code cell.face)) least

    there_to : (bound : ℕ) → bound ≤ 8 ^ grid.depth → (code : ℕ) → code < bound → Any (MeetsCell grid code) faced → Contains (codes_of (cells_below bound f)) code
    unfolding cells_below
    there_to zero high code below met = absurd (omega (arith, below))
    there_to (suc bound) high code below met =
        let parts : codes_of (cells_below bound f ++ cell_of bound (f bound)) ≡ codes_of (cells_below bound f) ++ codes_of (cell_of bound (f bound)) =
        map-append (λ (cell : Cell). cell.code) (cells_below bound f) (cell_of bound (f bound)) in
        subst (λ l. Contains l code) (sym parts) (elim (cases_eq code bound) [
          | inl same ↦ Contains-append_right (codes_of (cells_below bound f)) (codes_of (cell_of bound (f bound))) code
              (subst (λ n. Contains (codes_of (cell_of bound (f bound))) n) (sym same) (last (f bound) (are bound (omega (arith, high))) (subst (λ n. Any (MeetsCell grid n) faced) same met)))
          | inr apart ↦ Contains-append_left (codes_of (cells_below bound f)) (codes_of (cell_of bound (f bound))) code (there_to bound (omega (arith, high)) code (omega (arith, below, apart)) met)
        ])
      where
        last : (face : Option ℕ) → IsFaceOf faced bound face → Any (MeetsCell grid bound) faced → Contains (codes_of (cell_of bound face)) bound
        last None none met = let item = any_item (MeetsCell grid bound) faced met in absurd (All-contains (λ x. MeetsCell grid bound x → ⊥) faced item.0 none item.1 item.2)
        last (Some face) least met = (zero, omega arith, refl)

    pub filled_by : AreFilledCells grid faced (cells_below (8 ^ grid.depth) f)
    filled_by =
        let ascend = all_ascend grid.depth f in
        record {
          ascending = ascend.ascending;
          inside = ascend.inside;
          faces = faces_to (8 ^ grid.depth) (omega arith);
          complete = there_to (8 ^ grid.depth) (omega arith);
        }

  -- the triangles of lesser faces come first
  abbrev pub AreLower : List Faced → List Faced → Type 0
  AreLower first second = All (λ x. All (λ y. x.face ≤ y.face) second) first

  pub face_together : (first second : List Faced) (code : ℕ) (one other : Option ℕ) → AreLower first second → IsFaceOf first code one → IsFaceOf second code other → IsFaceOf (first ++ second) code (face_in Union one other)
  face_together first second code None None lower none never = All-append (λ x. MeetsCell grid code x → ⊥) first second none never
  face_together first second code None (Some face) lower none least = record {
    met = any_right (λ x. (x.face ≡ face) × MeetsCell grid code x) first second least.met;
    least = All-append (λ x. MeetsCell grid code x → face ≤ x.face) first second
        (All-weaker (λ x. MeetsCell grid code x → ⊥) (λ x. MeetsCell grid code x → face ≤ x.face) (λ x apart meets. absurd (apart meets)) first none) least.least;
  }
  face_together first second code (Some face) other lower least either =
      let item = any_item (λ x. (x.face ≡ face) × MeetsCell grid code x) first least.met in
      let above : All (λ y. item.0.face ≤ y.face) second = All-contains (λ x. All (λ y. x.face ≤ y.face) second) first item.0 lower item.1 in
      record {
        met = any_left (λ x. (x.face ≡ face) × MeetsCell grid code x) first second least.met;
        least = All-append (λ x. MeetsCell grid code x → face ≤ x.face) first second least.least
            (All-weaker (λ (y : Faced). item.0.face ≤ y.face) (λ y. MeetsCell grid code y → face ≤ y.face) (λ y high meets. omega (arith, high, item.2.0)) second above);
      }

  pub triangles_join : (first second : List Faced) (xs ys : List Cell) → AreLower first second → AreFilledCells grid first xs → AreFilledCells grid second ys
      → AreFilledCells grid (first ++ second) (merged Union grid.depth xs ys)
  triangles_join first second xs ys lower one other =
      filled_by (first ++ second) (λ code. face_in Union (face_at xs code) (face_at ys code))
      (λ code below. face_together first second code (face_at xs code) (face_at ys code) lower (face_of_filled first xs one code below) (face_of_filled second ys other code below))
