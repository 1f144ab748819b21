-- The filled cells of a part, from its slots: the empty ones are passed, and a filled one joins.
use Rattle.std.proofs.Common.{◌≡◌, ℕ, zero, suc, ◌+◌, ◌-◌, ◌<◌, ◌≤◌, List, [], ◌∷◌, ◌++◌, get_or, arith, sym, subst, append-nil, append_assoc}
use Rattle.svo_base.specs.GridShape.{GridShape}
use Rattle.octree_specs.specs.Cells.{Cell}
use Rattle.octree_specs.specs.FacedTriangles.{Faced}
use Rattle.octree_specs.specs.FilledCells.{AreFilledBelow, IsSlotOf}
use Rattle.grid_parts.proofs.Growing.{filled_next, empty_next}
use Rattle.morton_scan.specs.NextCells.{HasNoCellFrom, IsNextCell}
use Rattle.build_core.specs.Pushing.{AreSlotsOf, FillOn}

module _ (slots : List ℕ) (first codes : ℕ) (grid : GridShape) (faced : List Faced) (are : AreSlotsOf slots first codes grid faced) where
  -- so many empty slots are passed
  empty_run : (count from : ℕ) (cells : List Cell) → first ≤ from → from + count ≤ first + codes
      → ((place : ℕ) → place < codes → from ≤ first + place → first + place < from + count → get_or slots place 0 ≡ 0)
      → AreFilledBelow grid faced from cells → AreFilledBelow grid faced (from + count) cells
  empty_run zero from cells low high empty filled = subst (λ n. AreFilledBelow grid faced n cells) (omega arith) filled
  empty_run (suc count) from cells low high empty filled =
      let place : ℕ = from - first in
      let here : first + place ≡ from = omega (arith, low) in
      let zeros : get_or slots place 0 ≡ 0 = empty place (omega (arith, low, high)) (omega (arith, here)) (omega (arith, here)) in
      let slot : IsSlotOf grid faced from 0 = subst (λ n. IsSlotOf grid faced n 0) here (subst (IsSlotOf grid faced (first + place)) zeros (are place (omega (arith, low, high)))) in
      let next : AreFilledBelow grid faced (from + 1) cells = empty_next grid faced from cells filled slot in
      let same : (from + 1) + count ≡ from + suc count = omega arith in
      subst (λ n. AreFilledBelow grid faced n cells) same
      (empty_run count (from + 1) cells (omega (arith, low)) (omega (arith, high))
      (λ p within above below. empty p within (omega (arith, above)) (omega (arith, below))) next)

  -- the next filled one joins
  joins : (from code face : ℕ) (cells : List Cell) → first ≤ from → IsNextCell slots first codes from code face
      → AreFilledBelow grid faced from cells → AreFilledBelow grid faced (code + 1) (cells ++ record { code = code; face = face } ∷ [])
  joins from code face cells low next filled =
      let count : ℕ = code - from in
      let reach : from + count ≡ code = omega (arith, next.later) in
      let passed : AreFilledBelow grid faced code cells = subst (λ n. AreFilledBelow grid faced n cells) reach
      (empty_run count from cells low (omega (arith, reach, next.is_code, next.within))
      (λ place within above below. next.least place within above (omega (arith, below, reach, next.is_code))) filled) in
      let slot : IsSlotOf grid faced code (face + 1) = subst (λ n. IsSlotOf grid faced n (face + 1)) (sym next.is_code)
      (subst (IsSlotOf grid faced (first + next.place)) next.is_face (are next.place next.within)) in
      filled_next grid faced code face cells passed slot

  -- and no more comes
  ends : (from : ℕ) (cells : List Cell) → first ≤ from → from ≤ first + codes → HasNoCellFrom slots first codes from
      → AreFilledBelow grid faced from cells → AreFilledBelow grid faced (first + codes) cells
  ends from cells low high none filled =
      let count : ℕ = (first + codes) - from in
      let reach : from + count ≡ first + codes = omega (arith, high) in
      subst (λ n. AreFilledBelow grid faced n cells) reach
      (empty_run count from cells low (omega (arith, reach)) (λ place within above below. none place within above) filled)

-- before the first
pub fill_none : (grid : GridShape) (Known : List Faced → Type 0) (from : ℕ) (cells : List Cell) → FillOn grid Known from from cells []
fill_none grid Known from cells faced known filled = subst (AreFilledBelow grid faced from) (sym (append-nil cells)) filled

-- the same, of cells behind others
pub fill_next : (slots : List ℕ) (first codes start from code face : ℕ) (grid : GridShape) (cells more : List Cell) → first ≤ from → IsNextCell slots first codes from code face
    → FillOn grid (AreSlotsOf slots first codes grid) start from cells more
    → FillOn grid (AreSlotsOf slots first codes grid) start (code + 1) cells (more ++ record { code = code; face = face } ∷ [])
fill_next slots first codes start from code face grid cells more low next fill faced known filled =
    subst (AreFilledBelow grid faced (code + 1)) (append_assoc cells more (record { code = code; face = face } ∷ []))
    (joins slots first codes grid faced known from code face (cells ++ more) low next (fill faced known filled))

pub fill_end : (slots : List ℕ) (first codes start from : ℕ) (grid : GridShape) (cells more : List Cell) → first ≤ from → from ≤ first + codes → HasNoCellFrom slots first codes from
    → FillOn grid (AreSlotsOf slots first codes grid) start from cells more
    → FillOn grid (AreSlotsOf slots first codes grid) start (first + codes) cells more
fill_end slots first codes start from grid cells more low high none fill faced known filled =
    ends slots first codes grid faced known from (cells ++ more) low high none (fill faced known filled)
