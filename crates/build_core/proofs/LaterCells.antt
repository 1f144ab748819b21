-- Whatever is filled below a bound goes on to all filled cells of the grid.
use Rattle.std.proofs.Common.{◌≡◌, ℕ, zero, suc, ◌+◌, ◌-◌, ◌^◌, ◌≤◌, List, [], ◌∷◌, ◌++◌, arith, sym, subst, add-one, append-nil, append_assoc}
use Rattle.svo_base.specs.GridShape.{GridShape}
use Rattle.octree_specs.specs.Cells.{Cell}
use Rattle.octree_specs.specs.FacedTriangles.{Faced}
use Rattle.octree_specs.specs.FilledCells.{AreFilledBelow, AreFilledCells, IsSlotOf}
use Rattle.grid_parts.proofs.Growing.{filled_next, empty_next, slot_value, slot_is}

module _ (grid : GridShape) (faced : List Faced) where
  one_later : (bound slot : ℕ) (cells : List Cell) → AreFilledBelow grid faced bound cells → IsSlotOf grid faced bound slot → (later : List Cell) × AreFilledBelow grid faced (bound + 1) (cells ++ later)
  one_later bound zero cells are is = ([], subst (AreFilledBelow grid faced (bound + 1)) (sym (append-nil cells)) (empty_next grid faced bound cells are is))
  one_later bound (suc face) cells are is =
      (record { code = bound; face = face } ∷ [], filled_next grid faced bound face cells are (subst (λ n. IsSlotOf grid faced bound n) (sym (add-one face)) is))

  some_later : (count bound : ℕ) (cells : List Cell) → AreFilledBelow grid faced bound cells → (later : List Cell) × AreFilledBelow grid faced (bound + count) (cells ++ later)
  some_later zero bound cells are =
      let same : bound ≡ bound + zero = omega arith in
      ([], subst (λ n. AreFilledBelow grid faced n (cells ++ [])) same (subst (AreFilledBelow grid faced bound) (sym (append-nil cells)) are))
  some_later (suc count) bound cells are =
      let one = one_later bound (slot_value grid bound faced) cells are (slot_is grid bound faced) in
      let rest = some_later count (bound + 1) (cells ++ one.0) one.1 in
      let same : (bound + 1) + count ≡ bound + suc count = omega arith in (
        one.0 ++ rest.0,
        subst (λ n. AreFilledBelow grid faced n (cells ++ (one.0 ++ rest.0))) same
            (subst (AreFilledBelow grid faced ((bound + 1) + count)) (append_assoc cells one.0 rest.0) rest.1),
      )

  pub all_later : (bound : ℕ) (cells : List Cell) → bound ≤ 8 ^ grid.depth → AreFilledBelow grid faced bound cells → (later : List Cell) × AreFilledCells grid faced (cells ++ later)
  all_later bound cells within are =
      let later = some_later (8 ^ grid.depth - bound) bound cells are in
      let same : bound + (8 ^ grid.depth - bound) ≡ 8 ^ grid.depth = omega (arith, within) in
      (later.0, subst (λ n. AreFilledBelow grid faced n (cells ++ later.0)) same later.1)
