-- Which centres of a row of cells lie in a stretch of its axis, and which columns a triangle is beside.
use Rattle.std.proofs.Common.{◌≡◌, ℕ, ◌+◌, ◌-◌, ◌*◌, ◌/◌, ◌<◌, ◌≤◌, false, min, ℤ, pos, ◌+ℤ◌, ◌-ℤ◌, ◌*ℤ◌, ◌≤ℤ◌, ◌<ℤ◌, unsigned_abs, inl, inr, arith, refl, subst}
use Rattle.std.specs.Int.{int_max}
use Rattle.std.proofs.Math.Nat.{div-lt_iff_lt-mul}
use Rattle.std.proofs.lemmas.Bool.{cases_lt}
use Rattle.std.proofs.lemmas.Int.{ints, clamps}
use Rattle.svo_base.specs.Boxes.{bounds_of}
use Rattle.svo_base.specs.declared.boxes.Bounds.{Bounds}
use Rattle.svo_base.specs.declared.boxes.Extent.{Extent}
use Rattle.svo_base.specs.declared.shapes.Triangle.{Triangle}
use Rattle.tri_partition.specs.declared.part_ranges.PartRange.{PartRange}
use Rattle.solid_parity.specs.Notes.{is_highest}
use Rattle.solid_parity.specs.Parity.{centre_at, is_covered}
use Rattle.solid_parity.specs.PartCells.{Part, part_side, first_along, centre_in, is_over_in}
use Rattle.solid_parity.specs.Spans.{AreReached, AreAcross}
use Rattle.solid_parity.proofs.Beside.{left_of_box, right_of_box, before_box, behind_box}
use Rattle.solid_parity.proofs.Undersides.{further_centre}

-- ---- whole steps of a way, rounded up

steps_before : (way step place : ℕ) → 0 < step → place < (way + (step - 1)) / step → step * place < way
steps_before way step place some below = elim (cases_lt (step * place) way) [
  | inl less ↦ less
  | inr most ↦
      let turned : (place + 1) * step ≡ step * place + step = omega arith in
      let short : way + (step - 1) < (place + 1) * step = omega (arith, turned, most, some) in
      let less = (div-lt_iff_lt-mul {k = step} {x = way + (step - 1)} {y = place + 1} some).1 short in
      absurd (omega (arith, less, below))
]

steps_behind : (way step place : ℕ) → 0 < step → (way + (step - 1)) / step ≤ place → way ≤ step * place
steps_behind way step place some behind =
    let turned : (place + 1) * step ≡ step * place + step = omega arith in
    let less : way + (step - 1) < (place + 1) * step = (div-lt_iff_lt-mul {k = step} {x = way + (step - 1)} {y = place + 1} some).0 (omega (arith, behind)) in
    omega (arith, turned, less, some)

pub centre_before : (first coordinate : ℤ) (way step side count place : ℕ) → 0 < step → way ≡ unsigned_abs (int_max (coordinate -ℤ first) (pos 0)) → count ≡ min ((way + (step - 1)) / step) side
    → place < count → (first +ℤ pos (step * place)) <ℤ coordinate
centre_before first coordinate way step side count place some is_way is_count below =
    let less : step * place < way = steps_before way step place some (omega (arith, is_count, below)) in
    omega (arith, ints, clamps, less, is_way)

pub centre_behind : (first coordinate : ℤ) (way step side count place : ℕ) → 0 < step → way ≡ unsigned_abs (int_max (coordinate -ℤ first) (pos 0)) → count ≡ min ((way + (step - 1)) / step) side
    → count ≤ place → place < side → coordinate ≤ℤ (first +ℤ pos (step * place))
centre_behind first coordinate way step side count place some is_way is_count behind within =
    let most : way ≤ step * place = steps_behind way step place some (omega (arith, is_count, behind, within)) in
    omega (arith, ints, clamps, most, is_way)

-- ---- a part's columns

pub reached_from : (p : Part) (axis : ℕ) (extent : Extent) (places : PartRange) (first : ℤ) (steps many : ℕ)
    → first ≡ centre_at p.grid axis (first_along p.grid p.split p.part axis) → steps ≡ 2 * p.grid.cell → many ≡ part_side p.grid p.split
    → places.to ≤ many
    → ((place : ℕ) → place < places.from → (first +ℤ pos (steps * place)) <ℤ (pos 2 *ℤ extent.low))
    → ((place : ℕ) → places.to ≤ place → place < many → (pos 2 *ℤ extent.high) ≤ℤ (first +ℤ pos (steps * place)))
    → AreReached p axis extent places
reached_from p axis extent places first steps many is_first is_steps is_many within before behind = record {
  within = omega (arith, within, is_many);
  before = λ place below. subst (λ z. z <ℤ (pos 2 *ℤ extent.low)) (centre place) (before place below);
  behind = λ place above inside. subst (λ z. (pos 2 *ℤ extent.high) ≤ℤ z) (centre place) (behind place above (omega (arith, inside, is_many)));
}
  where
    centre : (place : ℕ) → first +ℤ pos (steps * place) ≡ centre_at p.grid axis (first_along p.grid p.split p.part axis + place)
    centre place = further_centre p.grid axis (first_along p.grid p.split p.part axis) place steps first is_first is_steps

-- ---- a triangle's columns

not_highest : (p : Part) (t : Triangle) (x y z : ℕ) → is_covered t (centre_in p.grid p.split p.part x y z) ≡ false → is_highest p t x y z ≡ false
unfolding is_highest is_over_in
not_highest p t x y z none = rw none refl

pub across_from : (p : Part) (t : Triangle) (bounds : Bounds) (places : PartRange) → bounds ≡ bounds_of t → AreReached p 0 bounds.x places → AreAcross p t places
unfolding centre_in
across_from p t bounds places is reached = record {
  within = reached.within;
  before = λ x y z below. not_highest p t x y z (left_of_box t _ (subst (λ b. centre_at p.grid 0 (first_along p.grid p.split p.part 0 + x) <ℤ (pos 2 *ℤ b.x.low)) is (reached.before x below)));
  behind = λ x y z above inside. not_highest p t x y z (right_of_box t _ (subst (λ b. (pos 2 *ℤ b.x.high) ≤ℤ centre_at p.grid 0 (first_along p.grid p.split p.part 0 + x)) is (reached.behind x above inside)));
}

pub row_before : (p : Part) (t : Triangle) (bounds : Bounds) (places : PartRange) → bounds ≡ bounds_of t → AreReached p 1 bounds.y places → (x y z : ℕ) → y < places.from → is_highest p t x y z ≡ false
unfolding centre_in
row_before p t bounds places is reached x y z below =
    not_highest p t x y z (before_box t _ (subst (λ b. centre_at p.grid 1 (first_along p.grid p.split p.part 1 + y) <ℤ (pos 2 *ℤ b.y.low)) is (reached.before y below)))

pub row_behind : (p : Part) (t : Triangle) (bounds : Bounds) (places : PartRange) → bounds ≡ bounds_of t → AreReached p 1 bounds.y places → (x y z : ℕ) → places.to ≤ y → y < part_side p.grid p.split → is_highest p t x y z ≡ false
unfolding centre_in
row_behind p t bounds places is reached x y z above inside =
    not_highest p t x y z (behind_box t _ (subst (λ b. (pos 2 *ℤ b.y.high) ≤ℤ centre_at p.grid 1 (first_along p.grid p.split p.part 1 + y)) is (reached.behind y above inside)))
