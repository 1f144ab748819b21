-- The cells of a part's column that a triangle is over, from what is asked of the column.
use Rattle.std.proofs.Common.{◌≡◌, ℕ, ◌+◌, ◌*◌, true, false, ℤ, pos, ◌+ℤ◌, ◌*ℤ◌, arith, refl, sym, ap, ◌∙◌}
use Rattle.std.specs.Prelude.{◌&&◌}
use Rattle.std.specs.List.{slice_index_or}
use Rattle.std.proofs.lemmas.Int.{ints}
use Rattle.svo_base.specs.GridShape.{GridShape}
use Rattle.svo_base.specs.declared.shapes.Triangle.{Triangle}
use Rattle.svo_base.specs.declared.shapes.Vector.{Vector}
use Rattle.octree_specs.proofs.Vectors.{vector_same}
use Rattle.octree_specs.specs.Vectors.{vector}
use Rattle.solid_parity.specs.Heights.{is_above_at, AreLowest}
use Rattle.solid_parity.specs.Parity.{centre_at, is_covered, is_above}
use Rattle.solid_parity.specs.PartCells.{Part, first_along, centre_in, is_over_in, HasCentres}
use Rattle.solid_parity.specs.Shapes.{AreUnder}
use Rattle.solid_parity.specs.declared.heights.Heights.{Heights}

pub further_centre : (grid : GridShape) (axis from place steps : ℕ) (first : ℤ) → first ≡ centre_at grid axis from → steps ≡ 2 * grid.cell → first +ℤ pos (steps * place) ≡ centre_at grid axis (from + place)
further_centre grid axis from place steps first is_first is_steps = rw (is_first, is_steps) (moved (slice_index_or grid.origin axis (pos 0)) grid.cell from place)
  where
    moved : (o : ℤ) (cell from place : ℕ) → ((pos 2 *ℤ o) +ℤ pos (cell * (2 * from + 1))) +ℤ pos (2 * cell * place) ≡ (pos 2 *ℤ o) +ℤ pos (cell * (2 * (from + place) + 1))
    moved o cell from place = omega (arith, ints)

-- a centre of the column, and the same by its places in the part
column_centre : (p : Part) (x y z : ℤ) (steps many a b c : ℕ) (q r : ℤ) → HasCentres p x y z steps many → q ≡ x +ℤ pos (steps * a) → r ≡ y +ℤ pos (steps * b)
    → vector q r (z +ℤ pos (steps * c)) ≡ centre_in p.grid p.split p.part a b c
unfolding centre_in
column_centre p x y z steps many a b c q r has is_q is_r =
    vector_same _ _ _ _ _ _
    (is_q ∙ further_centre p.grid 0 (first_along p.grid p.split p.part 0) a steps x has.x_is has.step_is)
    (is_r ∙ further_centre p.grid 1 (first_along p.grid p.split p.part 1) b steps y has.y_is has.step_is)
    (further_centre p.grid 2 (first_along p.grid p.split p.part 2) c steps z has.z_is has.step_is)

over_at : (t : Triangle) (grid : GridShape) (split part a b c : ℕ) (v : Vector) → v ≡ centre_in grid split part a b c → is_over_in grid split part t a b c ≡ (is_covered t v && is_above t v)
unfolding is_over_in
over_at t grid split part a b c v is = ap (λ w. is_covered t w && is_above t w) (sym is)

pub none_under : (p : Part) (t : Triangle) (x y z : ℤ) (steps many a b : ℕ) (q r : ℤ) → HasCentres p x y z steps many → q ≡ x +ℤ pos (steps * a) → r ≡ y +ℤ pos (steps * b)
    → ((height : ℤ) → is_covered t (vector q r height) ≡ false) → AreUnder p t a b 0
none_under p t x y z steps many a b q r has is_q is_r not_covered = record {
  within = omega arith;
  over = λ c below. absurd (omega (arith, below));
  others = λ c above within.
      over_at t p.grid p.split p.part a b c _ (column_centre p x y z steps many a b c q r has is_q is_r)
      ∙ rw (not_covered (z +ℤ pos (steps * c))) refl;
}

pub lowest_under : (p : Part) (t : Triangle) (x y z : ℤ) (steps many a b : ℕ) (q r : ℤ) (h : Heights) (count : ℕ) → HasCentres p x y z steps many → q ≡ x +ℤ pos (steps * a) → r ≡ y +ℤ pos (steps * b)
    → ((height : ℤ) → is_covered t (vector q r height) ≡ true) → ((place : ℕ) → is_above_at h place ≡ is_above t (vector q r (z +ℤ pos (steps * place))))
    → AreLowest h many count → AreUnder p t a b count
lowest_under p t x y z steps many a b q r h count has is_q is_r covered above lowest =
    let over : (c : ℕ) → is_over_in p.grid p.split p.part t a b c ≡ is_above_at h c = λ c.
    over_at t p.grid p.split p.part a b c _ (column_centre p x y z steps many a b c q r has is_q is_r)
    ∙ rw (covered (z +ℤ pos (steps * c))) (sym (above c))
    in
    record {
      within = omega (arith, lowest.within, has.side_is);
      over = λ c below. over c ∙ lowest.above c below;
      others = λ c from within. over c ∙ lowest.others c from (omega (arith, within, has.side_is));
    }
