-- The parts that need a triangle are those of a box of parts.
use Rattle.std.proofs.Common.{◌≡◌, ℕ, ◌^◌, ◌<◌, ◌≤◌, Bool, true, false, ℤ, pos, ◌+ℤ◌, ◌<ℤ◌, arith, refl, sym, ap, ◌∙◌}
use Rattle.std.specs.Prelude.{◌&&◌, ◌||◌, int_le}
use Rattle.std.specs.Int.{int_min, int_max}
use Rattle.std.proofs.Math.Bool.{and_comm}
use Rattle.std.proofs.lemmas.Bool.{or_parts}
use Rattle.std.proofs.lemmas.Int.{ints, clamps}
use Rattle.svo_base.specs.Boxes.{bounds_of, extent_of}
use Rattle.svo_base.specs.GridShape.{GridShape}
use Rattle.svo_base.specs.declared.boxes.Bounds.{Bounds}
use Rattle.svo_base.specs.declared.shapes.Point.{Point}
use Rattle.svo_base.specs.declared.shapes.Triangle.{Triangle}
use Rattle.morton_code.proofs.Coordinates.{coordinate_below}
use Rattle.octree_specs.specs.NodeCube.{coordinate_of, node_cube, side_of}
use Rattle.octree_specs.specs.Parts.{reaches}
use Rattle.tri_partition.specs.PartRanges.{extent_reaches, in_range, plane_of}
use Rattle.solid_parity.specs.ColumnParts.{AreColumnParts}
use Rattle.solid_parity.specs.Columns.{column_meets, is_not_below}
use Rattle.solid_parity.specs.declared.part_boxes.PartBox.{PartBox}
use Rattle.solid_parity.proofs.Beside.{less_of, test_above}

same_if_false : (p q : Bool) → (p ≡ false → q ≡ false) → (q ≡ false → p ≡ false) → p ≡ q
same_if_false true true there back = refl
same_if_false true false there back = absurd (cc (back refl))
same_if_false false true there back = absurd (cc (there refl))
same_if_false false false there back = refl

-- what one of three numbers does, their least does, and their greatest
least_of : (a b c high : ℤ) → (int_le a high || (int_le b high || int_le c high)) ≡ int_le (int_min (int_min a b) c) high
least_of a b c high =
    same_if_false (int_le a high || (int_le b high || int_le c high)) (int_le (int_min (int_min a b) c) high)
    (λ none.
    let first = or_parts (int_le a high) (int_le b high || int_le c high) none in
    let rest = or_parts (int_le b high) (int_le c high) first.1 in
    test_above (int_min (int_min a b) c) high (omega (arith, ints, clamps, less_of a high first.0, less_of b high rest.0, less_of c high rest.1)))
    (λ none.
    let above : high <ℤ int_min (int_min a b) c = less_of (int_min (int_min a b) c) high none in
    rw (test_above a high (omega (arith, ints, clamps, above)), test_above b high (omega (arith, ints, clamps, above)), test_above c high (omega (arith, ints, clamps, above))) refl)

greatest_of : (a b c low : ℤ) → (int_le low a || (int_le low b || int_le low c)) ≡ int_le low (int_max (int_max a b) c)
greatest_of a b c low =
    same_if_false (int_le low a || (int_le low b || int_le low c)) (int_le low (int_max (int_max a b) c))
    (λ none.
    let first = or_parts (int_le low a) (int_le low b || int_le low c) none in
    let rest = or_parts (int_le low b) (int_le low c) first.1 in
    test_above low (int_max (int_max a b) c) (omega (arith, ints, clamps, less_of low a first.0, less_of low b rest.0, less_of low c rest.1)))
    (λ none.
    let below : int_max (int_max a b) c <ℤ low = less_of low (int_max (int_max a b) c) none in
    rw (test_above low a (omega (arith, ints, clamps, below)), test_above low b (omega (arith, ints, clamps, below)), test_above low c (omega (arith, ints, clamps, below))) refl)

reaches_is : (at : Point → ℤ) (t : Triangle) (grid : GridShape) (split axis place : ℕ)
    → reaches at t (plane_of grid split axis place) (plane_of grid split axis place +ℤ pos (side_of grid split)) ≡ extent_reaches grid split axis (extent_of (at t.a) (at t.b) (at t.c)) place
unfolding reaches
reaches_is at t grid split axis place =
    let low : ℤ = plane_of grid split axis place in
    let high : ℤ = plane_of grid split axis place +ℤ pos (side_of grid split) in
    rw (least_of (at t.a) (at t.b) (at t.c) high, greatest_of (at t.a) (at t.b) (at t.c) low)
    (and_comm (int_le (int_min (int_min (at t.a) (at t.b)) (at t.c)) high) (int_le low (int_max (int_max (at t.a) (at t.b)) (at t.c))))

column_meets_is : (grid : GridShape) (split part : ℕ) (t : Triangle) → column_meets (node_cube grid split part) t
    ≡ (extent_reaches grid split 0 (bounds_of t).x (coordinate_of 0 split part) && (extent_reaches grid split 1 (bounds_of t).y (coordinate_of 1 split part) && int_le (plane_of grid split 2 (coordinate_of 2 split part)) (bounds_of t).z.high))
unfolding column_meets is_not_below node_cube bounds_of
column_meets_is grid split part t =
    rw (
      reaches_is (λ p. p.x) t grid split 0 (coordinate_of 0 split part),
      reaches_is (λ p. p.y) t grid split 1 (coordinate_of 1 split part),
      greatest_of t.a.z t.b.z t.c.z (plane_of grid split 2 (coordinate_of 2 split part)),
    ) refl

pub column_parts_are : (grid : GridShape) (split : ℕ) (t : Triangle) (bounds : Bounds) (parts : PartBox) → bounds ≡ bounds_of t
    → parts.x.to ≤ 2 ^ split → parts.y.to ≤ 2 ^ split → parts.z.to ≤ 2 ^ split
    → ((place : ℕ) → place < 2 ^ split → in_range parts.x place ≡ extent_reaches grid split 0 bounds.x place)
    → ((place : ℕ) → place < 2 ^ split → in_range parts.y place ≡ extent_reaches grid split 1 bounds.y place)
    → ((place : ℕ) → place < 2 ^ split → in_range parts.z place ≡ int_le (plane_of grid split 2 place) bounds.z.high)
    → AreColumnParts grid split t parts
column_parts_are grid split t bounds parts is lx ly lz x_is y_is z_is = record {
  x_within = lx;
  y_within = ly;
  z_within = lz;
  needed = λ part within.
      rw (x_is (coordinate_of 0 split part) (coordinate_below 0 split part), y_is (coordinate_of 1 split part) (coordinate_below 1 split part), z_is (coordinate_of 2 split part) (coordinate_below 2 split part))
      (ap (λ b. extent_reaches grid split 0 b.x (coordinate_of 0 split part) && (extent_reaches grid split 1 b.y (coordinate_of 1 split part) && int_le (plane_of grid split 2 (coordinate_of 2 split part)) b.z.high)) is
      ∙ sym (column_meets_is grid split part t));
}
