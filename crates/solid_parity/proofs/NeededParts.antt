-- A triangle that is over a cell is one that the cell's part needs.
use Rattle.std.proofs.Common.{◌≡◌, ℕ, ◌+◌, ◌-◌, ◌*◌, ◌%◌, ◌^◌, ◌<◌, ◌≤◌, Bool, true, false, List, [], ◌∷◌, filter, ℤ, pos, ◌+ℤ◌, ◌*ℤ◌, ◌≤ℤ◌, ◌<ℤ◌, inl, inr, arith, refl, sym, ap, ◌∙◌, mul-le-mul_left}
use Rattle.std.specs.Prelude.{◌||◌, int_le}
use Rattle.std.specs.List.{slice_index_or}
use Rattle.std.proofs.lemmas.Bool.{cases_Bool, or_parts, true_from_ne_false, and_from}
use Rattle.std.proofs.lemmas.Int.{ints}
use Rattle.svo_base.specs.GridShape.{GridShape}
use Rattle.svo_base.specs.declared.shapes.Triangle.{Triangle}
use Rattle.svo_base.specs.declared.shapes.Vector.{Vector}
use Rattle.svo_base.specs.declared.shapes.Point.{Point}
use Rattle.morton_code.proofs.Coordinates.{coordinate_below}
use Rattle.morton_scan.specs.Putting.{first_of_part}
use Rattle.octree_specs.specs.FacedTriangles.{Faced}
use Rattle.octree_specs.specs.NodeCube.{coordinate_of, low_plane, node_cube, side_of}
use Rattle.octree_specs.specs.Parcels.{HoldAlike}
use Rattle.octree_specs.specs.Parts.{reaches}
use Rattle.solid_parity.specs.Columns.{is_in_column, column_meets, column_of, is_not_below}
use Rattle.solid_parity.specs.Parity.{one, centre_at, centre_of, is_above, is_covered, is_over, number_over}
use Rattle.solid_parity.specs.PartCells.{centre_in, first_along, part_side}
use Rattle.solid_parity.specs.PartLaws.{PartsNeedTheirColumns}
use Rattle.solid_parity.proofs.Beside.{left_of, right_of, before, behind, less_of}
use Rattle.solid_parity.proofs.Overs.{centre_is}
use Rattle.solid_parity.proofs.Paired.{both_parts}
use Rattle.solid_parity.proofs.Totals.{total, total_is}
use Rattle.solid_parity.proofs.Weights.{not_above_corners}

-- ---- a centre lies in its part

in_side : (cell side at place : ℕ) → place < side → (2 * (cell * side * at) ≤ cell * (2 * (at * side + place) + 1)) × (cell * (2 * (at * side + place) + 1) ≤ 2 * (cell * side * at) + 2 * (cell * side))
in_side cell side at place inside =
    let most : cell * (place + 1) ≤ cell * side = mul-le-mul_left cell (omega (arith, inside)) in (omega arith, omega (arith, most))

between : (o q : ℤ) (cell side at place : ℕ) → place < side → q ≡ (pos 2 *ℤ o) +ℤ pos (cell * (2 * (at * side + place) + 1))
    → ((pos 2 *ℤ (o +ℤ pos (cell * side * at))) ≤ℤ q) × (q ≤ℤ (pos 2 *ℤ ((o +ℤ pos (cell * side * at)) +ℤ pos (cell * side))))
between o q cell side at place inside is =
    let both = in_side cell side at place inside in (omega (arith, ints, is, both.0), omega (arith, ints, is, both.1))

centre_between : (grid : GridShape) (split part axis place : ℕ) → place < part_side grid split
    → ((pos 2 *ℤ low_plane grid split part axis) ≤ℤ centre_at grid axis (first_along grid split part axis + place)) × (centre_at grid axis (first_along grid split part axis + place) ≤ℤ (pos 2 *ℤ (low_plane grid split part axis +ℤ pos (side_of grid split))))
centre_between grid split part axis place inside =
    between (slice_index_or grid.origin axis (pos 0)) (centre_at grid axis (first_along grid split part axis + place)) grid.cell (part_side grid split) (coordinate_of axis split part) place inside refl

-- ---- corners on both sides of it

some_not_above : (a b c q high : ℤ) → (q <ℤ (pos 2 *ℤ a) → q <ℤ (pos 2 *ℤ b) → q <ℤ (pos 2 *ℤ c) → ⊥) → q ≤ℤ (pos 2 *ℤ high) → (int_le a high || (int_le b high || int_le c high)) ≡ true
some_not_above a b c q high not_all near = true_from_ne_false _ (λ none.
    let first = or_parts (int_le a high) (int_le b high || int_le c high) none in
    let rest = or_parts (int_le b high) (int_le c high) first.1 in
    not_all (omega (arith, ints, near, less_of a high first.0)) (omega (arith, ints, near, less_of b high rest.0)) (omega (arith, ints, near, less_of c high rest.1)))

some_not_below : (a b c q low : ℤ) → ((pos 2 *ℤ a) <ℤ q → (pos 2 *ℤ b) <ℤ q → (pos 2 *ℤ c) <ℤ q → ⊥) → (pos 2 *ℤ low) ≤ℤ q → (int_le low a || (int_le low b || int_le low c)) ≡ true
some_not_below a b c q low not_all near = true_from_ne_false _ (λ none.
    let first = or_parts (int_le low a) (int_le low b || int_le low c) none in
    let rest = or_parts (int_le low b) (int_le low c) first.1 in
    not_all (omega (arith, ints, near, less_of low a first.0)) (omega (arith, ints, near, less_of low b rest.0)) (omega (arith, ints, near, less_of low c rest.1)))

differ : (test : Bool) → test ≡ true → test ≡ false → ⊥
differ test yes_so no_so = absurd (cc)

reaches_from : (at : Point → ℤ) (t : Triangle) (q low high : ℤ) → (q <ℤ (pos 2 *ℤ at t.a) → q <ℤ (pos 2 *ℤ at t.b) → q <ℤ (pos 2 *ℤ at t.c) → ⊥)
    → ((pos 2 *ℤ at t.a) <ℤ q → (pos 2 *ℤ at t.b) <ℤ q → (pos 2 *ℤ at t.c) <ℤ q → ⊥) → (pos 2 *ℤ low) ≤ℤ q → q ≤ℤ (pos 2 *ℤ high) → reaches at t low high ≡ true
unfolding reaches
reaches_from at t q low high not_above not_below lower upper =
    and_from _ _ (some_not_above (at t.a) (at t.b) (at t.c) q high not_above upper) (some_not_below (at t.a) (at t.b) (at t.c) q low not_below lower)

at_most : (m n : ℤ) → m <ℤ n → m ≤ℤ n
at_most m n h = omega (arith, ints, h)

-- over a centre of the part, a triangle meets the part's column
pub column_is_met : (grid : GridShape) (split part x y z : ℕ) (t : Triangle) → x < part_side grid split → y < part_side grid split → z < part_side grid split
    → is_covered t (centre_in grid split part x y z) ≡ true → is_above t (centre_in grid split part x y z) ≡ true → column_meets (node_cube grid split part) t ≡ true
unfolding column_meets is_not_below node_cube centre_in
column_is_met grid split part x y z t lx ly lz covered above =
    let q : Vector = centre_in grid split part x y z in
    let along_x = centre_between grid split part 0 x lx in
    let along_y = centre_between grid split part 1 y ly in
    let along_z = centre_between grid split part 2 z lz in
    and_from _ _
    (reaches_from (λ p. p.x) t q.x (low_plane grid split part 0) (low_plane grid split part 0 +ℤ pos (side_of grid split))
    (λ a b c. differ _ covered (left_of t q a b c)) (λ a b c. differ _ covered (right_of t q (at_most _ _ a) (at_most _ _ b) (at_most _ _ c))) along_x.0 along_x.1)
    (and_from _ _
    (reaches_from (λ p. p.y) t q.y (low_plane grid split part 1) (low_plane grid split part 1 +ℤ pos (side_of grid split))
    (λ a b c. differ _ covered (before t q a b c)) (λ a b c. differ _ covered (behind t q (at_most _ _ a) (at_most _ _ b) (at_most _ _ c))) along_y.0 along_y.1)
    (some_not_below t.a.z t.b.z t.c.z q.z (low_plane grid split part 2) (λ a b c. differ _ above (not_above_corners t q covered a b c)) along_z.0))

needed_in : (grid : GridShape) (split part place : ℕ) (x : Faced) → split ≤ grid.depth → place < 8 ^ (grid.depth - split) → is_over grid (first_of_part grid split part + place) x ≡ true → is_in_column grid split part x ≡ true
unfolding is_in_column
needed_in grid split part place x shallow inside over =
    let parts = both_parts (is_covered x.triangle (centre_of grid (first_of_part grid split part + place))) (is_above x.triangle (centre_of grid (first_of_part grid split part + place))) over in
    let centre = centre_is grid split part place shallow inside in
    column_is_met grid split part _ _ _ x.triangle (coordinate_below 0 (grid.depth - split) place) (coordinate_below 1 (grid.depth - split) place) (coordinate_below 2 (grid.depth - split) place)
    (ap (is_covered x.triangle) (sym centre) ∙ parts.0) (ap (is_above x.triangle) (sym centre) ∙ parts.1)

-- ---- what is left out counts nothing

kept_total : (f : Faced → ℕ) (keep : Faced → Bool) (faced : List Faced) → ((x : Faced) → keep x ≡ false → f x ≡ 0) → total f (filter keep faced) ≡ total f faced
kept_total f keep [] none = refl
kept_total f keep (x ∷ xs) none = elim (cases_Bool (keep x)) [
  | inl kept ↦ rw kept (ap (λ n. f x + n) (kept_total f keep xs none))
  | inr left_out ↦ rw left_out (omega (arith, kept_total f keep xs none, none x left_out))
]

one_not : (test : Bool) → (test ≡ true → ⊥) → one test ≡ 0
one_not true never = absurd (never refl)
one_not false never = refl

column_number : (grid : GridShape) (split part place : ℕ) (parcels faced : List Faced) → split ≤ grid.depth → place < 8 ^ (grid.depth - split) → HoldAlike parcels (column_of grid split part faced)
    → number_over grid parcels (first_of_part grid split part + place) ≡ number_over grid faced (first_of_part grid split part + place)
column_number grid split part place parcels faced shallow inside alike =
    let over : Faced → ℕ = λ x. one (is_over grid (first_of_part grid split part + place) x) in
    let left_out : (x : Faced) → is_in_column grid split part x ≡ false → over x ≡ 0 =
    λ x not_in. one_not (is_over grid (first_of_part grid split part + place) x) (λ is_so. differ _ (needed_in grid split part place x shallow inside is_so) not_in)
    in
    alike over
    ∙ (total_is over (column_of grid split part faced) ∙ (kept_total over (is_in_column grid split part) faced left_out ∙ sym (total_is over faced)))

pub parts_need_their_columns : PartsNeedTheirColumns
parts_need_their_columns = record {
  needed = needed_in;
  all = λ grid split part parcels faced slots shallow alike has place inside.
      has place inside ∙ ap (λ n. n % 2) (column_number grid split part place parcels faced shallow inside alike);
}
