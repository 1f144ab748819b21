-- What triangles are over is the sum of what is noted of them, from above.
use Rattle.std.proofs.Common.{◌≡◌, ℕ, ◌+◌, ◌-◌, ◌*◌, ◌%◌, ◌^◌, ◌<◌, ◌≤◌, Bool, true, false, List, [], ◌∷◌, get_or, ℤ, pos, ◌+ℤ◌, ◌-ℤ◌, ◌*ℤ◌, arith, refl, sym, ap, ◌∙◌}
use Rattle.std.specs.Prelude.{◌&&◌, not, cond, nat_lt}
use Rattle.std.specs.List.{sum_by}
use Rattle.svo_base.specs.GridShape.{GridShape}
use Rattle.svo_base.specs.declared.shapes.Triangle.{Triangle}
use Rattle.svo_base.specs.declared.shapes.Vector.{Vector}
use Rattle.morton_code.proofs.Coordinates.{code_of_coordinates, code_of_short, coordinate_below}
use Rattle.morton_scan.specs.Putting.{first_of_part}
use Rattle.octree_specs.specs.FacedTriangles.{Faced}
use Rattle.octree_specs.specs.NodeCube.{coordinate_of}
use Rattle.octree_specs.specs.Vectors.{vector}
use Rattle.octree_specs.proofs.Vectors.{vector_same}
use Rattle.solid_parity.specs.Counts.{HasCounts, AddsUpEach, noted_of, over_of}
use Rattle.solid_parity.specs.Heights.{is_above_at}
use Rattle.solid_parity.specs.Notes.{is_highest, place_in}
use Rattle.solid_parity.specs.Parity.{one, centre_at, centre_of, crosses, crossings, is_above, is_covered, normal_of}
use Rattle.solid_parity.specs.PartCells.{Part, part_side, first_along, centre_in, is_over_in}
use Rattle.solid_parity.specs.SolidParts.{HasParities}
use Rattle.solid_parity.specs.declared.heights.Heights.{Heights}
use Rattle.solid_parity.proofs.ColumnNumbers.{above_is}
use Rattle.solid_parity.proofs.Counts.{shallow_side}
use Rattle.solid_parity.proofs.Descending.{above_lower}
use Rattle.solid_parity.proofs.Paired.{both_parts}
use Rattle.solid_parity.proofs.PartCodes.{coordinate_in_part}
use Rattle.solid_parity.proofs.Totals.{total, total_is}
use Rattle.solid_parity.proofs.Undersides.{further_centre}

-- ---- one triangle

-- all centres of a column are covered alike
same_cover : (t : Triangle) (x y z w : ℤ) → is_covered t (vector x y z) ≡ is_covered t (vector x y w)
unfolding is_covered crossings crosses
same_cover t x y z w = refl

-- the column's heights over the triangle's plane
heights_of : Part → Triangle → ℕ → ℕ → Heights
heights_of p t x y =
    let n : Vector = normal_of t in
    let across : ℤ = centre_at p.grid 0 (first_along p.grid p.split p.part 0 + x) in
    let along : ℤ = centre_at p.grid 1 (first_along p.grid p.split p.part 1 + y) in
    record {
      slope = n.z;
      base = (n.x *ℤ (across -ℤ (pos 2 *ℤ t.a.x))) +ℤ (n.y *ℤ (along -ℤ (pos 2 *ℤ t.a.y)));
      low = centre_at p.grid 2 (first_along p.grid p.split p.part 2) -ℤ (pos 2 *ℤ t.a.z);
      step = 2 * p.grid.cell;
    }

above_in : (p : Part) (t : Triangle) (x y z : ℕ) → is_above t (centre_in p.grid p.split p.part x y z) ≡ is_above_at (heights_of p t x y) z
unfolding centre_in heights_of
above_in p t x y z =
    let first : ℕ = first_along p.grid p.split p.part 2 in
    ap (λ height. is_above t (vector (centre_at p.grid 0 (first_along p.grid p.split p.part 0 + x)) (centre_at p.grid 1 (first_along p.grid p.split p.part 1 + y)) height))
    (sym (further_centre p.grid 2 first z (2 * p.grid.cell) (centre_at p.grid 2 first) refl refl))
    ∙ sym (above_is t (centre_at p.grid 0 (first_along p.grid p.split p.part 0 + x)) (centre_at p.grid 1 (first_along p.grid p.split p.part 1 + y)) _ _ (centre_at p.grid 2 first) _ (2 * p.grid.cell) z refl refl refl)

-- what it is over it is over lower down, too
over_lower : (p : Part) (t : Triangle) (x y z : ℕ) → is_over_in p.grid p.split p.part t x y (z + 1) ≡ true → is_over_in p.grid p.split p.part t x y z ≡ true
unfolding is_over_in centre_in
over_lower p t x y z over =
    let parts = both_parts (is_covered t (centre_in p.grid p.split p.part x y (z + 1))) (is_above t (centre_in p.grid p.split p.part x y (z + 1))) over in
    let covered : is_covered t (centre_in p.grid p.split p.part x y z) ≡ true = same_cover t _ _ _ _ ∙ parts.0 in
    let above : is_above t (centre_in p.grid p.split p.part x y z) ≡ true =
    above_in p t x y z ∙ above_lower (heights_of p t x y) z (z + 1) (omega arith) (sym (above_in p t x y (z + 1)) ∙ parts.1)
    in
    rw (covered, above) refl

over_is : (p : Part) (t : Triangle) (x y z : ℕ) → one (is_over_in p.grid p.split p.part t x y z)
    ≡ one (is_highest p t x y z) + cond (nat_lt (z + 1) (part_side p.grid p.split)) (one (is_over_in p.grid p.split p.part t x y (z + 1))) 0
unfolding is_highest
over_is p t x y z = tests (nat_lt (z + 1) (part_side p.grid p.split)) (is_over_in p.grid p.split p.part t x y z) (is_over_in p.grid p.split p.part t x y (z + 1)) (over_lower p t x y z)
  where
    tests : (more here next : Bool) → (next ≡ true → here ≡ true) → one here ≡ one (here && not (more && next)) + cond more (one next) 0
    tests true true true lower = refl
    tests true true false lower = refl
    tests true false true lower = absurd (cc (lower refl))
    tests true false false lower = refl
    tests false true next lower = refl
    tests false false next lower = refl

-- ---- all triangles

sum_parts : (f g h : Faced → ℕ) (more : Bool) (faced : List Faced) → ((x : Faced) → f x ≡ g x + cond more (h x) 0) → total f faced ≡ total g faced + cond more (total h faced) 0
sum_parts f g h true [] parts = refl
sum_parts f g h false [] parts = refl
sum_parts f g h true (x ∷ xs) parts = omega (arith, parts x, sum_parts f g h true xs parts)
sum_parts f g h false (x ∷ xs) parts = omega (arith, parts x, sum_parts f g h false xs parts)

pub sums_up : (p : Part) (faced : List Faced) → AddsUpEach (part_side p.grid p.split) (noted_of p faced) (over_of p faced)
sums_up p faced x y lx ly z lz =
    let over : Faced → ℕ = λ f. one (is_over_in p.grid p.split p.part f.triangle x y z) in
    let noted : Faced → ℕ = λ f. one (is_highest p f.triangle x y z) in
    let next : Faced → ℕ = λ f. one (is_over_in p.grid p.split p.part f.triangle x y (z + 1)) in
    total_is over faced
    ∙ (sum_parts over noted next (nat_lt (z + 1) (part_side p.grid p.split)) faced (λ f. over_is p f.triangle x y z)
    ∙ (ap (λ n. n + cond (nat_lt (z + 1) (part_side p.grid p.split)) (total next faced) 0) (sym (total_is noted faced))
    ∙ ap (λ n. sum_by noted faced + cond (nat_lt (z + 1) (part_side p.grid p.split)) n 0) (sym (total_is next faced))))

-- ---- cells by their codes

-- the centre of a part's cell, by its code and by its places in the part
pub centre_is : (grid : GridShape) (split part place : ℕ) → split ≤ grid.depth → place < 8 ^ (grid.depth - split)
    → centre_of grid (first_of_part grid split part + place) ≡ centre_in grid split part (coordinate_of 0 (grid.depth - split) place) (coordinate_of 1 (grid.depth - split) place) (coordinate_of 2 (grid.depth - split) place)
unfolding centre_of centre_in
centre_is grid split part place shallow inside = vector_same _ _ _ _ _ _ (along 0 (omega arith)) (along 1 (omega arith)) (along 2 (omega arith))
  where
    along : (axis : ℕ) → axis < 3 → centre_at grid axis (coordinate_of axis grid.depth (part * 8 ^ (grid.depth - split) + place)) ≡ centre_at grid axis (first_along grid split part axis + coordinate_of axis (grid.depth - split) place)
    along axis three = ap (centre_at grid axis) (coordinate_in_part axis split (grid.depth - split) grid.depth part place (omega (arith, shallow)) three inside)

pub parities_from : (grid : GridShape) (split part : ℕ) (faced : List Faced) (slots : List ℕ) → split ≤ grid.depth → part_side grid split ≤ 2 ^ 12
    → HasCounts (part_side grid split) (over_of (record { grid = grid; split = split; part = part }) faced) slots → HasParities grid split part faced slots
unfolding is_over_in
parities_from grid split part faced slots shallow short has place inside =
    let height : ℕ = grid.depth - split in
    let x : ℕ = coordinate_of 0 height place in
    let y : ℕ = coordinate_of 1 height place in
    let z : ℕ = coordinate_of 2 height place in
    let bx = coordinate_below 0 height place in
    let by_y = coordinate_below 1 height place in
    let bz = coordinate_below 2 height place in
    let code : place_in x y z ≡ place = code_of_short height 20 x y z (shallow_side height short) bx by_y bz ∙ code_of_coordinates height place inside in
    ap (λ at. get_or slots at 0) (sym code)
    ∙ (has x y z bx by_y bz
    ∙ ap (λ v. sum_by (λ f. one (is_covered f.triangle v && is_above f.triangle v)) faced % 2) (sym (centre_is grid split part place shallow inside)))
