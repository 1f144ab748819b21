-- Children's codes, coordinates and cubes.
use Rattle.std.proofs.Common.{◌≡◌, ℕ, zero, suc, ◌+◌, ◌-◌, ◌*◌, ◌/◌, ◌%◌, ◌^◌, ◌<◌, ◌≤◌, ℤ, pos, ◌+ℤ◌, ◌*ℤ◌, ◌≤ℤ◌, arith, add-one, lit<}
use Rattle.std.specs.List.{slice_index_or}
use Rattle.std.proofs.Math.Nat.{pow-suc, div-eq_of_lt-le, mul-le-mul_right}
use Rattle.std.proofs.Math.IntN.{suc_ℤ-*ℤ, zero-*ℤ}
use Rattle.std.specs.Int.Signed.{≤ℤ_refl}
use Rattle.std.proofs.lemmas.Int.{ints, by_lt_z}
use Rattle.std.proofs.lemmas.Nat.{mod_below, div-add-mod'}
use Rattle.svo_base.specs.GridShape.{GridShape}
use Rattle.svo_base.specs.declared.shapes.Cube.{Cube}
use Rattle.svo_base.specs.declared.shapes.Triangle.{Triangle}
use Rattle.octree_specs.specs.Meeting.{weighted, Meets}
use Rattle.octree_specs.specs.NodeCube.{coordinate_of, side_of, low_plane, node_cube}
use Rattle.morton_code.specs.Laws.{NamesParent, HalvesCoordinates, IgnoresLeadingZeros, AreRanges, AreInOrder, IsInside, CoverParent, MeetTogether}
use Rattle.morton_code.proofs.Coordinates.{coordinate_of_short, code_of_short}
use Rattle.morton_code.proofs.Heights.{eight_pos}

pub names_parent : NamesParent
names_parent = record {
  parent = λ node place below. omega arith;
  place = λ node place below. omega arith;
}

parent_coordinate : (axis level code : ℕ) → coordinate_of axis level (code / 8) ≡ coordinate_of axis (level + 1) code / 2
unfolding coordinate_of
parent_coordinate axis level code = rw (add-one level) (omega arith)

-- the coordinates of a child
digit_bit : (axis node place : ℕ) → axis < 3 → place < 8 → (8 * node + place) / 2 ^ axis % 2 ≡ place / 2 ^ axis % 2
digit_bit zero node place real below = omega arith
digit_bit (suc zero) node place real below = omega arith
digit_bit (suc (suc zero)) node place real below = omega arith
digit_bit (suc (suc (suc axis))) node place real below = absurd (omega arith)

child_coordinate : (axis level node place : ℕ) → axis < 3 → place < 8 → coordinate_of axis (level + 1) (8 * node + place) ≡ 2 * coordinate_of axis level node + place / 2 ^ axis % 2
unfolding coordinate_of
child_coordinate axis level node place real below =
    let parent : (8 * node + place) / 8 ≡ node = omega arith in
    rw (add-one level, parent, digit_bit axis node place real below) (omega arith)

pub halves_coordinates : HalvesCoordinates
halves_coordinates = record {
  parent = λ axis level code. parent_coordinate axis level code;
  child = child_coordinate;
}

pub ignores_leading_zeros : IgnoresLeadingZeros
ignores_leading_zeros = record {
  code = code_of_short;
  coordinate = coordinate_of_short;
}

-- a node's codes are a range
pub are_ranges : AreRanges
are_ranges levels code node =
    let parts = div-add-mod' code (8 ^ levels) in
    let rest = mod_below code (8 ^ levels) (eight_pos levels) in
    (λ same. rw (← same) (omega (arith, parts), omega (arith, parts, rest)), λ range. div-eq_of_lt-le (8 ^ levels) range.0 range.1)

pub are_in_order : AreInOrder
are_in_order levels node i j first second before under_i under_j =
    let first_in = (are_ranges levels first (8 * node + i)).0 under_i in
    let second_in = (are_ranges levels second (8 * node + j)).0 under_j in
    let next : (8 * node + i + 1) * 8 ^ levels ≤ (8 * node + j) * 8 ^ levels = mul-le-mul_right (8 ^ levels) (omega arith) in
    omega (arith, first_in.1, second_in.0, next)

-- an order of numbers holds of their multiples
scaled_order : (scale : ℕ) (a b : ℤ) → a ≤ℤ b → (pos scale *ℤ a) ≤ℤ (pos scale *ℤ b)
scaled_order zero a b below = rw (zero-*ℤ a, zero-*ℤ b) (≤ℤ_refl (pos 0))
scaled_order (suc scale) a b below =
    let less = scaled_order scale a b below in
    let a_step : pos (suc scale) *ℤ a ≡ (pos scale *ℤ a) +ℤ a = suc_ℤ-*ℤ (pos scale) a in
    let b_step : pos (suc scale) *ℤ b ≡ (pos scale *ℤ b) +ℤ b = suc_ℤ-*ℤ (pos scale) b in
    rw (a_step, b_step) (omega (arith, ints, less, below))

-- a scaled coordinate between a plane and the one a side above it
abbrev IsOver : ℕ → ℤ → ℕ → ℤ → Type 0
IsOver scale low side v = ((pos scale *ℤ low) ≤ℤ v) × (v ≤ℤ (pos scale *ℤ (low +ℤ pos side)))

-- what lies over one half of a side lies over the whole side
over_whole : (scale : ℕ) (o : ℤ) (whole half at bit : ℕ) (v : ℤ) → whole ≡ 2 * half → bit < 2 →
    IsOver scale (o +ℤ pos (half * (2 * at + bit))) half v → IsOver scale (o +ℤ pos (whole * at)) whole v
over_whole scale o whole half at zero v is_whole one_bit over =
    let low = scaled_order scale (o +ℤ pos (whole * at)) (o +ℤ pos (half * (2 * at + 0))) (rw is_whole (omega (arith, ints))) in
    let high = scaled_order scale ((o +ℤ pos (half * (2 * at + 0))) +ℤ pos half) ((o +ℤ pos (whole * at)) +ℤ pos whole) (rw is_whole (omega (arith, ints))) in
    (omega (arith, ints, low, over.0), omega (arith, ints, high, over.1))
over_whole scale o whole half at (suc zero) v is_whole one_bit over =
    let low = scaled_order scale (o +ℤ pos (whole * at)) (o +ℤ pos (half * (2 * at + 1))) (rw is_whole (omega (arith, ints))) in
    let high = scaled_order scale ((o +ℤ pos (half * (2 * at + 1))) +ℤ pos half) ((o +ℤ pos (whole * at)) +ℤ pos whole) (rw is_whole (omega (arith, ints))) in
    (omega (arith, ints, low, over.0), omega (arith, ints, high, over.1))
over_whole scale o whole half at (suc (suc bit)) v is_whole one_bit over = absurd (omega arith)

-- and what lies over the whole side lies over one of its halves
over_half : (scale : ℕ) (o : ℤ) (whole half at : ℕ) (v : ℤ) → whole ≡ 2 * half → IsOver scale (o +ℤ pos (whole * at)) whole v →
    (bit : ℕ) × (bit < 2) × IsOver scale (o +ℤ pos (half * (2 * at + bit))) half v
over_half scale o whole half at v is_whole over =
    let bottom : o +ℤ pos (half * (2 * at + 0)) ≡ o +ℤ pos (whole * at) = rw is_whole (omega (arith, ints)) in
    let middle : (o +ℤ pos (half * (2 * at + 0))) +ℤ pos half ≡ o +ℤ pos (half * (2 * at + 1)) = omega (arith, ints) in
    let top : (o +ℤ pos (half * (2 * at + 1))) +ℤ pos half ≡ (o +ℤ pos (whole * at)) +ℤ pos whole = rw is_whole (omega (arith, ints)) in
    let plane : ℤ = pos scale *ℤ (o +ℤ pos (half * (2 * at + 1))) in
    by_lt_z plane v
    (λ above. (1, lit< tt, (omega (arith, ints, above), rw top over.1)))
    (λ below. (0, lit< tt, (rw bottom over.0, rw middle below)))

-- a node's side is two of its children's
half_side : (grid : GridShape) (level : ℕ) → level < grid.depth → side_of grid level ≡ 2 * side_of grid (level + 1)
half_side grid level below =
    let one_more : grid.depth - level ≡ suc (grid.depth - (level + 1)) = omega arith in
    rw (one_more, pow-suc 2 (grid.depth - (level + 1))) (omega arith)

-- a scaled point in a node's cube, axis by axis
inside_node : (grid : GridShape) (level code scale : ℕ) (x y z : ℤ) →
    IsOver scale (low_plane grid level code 0) (side_of grid level) x → IsOver scale (low_plane grid level code 1) (side_of grid level) y → IsOver scale (low_plane grid level code 2) (side_of grid level) z →
    IsInside scale x y z (node_cube grid level code)
unfolding node_cube
inside_node grid level code scale x y z over_x over_y over_z =
    record { x_low = over_x.0; x_high = over_x.1; y_low = over_y.0; y_high = over_y.1; z_low = over_z.0; z_high = over_z.1 }

over_axes : (grid : GridShape) (level code scale : ℕ) (x y z : ℤ) → IsInside scale x y z (node_cube grid level code) →
    IsOver scale (low_plane grid level code 0) (side_of grid level) x × IsOver scale (low_plane grid level code 1) (side_of grid level) y × IsOver scale (low_plane grid level code 2) (side_of grid level) z
unfolding node_cube
over_axes grid level code scale x y z inside = ((inside.x_low, inside.x_high), (inside.y_low, inside.y_high), (inside.z_low, inside.z_high))

-- on one axis, from a child to its parent
over_parent : (grid : GridShape) (level node place scale axis : ℕ) (v : ℤ) → level < grid.depth → axis < 3 → place < 8 →
    IsOver scale (low_plane grid (level + 1) (8 * node + place) axis) (side_of grid (level + 1)) v → IsOver scale (low_plane grid level node axis) (side_of grid level) v
over_parent grid level node place scale axis v below real within over =
    over_whole scale (slice_index_or grid.origin axis (pos 0)) (side_of grid level) (side_of grid (level + 1)) (coordinate_of axis level node) (place / 2 ^ axis % 2) v
    (half_side grid level below) (omega arith)
    (rw (child_coordinate axis level node place real within) at over)

-- and from a parent to the child of these bits
over_child : (grid : GridShape) (level node place scale axis bit : ℕ) (v : ℤ) → axis < 3 → place < 8 → place / 2 ^ axis % 2 ≡ bit →
    IsOver scale (slice_index_or grid.origin axis (pos 0) +ℤ pos (side_of grid (level + 1) * (2 * coordinate_of axis level node + bit))) (side_of grid (level + 1)) v →
    IsOver scale (low_plane grid (level + 1) (8 * node + place) axis) (side_of grid (level + 1)) v
over_child grid level node place scale axis bit v real within is_bit over =
    rw (child_coordinate axis level node place real within, is_bit) over

pub cover_parent : CoverParent
cover_parent = record {
  within = λ grid level node place scale x y z below child inside.
      let axes = over_axes grid (level + 1) (8 * node + place) scale x y z inside in
      inside_node grid level node scale x y z
      (over_parent grid level node place scale 0 x below (lit< tt) child axes.0)
      (over_parent grid level node place scale 1 y below (lit< tt) child axes.1)
      (over_parent grid level node place scale 2 z below (lit< tt) child axes.2);
  covered = λ grid level node scale x y z below inside.
      let axes = over_axes grid level node scale x y z inside in
      let on_x = over_half scale (slice_index_or grid.origin 0 (pos 0)) (side_of grid level) (side_of grid (level + 1)) (coordinate_of 0 level node) x (half_side grid level below) axes.0 in
      let on_y = over_half scale (slice_index_or grid.origin 1 (pos 0)) (side_of grid level) (side_of grid (level + 1)) (coordinate_of 1 level node) y (half_side grid level below) axes.1 in
      let on_z = over_half scale (slice_index_or grid.origin 2 (pos 0)) (side_of grid level) (side_of grid (level + 1)) (coordinate_of 2 level node) z (half_side grid level below) axes.2 in
      let x_bit : on_x.0 < 2 = on_x.1 in
      let y_bit : on_y.0 < 2 = on_y.1 in
      let z_bit : on_z.0 < 2 = on_z.1 in
      let place : ℕ = on_x.0 + 2 * on_y.0 + 4 * on_z.0 in
      let small : place < 8 = omega arith in (
        place,
        small,
        inside_node grid (level + 1) (8 * node + place) scale x y z
            (over_child grid level node place scale 0 on_x.0 x (lit< tt) small (omega arith) on_x.2)
            (over_child grid level node place scale 1 on_y.0 y (lit< tt) small (omega arith) on_y.2)
            (over_child grid level node place scale 2 on_z.0 z (lit< tt) small (omega arith) on_z.2),
      );
}

-- a triangle meets a cube where a weighted point of it is inside
inside_from_meets : (t : Triangle) (cube : Cube) (met : Meets t cube) →
    IsInside (met.w0 + met.w1 + met.w2) (weighted met.w0 met.w1 met.w2 (λ p. p.x) t) (weighted met.w0 met.w1 met.w2 (λ p. p.y) t) (weighted met.w0 met.w1 met.w2 (λ p. p.z) t) cube
inside_from_meets t cube met = record { x_low = met.x.0; x_high = met.x.1; y_low = met.y.0; y_high = met.y.1; z_low = met.z.0; z_high = met.z.1 }

meets_from_inside : (t : Triangle) (cube : Cube) (w0 w1 w2 : ℕ) → 1 ≤ w0 + w1 + w2 →
    IsInside (w0 + w1 + w2) (weighted w0 w1 w2 (λ p. p.x) t) (weighted w0 w1 w2 (λ p. p.y) t) (weighted w0 w1 w2 (λ p. p.z) t) cube → Meets t cube
meets_from_inside t cube w0 w1 w2 some inside =
    record { w0 = w0; w1 = w1; w2 = w2; some = some; x = (inside.x_low, inside.x_high); y = (inside.y_low, inside.y_high); z = (inside.z_low, inside.z_high) }

pub meet_together : MeetTogether
meet_together = record {
  parent = λ t grid level node place below within met.
      meets_from_inside t (node_cube grid level node) met.w0 met.w1 met.w2 met.some
      (cover_parent.within grid level node place (met.w0 + met.w1 + met.w2) (weighted met.w0 met.w1 met.w2 (λ p. p.x) t) (weighted met.w0 met.w1 met.w2 (λ p. p.y) t) (weighted met.w0 met.w1 met.w2 (λ p. p.z) t) below within
      (inside_from_meets t (node_cube grid (level + 1) (8 * node + place)) met));
  child = λ t grid level node below met.
      let one = cover_parent.covered grid level node (met.w0 + met.w1 + met.w2) (weighted met.w0 met.w1 met.w2 (λ p. p.x) t) (weighted met.w0 met.w1 met.w2 (λ p. p.y) t) (weighted met.w0 met.w1 met.w2 (λ p. p.z) t) below
      (inside_from_meets t (node_cube grid level node) met) in
      (one.0, one.1, meets_from_inside t (node_cube grid (level + 1) (8 * node + one.0)) met.w0 met.w1 met.w2 met.some one.2);
}
