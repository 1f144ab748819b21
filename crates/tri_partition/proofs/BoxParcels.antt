-- The parcels of a box of parts are those of the triangle around which the box is.
use Rattle.std.proofs.Common.{◌≡◌, ◌≤◌, ◌<◌, ◌+◌, ◌^◌, ℕ, Bool, true, false, cond, ℤ, pos, ◌+ℤ◌, List, [], ◌∷◌, map, filter, inl, inr, refl, arith, sym, ap, subst, ◌∙◌}
use Rattle.std.specs.Prelude.{◌&&◌, ◌||◌, int_le}
use Rattle.std.specs.List.{flat_map, sum_by, range_with_len}
use Rattle.std.specs.Int.{int_min, int_max}
use Rattle.std.specs.Cmp.{both_ways}
use Rattle.std.proofs.Math.Nat.{zero-add}
use Rattle.std.proofs.lemmas.Bool.{or_cases}
use Rattle.std.proofs.lemmas.Int.{ints, clamps}
use Rattle.std.proofs.lemmas.List.Concat.{flat_map-cons}
use Rattle.std.proofs.lemmas.List.Sums.{sum_by-append}
use Rattle.svo_base.specs.GridShape.{GridShape}
use Rattle.svo_base.specs.declared.shapes.Point.{Point}
use Rattle.svo_base.specs.declared.shapes.Triangle.{Triangle}
use Rattle.octree_specs.specs.FacedTriangles.{Faced}
use Rattle.octree_specs.specs.NodeCube.{side_of, code_of, node_cube}
use Rattle.octree_specs.specs.Parcels.{HoldAlike}
use Rattle.octree_specs.specs.Parts.{reaches, box_meets, is_in_part}
use Rattle.morton_code.proofs.Coordinates.{x_of_code, y_of_code, z_of_code}
use Rattle.room_plan.specs.declared.elements.Parcel.{Parcel}
use Rattle.svo_base.specs.declared.boxes.Bounds.{Bounds}
use Rattle.tri_partition.specs.declared.part_ranges.PartRange.{PartRange}
use Rattle.tri_partition.specs.Partitioning.{parcel_of, parcels_of}
use Rattle.svo_base.specs.Boxes.{extent_of, bounds_of}
use Rattle.tri_partition.specs.PartRanges.{plane_of, extent_reaches, in_range, parts_in, parcel_to, row_parcels, layer_parcels, box_parcels}
use Rattle.tri_partition.proofs.PartSums.{total, total_same, total_cond, cube_total, cube_same, codes_once, sum_filter, sum_range}

-- ---- a part that the box reaches

-- what one of three numbers does, their least does, and their greatest
some_below : (a b c high : ℤ) → (int_le a high || (int_le b high || int_le c high)) ≡ int_le (int_min (int_min a b) c) high
some_below a b c high = both_ways (int_le a high || (int_le b high || int_le c high)) (int_le (int_min (int_min a b) c) high)
    (λ some. holds (int_le (int_min (int_min a b) c) high) (λ fails. elim (or_cases (int_le a high) (int_le b high || int_le c high) some) [
      | inl p ↦ omega (arith, ints, clamps, fails, p)
      | inr rest ↦ elim (or_cases (int_le b high) (int_le c high) rest) [ inl q ↦ omega (arith, ints, clamps, fails, q) | inr r ↦ omega (arith, ints, clamps, fails, r) ]
    ]))
    (λ least. some_of_three (int_le a high) (int_le b high) (int_le c high) (λ p q r. omega (arith, ints, clamps, least, p, q, r)))
  where
    holds : (test : Bool) → (test ≡ false → ⊥) → test ≡ true
    holds true fails = refl
    holds false fails = absurd (fails refl)

    some_of_three : (p q r : Bool) → (p ≡ false → q ≡ false → r ≡ false → ⊥) → (p || (q || r)) ≡ true
    some_of_three true q r not_none = refl
    some_of_three false true r not_none = refl
    some_of_three false false true not_none = refl
    some_of_three false false false not_none = absurd (not_none refl refl refl)

some_above : (a b c low : ℤ) → (int_le low a || (int_le low b || int_le low c)) ≡ int_le low (int_max (int_max a b) c)
some_above a b c low = both_ways (int_le low a || (int_le low b || int_le low c)) (int_le low (int_max (int_max a b) c))
    (λ some. holds (int_le low (int_max (int_max a b) c)) (λ fails. elim (or_cases (int_le low a) (int_le low b || int_le low c) some) [
      | inl p ↦ omega (arith, ints, clamps, fails, p)
      | inr rest ↦ elim (or_cases (int_le low b) (int_le low c) rest) [ inl q ↦ omega (arith, ints, clamps, fails, q) | inr r ↦ omega (arith, ints, clamps, fails, r) ]
    ]))
    (λ greatest. some_of_three (int_le low a) (int_le low b) (int_le low c) (λ p q r. omega (arith, ints, clamps, greatest, p, q, r)))
  where
    holds : (test : Bool) → (test ≡ false → ⊥) → test ≡ true
    holds true fails = refl
    holds false fails = absurd (fails refl)

    some_of_three : (p q r : Bool) → (p ≡ false → q ≡ false → r ≡ false → ⊥) → (p || (q || r)) ≡ true
    some_of_three true q r not_none = refl
    some_of_three false true r not_none = refl
    some_of_three false false true not_none = refl
    some_of_three false false false not_none = absurd (not_none refl refl refl)

turned : (a b : Bool) → (a && b) ≡ (b && a)
turned true true = refl
turned true false = refl
turned false true = refl
turned false false = refl

-- along an axis
reaches_is : (at : Point → ℤ) (t : Triangle) (grid : GridShape) (split axis part : ℕ)
    → reaches at t (plane_of grid split axis part) (plane_of grid split axis part +ℤ pos (side_of grid split)) ≡ extent_reaches grid split axis (extent_of (at t.a) (at t.b) (at t.c)) part
unfolding reaches
reaches_is at t grid split axis part =
    let low : ℤ = plane_of grid split axis part in
    let high : ℤ = plane_of grid split axis part +ℤ pos (side_of grid split) in
    rw (some_below (at t.a) (at t.b) (at t.c) high, some_above (at t.a) (at t.b) (at t.c) low)
    (turned (int_le (int_min (int_min (at t.a) (at t.b)) (at t.c)) high) (int_le low (int_max (int_max (at t.a) (at t.b)) (at t.c))))

pub in_part_is : (grid : GridShape) (split x y z : ℕ) (t : Faced) → x < 2 ^ split → y < 2 ^ split → z < 2 ^ split
    → is_in_part grid split (code_of split x y z) t
    ≡ (extent_reaches grid split 0 (bounds_of t.triangle).x x && (extent_reaches grid split 1 (bounds_of t.triangle).y y && extent_reaches grid split 2 (bounds_of t.triangle).z z))
unfolding is_in_part box_meets node_cube bounds_of
in_part_is grid split x y z t x_in y_in z_in =
    rw (
      x_of_code split x y z x_in,
      y_of_code split x y z y_in,
      z_of_code split x y z z_in,
      reaches_is (λ p. p.x) t.triangle grid split 0 x,
      reaches_is (λ p. p.y) t.triangle grid split 1 y,
      reaches_is (λ p. p.z) t.triangle grid split 2 z,
    ) refl

-- ---- what is counted of the parcels of a box

pub sum_cons : {A : Type 0} (f : A → ℕ) (x : A) (xs : List A) → sum_by f (x ∷ xs) ≡ f x + sum_by f xs
sum_cons f x xs = sum_by-append f (x ∷ []) xs ∙ ap (λ n. n + sum_by f xs) (zero-add (f x))

pub sum_map : {A B : Type 0} (f : B → ℕ) (g : A → B) (xs : List A) → sum_by f (map g xs) ≡ sum_by (λ x. f (g x)) xs
sum_map f g [] = refl
sum_map f g (x ∷ xs) = sum_cons f (g x) (map g xs) ∙ (ap (λ n. f (g x) + n) (sum_map f g xs) ∙ sym (sum_cons (λ x. f (g x)) x xs))

pub sum_flat : {A B : Type 0} (f : B → ℕ) (g : A → List B) (xs : List A) → sum_by f (flat_map g xs) ≡ sum_by (λ x. sum_by f (g x)) xs
sum_flat f g [] = refl
sum_flat f g (x ∷ xs) =
    ap (sum_by f) (flat_map-cons g x xs) ∙ (sum_by-append f (g x) (flat_map g xs) ∙ (ap (λ n. sum_by f (g x) + n) (sum_flat f g xs) ∙ sym (sum_cons (λ x. sum_by f (g x)) x xs)))

-- three tests, one behind another
three : (p q r : Bool) (n : ℕ) → cond (p && (q && r)) n 0 ≡ cond r (cond q (cond p n 0) 0) 0
three true true true n = refl
three true true false n = refl
three true false true n = refl
three true false false n = refl
three false true true n = refl
three false true false n = refl
three false false true n = refl
three false false false n = refl

module _ (f : Parcel → ℕ) (levels before : ℕ) (parcel : Parcel) (xs ys zs : PartRange) where
  row_sum : (z y : ℕ) → xs.to ≤ 2 ^ levels → sum_by f (row_parcels levels before parcel xs z y) ≡ total (λ x. cond (in_range xs x) (f (parcel_to levels before parcel z y x)) 0) (2 ^ levels)
  row_sum z y within = sum_map f (parcel_to levels before parcel z y) (parts_in xs) ∙ sum_range (λ x. f (parcel_to levels before parcel z y x)) xs (2 ^ levels) within

  layer_sum : (z : ℕ) → xs.to ≤ 2 ^ levels → ys.to ≤ 2 ^ levels
      → sum_by f (layer_parcels levels before parcel xs ys z) ≡ total (λ y. total (λ x. cond (in_range ys y) (cond (in_range xs x) (f (parcel_to levels before parcel z y x)) 0) 0) (2 ^ levels)) (2 ^ levels)
  layer_sum z x_in y_in =
      let row : ℕ → ℕ → ℕ = λ y x. cond (in_range xs x) (f (parcel_to levels before parcel z y x)) 0 in
      sum_flat f (row_parcels levels before parcel xs z) (parts_in ys)
      ∙ (sum_range (λ y. sum_by f (row_parcels levels before parcel xs z y)) ys (2 ^ levels) y_in
      ∙ total_same (λ y. cond (in_range ys y) (sum_by f (row_parcels levels before parcel xs z y)) 0) (λ y. total (λ x. cond (in_range ys y) (row y x) 0) (2 ^ levels)) (2 ^ levels)
      (λ y within. ap (λ n. cond (in_range ys y) n 0) (row_sum z y x_in) ∙ sym (total_cond (in_range ys y) (row y) (2 ^ levels))))

  box_sum : xs.to ≤ 2 ^ levels → ys.to ≤ 2 ^ levels → zs.to ≤ 2 ^ levels
      → sum_by f (box_parcels levels before parcel xs ys zs)
      ≡ cube_total (λ z y x. cond (in_range zs z) (cond (in_range ys y) (cond (in_range xs x) (f (parcel_to levels before parcel z y x)) 0) 0) 0) (2 ^ levels)
  unfolding cube_total
  box_sum x_in y_in z_in =
      let row : ℕ → ℕ → ℕ → ℕ = λ z y x. cond (in_range ys y) (cond (in_range xs x) (f (parcel_to levels before parcel z y x)) 0) 0 in
      sum_flat f (layer_parcels levels before parcel xs ys) (parts_in zs)
      ∙ (sum_range (λ z. sum_by f (layer_parcels levels before parcel xs ys z)) zs (2 ^ levels) z_in
      ∙ total_same (λ z. cond (in_range zs z) (sum_by f (layer_parcels levels before parcel xs ys z)) 0) (λ z. total (λ y. total (λ x. cond (in_range zs z) (row z y x) 0) (2 ^ levels)) (2 ^ levels)) (2 ^ levels)
      (λ z within.
      ap (λ n. cond (in_range zs z) n 0) (layer_sum z x_in y_in)
      ∙ (sym (total_cond (in_range zs z) (λ y. total (row z y) (2 ^ levels)) (2 ^ levels))
      ∙ total_same (λ y. cond (in_range zs z) (total (row z y) (2 ^ levels)) 0) (λ y. total (λ x. cond (in_range zs z) (row z y x) 0) (2 ^ levels)) (2 ^ levels)
      (λ y inside. sym (total_cond (in_range zs z) (row z y) (2 ^ levels))))))

on_its_way : (levels before number : ℕ) (t : Faced) (z y x : ℕ) → before + code_of levels x y z ≡ number → parcel_to levels before (parcel_of t 0) z y x ≡ parcel_of t number
unfolding parcel_of
on_its_way levels before number t z y x is = ap (λ part. record { corners = (parcel_of t 0).corners; face = t.face; part = part }) is

-- the parcels of a box are those of the parts that pass a test, where the ranges say along each axis which do
pub box_alike : (levels before : ℕ) (t : Faced) (reached : ℕ → Bool) (number : ℕ → ℕ) (parcel : Parcel) (xs ys zs : PartRange) → parcel ≡ parcel_of t 0
    → ((code : ℕ) → before + code ≡ number code)
    → xs.to ≤ 2 ^ levels → ys.to ≤ 2 ^ levels → zs.to ≤ 2 ^ levels
    → ((z y x : ℕ) → z < 2 ^ levels → y < 2 ^ levels → x < 2 ^ levels → reached (code_of levels x y z) ≡ (in_range xs x && (in_range ys y && in_range zs z)))
    → HoldAlike (box_parcels levels before parcel xs ys zs) (map (λ code. parcel_of t (number code)) (filter reached (range_with_len 0 (8 ^ levels))))
box_alike levels before t reached number parcel xs ys zs is numbers x_in y_in z_in tests = λ f.
    let boxed : ℕ → ℕ → ℕ → ℕ = λ z y x. cond (in_range zs z) (cond (in_range ys y) (cond (in_range xs x) (f (parcel_to levels before parcel z y x)) 0) 0) 0 in
    let counted : ℕ → ℕ = λ code. cond (reached code) (f (parcel_of t (number code))) 0 in
    box_sum f levels before parcel xs ys zs x_in y_in z_in
    ∙ (cube_same boxed (λ z y x. counted (code_of levels x y z)) (2 ^ levels) (λ z y x z_at y_at x_at.
    let same : parcel_to levels before parcel z y x ≡ parcel_of t (number (code_of levels x y z)) = parcel_is z y x in
    ap (λ p. cond (in_range zs z) (cond (in_range ys y) (cond (in_range xs x) (f p) 0) 0) 0) same
    ∙ (sym (three (in_range xs x) (in_range ys y) (in_range zs z) (f (parcel_of t (number (code_of levels x y z)))))
    ∙ ap (λ b. cond b (f (parcel_of t (number (code_of levels x y z)))) 0) (sym (tests z y x z_at y_at x_at))))
    ∙ (sym (codes_once counted levels)
    ∙ (sym (sum_filter (λ code. f (parcel_of t (number code))) reached (8 ^ levels))
    ∙ sym (sum_map f (λ code. parcel_of t (number code)) (filter reached (range_with_len 0 (8 ^ levels)))))))
  where
    parcel_is : (z y x : ℕ) → parcel_to levels before parcel z y x ≡ parcel_of t (number (code_of levels x y z))
    parcel_is z y x = ap (λ p. parcel_to levels before p z y x) is ∙ on_its_way levels before (number (code_of levels x y z)) t z y x (numbers (code_of levels x y z))

-- of the parts of a grid
first_alike : (grid : GridShape) (split : ℕ) (t : Faced) (parcel : Parcel) (xs ys zs : PartRange) → parcel ≡ parcel_of t 0
    → xs.to ≤ 2 ^ split → ys.to ≤ 2 ^ split → zs.to ≤ 2 ^ split
    → ((part : ℕ) → part < 2 ^ split → in_range xs part ≡ extent_reaches grid split 0 (bounds_of t.triangle).x part)
    → ((part : ℕ) → part < 2 ^ split → in_range ys part ≡ extent_reaches grid split 1 (bounds_of t.triangle).y part)
    → ((part : ℕ) → part < 2 ^ split → in_range zs part ≡ extent_reaches grid split 2 (bounds_of t.triangle).z part)
    → HoldAlike (box_parcels split 0 parcel xs ys zs) (parcels_of grid split t)
unfolding parcels_of
first_alike grid split t parcel xs ys zs is x_in y_in z_in x_reached y_reached z_reached =
    box_alike split 0 t (λ part. is_in_part grid split part t) (λ part. part) parcel xs ys zs is (λ part. zero-add part) x_in y_in z_in
    (λ z y x z_at y_at x_at. in_part_is grid split x y z t x_at y_at z_at ∙ rw (x_reached x x_at, y_reached y y_at, z_reached z z_at) refl)

-- the same, as code has the box, the grid and the numbers
pub all_alike : (inside_grid grid : GridShape) (inside_split split levels before : ℕ) (bounds : Bounds) (t : Faced) (parcel : Parcel) (xs ys zs : PartRange)
    → inside_grid ≡ grid → inside_split ≡ split → levels ≡ inside_split → before ≡ 0 → bounds ≡ bounds_of t.triangle → parcel ≡ parcel_of t 0
    → xs.to ≤ 2 ^ inside_split → ys.to ≤ 2 ^ inside_split → zs.to ≤ 2 ^ inside_split
    → ((part : ℕ) → part < 2 ^ inside_split → in_range xs part ≡ extent_reaches inside_grid inside_split 0 bounds.x part)
    → ((part : ℕ) → part < 2 ^ inside_split → in_range ys part ≡ extent_reaches inside_grid inside_split 1 bounds.y part)
    → ((part : ℕ) → part < 2 ^ inside_split → in_range zs part ≡ extent_reaches inside_grid inside_split 2 bounds.z part)
    → HoldAlike (box_parcels levels before parcel xs ys zs) (parcels_of grid split t)
all_alike inside_grid grid inside_split split levels before bounds t parcel xs ys zs grid_is split_is levels_is before_is bounds_is is x_in y_in z_in x_reached y_reached z_reached =
    subst (λ n. HoldAlike (box_parcels n before parcel xs ys zs) (parcels_of grid split t)) (sym (levels_is ∙ split_is))
    (subst (λ n. HoldAlike (box_parcels split n parcel xs ys zs) (parcels_of grid split t)) (sym before_is)
    (subst (λ n. HoldAlike (box_parcels n 0 parcel xs ys zs) (parcels_of grid n t)) split_is
    (subst (λ shape. HoldAlike (box_parcels inside_split 0 parcel xs ys zs) (parcels_of shape inside_split t)) grid_is
    (first_alike inside_grid inside_split t parcel xs ys zs is x_in y_in z_in
    (λ part inside. x_reached part inside ∙ ap (λ b. extent_reaches inside_grid inside_split 0 b.x part) bounds_is)
    (λ part inside. y_reached part inside ∙ ap (λ b. extent_reaches inside_grid inside_split 1 b.y part) bounds_is)
    (λ part inside. z_reached part inside ∙ ap (λ b. extent_reaches inside_grid inside_split 2 b.z part) bounds_is)))))
