-- What the tests see is that one of the thirteen axes separates the triangle and the cube; so one of them does, or the two share a point.
use Rattle.std.proofs.Common.{◌≡◌, ℕ, ◌<◌, Bool, true, not, ◌&&◌, ◌||◌, inl, inr, refl, subst, arith, sym, lit<, ◌∙◌, ℤ, pos, ◌-ℤ◌, neg_ℤ, ◌≤ℤ◌}
use Rattle.std.specs.Prelude.{◌⊎◌, ◌↔◌, IsTrue, int_le}
use Rattle.std.proofs.lemmas.Bool.{and_parts, and_from, or_cases, not-true, not_from_false, false_from_ne_true, both_ways}
use Rattle.std.proofs.lemmas.Int.{ints}
use Rattle.svo_base.specs.declared.shapes.Triangle.{Triangle}
use Rattle.svo_base.specs.declared.shapes.Cube.{Cube}
use Rattle.svo_base.specs.declared.shapes.Vector.{Vector}
use Rattle.octree_specs.specs.Meeting.{Meets, low_of, high_of}
use Rattle.octree_specs.specs.Vectors.{vector, cross_of, opposite_of}
use Rattle.octree_specs.proofs.Vectors.{vector_same, unit_x, unit_y, unit_z}
use Rattle.case_table.specs.CaseLists.{axis_case_list}
use Rattle.tri_cube.specs.Axes.{axis_at}
use Rattle.tri_cube.specs.Boxes.{extents_in_order}
use Rattle.tri_cube.specs.Edges.{corner}
use Rattle.tri_cube.specs.Views.{are_seen_apart, cube_box}
use Rattle.tri_cube.specs.Extents.{between, extent_of, shapes_miss}
use Rattle.tri_cube.proofs.Directions.{IsBefore}
use Rattle.tri_cube.proofs.DirectionKinds.{IsBox, turned}
use Rattle.tri_cube.proofs.NotBoth.{lowest, highest, box_met, not_both}
use Rattle.tri_cube.proofs.SeenApart.{seen_apart_is, axes_turned, met_or_seen}
use Rattle.tri_cube.proofs.SeenBoxes.{axis_x, axis_y, axis_z, boxes_say, across, is_beside, plane_says}
use Rattle.tri_cube.proofs.SeenSides.{side_of, misses_seen, SideApart, SideApart.by_first, SideApart.by_second, SideApart.by_third, BeforeSide, sides_seen}

-- the triangle is before the cube along the vector, or along its opposite
abbrev pub BeforeAlong : Triangle → Cube → Vector → Type 0
BeforeAlong t cube v =
    IsBefore (lowest cube) (highest cube) (corner t.a) (corner t.b) (corner t.c) v ⊎ IsBefore (lowest cube) (highest cube) (corner t.a) (corner t.b) (corner t.c) (opposite_of v)

-- and so along one of the thirteen axes
pub record HasAxis (t : Triangle) (cube : Cube) : Type 0 where
  pub number : ℕ
  pub below : number < 13
  pub before : BeforeAlong t cube (axis_at t number)

by_number : (t : Triangle) (cube : Cube) (number : ℕ) (v : Vector) → number < 13 → v ≡ axis_at t number → BeforeAlong t cube v → HasAxis t cube
by_number t cube number v below is before =
    record { number = number; below = below; before = subst (BeforeAlong t cube) is before }

-- ---- the axes by their numbers

-- the product of an edge and a unit vector, as it is seen along that vector
across_x : (e : Vector) → vector (pos 0) e.z (neg_ℤ e.y) ≡ cross_of e unit_x
across_x e =
    vector_same _ _ _ _ _ _ (omega (arith, ints)) (omega (arith, ints)) (omega (arith, ints))

across_y : (e : Vector) → vector (neg_ℤ e.z) (pos 0) e.x ≡ cross_of e unit_y
across_y e =
    vector_same _ _ _ _ _ _ (omega (arith, ints)) (omega (arith, ints)) (omega (arith, ints))

across_z : (e : Vector) → vector e.y (neg_ℤ e.x) (pos 0) ≡ cross_of e unit_z
across_z e =
    vector_same _ _ _ _ _ _ (omega (arith, ints)) (omega (arith, ints)) (omega (arith, ints))

back : (a b : ℤ) → (a -ℤ b) ≡ neg_ℤ (b -ℤ a)
back a b = omega (arith, ints)

side_x : (p q : Vector) → side_of p q ≡ cross_of (vector (q.x -ℤ p.x) (q.y -ℤ p.y) (q.z -ℤ p.z)) unit_x
side_x p q =
    vector_same _ _ _ _ _ _ refl refl (back p.y q.y) ∙ across_x (vector (q.x -ℤ p.x) (q.y -ℤ p.y) (q.z -ℤ p.z))

side_y : (p q : Vector) → turned (turned (side_of (turned p) (turned q))) ≡ cross_of (vector (q.x -ℤ p.x) (q.y -ℤ p.y) (q.z -ℤ p.z)) unit_y
side_y p q =
    vector_same _ _ _ _ _ _ (back p.z q.z) refl refl ∙ across_y (vector (q.x -ℤ p.x) (q.y -ℤ p.y) (q.z -ℤ p.z))

side_z : (p q : Vector) → turned (side_of (turned (turned p)) (turned (turned q))) ≡ cross_of (vector (q.x -ℤ p.x) (q.y -ℤ p.y) (q.z -ℤ p.z)) unit_z
side_z p q =
    vector_same _ _ _ _ _ _ refl (back p.x q.x) refl ∙ across_z (vector (q.x -ℤ p.x) (q.y -ℤ p.y) (q.z -ℤ p.z))

-- ---- from what is seen along an axis

module _ (t : Triangle) (cube : Cube) where
  from_x : (number : ℕ) (p q : Vector) → number < 13 → cross_of (vector (q.x -ℤ p.x) (q.y -ℤ p.y) (q.z -ℤ p.z)) unit_x ≡ axis_at t number
      → BeforeSide (lowest cube) (highest cube) (corner t.a) (corner t.b) (corner t.c) p q → HasAxis t cube
  from_x number p q below is before = by_number t cube number (side_of p q) below (side_x p q ∙ is) before

  once : (v : Vector) → IsBefore (turned (turned (lowest cube))) (turned (turned (highest cube))) (turned (turned (corner t.a))) (turned (turned (corner t.b))) (turned (turned (corner t.c))) v
      → IsBefore (lowest cube) (highest cube) (corner t.a) (corner t.b) (corner t.c) (turned v)
  once v before =
      axes_turned (turned (turned (lowest cube))) (turned (turned (highest cube))) (turned (turned (corner t.a))) (turned (turned (corner t.b))) (turned (turned (corner t.c))) v before

  twice : (v : Vector) → IsBefore (turned (lowest cube)) (turned (highest cube)) (turned (corner t.a)) (turned (corner t.b)) (turned (corner t.c)) v
      → IsBefore (lowest cube) (highest cube) (corner t.a) (corner t.b) (corner t.c) (turned (turned v))
  twice v before =
      once (turned v) (axes_turned (turned (lowest cube)) (turned (highest cube)) (turned (corner t.a)) (turned (corner t.b)) (turned (corner t.c)) v before)

  from_y : (number : ℕ) (p q : Vector) → number < 13 → cross_of (vector (q.x -ℤ p.x) (q.y -ℤ p.y) (q.z -ℤ p.z)) unit_y ≡ axis_at t number
      → BeforeSide (turned (lowest cube)) (turned (highest cube)) (turned (corner t.a)) (turned (corner t.b)) (turned (corner t.c)) (turned p) (turned q) → HasAxis t cube
  from_y number p q below is before =
      by_number t cube number (turned (turned (side_of (turned p) (turned q)))) below (side_y p q ∙ is) (elim before [
        | inl way ↦ inl (twice (side_of (turned p) (turned q)) way)
        | inr way ↦ inr (twice (opposite_of (side_of (turned p) (turned q))) way)
      ])

  from_z : (number : ℕ) (p q : Vector) → number < 13 → cross_of (vector (q.x -ℤ p.x) (q.y -ℤ p.y) (q.z -ℤ p.z)) unit_z ≡ axis_at t number
      → BeforeSide (turned (turned (lowest cube))) (turned (turned (highest cube))) (turned (turned (corner t.a))) (turned (turned (corner t.b))) (turned (turned (corner t.c))) (turned (turned p)) (turned (turned q)) → HasAxis t cube
  from_z number p q below is before =
      by_number t cube number (turned (side_of (turned (turned p)) (turned (turned q)))) below (side_z p q ∙ is) (elim before [
        | inl way ↦ inl (once (side_of (turned (turned p)) (turned (turned q))) way)
        | inr way ↦ inr (once (opposite_of (side_of (turned (turned p)) (turned (turned q)))) way)
      ])

  -- the sides that are seen along x, y and z
  sides_x : SideApart (lowest cube) (highest cube) (corner t.a) (corner t.b) (corner t.c) → HasAxis t cube
  unfolding axis_at axis_case_list
  sides_x (by_first before) = from_x 4 (corner t.a) (corner t.b) (lit< tt) refl before
  sides_x (by_second before) = from_x 7 (corner t.b) (corner t.c) (lit< tt) refl before
  sides_x (by_third before) = from_x 10 (corner t.c) (corner t.a) (lit< tt) refl before

  sides_y : SideApart (turned (lowest cube)) (turned (highest cube)) (turned (corner t.a)) (turned (corner t.b)) (turned (corner t.c)) → HasAxis t cube
  unfolding axis_at axis_case_list
  sides_y (by_first before) = from_y 5 (corner t.a) (corner t.b) (lit< tt) refl before
  sides_y (by_second before) = from_y 8 (corner t.b) (corner t.c) (lit< tt) refl before
  sides_y (by_third before) = from_y 11 (corner t.c) (corner t.a) (lit< tt) refl before

  sides_z : SideApart (turned (turned (lowest cube))) (turned (turned (highest cube))) (turned (turned (corner t.a))) (turned (turned (corner t.b))) (turned (turned (corner t.c))) → HasAxis t cube
  unfolding axis_at axis_case_list
  sides_z (by_first before) = from_z 6 (corner t.a) (corner t.b) (lit< tt) refl before
  sides_z (by_second before) = from_z 9 (corner t.b) (corner t.c) (lit< tt) refl before
  sides_z (by_third before) = from_z 12 (corner t.c) (corner t.a) (lit< tt) refl before

  -- the boxes and the plane
  boxes_axis : (shapes_miss (extent_of t.a.x t.b.x t.c.x) (between (low_of cube 0) (high_of cube 0)) || shapes_miss (extent_of t.a.y t.b.y t.c.y) (between (low_of cube 1) (high_of cube 1)) || shapes_miss (extent_of t.a.z t.b.z t.c.z) (between (low_of cube 2) (high_of cube 2))) ≡ true → HasAxis t cube
  unfolding axis_at axis_case_list
  boxes_axis test =
      elim (or_cases (shapes_miss (extent_of t.a.x t.b.x t.c.x) (between (low_of cube 0) (high_of cube 0)) || shapes_miss (extent_of t.a.y t.b.y t.c.y) (between (low_of cube 1) (high_of cube 1))) _ test) [
        | inl first ↦ elim (or_cases (shapes_miss (extent_of t.a.x t.b.x t.c.x) (between (low_of cube 0) (high_of cube 0))) _ first) [
          | inl x ↦ by_number t cube 0 unit_x (lit< tt) refl (boxes_say (lowest cube) (highest cube) (corner t.a) (corner t.b) (corner t.c) unit_x (λ v. v.x) axis_x (λ x in_box. in_box.low_x) (λ x in_box. in_box.high_x) x)
          | inr y ↦ by_number t cube 1 unit_y (lit< tt) refl (boxes_say (lowest cube) (highest cube) (corner t.a) (corner t.b) (corner t.c) unit_y (λ v. v.y) axis_y (λ x in_box. in_box.low_y) (λ x in_box. in_box.high_y) y)
        ]
        | inr z ↦ by_number t cube 2 unit_z (lit< tt) refl (boxes_say (lowest cube) (highest cube) (corner t.a) (corner t.b) (corner t.c) unit_z (λ v. v.z) axis_z (λ x in_box. in_box.low_z) (λ x in_box. in_box.high_z) z)
      ]

  plane_axis : is_beside (lowest cube) (highest cube) (corner t.a) (corner t.b) (corner t.c) ≡ true → HasAxis t cube
  unfolding axis_at axis_case_list
  plane_axis test =
      by_number t cube 3 (across (corner t.a) (corner t.b) (corner t.c)) (lit< tt) refl
      (plane_says (lowest cube) (highest cube) (corner t.a) (corner t.b) (corner t.c) test)

-- what is seen apart has an axis
pub axis_seen : (t : Triangle) (cube : Cube) → are_seen_apart t (cube_box cube) ≡ true → HasAxis t cube
axis_seen t cube test =
    let lo = lowest cube in
    let hi = highest cube in
    let a = corner t.a in
    let b = corner t.b in
    let c = corner t.c in
    let one : Bool = misses_seen lo hi a b c in
    let two : Bool = misses_seen (turned lo) (turned hi) (turned a) (turned b) (turned c) in
    let three : Bool = misses_seen (turned (turned lo)) (turned (turned hi)) (turned (turned a)) (turned (turned b)) (turned (turned c)) in
    elim (or_cases (shapes_miss (extent_of a.x b.x c.x) (between lo.x hi.x) || shapes_miss (extent_of a.y b.y c.y) (between lo.y hi.y) || shapes_miss (extent_of a.z b.z c.z) (between lo.z hi.z)) (is_beside lo hi a b c || (one || two || three)) (sym (seen_apart_is t cube) ∙ test)) [
      | inl boxes ↦ boxes_axis t cube boxes
      | inr later ↦ elim (or_cases (is_beside lo hi a b c) (one || two || three) later) [
        | inl plane ↦ plane_axis t cube plane
        | inr edges ↦ elim (or_cases (one || two) three edges) [
          | inl first ↦ elim (or_cases one two first) [
            | inl x ↦ sides_x t cube (sides_seen lo hi a b c x)
            | inr y ↦ sides_y t cube (sides_seen (turned lo) (turned hi) (turned a) (turned b) (turned c) y)
          ]
          | inr z ↦ sides_z t cube (sides_seen (turned (turned lo)) (turned (turned hi)) (turned (turned a)) (turned (turned b)) (turned (turned c)) z)
        ]
      ]
    ]

-- ---- both ways

no_axis_met : (t : Triangle) (cube : Cube) → Meets t cube → HasAxis t cube → ⊥
no_axis_met t cube met axis = elim axis.before [
  | inl before ↦ not_both t cube (axis_at t axis.number) met before
  | inr before ↦ not_both t cube (opposite_of (axis_at t axis.number)) met before
]

-- completeness: the two share a point, or one of the axes separates them
pub met_or_separated : (t : Triangle) (cube : Cube) → IsBox (lowest cube) (highest cube) → Meets t cube ⊎ HasAxis t cube
met_or_separated t cube is_box = elim (met_or_seen t cube is_box) [
  | inl met ↦ inl met
  | inr apart ↦ inr (axis_seen t cube apart)
]

pub box_from_test : (t : Triangle) (cube : Cube) → extents_in_order (cube_box cube) ≡ true → IsBox (lowest cube) (highest cube)
unfolding extents_in_order cube_box
box_from_test t cube test =
    let whole = and_parts (int_le (low_of cube 0) (high_of cube 0) && int_le (low_of cube 1) (high_of cube 1)) (int_le (low_of cube 2) (high_of cube 2)) test in
    let front = and_parts (int_le (low_of cube 0) (high_of cube 0)) (int_le (low_of cube 1) (high_of cube 1)) whole.0 in
    record { x = most _ _ front.0; y = most _ _ front.1; z = most _ _ whole.1 }
  where
    most : (a b : ℤ) → int_le a b ≡ true → a ≤ℤ b
    most a b h = omega (arith, ints, h)

pub test_from_box : (cube : Cube) → IsBox (lowest cube) (highest cube) → extents_in_order (cube_box cube) ≡ true
unfolding extents_in_order cube_box
test_from_box cube is_box =
    and_from (int_le (low_of cube 0) (high_of cube 0) && int_le (low_of cube 1) (high_of cube 1)) (int_le (low_of cube 2) (high_of cube 2))
    (and_from (int_le (low_of cube 0) (high_of cube 0)) (int_le (low_of cube 1) (high_of cube 1)) (most _ _ is_box.x) (most _ _ is_box.y)) (most _ _ is_box.z)
  where
    most : (a b : ℤ) → a ≤ℤ b → int_le a b ≡ true
    most a b h = grind (arith, ints)

-- so the tests are exact
pub unseen_exactly_where_met : (t : Triangle) (cube : Cube) → IsTrue (not (are_seen_apart t (cube_box cube)) && extents_in_order (cube_box cube)) ↔ Meets t cube
unseen_exactly_where_met t cube = (
  λ passed.
      let parts = and_parts (not (are_seen_apart t (cube_box cube))) (extents_in_order (cube_box cube)) passed in
      elim (met_or_seen t cube (box_from_test t cube parts.1)) [
        | inl met ↦ met
        | inr apart ↦ absurd (both_ways (are_seen_apart t (cube_box cube)) (not-true (are_seen_apart t (cube_box cube)) parts.0) apart)
      ],
  λ met.
      and_from (not (are_seen_apart t (cube_box cube))) (extents_in_order (cube_box cube))
      (not_from_false (are_seen_apart t (cube_box cube)) (false_from_ne_true (are_seen_apart t (cube_box cube)) (λ apart. no_axis_met t cube met (axis_seen t cube apart))))
      (test_from_box cube (box_met t cube met)),
)
