-- An axis separates a triangle and a cube, by the products with their corners, exactly where the triangle is before the cube along it.
use Rattle.std.proofs.Common.{◌≡◌, Bool, true, false, not, ◌&&◌, ◌||◌, List, [], ◌∷◌, inl, inr, refl, subst, arith, sym, ap, ◌∙◌, ℤ, ◌≤ℤ◌, ◌<ℤ◌}
use Rattle.std.specs.Prelude.{◌⊎◌, int_lt}
use Rattle.std.specs.List.{list_all}
use Rattle.std.proofs.lemmas.Bool.{and_parts, and_from, cases_Bool}
use Rattle.std.proofs.lemmas.Int.{ints}
use lib.Signed.{≤ℤ_refl}
use Rattle.svo_base.specs.declared.shapes.Triangle.{Triangle}
use Rattle.svo_base.specs.declared.shapes.Cube.{Cube}
use Rattle.svo_base.specs.declared.shapes.Vector.{Vector}
use Rattle.octree_specs.specs.Vectors.{vector, dot_of, opposite_of}
use Rattle.octree_specs.proofs.Vectors.{dot_of-opposite_of, vector_same}
use Rattle.octree_specs.proofs.Cones.{Among}
use Rattle.tri_cube.specs.Axes.{triangle_corners, cube_corners, is_in_order, are_below, separates}
use Rattle.tri_cube.specs.Boxes.{extents_in_order}
use Rattle.tri_cube.specs.Edges.{corner}
use Rattle.tri_cube.specs.SeenAlong.{is_ahead, seen_along}
use Rattle.tri_cube.specs.Views.{cube_box}
use Rattle.tri_cube.proofs.Directions.{IsIn, IsBefore, each_among}
use Rattle.tri_cube.proofs.DirectionKinds.{IsBox}
use Rattle.tri_cube.proofs.LeastProducts.{least_in, least_corner, less_test, test_less, behind_from, behind_says}
use Rattle.tri_cube.proofs.NotBoth.{lowest, highest}
use Rattle.tri_cube.proofs.SeparatingAxes.{box_from_test}

-- ---- tests of lists

all_from : (p : Vector → Bool) (rows : List Vector) → ((r : Vector) → Among rows r → p r ≡ true) → list_all p rows ≡ true
all_from p [] each = refl
all_from p (x ∷ rows) each =
    and_from (p x) (list_all p rows) (each x (inl refl)) (all_from p rows (λ r among. each r (inr among)))

all_says : (p : Vector → Bool) (rows : List Vector) → list_all p rows ≡ true → (r : Vector) → Among rows r → p r ≡ true
all_says p [] test r among = absurd among
all_says p (x ∷ rows) test r among =
    let parts = and_parts (p x) (list_all p rows) test in
    elim among [ inl here ↦ subst (λ v. p v ≡ true) here parts.0 | inr later ↦ all_says p rows parts.1 r later ]

below_from : (axis : Vector) (first second : List Vector) → ((p : Vector) → Among first p → (q : Vector) → Among second q → dot_of axis p <ℤ dot_of axis q) → are_below axis first second ≡ true
unfolding are_below
below_from axis first second less =
    all_from (λ p. list_all (λ q. int_lt (dot_of axis p) (dot_of axis q)) second) first
    (λ p in_first. all_from (λ q. int_lt (dot_of axis p) (dot_of axis q)) second (λ q in_second. less_test _ _ (less p in_first q in_second)))

below_says : (axis : Vector) (first second : List Vector) → are_below axis first second ≡ true → (p : Vector) → Among first p → (q : Vector) → Among second q → dot_of axis p <ℤ dot_of axis q
unfolding are_below
below_says axis first second test p in_first q in_second =
    test_less _ _
    (all_says (λ r. int_lt (dot_of axis p) (dot_of axis r)) second
    (all_says (λ r. list_all (λ q. int_lt (dot_of axis r) (dot_of axis q)) second) first test p in_first) q in_second)

same_bool : (x y : Bool) → (x ≡ true → y ≡ true) → (y ≡ true → x ≡ true) → x ≡ y
same_bool true y there back = sym (there refl)
same_bool false true there back = back refl
same_bool false false there back = refl

-- ---- the corners of a cube

abbrev eight : (lo hi : Vector) → List Vector
eight lo hi =
    vector lo.x lo.y lo.z ∷ vector lo.x lo.y hi.z ∷ vector lo.x hi.y lo.z ∷ vector lo.x hi.y hi.z
    ∷ vector hi.x lo.y lo.z ∷ vector hi.x lo.y hi.z ∷ vector hi.x hi.y lo.z ∷ vector hi.x hi.y hi.z ∷ []

corners_are : (cube : Cube) → is_in_order cube ≡ true → cube_corners cube ≡ eight (lowest cube) (highest cube)
unfolding cube_corners
corners_are cube in_order = rw in_order refl

no_corners : (cube : Cube) → is_in_order cube ≡ false → cube_corners cube ≡ []
unfolding cube_corners
no_corners cube out_of_order = rw out_of_order refl

-- one of two coordinates, and whether it is the first
record IsOneOf (lo hi x : ℤ) : Type 0 where
  low : lo ≤ℤ x
  high : x ≤ℤ hi

corner_in : (lo hi : Vector) (x y z : ℤ) → IsOneOf lo.x hi.x x → IsOneOf lo.y hi.y y → IsOneOf lo.z hi.z z → IsIn lo hi (vector x y z)
corner_in lo hi x y z a b c =
    record { low_x = a.low; high_x = a.high; low_y = b.low; high_y = b.high; low_z = c.low; high_z = c.high }

corners_in : (lo hi : Vector) → IsBox lo hi → (q : Vector) → Among (eight lo hi) q → IsIn lo hi q
corners_in lo hi is =
    each_among (IsIn lo hi) (eight lo hi) (
      corner_in lo hi lo.x lo.y lo.z lx ly lz,
      (
        corner_in lo hi lo.x lo.y hi.z lx ly hz,
        (
          corner_in lo hi lo.x hi.y lo.z lx hy lz,
          (
            corner_in lo hi lo.x hi.y hi.z lx hy hz,
            (
              corner_in lo hi hi.x lo.y lo.z hx ly lz,
              (
                corner_in lo hi hi.x lo.y hi.z hx ly hz,
                (corner_in lo hi hi.x hi.y lo.z hx hy lz, (corner_in lo hi hi.x hi.y hi.z hx hy hz, tt)),
              ),
            ),
          ),
        ),
      ),
    )
  where
    lx : IsOneOf lo.x hi.x lo.x
    lx = record { low = ≤ℤ_refl lo.x; high = is.x }

    hx : IsOneOf lo.x hi.x hi.x
    hx = record { low = is.x; high = ≤ℤ_refl hi.x }

    ly : IsOneOf lo.y hi.y lo.y
    ly = record { low = ≤ℤ_refl lo.y; high = is.y }

    hy : IsOneOf lo.y hi.y hi.y
    hy = record { low = is.y; high = ≤ℤ_refl hi.y }

    lz : IsOneOf lo.z hi.z lo.z
    lz = record { low = ≤ℤ_refl lo.z; high = is.z }

    hz : IsOneOf lo.z hi.z hi.z
    hz = record { low = is.z; high = ≤ℤ_refl hi.z }

among_eight : (lo hi : Vector) (x y z : ℤ) → (x ≡ lo.x) ⊎ (x ≡ hi.x) → (y ≡ lo.y) ⊎ (y ≡ hi.y) → (z ≡ lo.z) ⊎ (z ≡ hi.z) → Among (eight lo hi) (vector x y z)
among_eight lo hi x y z (inl a) (inl b) (inl c) = inl (vector_same _ _ _ _ _ _ (sym a) (sym b) (sym c))
among_eight lo hi x y z (inl a) (inl b) (inr c) = inr (inl (vector_same _ _ _ _ _ _ (sym a) (sym b) (sym c)))
among_eight lo hi x y z (inl a) (inr b) (inl c) = inr (inr (inl (vector_same _ _ _ _ _ _ (sym a) (sym b) (sym c))))
among_eight lo hi x y z (inl a) (inr b) (inr c) = inr (inr (inr (inl (vector_same _ _ _ _ _ _ (sym a) (sym b) (sym c)))))
among_eight lo hi x y z (inr a) (inl b) (inl c) = inr (inr (inr (inr (inl (vector_same _ _ _ _ _ _ (sym a) (sym b) (sym c))))))
among_eight lo hi x y z (inr a) (inl b) (inr c) = inr (inr (inr (inr (inr (inl (vector_same _ _ _ _ _ _ (sym a) (sym b) (sym c)))))))
among_eight lo hi x y z (inr a) (inr b) (inl c) = inr (inr (inr (inr (inr (inr (inl (vector_same _ _ _ _ _ _ (sym a) (sym b) (sym c))))))))
among_eight lo hi x y z (inr a) (inr b) (inr c) =
    inr (inr (inr (inr (inr (inr (inr (inl (vector_same _ _ _ _ _ _ (sym a) (sym b) (sym c)))))))))

-- ---- along one axis

-- all of the box is farther than each corner of the triangle
record IsFarther (t : Triangle) (far : ℤ) (axis : Vector) : Type 0 where
  first : dot_of axis (corner t.a) <ℤ far
  second : dot_of axis (corner t.b) <ℤ far
  third : dot_of axis (corner t.c) <ℤ far

ahead_says : (t : Triangle) (cube : Cube) (axis : Vector) → is_ahead t (cube_box cube) axis ≡ true → IsFarther t (least_in axis (lowest cube) (highest cube)) axis
unfolding is_ahead cube_box
ahead_says t cube axis test =
    let far = least_in axis (lowest cube) (highest cube) in
    let whole = and_parts (int_lt (dot_of axis (corner t.a)) far && int_lt (dot_of axis (corner t.b)) far) (int_lt (dot_of axis (corner t.c)) far) test in
    let front = and_parts (int_lt (dot_of axis (corner t.a)) far) (int_lt (dot_of axis (corner t.b)) far) whole.0 in
    record { first = test_less _ _ front.0; second = test_less _ _ front.1; third = test_less _ _ whole.1 }

ahead_from : (t : Triangle) (cube : Cube) (axis : Vector) → IsFarther t (least_in axis (lowest cube) (highest cube)) axis → is_ahead t (cube_box cube) axis ≡ true
unfolding is_ahead cube_box
ahead_from t cube axis is =
    let far = least_in axis (lowest cube) (highest cube) in
    and_from (int_lt (dot_of axis (corner t.a)) far && int_lt (dot_of axis (corner t.b)) far) (int_lt (dot_of axis (corner t.c)) far)
    (and_from (int_lt (dot_of axis (corner t.a)) far) (int_lt (dot_of axis (corner t.b)) far) (less_test _ _ is.first) (less_test _ _ is.second))
    (less_test _ _ is.third)

abbrev pub Before : Triangle → Cube → Vector → Type 0
Before t cube axis = IsBefore (lowest cube) (highest cube) (corner t.a) (corner t.b) (corner t.c) axis

pub before_says : (t : Triangle) (cube : Cube) (axis : Vector) → is_ahead t (cube_box cube) axis ≡ true → Before t cube axis
before_says t cube axis test =
    let is = ahead_says t cube axis test in
    record { first = behind_from _ _ axis (corner t.a) is.first; second = behind_from _ _ axis (corner t.b) is.second; third = behind_from _ _ axis (corner t.c) is.third }

pub before_ahead : (t : Triangle) (cube : Cube) (axis : Vector) → IsBox (lowest cube) (highest cube) → Before t cube axis → is_ahead t (cube_box cube) axis ≡ true
before_ahead t cube axis is_box before =
    ahead_from t cube axis (record {
      first = behind_says _ _ axis (corner t.a) is_box before.first;
      second = behind_says _ _ axis (corner t.b) is_box before.second;
      third = behind_says _ _ axis (corner t.c) is_box before.third;
    })

-- below all corners of the cube
below_is : (t : Triangle) (cube : Cube) (axis : Vector) → IsBox (lowest cube) (highest cube) → are_below axis (triangle_corners t) (eight (lowest cube) (highest cube)) ≡ is_ahead t (cube_box cube) axis
below_is t cube axis is_box =
    same_bool (are_below axis (triangle_corners t) (eight lo hi)) (is_ahead t (cube_box cube) axis)
    (λ test.
    let (x, is) = least_corner axis lo hi is_box in
    let less = λ (p : Vector) (among : Among (triangle_corners t) p). below_says axis (triangle_corners t) (eight lo hi) test p among x (among_eight lo hi x.x x.y x.z is.on_x is.on_y is.on_z) in
    ahead_from t cube axis (record {
      first = subst (λ far. dot_of axis (corner t.a) <ℤ far) is.least (less (corner t.a) (inl refl));
      second = subst (λ far. dot_of axis (corner t.b) <ℤ far) is.least (less (corner t.b) (inr (inl refl)));
      third = subst (λ far. dot_of axis (corner t.c) <ℤ far) is.least (less (corner t.c) (inr (inr (inl refl))));
    }))
    (λ test.
    let before = before_says t cube axis test in
    below_from axis (triangle_corners t) (eight lo hi) (λ p among q of_cube.
    each_among (λ v. dot_of axis v <ℤ dot_of axis q) (triangle_corners t) (
      before.first.behind q (corners_in lo hi is_box q of_cube),
      (
        before.second.behind q (corners_in lo hi is_box q of_cube),
        (before.third.behind q (corners_in lo hi is_box q of_cube), tt),
      ),
    ) p among))
  where
    lo : Vector
    lo = lowest cube

    hi : Vector
    hi = highest cube

-- the other way round it is the same along the opposite
turned_below : (axis : Vector) (first second : List Vector) → are_below axis second first ≡ are_below (opposite_of axis) first second
turned_below axis first second =
    same_bool (are_below axis second first) (are_below (opposite_of axis) first second)
    (λ test. below_from (opposite_of axis) first second (λ p in_first q in_second. omega (arith, ints, below_says axis second first test q in_second p in_first, dot_of-opposite_of axis p, dot_of-opposite_of axis q)))
    (λ test. below_from axis second first (λ q in_second p in_first. omega (arith, ints, below_says (opposite_of axis) first second test p in_first q in_second, dot_of-opposite_of axis p, dot_of-opposite_of axis q)))

-- ---- the definition, by the box

separates_in_order : (t : Triangle) (cube : Cube) (axis : Vector) → is_in_order cube ≡ true → IsBox (lowest cube) (highest cube) → separates t cube axis ≡ seen_along t (cube_box cube) axis
unfolding separates seen_along
separates_in_order t cube axis in_order is_box =
    let corners = corners_are cube in_order in
    ap (λ q. are_below axis (triangle_corners t) q || are_below axis q (triangle_corners t)) corners
    ∙ ap (λ b. b || are_below axis (eight (lowest cube) (highest cube)) (triangle_corners t)) (below_is t cube axis is_box)
    ∙ ap (λ b. is_ahead t (cube_box cube) axis || b) (turned_below axis (triangle_corners t) (eight (lowest cube) (highest cube)) ∙ below_is t cube (opposite_of axis) is_box)

separates_out_of_order : (t : Triangle) (cube : Cube) (axis : Vector) → is_in_order cube ≡ false → separates t cube axis ≡ true
unfolding separates are_below
separates_out_of_order t cube axis out_of_order = rw (no_corners cube out_of_order) refl

order_is : (cube : Cube) → extents_in_order (cube_box cube) ≡ is_in_order cube
unfolding extents_in_order cube_box
order_is cube = refl

pub separates_by_box : (t : Triangle) (cube : Cube) (axis : Vector) → separates t cube axis ≡ (not (extents_in_order (cube_box cube)) || seen_along t (cube_box cube) axis)
separates_by_box t cube axis = elim (cases_Bool (is_in_order cube)) [
  | inl in_order ↦ rw (order_is cube, in_order) (separates_in_order t cube axis in_order (box_from_test t cube (order_is cube ∙ in_order)))
  | inr out_of_order ↦ rw (order_is cube, out_of_order) (separates_out_of_order t cube axis out_of_order)
]
