-- Either some weights clear the nine rows of a triangle and a box, or the triangle is before the box in some direction.
use Rattle.std.proofs.Common.{◌≡◌, List, [], ◌∷◌, inl, inr, subst, arith, lit≤, ℤ, pos, negsuc, ◌+ℤ◌, ◌-ℤ◌, ◌*ℤ◌, neg_ℤ, ◌≤ℤ◌, ◌<ℤ◌}
use Rattle.std.specs.Prelude.{◌⊎◌}
use Rattle.std.proofs.lemmas.Int.{ints}
use Rattle.svo_base.specs.declared.shapes.Vector.{Vector}
use Rattle.octree_specs.specs.Vectors.{vector, dot_of}
use Rattle.octree_specs.proofs.Integers.{product_at_most, *ℤ--ℤ}
use Rattle.octree_specs.proofs.Vectors.{mixed, dot_of-mixed, unit_x, unit_y, unit_z}
use Rattle.octree_specs.proofs.Cones.{Among}
use Rattle.tri_cube.proofs.Farkas.{IsClosed, Cleared, Against, nowhere, cleared_or_against}

-- ---- boxes and directions

pub record IsIn (lo hi x : Vector) : Type 0 where
  pub low_x : lo.x ≤ℤ x.x
  pub high_x : x.x ≤ℤ hi.x
  pub low_y : lo.y ≤ℤ x.y
  pub high_y : x.y ≤ℤ hi.y
  pub low_z : lo.z ≤ℤ x.z
  pub high_z : x.z ≤ℤ hi.z

-- in the direction n a point is before all points of the box, and so are three corners
pub record IsBehind (lo hi n p : Vector) : Type 0 where
  pub behind : (x : Vector) → IsIn lo hi x → dot_of n p <ℤ dot_of n x

pub record IsBefore (lo hi a b c n : Vector) : Type 0 where
  pub first : IsBehind lo hi n a
  pub second : IsBehind lo hi n b
  pub third : IsBehind lo hi n c

-- in the direction n a point is at most so much farther than any point of the box
record IsShadow (lo hi n p : Vector) (most : ℤ) : Type 0 where
  within : (x : Vector) → IsIn lo hi x → (dot_of n p -ℤ dot_of n x) ≤ℤ most

record Shadows (lo hi a b c n v : Vector) : Type 0 where
  first : IsShadow lo hi n a v.x
  second : IsShadow lo hi n b v.y
  third : IsShadow lo hi n c v.z

-- three numbers that are such bounds in some direction
abbrev IsBound : (lo hi a b c : Vector) → Vector → Type 0
IsBound lo hi a b c v = (n : Vector) × Shadows lo hi a b c n v

-- ---- sums of bounds are bounds

shadow_mixed : (lo hi m u p : Vector) (s k most next : ℤ) → pos 0 ≤ℤ s → pos 0 ≤ℤ k → IsShadow lo hi m p most → IsShadow lo hi u p next
    → IsShadow lo hi (mixed s m k u) p ((s *ℤ most) +ℤ (k *ℤ next))
shadow_mixed lo hi m u p s k most next over_s over_k is other =
    record { within = λ x in_box. rw (dot_of-mixed s m k u p, dot_of-mixed s m k u x) (joined (dot_of m p) (dot_of m x) (dot_of u p) (dot_of u x) (is.within x in_box) (other.within x in_box)) }
  where
    joined : (mp mx up ux : ℤ) → (mp -ℤ mx) ≤ℤ most → (up -ℤ ux) ≤ℤ next → (((s *ℤ mp) +ℤ (k *ℤ up)) -ℤ ((s *ℤ mx) +ℤ (k *ℤ ux))) ≤ℤ ((s *ℤ most) +ℤ (k *ℤ next))
    joined mp mx up ux h i =
        omega (arith, ints, product_at_most s (mp -ℤ mx) most over_s h, product_at_most k (up -ℤ ux) next over_k i, *ℤ--ℤ s mp mx, *ℤ--ℤ k up ux)

bound_closed : (lo hi a b c : Vector) → IsClosed (IsBound lo hi a b c)
bound_closed lo hi a b c s k v w over_s over_k (m, is) (u, other) = (
  mixed s m k u,
  record {
    first = shadow_mixed lo hi m u a s k v.x w.x over_s over_k is.first other.first;
    second = shadow_mixed lo hi m u b s k v.y w.y over_s over_k is.second other.second;
    third = shadow_mixed lo hi m u c s k v.z w.z over_s over_k is.third other.third;
  },
)

-- ---- the nine rows are bounds

abbrev pub nine_rows : (lo hi a b c : Vector) → List Vector
nine_rows lo hi a b c =
    unit_x ∷ unit_y ∷ unit_z
    ∷ vector (a.x -ℤ lo.x) (b.x -ℤ lo.x) (c.x -ℤ lo.x) ∷ vector (hi.x -ℤ a.x) (hi.x -ℤ b.x) (hi.x -ℤ c.x)
    ∷ vector (a.y -ℤ lo.y) (b.y -ℤ lo.y) (c.y -ℤ lo.y) ∷ vector (hi.y -ℤ a.y) (hi.y -ℤ b.y) (hi.y -ℤ c.y)
    ∷ vector (a.z -ℤ lo.z) (b.z -ℤ lo.z) (c.z -ℤ lo.z) ∷ vector (hi.z -ℤ a.z) (hi.z -ℤ b.z) (hi.z -ℤ c.z) ∷ []

-- in no direction, nothing is farther than anything
still : (lo hi a b c v : Vector) → pos 0 ≤ℤ v.x → pos 0 ≤ℤ v.y → pos 0 ≤ℤ v.z → IsBound lo hi a b c v
still lo hi a b c v x y z =
    (nowhere, record { first = nothing a v.x x; second = nothing b v.y y; third = nothing c v.z z })
  where
    nothing : (p : Vector) (most : ℤ) → pos 0 ≤ℤ most → IsShadow lo hi nowhere p most
    nothing p most over = record { within = λ x in_box. omega (arith, ints, over) }

-- along an axis, from the lower plane and back from the upper one
ahead_of : (lo hi a b c n : Vector) (at : Vector → ℤ) → ((v : Vector) → dot_of n v ≡ at v) → ((x : Vector) → IsIn lo hi x → at lo ≤ℤ at x)
    → IsBound lo hi a b c (vector (at a -ℤ at lo) (at b -ℤ at lo) (at c -ℤ at lo))
ahead_of lo hi a b c n at is low = (n, record { first = above a; second = above b; third = above c })
  where
    above : (p : Vector) → IsShadow lo hi n p (at p -ℤ at lo)
    above p = record { within = λ x in_box. omega (arith, ints, is p, is x, low x in_box) }

back_from : (lo hi a b c n : Vector) (at : Vector → ℤ) → ((v : Vector) → dot_of n v ≡ neg_ℤ (at v)) → ((x : Vector) → IsIn lo hi x → at x ≤ℤ at hi)
    → IsBound lo hi a b c (vector (at hi -ℤ at a) (at hi -ℤ at b) (at hi -ℤ at c))
back_from lo hi a b c n at is high = (n, record { first = below a; second = below b; third = below c })
  where
    below : (p : Vector) → IsShadow lo hi n p (at hi -ℤ at p)
    below p = record { within = λ x in_box. omega (arith, ints, is p, is x, high x in_box) }

-- what each row of a list has, by recursion on the list
abbrev pub Each : (Vector → Type 0) → List Vector → Type 0
Each P [] = Unit {0}
Each P (x ∷ rows) = P x × Each P rows

pub each_among : (P : Vector → Type 0) (rows : List Vector) → Each P rows → (r : Vector) → Among rows r → P r
each_among P [] each r among = absurd among
each_among P (x ∷ rows) each r among = elim among [
  | inl here ↦ subst P here each.0
  | inr later ↦ each_among P rows each.1 r later
]

rows_bound : (lo hi a b c : Vector) → Each (IsBound lo hi a b c) (nine_rows lo hi a b c)
rows_bound lo hi a b c = (
  still lo hi a b c unit_x (omega (arith, ints)) (omega (arith, ints)) (omega (arith, ints)),
  (
    still lo hi a b c unit_y (omega (arith, ints)) (omega (arith, ints)) (omega (arith, ints)),
    (
      still lo hi a b c unit_z (omega (arith, ints)) (omega (arith, ints)) (omega (arith, ints)),
      (
        ahead_of lo hi a b c unit_x (λ v. v.x) (λ v. omega (arith, ints)) (λ x in_box. in_box.low_x),
        (
          back_from lo hi a b c (vector (negsuc 0) (pos 0) (pos 0)) (λ v. v.x) (λ v. omega (arith, ints)) (λ x in_box. in_box.high_x),
          (
            ahead_of lo hi a b c unit_y (λ v. v.y) (λ v. omega (arith, ints)) (λ x in_box. in_box.low_y),
            (
              back_from lo hi a b c (vector (pos 0) (negsuc 0) (pos 0)) (λ v. v.y) (λ v. omega (arith, ints)) (λ x in_box. in_box.high_y),
              (
                ahead_of lo hi a b c unit_z (λ v. v.z) (λ v. omega (arith, ints)) (λ x in_box. in_box.low_z),
                (back_from lo hi a b c (vector (pos 0) (pos 0) (negsuc 0)) (λ v. v.z) (λ v. omega (arith, ints)) (λ x in_box. in_box.high_z), tt),
              ),
            ),
          ),
        ),
      ),
    ),
  ),
)

-- ---- weights, or a direction

abbrev pub ones : Vector
ones = vector (pos 1) (pos 1) (pos 1)

behind_from : (lo hi n p : Vector) (most g : ℤ) → pos 0 <ℤ g → most ≡ neg_ℤ (g *ℤ pos 1) → IsShadow lo hi n p most → IsBehind lo hi n p
behind_from lo hi n p most g above is shadow =
    record { behind = λ x in_box. omega (arith, ints, above, is, shadow.within x in_box) }

direction_from : (lo hi a b c : Vector) → Against (IsBound lo hi a b c) ones → (n : Vector) × IsBefore lo hi a b c n
direction_from lo hi a b c (v, g, (n, is), against) = (
  n,
  record {
    first = behind_from lo hi n a v.x g against.above against.x is.first;
    second = behind_from lo hi n b v.y g against.above against.y is.second;
    third = behind_from lo hi n c v.z g against.above against.z is.third;
  },
)

pub weights_or_direction : (lo hi a b c : Vector) → Cleared (nine_rows lo hi a b c) ones ⊎ ((n : Vector) × IsBefore lo hi a b c n)
weights_or_direction lo hi a b c =
    elim (cleared_or_against (IsBound lo hi a b c) (bound_closed lo hi a b c)
    (still lo hi a b c nowhere (omega (arith, ints)) (omega (arith, ints)) (omega (arith, ints)))
    9 (nine_rows lo hi a b c) (lit≤ tt) (each_among (IsBound lo hi a b c) (nine_rows lo hi a b c) (rows_bound lo hi a b c)) ones) [
      | inl cleared ↦ inl cleared
      | inr against ↦ inr (direction_from lo hi a b c against)
    ]
