-- A triangle and a box share a point exactly where they do as seen from the triangle's first corner, and with what of the box is within the triangle's box.
use Rattle.std.proofs.Common.{◌≡◌, Bool, true, false, not, ◌&&◌, ◌||◌, ◌∷◌, [], refl, subst, arith, sym, ◌∙◌, ℕ, ◌+◌, ℤ, pos, ◌+ℤ◌, ◌-ℤ◌, ◌*ℤ◌, ◌≤ℤ◌}
use Rattle.std.specs.Prelude.{◌↔◌, IsTrue, int_le, int_lt}
use Rattle.std.specs.Int.{int_min, int_max}
use Rattle.std.proofs.lemmas.Bool.{and_parts, and_from, or_parts, or_from, not-true, not_from_false}
use Rattle.std.proofs.lemmas.Int.{ints, clamps, by_lt_z}
use Rattle.svo_base.specs.declared.shapes.Triangle.{Triangle}
use Rattle.svo_base.specs.declared.shapes.Cube.{Cube}
use Rattle.octree_specs.specs.Meeting.{Meets, low_of, high_of}
use Rattle.octree_specs.proofs.Integers.{product_at_most, +ℤ-*ℤ, *ℤ--ℤ}
use Rattle.tri_cube.specs.declared.extents.Extents.{Extents}
use Rattle.tri_cube.specs.declared.prepared.Form.{Form}
use Rattle.tri_cube.specs.declared.prepared.Form.TheVariants.{Near, Wide}
use Rattle.tri_cube.specs.declared.small.NearForm.{NearForm}
use Rattle.tri_cube.specs.declared.wide.WideForm.{WideForm}
use Rattle.tri_cube.specs.Boxes.{extents_in_order, extents_miss}
use Rattle.tri_cube.specs.Extents.{ExtentShape, extent_of, shapes_miss, cube_extent}
use Rattle.tri_cube.specs.Near.{are_apart, clip, clip_box, clipped, is_passed, is_passed_by, is_small, moved, passes}
use Rattle.tri_cube.specs.Planes.{plane_form}
use Rattle.tri_cube.specs.Prepared.{IsForm}
use Rattle.tri_cube.specs.Views.{are_seen_apart, box_of, cube_box, misses_edges}
use Rattle.tri_cube.proofs.NearCorner.{unmissed}
use Rattle.tri_cube.proofs.SeparatingAxes.{unseen_exactly_where_met}

-- ---- along an axis

abbrev weights_of : ℕ → ℕ → ℕ → ℤ → ℤ → ℤ → ℤ
weights_of w0 w1 w2 a b c = ((pos w0 *ℤ a) +ℤ (pos w1 *ℤ b)) +ℤ (pos w2 *ℤ c)

whole : (w0 w1 w2 : ℕ) (k : ℤ) → pos (w0 + w1 + w2) *ℤ k ≡ weights_of w0 w1 w2 k k k
whole w0 w1 w2 k =
    let sum : pos (w0 + w1 + w2) ≡ (pos w0 +ℤ pos w1) +ℤ pos w2 = omega (arith, ints) in
    rw sum (omega (arith, ints, +ℤ-*ℤ (pos w0 +ℤ pos w1) (pos w2) k, +ℤ-*ℤ (pos w0) (pos w1) k))

-- weights of numbers from a number on, or up to one
from_least : (w0 w1 w2 : ℕ) (a b c k : ℤ) → k ≤ℤ a → k ≤ℤ b → k ≤ℤ c → (pos (w0 + w1 + w2) *ℤ k) ≤ℤ weights_of w0 w1 w2 a b c
from_least w0 w1 w2 a b c k p q r =
    omega (arith, ints, whole w0 w1 w2 k, product_at_most (pos w0) k a (omega (arith, ints)) p, product_at_most (pos w1) k b (omega (arith, ints)) q, product_at_most (pos w2) k c (omega (arith, ints)) r)

to_greatest : (w0 w1 w2 : ℕ) (a b c k : ℤ) → a ≤ℤ k → b ≤ℤ k → c ≤ℤ k → weights_of w0 w1 w2 a b c ≤ℤ (pos (w0 + w1 + w2) *ℤ k)
to_greatest w0 w1 w2 a b c k p q r =
    omega (arith, ints, whole w0 w1 w2 k, product_at_most (pos w0) a k (omega (arith, ints)) p, product_at_most (pos w1) b k (omega (arith, ints)) q, product_at_most (pos w2) c k (omega (arith, ints)) r)

-- the weighted point, and a plane, seen from the first corner
point_moved : (w0 w1 w2 : ℕ) (a b c : ℤ) → weights_of w0 w1 w2 (a -ℤ a) (b -ℤ a) (c -ℤ a) ≡ weights_of w0 w1 w2 a b c -ℤ (pos (w0 + w1 + w2) *ℤ a)
point_moved w0 w1 w2 a b c =
    omega (arith, ints, whole w0 w1 w2 a, *ℤ--ℤ (pos w0) a a, *ℤ--ℤ (pos w1) b a, *ℤ--ℤ (pos w2) c a)

abbrev IsIn : ℕ → ℕ → ℕ → ℤ → ℤ → ℤ → ExtentShape → Type 0
IsIn w0 w1 w2 a b c s =
    ((pos (w0 + w1 + w2) *ℤ s.low) ≤ℤ weights_of w0 w1 w2 a b c) × (weights_of w0 w1 w2 a b c ≤ℤ (pos (w0 + w1 + w2) *ℤ s.high))

above_both : (t : ℕ) (p x y : ℤ) → (pos t *ℤ x) ≤ℤ p → (pos t *ℤ y) ≤ℤ p → (pos t *ℤ int_max x y) ≤ℤ p
above_both t p x y h k =
    by_lt_z y x
    (λ less. let is : int_max x y ≡ x = omega (arith, ints, clamps, less) in rw is h)
    (λ most. let is : int_max x y ≡ y = omega (arith, ints, clamps, most) in rw is k)

below_both : (t : ℕ) (p x y : ℤ) → p ≤ℤ (pos t *ℤ x) → p ≤ℤ (pos t *ℤ y) → p ≤ℤ (pos t *ℤ int_min x y)
below_both t p x y h k =
    by_lt_z y x
    (λ less. let is : int_min x y ≡ y = omega (arith, ints, clamps, less) in rw is k)
    (λ most. let is : int_min x y ≡ x = omega (arith, ints, clamps, most) in rw is h)

clip_in : (w0 w1 w2 : ℕ) (a b c : ℤ) (s : ExtentShape) → IsIn w0 w1 w2 a b c s → IsIn w0 w1 w2 (a -ℤ a) (b -ℤ a) (c -ℤ a) (clip (extent_of a b c) a s)
clip_in w0 w1 w2 a b c s is =
    let bounds = extent_of a b c in
    let low = above_both (w0 + w1 + w2) (weights_of w0 w1 w2 a b c) s.low bounds.low is.0 (from_least w0 w1 w2 a b c bounds.low (omega (arith, ints, clamps)) (omega (arith, ints, clamps)) (omega (arith, ints, clamps))) in
    let high = below_both (w0 + w1 + w2) (weights_of w0 w1 w2 a b c) s.high bounds.high is.1 (to_greatest w0 w1 w2 a b c bounds.high (omega (arith, ints, clamps)) (omega (arith, ints, clamps)) (omega (arith, ints, clamps))) in (
      omega (arith, ints, low, point_moved w0 w1 w2 a b c, *ℤ--ℤ (pos (w0 + w1 + w2)) (int_max s.low bounds.low) a),
      omega (arith, ints, high, point_moved w0 w1 w2 a b c, *ℤ--ℤ (pos (w0 + w1 + w2)) (int_min s.high bounds.high) a),
    )

in_clip : (w0 w1 w2 : ℕ) (a b c : ℤ) (s : ExtentShape) → IsIn w0 w1 w2 (a -ℤ a) (b -ℤ a) (c -ℤ a) (clip (extent_of a b c) a s) → IsIn w0 w1 w2 a b c s
in_clip w0 w1 w2 a b c s is =
    let bounds = extent_of a b c in
    let total : pos 0 ≤ℤ pos (w0 + w1 + w2) = omega (arith, ints) in
    let low = product_at_most (pos (w0 + w1 + w2)) s.low (int_max s.low bounds.low) total (omega (arith, ints, clamps)) in
    let high = product_at_most (pos (w0 + w1 + w2)) (int_min s.high bounds.high) s.high total (omega (arith, ints, clamps)) in (
      omega (arith, ints, low, is.0, point_moved w0 w1 w2 a b c, *ℤ--ℤ (pos (w0 + w1 + w2)) (int_max s.low bounds.low) a),
      omega (arith, ints, high, is.1, point_moved w0 w1 w2 a b c, *ℤ--ℤ (pos (w0 + w1 + w2)) (int_min s.high bounds.high) a),
    )

-- ---- along all axes

-- what of a cube is within the triangle's box, seen from its first corner
abbrev clip_low : ℤ → ℤ → ℤ → ℤ → ℤ
clip_low a b c low = int_max low (int_min (int_min a b) c) -ℤ a

abbrev clip_high : ℤ → ℤ → ℤ → ℤ → ℤ
clip_high a b c high = int_min high (int_max (int_max a b) c) -ℤ a

unfoldable clip_cube : Triangle → Cube → Cube
clip_cube t cube = record {
  lo = clip_low t.a.x t.b.x t.c.x (low_of cube 0) ∷ clip_low t.a.y t.b.y t.c.y (low_of cube 1) ∷ clip_low t.a.z t.b.z t.c.z (low_of cube 2) ∷ [];
  hi = clip_high t.a.x t.b.x t.c.x (high_of cube 0) ∷ clip_high t.a.y t.b.y t.c.y (high_of cube 1) ∷ clip_high t.a.z t.b.z t.c.z (high_of cube 2) ∷ [];
}

clip_cube_is : (t : Triangle) (cube : Cube) → cube_box (clip_cube t cube) ≡ clipped t (cube_box cube)
unfolding clip_cube cube_box clipped box_of
clip_cube_is t cube = refl

meets_clipped : (t : Triangle) (cube : Cube) → Meets t cube → Meets (moved t) (clip_cube t cube)
unfolding clip_cube moved
meets_clipped t cube met = record {
  w0 = met.w0;
  w1 = met.w1;
  w2 = met.w2;
  some = met.some;
  x = clip_in met.w0 met.w1 met.w2 t.a.x t.b.x t.c.x (cube_extent cube 0) met.x;
  y = clip_in met.w0 met.w1 met.w2 t.a.y t.b.y t.c.y (cube_extent cube 1) met.y;
  z = clip_in met.w0 met.w1 met.w2 t.a.z t.b.z t.c.z (cube_extent cube 2) met.z;
}

clipped_meets : (t : Triangle) (cube : Cube) → Meets (moved t) (clip_cube t cube) → Meets t cube
unfolding clip_cube moved
clipped_meets t cube met = record {
  w0 = met.w0;
  w1 = met.w1;
  w2 = met.w2;
  some = met.some;
  x = in_clip met.w0 met.w1 met.w2 t.a.x t.b.x t.c.x (cube_extent cube 0) met.x;
  y = in_clip met.w0 met.w1 met.w2 t.a.y t.b.y t.c.y (cube_extent cube 1) met.y;
  z = in_clip met.w0 met.w1 met.w2 t.a.z t.b.z t.c.z (cube_extent cube 2) met.z;
}

-- ---- a box that the triangle's box reaches, and what is left of it

clip_reached : (a b c : ℤ) (s : ExtentShape) → shapes_miss (extent_of a b c) s ≡ false → int_le s.low s.high ≡ true → shapes_miss (extent_of (a -ℤ a) (b -ℤ a) (c -ℤ a)) (clip (extent_of a b c) a s) ≡ false
clip_reached a b c s reached order =
    let parts = or_parts (int_lt (extent_of a b c).high s.low) (int_lt s.high (extent_of a b c).low) reached in
    let bounds = extent_of (a -ℤ a) (b -ℤ a) (c -ℤ a) in
    let left = clip (extent_of a b c) a s in
    let low : left.low ≤ℤ bounds.high = omega (arith, ints, clamps, order, parts.0, parts.1) in
    let high : bounds.low ≤ℤ left.high = omega (arith, ints, clamps, order, parts.0, parts.1) in
    or_from (int_lt bounds.high left.low) (int_lt left.high bounds.low) (not_less bounds.high left.low low) (not_less left.high bounds.low high)
  where
    not_less : (x y : ℤ) → y ≤ℤ x → int_lt x y ≡ false
    not_less x y h = grind (arith, ints)

clip_order : (a b c : ℤ) (s : ExtentShape) → shapes_miss (extent_of a b c) s ≡ false → int_le s.low s.high ≡ true → int_le (clip (extent_of a b c) a s).low (clip (extent_of a b c) a s).high ≡ true
clip_order a b c s reached order =
    let parts = or_parts (int_lt (extent_of a b c).high s.low) (int_lt s.high (extent_of a b c).low) reached in
    let left = clip (extent_of a b c) a s in
    let least : left.low ≤ℤ left.high = omega (arith, ints, clamps, order, parts.0, parts.1) in
    most left.low left.high least
  where
    most : (x y : ℤ) → x ≤ℤ y → int_le x y ≡ true
    most x y h = grind (arith, ints)

record InOrder (e : Extents) : Type 0 where
  x : int_le e.x.low e.x.high ≡ true
  y : int_le e.y.low e.y.high ≡ true
  z : int_le e.z.low e.z.high ≡ true

in_order : (e : Extents) → extents_in_order e ≡ true → InOrder e
unfolding extents_in_order
in_order e test =
    let all = and_parts (int_le e.x.low e.x.high && int_le e.y.low e.y.high) (int_le e.z.low e.z.high) test in
    let front = and_parts (int_le e.x.low e.x.high) (int_le e.y.low e.y.high) all.0 in
    record { x = front.0; y = front.1; z = all.1 }

still_reached : (t : Triangle) (e : Extents) → extents_miss (box_of t) e ≡ false → extents_in_order e ≡ true → extents_miss (box_of (moved t)) (clipped t e) ≡ false
unfolding box_of moved clipped extents_miss
still_reached t e reached order =
    let parts = unmissed (box_of t) e reached in
    let each = in_order e order in
    or_from _ _ (or_from _ _ (clip_reached t.a.x t.b.x t.c.x e.x parts.x each.x) (clip_reached t.a.y t.b.y t.c.y e.y parts.y each.y)) (clip_reached t.a.z t.b.z t.c.z e.z parts.z each.z)

still_in_order : (t : Triangle) (e : Extents) → extents_miss (box_of t) e ≡ false → extents_in_order e ≡ true → extents_in_order (clipped t e) ≡ true
unfolding box_of clipped extents_in_order
still_in_order t e reached order =
    let parts = unmissed (box_of t) e reached in
    let each = in_order e order in
    and_from _ _ (and_from _ _ (clip_order t.a.x t.b.x t.c.x e.x parts.x each.x) (clip_order t.a.y t.b.y t.c.y e.y parts.y each.y)) (clip_order t.a.z t.b.z t.c.z e.z parts.z each.z)

-- ---- the tests of a prepared triangle

seen_apart_is : (t : Triangle) (e : Extents) → are_seen_apart t e ≡ (extents_miss (box_of t) e || is_passed_by t e)
unfolding are_seen_apart is_passed_by passes misses_edges
seen_apart_is t e = refl

large : (t : Triangle) (e : Extents) → is_small t ≡ false → are_apart t e ≡ are_seen_apart t e
unfolding are_apart is_passed
large t e is = rw (is, seen_apart_is t e) refl

small : (t : Triangle) (e : Extents) → is_small t ≡ true → are_apart t e ≡ (extents_miss (box_of t) e || is_passed_by (moved t) (clipped t e))
unfolding are_apart is_passed
small t e is = rw is refl

abbrev Shares : Bool → Bool → Type 0
Shares apart order = IsTrue (not apart && order)

-- not apart by either of two tests, and in order
shares_parts : (x y z : Bool) → Shares (x || y) z → (x ≡ false) × ((y ≡ false) × (z ≡ true))
shares_parts x y z shares =
    let parts = and_parts (not (x || y)) z shares in
    let none = or_parts x y (not-true (x || y) parts.0) in
    (none.0, (none.1, parts.1))

shares_from : (x y z : Bool) → x ≡ false → y ≡ false → z ≡ true → Shares (x || y) z
shares_from x y z p q r = and_from (not (x || y)) z (not_from_false (x || y) (or_from x y p q)) r

met_where_small : (t : Triangle) (cube : Cube) → Shares (extents_miss (box_of t) (cube_box cube) || is_passed_by (moved t) (clipped t (cube_box cube))) (extents_in_order (cube_box cube)) ↔ Meets t cube
met_where_small t cube = (
  λ shares.
      let parts = shares_parts (extents_miss (box_of t) (cube_box cube)) (is_passed_by (moved t) (clipped t (cube_box cube))) (extents_in_order (cube_box cube)) shares in
      clipped_meets t cube ((unseen_exactly_where_met (moved t) (clip_cube t cube)).0
      (subst (λ e. Shares (are_seen_apart (moved t) e) (extents_in_order e)) (sym (clip_cube_is t cube))
      (subst (λ apart. Shares apart (extents_in_order (clipped t (cube_box cube)))) (sym (seen_apart_is (moved t) (clipped t (cube_box cube))))
      (shares_from (extents_miss (box_of (moved t)) (clipped t (cube_box cube))) (is_passed_by (moved t) (clipped t (cube_box cube))) (extents_in_order (clipped t (cube_box cube)))
      (still_reached t (cube_box cube) parts.0 parts.1.1) parts.1.0 (still_in_order t (cube_box cube) parts.0 parts.1.1))))),
  λ met.
      let here = subst (λ apart. Shares apart (extents_in_order (cube_box cube))) (seen_apart_is t (cube_box cube)) ((unseen_exactly_where_met t cube).1 met) in
      let parts = shares_parts (extents_miss (box_of t) (cube_box cube)) (is_passed_by t (cube_box cube)) (extents_in_order (cube_box cube)) here in
      let near = subst (λ apart. Shares apart (extents_in_order (clipped t (cube_box cube)))) (seen_apart_is (moved t) (clipped t (cube_box cube)))
      (subst (λ e. Shares (are_seen_apart (moved t) e) (extents_in_order e)) (clip_cube_is t cube) ((unseen_exactly_where_met (moved t) (clip_cube t cube)).1 (meets_clipped t cube met))) in
      let left = shares_parts (extents_miss (box_of (moved t)) (clipped t (cube_box cube))) (is_passed_by (moved t) (clipped t (cube_box cube))) (extents_in_order (clipped t (cube_box cube))) near in
      shares_from (extents_miss (box_of t) (cube_box cube)) (is_passed_by (moved t) (clipped t (cube_box cube))) (extents_in_order (cube_box cube)) parts.0 left.1.0 parts.1.1,
)

-- ---- the forms of a prepared triangle

pub near_passes : (t : Triangle) (bounds e : Extents) (form : Form) (f : NearForm) (result : Bool) → IsForm t form → form ≡ Near f → bounds ≡ box_of t
    → result ≡ passes (plane_form f.plane (pos 0)) f.x f.y f.z (clip_box bounds t.a e) → result ≡ is_passed t e
unfolding is_passed is_passed_by clipped
near_passes t bounds e form f result is which is_box ensures =
    let mine = subst (IsForm t) which is in
    ensures ∙ rw (mine.0, mine.1.plane, mine.1.x, mine.1.y, mine.1.z, is_box) refl

pub wide_passes : (t : Triangle) (e : Extents) (form : Form) (f : WideForm) (result : Bool) → IsForm t form → form ≡ Wide f
    → result ≡ passes f.plane f.x f.y f.z e → result ≡ is_passed t e
unfolding is_passed is_passed_by
wide_passes t e form f result is which ensures =
    let mine = subst (IsForm t) which is in
    ensures ∙ rw (mine.0, mine.1.plane, mine.1.x, mine.1.y, mine.1.z) refl

pub met_where_not_apart : (t : Triangle) (cube : Cube) → IsTrue (not (are_apart t (cube_box cube)) && extents_in_order (cube_box cube)) ↔ Meets t cube
met_where_not_apart t cube = by (is_small t) refl
  where
    by : (b : Bool) → is_small t ≡ b → Shares (are_apart t (cube_box cube)) (extents_in_order (cube_box cube)) ↔ Meets t cube
    by true is =
        subst (λ apart. Shares apart (extents_in_order (cube_box cube)) ↔ Meets t cube) (sym (small t (cube_box cube) is)) (met_where_small t cube)
    by false is =
        subst (λ apart. Shares apart (extents_in_order (cube_box cube)) ↔ Meets t cube) (sym (large t (cube_box cube) is)) (unseen_exactly_where_met t cube)
