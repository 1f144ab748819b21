-- A small triangle has small numbers as it is seen from its first corner, and so has what of a box is within its box.
use Rattle.std.proofs.Common.{◌≡◌, true, false, ◌&&◌, ◌||◌, refl, sym, subst, ap, ◌∙◌, arith, ◌^◌, ◌≤◌, ℤ, pos, ◌-ℤ◌}
use Rattle.std.specs.Prelude.{unsigned_abs, int_lt}
use Rattle.std.proofs.lemmas.Bool.{and_parts, or_parts}
use Rattle.std.proofs.lemmas.Int.{ints, clamps}
use Rattle.svo_base.specs.declared.shapes.Point.{Point}
use Rattle.svo_base.specs.declared.shapes.Triangle.{Triangle}
use Rattle.svo_base.specs.declared.shapes.Vector.{Vector}
use Rattle.octree_specs.specs.Vectors.{cross_of, dot_of}
use Rattle.octree_specs.proofs.Integers.{*ℤ--ℤ}
use Rattle.octree_specs.proofs.Vectors.{vector_same}
use Rattle.tri_cube.specs.declared.extents.Extents.{Extents}
use Rattle.tri_cube.specs.Boxes.{extents_miss}
use Rattle.tri_cube.specs.Edges.{corner, edge_of}
use Rattle.tri_cube.specs.Extents.{ExtentShape, ExtentWithin, between, extent_of, shapes_miss}
use Rattle.tri_cube.specs.Near.{IsNear, are_short, clip, is_short, is_small, moved, seen_from}
use Rattle.tri_cube.specs.Planes.{plane_form}
use Rattle.tri_cube.specs.Views.{box_of, plane_of}

abbrev the_point : ℤ → ℤ → ℤ → Point
the_point x y z = record { x = x; y = y; z = z }

pub spans : (x y p q : ℤ) → x ≡ p → y ≡ q → between x y ≡ between p q
spans x y p q e f = rw (e, f) refl

pub points : (x y z p q r : ℤ) → x ≡ p → y ≡ q → z ≡ r → the_point x y z ≡ the_point p q r
points x y z p q r e f g = rw (e, f, g) refl

-- ---- along an axis

clip_within : (a b c : ℤ) (s : ExtentShape) → is_short (extent_of a b c) ≡ true → shapes_miss (extent_of a b c) s ≡ false → ExtentWithin (2 ^ 29) (clip (extent_of a b c) a s)
clip_within a b c s short reached =
    let parts = or_parts (int_lt (extent_of a b c).high s.low) (int_lt s.high (extent_of a b c).low) reached in
    record { low = omega (arith, ints, clamps, short, parts.0, parts.1); high = omega (arith, ints, clamps, short, parts.0, parts.1) }

near_second : (a b c : ℤ) → is_short (extent_of a b c) ≡ true → unsigned_abs (b -ℤ a) ≤ 2 ^ 29
near_second a b c short = omega (arith, ints, clamps, short)

near_third : (a b c : ℤ) → is_short (extent_of a b c) ≡ true → unsigned_abs (c -ℤ a) ≤ 2 ^ 29
near_third a b c short = omega (arith, ints, clamps, short)

near_first : (a : ℤ) → unsigned_abs (a -ℤ a) ≤ 2 ^ 29
near_first a = omega (arith, ints)

-- ---- along all axes

record AreShort (t : Triangle) : Type 0 where
  x : is_short (extent_of t.a.x t.b.x t.c.x) ≡ true
  y : is_short (extent_of t.a.y t.b.y t.c.y) ≡ true
  z : is_short (extent_of t.a.z t.b.z t.c.z) ≡ true

are_each : (t : Triangle) → is_small t ≡ true → AreShort t
unfolding is_small are_short box_of
are_each t small =
    let whole = and_parts (is_short (extent_of t.a.x t.b.x t.c.x) && is_short (extent_of t.a.y t.b.y t.c.y)) (is_short (extent_of t.a.z t.b.z t.c.z)) small in
    let front = and_parts (is_short (extent_of t.a.x t.b.x t.c.x)) (is_short (extent_of t.a.y t.b.y t.c.y)) whole.0 in
    record { x = front.0; y = front.1; z = whole.1 }

pub record Reached (t : Triangle) (bounds e : Extents) : Type 0 where
  pub within_x : ExtentWithin (2 ^ 29) (clip bounds.x t.a.x e.x)
  pub within_y : ExtentWithin (2 ^ 29) (clip bounds.y t.a.y e.y)
  pub within_z : ExtentWithin (2 ^ 29) (clip bounds.z t.a.z e.z)

pub record Unmissed (bounds e : Extents) : Type 0 where
  pub x : shapes_miss bounds.x e.x ≡ false
  pub y : shapes_miss bounds.y e.y ≡ false
  pub z : shapes_miss bounds.z e.z ≡ false

pub unmissed : (bounds e : Extents) → extents_miss bounds e ≡ false → Unmissed bounds e
unfolding extents_miss
unmissed bounds e reached =
    let whole = or_parts (shapes_miss bounds.x e.x || shapes_miss bounds.y e.y) (shapes_miss bounds.z e.z) reached in
    let front = or_parts (shapes_miss bounds.x e.x) (shapes_miss bounds.y e.y) whole.0 in
    record { x = front.0; y = front.1; z = whole.1 }

box_reached : (t : Triangle) (e : Extents) → is_small t ≡ true → extents_miss (box_of t) e ≡ false → Reached t (box_of t) e
unfolding box_of
box_reached t e small test =
    let each = are_each t small in
    let parts = unmissed (box_of t) e test in
    record {
      within_x = clip_within t.a.x t.b.x t.c.x e.x each.x parts.x;
      within_y = clip_within t.a.y t.b.y t.c.y e.y each.y parts.y;
      within_z = clip_within t.a.z t.b.z t.c.z e.z each.z parts.z;
    }

pub reached_parts : (t : Triangle) (bounds e : Extents) → is_small t ≡ true → bounds ≡ box_of t → extents_miss bounds e ≡ false → Reached t bounds e
reached_parts t bounds e small is_box reached =
    subst (λ b. Reached t b e) (sym is_box) (box_reached t e small (subst (λ b. extents_miss b e ≡ false) is_box reached))

pub moved_near : (t : Triangle) → is_small t ≡ true → IsNear (moved t)
unfolding moved
moved_near t small =
    let each = are_each t small in
    record {
      a = record { x = near_first t.a.x; y = near_first t.a.y; z = near_first t.a.z };
      b = record { x = near_second t.a.x t.b.x t.c.x each.x; y = near_second t.a.y t.b.y t.c.y each.y; z = near_second t.a.z t.b.z t.c.z each.z };
      c = record { x = near_third t.a.x t.b.x t.c.x each.x; y = near_third t.a.y t.b.y t.c.y each.y; z = near_third t.a.z t.b.z t.c.z each.z };
    }

-- ---- the plane through the first corner

from_itself : (a b : ℤ) → b ≡ b -ℤ (a -ℤ a)
from_itself a b = omega (arith, ints)

edge_moved : (a p : Point) → corner p ≡ edge_of (seen_from a a) p
edge_moved a p = vector_same _ _ _ _ _ _ (from_itself a.x p.x) (from_itself a.y p.y) (from_itself a.z p.z)

pub normal_moved : (t : Triangle) → cross_of (corner (moved t).b) (corner (moved t).c) ≡ cross_of (edge_of (moved t).a (moved t).b) (edge_of (moved t).a (moved t).c)
unfolding moved
normal_moved t =
    ap (λ v. cross_of v (corner (moved t).c)) (edge_moved t.a (moved t).b) ∙ ap (λ v. cross_of (edge_of (moved t).a (moved t).b) v) (edge_moved t.a (moved t).c)

reach_none : (n : Vector) (a : Point) → pos 0 ≡ dot_of n (corner (seen_from a a))
reach_none n a = omega (arith, ints, *ℤ--ℤ n.x a.x a.x, *ℤ--ℤ n.y a.y a.y, *ℤ--ℤ n.z a.z a.z)

plane_moved : (t : Triangle) → plane_form (cross_of (corner (moved t).b) (corner (moved t).c)) (pos 0) ≡ plane_of (moved t)
unfolding plane_of moved
plane_moved t =
    ap (λ n. plane_form n (pos 0)) (normal_moved t)
    ∙ ap (λ r. plane_form (cross_of (edge_of (moved t).a (moved t).b) (edge_of (moved t).a (moved t).c)) r) (reach_none (cross_of (edge_of (moved t).a (moved t).b) (edge_of (moved t).a (moved t).c)) t.a)

-- ---- the same of the triangle that is it

pub normal_near : (t near : Triangle) (n : Vector) → near ≡ moved t → n ≡ cross_of (corner near.b) (corner near.c) → n ≡ cross_of (edge_of near.a near.b) (edge_of near.a near.c)
normal_near t near n is across = across ∙ subst (λ m. cross_of (corner m.b) (corner m.c) ≡ cross_of (edge_of m.a m.b) (edge_of m.a m.c)) (sym is) (normal_moved t)

pub plane_near : (t near : Triangle) (n : Vector) → near ≡ moved t → n ≡ cross_of (corner near.b) (corner near.c) → plane_form n (pos 0) ≡ plane_of near
plane_near t near n is across =
    ap (λ v. plane_form v (pos 0)) across ∙ subst (λ m. plane_form (cross_of (corner m.b) (corner m.c)) (pos 0) ≡ plane_of m) (sym is) (plane_moved t)
