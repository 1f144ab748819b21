-- A triangle that meets a cube has a box that reaches it.
use Rattle.std.proofs.Common.{◌≡◌, ℕ, ◌+◌, List, Bool, true, false, ◌||◌, ℤ, pos, ◌+ℤ◌, ◌*ℤ◌, ◌≤ℤ◌, inl, inr, arith, refl, sym, subst}
use Rattle.std.specs.Prelude.{int_le, ◌&&◌}
use Rattle.std.specs.Int.{int_min, int_max}
use Rattle.std.proofs.lemmas.Bool.{or_cases, and_parts, both_ways}
use Rattle.std.proofs.lemmas.Int.{ints, clamps}
use Rattle.svo_base.specs.declared.shapes.Cube.{Cube}
use Rattle.svo_base.specs.declared.shapes.Point.{Point}
use Rattle.svo_base.specs.declared.shapes.Triangle.{Triangle}
use Rattle.octree_specs.specs.Meeting.{Meets, low_of, high_of}
use Rattle.octree_specs.specs.Parts.{reaches, box_meets}
use Rattle.grid_parts.proofs.Boxes.{box_meets_where_met}
use Rattle.svo_base.specs.declared.boxes.Bounds.{Bounds}
use Rattle.svo_base.specs.GridShape.{GridShape}
use Rattle.morton_scan.specs.declared.nodes.Node.{Node}
use Rattle.morton_scan.specs.Nodes.{IsNode}
use Rattle.morton_scan.specs.Putting.{ArePut, MetUnder}
use Rattle.morton_scan.proofs.NodesBelow.{put_unmet}
use Rattle.svo_base.specs.Boxes.{bounds_of, extent_of}
use Rattle.morton_scan.specs.Reaching.{bounds_reach, bounds_within, extent_reaches}

-- what one of three numbers does, their least does, and their greatest
not_least : (a b c high : ℤ) → int_le (int_min (int_min a b) c) high ≡ false → (int_le a high || (int_le b high || int_le c high)) ≡ true → ⊥
not_least a b c high none some = elim (or_cases (int_le a high) (int_le b high || int_le c high) some) [
  | inl p ↦ omega (arith, ints, clamps, none, p)
  | inr rest ↦ elim (or_cases (int_le b high) (int_le c high) rest) [ inl q ↦ omega (arith, ints, clamps, none, q) | inr r ↦ omega (arith, ints, clamps, none, r) ]
]

not_greatest : (a b c low : ℤ) → int_le low (int_max (int_max a b) c) ≡ false → (int_le low a || (int_le low b || int_le low c)) ≡ true → ⊥
not_greatest a b c low none some = elim (or_cases (int_le low a) (int_le low b || int_le low c) some) [
  | inl p ↦ omega (arith, ints, clamps, none, p)
  | inr rest ↦ elim (or_cases (int_le low b) (int_le low c) rest) [ inl q ↦ omega (arith, ints, clamps, none, q) | inr r ↦ omega (arith, ints, clamps, none, r) ]
]

holds : (test : Bool) → (test ≡ false → ⊥) → test ≡ true
holds true fails = refl
holds false fails = absurd (fails refl)

reached : (at : Point → ℤ) (t : Triangle) (cube : Cube) (axis : ℕ) → reaches at t (low_of cube axis) (high_of cube axis) ≡ true
    → extent_reaches (extent_of (at t.a) (at t.b) (at t.c)) cube axis ≡ true
unfolding reaches
reached at t cube axis all =
    let parts = and_parts _ _ all in
    let lower = holds (int_le (int_min (int_min (at t.a) (at t.b)) (at t.c)) (high_of cube axis)) (λ none. not_least (at t.a) (at t.b) (at t.c) (high_of cube axis) none parts.0) in
    let upper = holds (int_le (low_of cube axis) (int_max (int_max (at t.a) (at t.b)) (at t.c))) (λ none. not_greatest (at t.a) (at t.b) (at t.c) (low_of cube axis) none parts.1) in
    rw (lower, upper) refl

pub reach_where_met : (t : Triangle) (cube : Cube) → Meets t cube → bounds_reach (bounds_of t) cube ≡ true
unfolding bounds_of bounds_reach box_meets
reach_where_met t cube met =
    let all = and_parts _ _ (box_meets_where_met t cube met) in
    let rest = and_parts _ _ all.1 in
    rw (reached (λ p. p.x) t cube 0 all.0, reached (λ p. p.y) t cube 1 rest.0, reached (λ p. p.z) t cube 2 rest.1) refl

-- a corner of the triangle lies in a cube within which its box lies
corner_between : (a b c low high : ℤ) → (int_le low (int_min (int_min a b) c) && int_le (int_max (int_max a b) c) high) ≡ true
    → ((pos 1 *ℤ low) ≤ℤ (((pos 1 *ℤ a) +ℤ (pos 0 *ℤ b)) +ℤ (pos 0 *ℤ c))) × ((((pos 1 *ℤ a) +ℤ (pos 0 *ℤ b)) +ℤ (pos 0 *ℤ c)) ≤ℤ (pos 1 *ℤ high))
corner_between a b c low high within =
    let parts = and_parts (int_le low (int_min (int_min a b) c)) (int_le (int_max (int_max a b) c) high) within in
    (omega (arith, ints, clamps, parts.0), omega (arith, ints, clamps, parts.1))

pub met_within : (t : Triangle) (b : Bounds) (cube : Cube) → b ≡ bounds_of t → bounds_within b cube ≡ true → Meets t cube
unfolding bounds_of bounds_within
met_within t b cube is within =
    let all : bounds_within (bounds_of t) cube ≡ true = subst (λ b. bounds_within b cube ≡ true) is within in
    let outer = and_parts _ _ all in
    let inner = and_parts _ _ outer.0 in
    record {
      w0 = 1;
      w1 = 0;
      w2 = 0;
      some = omega arith;
      x = corner_between t.a.x t.b.x t.c.x (low_of cube 0) (high_of cube 0) inner.0;
      y = corner_between t.a.y t.b.y t.c.y (low_of cube 1) (high_of cube 1) inner.1;
      z = corner_between t.a.z t.b.z t.c.z (low_of cube 2) (high_of cube 2) outer.1;
    }

-- so a cube that the box does not reach is not met
pub unreached : (t : Triangle) (b : Bounds) (cube : Cube) → b ≡ bounds_of t → bounds_reach b cube ≡ false → Meets t cube → ⊥
unreached t b cube is fails met = both_ways (bounds_reach b cube) fails (subst (λ b. bounds_reach b cube ≡ true) (sym is) (reach_where_met t cube met))

-- and a node whose cube it does not reach changes nothing
pub put_unreached : (grid : GridShape) (t : Triangle) (node : Node) (b : Bounds) (first face : ℕ) (slots : List ℕ) → IsNode grid node → b ≡ bounds_of t → bounds_reach b node.cube ≡ false
    → ArePut (MetUnder grid t node.height node.code (node.code + 1)) first face slots slots
put_unreached grid t node b first face slots is is_bounds fails =
    put_unmet grid t node.height node.code first face slots is.within (λ met. unreached t b node.cube is_bounds fails (subst (λ cube. Meets t cube) (sym is.is_cube) met))
