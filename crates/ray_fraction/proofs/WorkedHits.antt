-- First hits among the eight cells around the point (2, 2, 2), from the definitions alone.
use Rattle.std.proofs.Common.{◌≡◌, ℕ, List, [], ◌∷◌, map, true, pos, negsuc, refl, arith, lit<, lit≤}
use Rattle.std.specs.Prelude.{All}
use Rattle.std.proofs.lemmas.List.Elements.{All-from_recursion, All-contains}
use Rattle.std.proofs.lemmas.Int.{ints}
use Rattle.svo_base.specs.GridShape.{GridShape}
use Rattle.octree_specs.specs.Cells.{Cell, codes_of}
use Rattle.octree_specs.specs.NodeCube.{node_cube, coordinate_of}
use Rattle.octree_specs.specs.Octree.{first_children}
use Rattle.ray_fraction.specs.Crossings.{IsOffPlanes, count_of}
use Rattle.ray_fraction.specs.Hits.{Precedes, IsFirstHit}
use Rattle.ray_fraction.specs.InCube.{InAt}
use Rattle.ray_fraction.specs.RayShape.{RayShape}

grid : GridShape
grid = record { depth = 2; origin = pos 0 ∷ pos 0 ∷ pos 0 ∷ []; cell = 1 }

cells : List Cell
cells = map (λ code. record { code = code; face = 0 }) (7 ∷ 14 ∷ 21 ∷ 28 ∷ 35 ∷ 42 ∷ 49 ∷ 56 ∷ [])

-- the root and its eight children have words above the cells
all_nodes : count_of (λ height node. true) cells 2 0 ≡ 9
unfolding cells first_children
all_nodes = refl

-- from (-1, 2, 2) along x
along : RayShape
along = record { origin = negsuc 0 ∷ pos 2 ∷ pos 2 ∷ []; direction = pos 1 ∷ pos 0 ∷ pos 0 ∷ [] }

-- what is not sooner than 2 / 1 and not below 7
IsBehind : ℕ → Type 0
IsBehind code = (k l : ℕ) → InAt along (node_cube grid 2 code) k l → Precedes 2 1 7 k l code

behind : All IsBehind (codes_of cells)
unfolding IsBehind along grid cells node_cube coordinate_of
behind = All-from_recursion IsBehind (codes_of cells) (
  (λ k l at. record { sooner = omega (arith, ints, at.x.above); tie = λ late. lit≤ tt }),
  (
    (λ k l at. record { sooner = omega (arith, ints, at.x.above); tie = λ late. lit≤ tt }),
    (
      (λ k l at. record { sooner = omega (arith, ints, at.x.above); tie = λ late. lit≤ tt }),
      (
        (λ k l at. record { sooner = omega (arith, ints, at.x.above); tie = λ late. lit≤ tt }),
        (
          (λ k l at. record { sooner = omega (arith, ints, at.x.above); tie = λ late. lit≤ tt }),
          (
            (λ k l at. record { sooner = omega (arith, ints, at.x.above); tie = λ late. lit≤ tt }),
            (
              (λ k l at. record { sooner = omega (arith, ints, at.x.above); tie = λ late. lit≤ tt }),
              ((λ k l at. record { sooner = omega (arith, ints, at.x.above); tie = λ late. lit≤ tt }), tt),
            ),
          ),
        ),
      ),
    ),
  ),
)

-- four cells hold the ray at 2 / 1, and 7 is the least of them
ties : IsFirstHit along grid cells 7 2 1
unfolding IsBehind along grid cells node_cube coordinate_of
ties = record {
  met = record {
    filled = (0, omega arith, refl);
    at = record {
      some = omega arith;
      x = record { above = omega (arith, ints); below = omega (arith, ints) };
      y = record { above = omega (arith, ints); below = omega (arith, ints) };
      z = record { above = omega (arith, ints); below = omega (arith, ints) };
    };
  };
  first = λ other k l hit. All-contains IsBehind (codes_of cells) other behind hit.filled k l hit.at;
}

-- it runs inside the plane y = 2
in_a_plane : IsOffPlanes along grid → ⊥
unfolding along grid
in_a_plane off = off 1 2 (lit< tt) (lit≤ tt) refl refl
