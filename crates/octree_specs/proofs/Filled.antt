-- The filled codes as the numbers below a bound that have a property.
use Rattle.std.proofs.Common.{◌≡◌, ℕ, ◌^◌, List}
use Rattle.svo_base.specs.GridShape.{GridShape}
use Rattle.svo_base.specs.declared.shapes.Triangle.{Triangle}
use Rattle.octree_specs.specs.Filling.{IsFilled, AreFilledCodes}
use Rattle.octree_specs.proofs.CodeSets.{AreAllBelow, one_set}

pub filled_from : (grid : GridShape) (triangles : List Triangle) (cells : List ℕ) → AreAllBelow (IsFilled grid triangles) (8 ^ grid.depth) cells → AreFilledCodes grid triangles cells
filled_from grid triangles cells are =
    record { set = record { ascending = are.ascending; inside = are.inside }; filled = are.right; complete = are.complete }

below_from : (grid : GridShape) (triangles : List Triangle) (cells : List ℕ) → AreFilledCodes grid triangles cells → AreAllBelow (IsFilled grid triangles) (8 ^ grid.depth) cells
below_from grid triangles cells are =
    record { ascending = are.set.ascending; inside = are.set.inside; right = are.filled; complete = are.complete }

-- a grid and triangles have one list of filled codes
pub one_filled_list : (grid : GridShape) (triangles : List Triangle) (first second : List ℕ) → AreFilledCodes grid triangles first → AreFilledCodes grid triangles second → first ≡ second
one_filled_list grid triangles first second one other =
    one_set (IsFilled grid triangles) (8 ^ grid.depth) first second (below_from grid triangles first one) (below_from grid triangles second other)
