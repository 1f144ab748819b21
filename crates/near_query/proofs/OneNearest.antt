-- There is one nearest cell at most.
use Rattle.std.proofs.Common.{◌≡◌, List, ℤ, None, Some, arith, refl, ap}
use Rattle.svo_base.specs.GridShape.{GridShape}
use Rattle.octree_specs.specs.Cells.{Cell}
use Rattle.near_query.specs.Laws.{HaveOneNearest}
use Rattle.near_query.specs.Nearest.{IsNearestCell}
use Rattle.near_query.specs.declared.cells.NearCell.{NearCell}

cell_is : (a b : NearCell) → a.distance ≡ b.distance → a.code ≡ b.code → a ≡ b
cell_is a b distance code = λ i. record { distance = distance i; code = code i }

one_cell : (point : List ℤ) (grid : GridShape) (cells : List Cell) (a b : NearCell) → IsNearestCell point grid cells a → IsNearestCell point grid cells b → a ≡ b
one_cell point grid cells a b first second =
    let there = first.first b.code second.found.filled in
    let back = second.first a.code first.found.filled in
    let distance : a.distance ≡ b.distance = omega (arith, there.nearer, back.nearer, first.found.at, second.found.at) in
    let code : a.code ≡ b.code = omega (arith, there.tie (omega (arith, distance, second.found.at)), back.tie (omega (arith, distance, first.found.at))) in
    cell_is a b distance code

pub one_nearest : HaveOneNearest
one_nearest point grid cells None None first second = refl
one_nearest point grid cells None (Some b) first second = absurd (first b.code second.found.filled)
one_nearest point grid cells (Some a) None first second = absurd (second a.code first.found.filled)
one_nearest point grid cells (Some a) (Some b) first second = ap Some (one_cell point grid cells a b first second)
