-- What becomes of the children of a node.
use Rattle.std.specs.Prelude.{◌≡◌, ℕ, ◌+◌, ◌-◌, ◌*◌, ◌^◌, ◌<◌, ◌≤◌, nat_lt, ◌||◌, ◌⊎◌, ⊤, true, false, Bool, List, ℤ, Option, None, Some}
use Rattle.svo_base.specs.GridShape.{GridShape}
use Rattle.octree_specs.specs.Walking.{child_number}
use Rattle.node_check.specs.Walks.{has_child}
use Rattle.ray_walk.specs.Faults.{IsMisplaced}
use Rattle.near_query.specs.Distances.{distance_to}
use Rattle.node_check.specs.declared.walking.WalkFault.{WalkFault}
use Rattle.node_check.specs.declared.walking.WalkFault.TheVariants.{Refused}
use Rattle.near_query.specs.declared.cells.NearCell.{NearCell}
use Rattle.near_query.specs.declared.cells.NearFault.{NearFault}
use Rattle.near_query.specs.declared.cells.NearFault.TheVariants.{Walk, Memory}
use Rattle.near_query.specs.declared.queues.Waiting.{Waiting}
use Rattle.near_query.specs.declared.steps.Step.{Step}
use Rattle.near_query.specs.declared.steps.Step.TheVariants.{Skip, Take, Enter}

-- the best cell that is known is nearer than what is at a distance
abbrev pub is_nearer_than : Option NearCell → ℕ → Bool
is_nearer_than None distance = false
is_nearer_than (Some best) distance = nat_lt best.distance distance

-- a cell that is not farther comes before it
abbrev pub improves_on : NearCell → Option NearCell → Bool
improves_on cell None = true
improves_on cell (Some best) = nat_lt cell.distance best.distance || nat_lt cell.code best.code

-- the node is one of the grid's, above the cells, and at this distance
pub record IsNode (point : List ℤ) (grid : GridShape) (node : Waiting) : Type 0 where
  pub above : 1 ≤ node.height
  pub within : node.height ≤ grid.depth
  pub inside : node.code < 8 ^ (grid.depth - node.height)
  pub at : node.distance ≡ distance_to point grid node.height node.code

-- a cell at its distance
abbrev pub cell_at : List ℤ → GridShape → ℕ → NearCell
cell_at point grid code = record { distance = distance_to point grid 0 code; code = code }

-- the word is refused, since it places a child, which is above the cells, not before the node's own number
pub record IsRefusal (node : Waiting) (word : ℕ) (fault : WalkFault) : Type 0 where
  pub is : fault ≡ Refused node.number word
  pub above : 2 ≤ node.height
  pub misplaced : IsMisplaced node.number word

-- why the children are not all seen to: that, or there is no memory
abbrev pub IsStop : Waiting → ℕ → NearFault → Type 0
IsStop node word (Walk fault) = IsRefusal node word fault
IsStop node word Memory = ⊤

-- what the step for the child at a place says: it is empty, or the best cell is nearer, or it is a cell that does not come before the best; it is a cell that is the new best; it is a node that is to wait
abbrev pub IsStep : List ℤ → GridShape → Waiting → ℕ → ℕ → Option NearCell → Step → Type 0
IsStep point grid node word place known Skip =
    (has_child word place ≡ false)
    ⊎ (is_nearer_than known (distance_to point grid (node.height - 1) (8 * node.code + place)) ≡ true)
    ⊎ ((node.height ≡ 1) × (improves_on (cell_at point grid (8 * node.code + place)) known ≡ false))
IsStep point grid node word place known (Take cell) =
    (has_child word place ≡ true) × (node.height ≡ 1) × (cell ≡ cell_at point grid (8 * node.code + place))
    × (is_nearer_than known cell.distance ≡ false) × (improves_on cell known ≡ true)
IsStep point grid node word place known (Enter child) =
    (has_child word place ≡ true) × IsNode point grid child × (child.height + 1 ≡ node.height) × (child.code ≡ 8 * node.code + place)
    × (child.number ≡ child_number word place) × (child.number < node.number)
