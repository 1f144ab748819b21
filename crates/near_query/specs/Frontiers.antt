-- What a walk over words that stand for cells has seen, and what is ahead of it.
use Rattle.std.specs.Prelude.{◌≡◌, ℕ, ◌+◌, ◌/◌, ◌^◌, ◌≤◌, ◌⊎◌, Bool, cond, slice_index, List, All, ℤ, Option, None, Some, IfSome, IfOk, OnOk, Result}
use Rattle.std.specs.List.{Contains}
use Rattle.std.specs.Result.{IfErr}
use Rattle.svo_base.specs.GridShape.{GridShape}
use Rattle.octree_specs.specs.Cells.{Cell, codes_of}
use Rattle.octree_specs.specs.Walking.{HasMasks}
use Rattle.ray_fraction.specs.Crossings.{count_of}
use Rattle.near_query.specs.Distances.{distance_to}
use Rattle.near_query.specs.Nearest.{IsFound, Leads}
use Rattle.near_query.specs.Queues.{ahead_of}
use Rattle.near_query.specs.declared.cells.NearCell.{NearCell}
use Rattle.near_query.specs.declared.cells.NearFault.{NearFault}
use Rattle.near_query.specs.declared.cells.NearFault.TheVariants.{Memory}
use Rattle.near_query.specs.declared.queues.Waiting.{Waiting}

-- the best cell, if there is one, comes before a cell or is it
abbrev pub IsBeaten : List ℤ → GridShape → Option NearCell → ℕ → Type 0
IsBeaten point grid None code = ⊥
IsBeaten point grid (Some best) code = Leads best.distance best.code (distance_to point grid 0 code) code

-- a cell lies under a node
abbrev pub IsUnder : Waiting → ℕ → Type 0
IsUnder node code = code / 8 ^ node.height ≡ node.code

-- under a node that waits
pub record IsUnderSome (waiting : List Waiting) (code : ℕ) : Type 0 where
  pub node : Waiting
  pub waits : Contains waiting node
  pub under : IsUnder node code

-- the words lead from each node that waits to its cells, the best cell is filled, and each filled cell comes behind it, or lies under a node that waits or in the part that is still ahead
pub record IsFrontier (words : List ℕ) (cells : List Cell) (point : List ℤ) (grid : GridShape) (best : Option NearCell) (waiting : List Waiting) (IsAhead : ℕ → Type 0) : Type 0 where
  pub trees : All (λ node. HasMasks words cells node.height node.code node.number) waiting
  pub found : IfSome best (IsFound point grid cells)
  pub covers : (code : ℕ) → Contains (codes_of cells) code → IsBeaten point grid best code ⊎ IsUnderSome waiting code ⊎ IsAhead code

-- the words lead from the node to its cells, and this is the node's own
pub record IsOnTree (words : List ℕ) (cells : List Cell) (node : Waiting) (word : ℕ) : Type 0 where
  pub tree : HasMasks words cells node.height node.code node.number
  pub own : word ≡ slice_index words node.number

-- once the children of a node are seen to, nothing of it is ahead but what waits; and of the nodes that pass a test, as many fewer are ahead as the node counts for
pub record IsVisited (words : List ℕ) (cells : List Cell) (point : List ℤ) (grid : GridShape) (node : Waiting) (known : Option NearCell) (before after : List Waiting) (result : Result (Option NearCell) NearFault) : Type 0 where
  pub frontier : IsFrontier words cells point grid known before (IsUnder node) → IfOk result (λ best. IsFrontier words cells point grid best after (λ code. ⊥))
  pub fewer : OnOk result ((test : ℕ → ℕ → Bool) → cond (test node.height node.code) 1 0 + ahead_of test cells after ≤ ahead_of test cells before + count_of test cells node.height node.code)
  pub sound : IfErr result (λ fault. fault ≡ Memory)
