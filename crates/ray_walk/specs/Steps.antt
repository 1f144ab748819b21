-- What becomes of one child of a node.
use Rattle.std.specs.Prelude.{◌≡◌, ℕ, ◌+◌, ◌-◌, ◌*◌, ◌/◌, ◌%◌, ◌^◌, ◌<◌, ◌≤◌, ◌==◌, nat_lt, ◌||◌, ◌⊎◌, true, false, Bool, List, Option, None, Some, IfSome, Result, IfOk}
use Rattle.std.specs.Result.{IfErr}
use Rattle.octree_specs.specs.Cells.{Cell}
use Rattle.octree_specs.specs.Walking.{child_number, HasMasks}
use Rattle.ray_fraction.specs.Hits.{Precedes}
use Rattle.ray_walk.specs.Faults.{IsMisplaced}
use Rattle.ray_walk.specs.Octants.{visited}
use Rattle.ray_walk.specs.Stays.{InBox, IsStay}
use Rattle.ray_walk.specs.Walks.{MetUnder, IsBest, WithKnown, AreWithin, IsEntered}
use Rattle.node_check.specs.declared.walking.WalkFault.{WalkFault}
use Rattle.node_check.specs.declared.walking.WalkFault.TheVariants.{Failed, Refused}
use Rattle.ray_walk.specs.declared.flights.Flight.{Flight}
use Rattle.ray_walk.specs.declared.hits.Candidate.{Candidate}
use Rattle.ray_walk.specs.declared.spots.Spot.{Spot}
use Rattle.ray_walk.specs.declared.spots.Step.{Step}
use Rattle.ray_walk.specs.declared.spots.Step.TheVariants.{Skip, Take, Enter}

-- the word has a bit for the child at this place
abbrev pub has_child : ℕ → ℕ → Bool
has_child word place = word / 2 ^ place % 2 == 1

-- the best hit that is known is sooner than so many ticks
abbrev pub is_sooner_than : Option Candidate → ℕ → Bool
is_sooner_than None ticks = false
is_sooner_than (Some best) ticks = nat_lt best.ticks ticks

-- a cell that is not hit later comes before it
abbrev pub improves_on : Candidate → Option Candidate → Bool
improves_on cell None = true
improves_on cell (Some best) = nat_lt cell.ticks best.ticks || nat_lt cell.code best.code

-- the node of the spot is one of the grid's, above the cells, and the planes are its own
pub record IsSpot (flight : Flight) (spot : Spot) : Type 0 where
  pub above : 1 ≤ spot.height
  pub within : spot.height ≤ flight.grid.depth
  pub node : spot.code < 8 ^ (flight.grid.depth - spot.height)
  pub stay : IsStay flight spot.height spot.code spot.stay

-- the best hit that is known, if there is one, is not behind a hit of a code at n / m
abbrev pub IsBeaten : ℕ → Option Candidate → ℕ → ℕ → ℕ → Type 0
IsBeaten scale None n m code = ⊥
IsBeaten scale (Some best) n m code = Precedes best.ticks scale best.code n m code

-- nor behind any hit under a node, whose height counts from the cells
abbrev pub IsPassed : Flight → Option Candidate → ℕ → ℕ → Type 0
IsPassed flight known height node = (code n m : ℕ) → code / 8 ^ height ≡ node → InBox flight.ray flight.grid height node n m → IsBeaten flight.scale known n m code

-- the cell is hit first at these ticks, before what is known
pub record IsTaken (flight : Flight) (known : Option Candidate) (node : ℕ) (cell : Candidate) : Type 0 where
  pub code : cell.code ≡ node
  pub at : InBox flight.ray flight.grid 0 node cell.ticks flight.scale
  pub first : (n m : ℕ) → InBox flight.ray flight.grid 0 node n m → cell.ticks * m ≤ n * flight.scale
  pub before : IfSome known (λ best. Precedes cell.ticks flight.scale cell.code best.ticks flight.scale best.code)

-- the word is refused, since it places a child, which is above the cells, not before the spot's own number
pub record IsRefusal (spot : Spot) (word : ℕ) (fault : WalkFault) : Type 0 where
  pub is : fault ≡ Refused spot.number word
  pub above : 2 ≤ spot.height
  pub misplaced : IsMisplaced spot.number word

-- what the step for the k-th child says: it is empty or passed, a cell that is the new best hit, or a node to be entered; `word` is the node's own
abbrev pub IsStep : Flight → Spot → ℕ → ℕ → Option Candidate → Step → Type 0
IsStep flight spot word k known Skip =
    (has_child word (visited flight.turn k) ≡ false) ⊎ IsPassed flight known (spot.height - 1) (8 * spot.code + visited flight.turn k)
IsStep flight spot word k known (Take cell) =
    (has_child word (visited flight.turn k) ≡ true) × (spot.height ≡ 1) × IsTaken flight known (8 * spot.code + visited flight.turn k) cell
IsStep flight spot word k known (Enter child) =
    (has_child word (visited flight.turn k) ≡ true) × IsSpot flight child × (child.height + 1 ≡ spot.height) × (child.code ≡ 8 * spot.code + visited flight.turn k)
    × (child.number ≡ child_number word (visited flight.turn k)) × (child.number < spot.number)
    × IsEntered flight.ray flight.grid flight.scale known child.height child.code

-- the words are told, lead from the spot to these cells, and the ray enters the spot's node in time
pub record IsOnTree (told : Option (List ℕ)) (flight : Flight) (spot : Spot) (known : Option Candidate) (words : List ℕ) (cells : List Cell) : Type 0 where
  pub words_are : told ≡ Some words
  pub tree : HasMasks words cells spot.height spot.code spot.number
  pub entered : IsEntered flight.ray flight.grid flight.scale known spot.height spot.code

-- what a walk under the spot's node then answers: the best of the hit that was known and of those under the node, with few reads; it is stopped only by a word that is not read
pub record IsWalked (flight : Flight) (spot : Spot) (known : Option Candidate) (cells : List Cell) (before after : ℕ) (result : Result (Option Candidate) WalkFault) : Type 0 where
  pub best : IfOk result (IsBest (WithKnown flight.scale known (MetUnder flight.ray flight.grid cells spot.height spot.code)) flight.scale)
  pub reads : AreWithin flight.ray flight.grid cells flight.scale known spot.height spot.code before after
  pub sound : IfErr result (λ fault. fault ≡ Failed)
