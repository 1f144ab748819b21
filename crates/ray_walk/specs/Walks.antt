-- What a walk under a node finds, and what it reads.
use Rattle.std.specs.Prelude.{◌≡◌, ℕ, ◌+◌, ◌*◌, ◌/◌, ◌^◌, ◌<◌, ◌≤◌, ◌⊎◌, ⊤, true, Bool, List, Option, None, Some, IfSome}
use Rattle.std.specs.List.{Contains}
use Rattle.svo_base.specs.GridShape.{GridShape}
use Rattle.octree_specs.specs.Cells.{Cell, codes_of}
use Rattle.ray_fraction.specs.Crossings.{IsOffPlanes, count_of}
use Rattle.ray_fraction.specs.Fractions.{IsUpTo}
use Rattle.ray_fraction.specs.Hits.{IsFirstMet}
use Rattle.ray_fraction.specs.RayShape.{RayShape}
use Rattle.ray_walk.specs.Octants.{turn_of, visited}
use Rattle.ray_walk.specs.Stays.{InBox}
use Rattle.ray_walk.specs.declared.hits.Candidate.{Candidate}

-- ---- hits

-- at n / m the ray is in the cube of this filled cell, which lies under the node
pub record MetUnder (ray : RayShape) (grid : GridShape) (cells : List Cell) (height node code n m : ℕ) : Type 0 where
  pub filled : Contains (codes_of cells) code
  pub under : code / 8 ^ height ≡ node
  pub at : InBox ray grid 0 code n m

-- it lies under a child that is visited before the k-th; `height` is that of the children
pub record MetBefore (ray : RayShape) (grid : GridShape) (cells : List Cell) (height node k code n m : ℕ) : Type 0 where
  pub place : ℕ
  pub before : place < k
  pub met : MetUnder ray grid cells height (8 * node + visited (turn_of ray) place) code n m

-- the first of what is met, if anything is; times are in ticks, of which `scale` are a unit of time
abbrev pub IsBest : (ℕ → ℕ → ℕ → Type 0) → ℕ → Option Candidate → Type 0
IsBest Met scale None = (code n m : ℕ) → Met code n m → ⊥
IsBest Met scale (Some best) = IsFirstMet Met best.code best.ticks scale

-- it is the one that was known
abbrev pub IsKnown : ℕ → Option Candidate → ℕ → ℕ → ℕ → Type 0
IsKnown scale None code n m = ⊥
IsKnown scale (Some best) code n m = (code ≡ best.code) × (n ≡ best.ticks) × (m ≡ scale)

-- what is met, and the one that was known before
abbrev pub WithKnown : ℕ → Option Candidate → (ℕ → ℕ → ℕ → Type 0) → ℕ → ℕ → ℕ → Type 0
WithKnown scale known Met code n m = IsKnown scale known code n m ⊎ Met code n m

-- ---- reads

-- a hit until whose time nodes are counted
pub record Limit : Type 0 where
  pub code : ℕ
  pub n : ℕ
  pub m : ℕ

-- n / m is not after the limit, if there is one
abbrev pub IsInTime : Option Limit → ℕ → ℕ → Type 0
IsInTime None n m = ⊤
IsInTime (Some limit) n m = IsUpTo n m limit.n limit.m

-- each node that the ray enters in time passes the test
abbrev pub PassInTime : RayShape → GridShape → (ℕ → ℕ → Bool) → Option Limit → Type 0
PassInTime ray grid test limit = (height node n m : ℕ) → InBox ray grid height node n m → IsInTime limit n m → test height node ≡ true

-- the limit's hit lies under the node, or the ray is not in the node after it
abbrev pub IsAhead : RayShape → GridShape → List Cell → ℕ → ℕ → Limit → Type 0
IsAhead ray grid cells height node limit = MetUnder ray grid cells height node limit.code limit.n limit.m ⊎ ((n m : ℕ) → InBox ray grid height node n m → IsUpTo n m limit.n limit.m)

-- what a walk under a node may rest on: nodes in time pass the test, and nothing later than the limit was found or lies ahead
pub record IsReady (ray : RayShape) (grid : GridShape) (cells : List Cell) (scale : ℕ) (test : ℕ → ℕ → Bool) (limit : Option Limit) (known : Option Candidate) (height node : ℕ) : Type 0 where
  pub pass : PassInTime ray grid test limit
  pub off : IfSome limit (λ hit. IsOffPlanes ray grid)
  pub known_in : IfSome known (λ best. IsInTime limit best.ticks scale)
  pub ahead : known ≡ None → IfSome limit (λ hit. IsAhead ray grid cells height node hit)

-- the reads of a walk under a node are at most as many as nodes there pass the test
abbrev pub AreWithin : RayShape → GridShape → List Cell → ℕ → Option Candidate → ℕ → ℕ → ℕ → ℕ → Type 0
AreWithin ray grid cells scale known height node before after =
    (test : ℕ → ℕ → Bool) (limit : Option Limit) → IsReady ray grid cells scale test limit known height node → after ≤ before + count_of test cells height node

-- the ray enters the node not later than the best hit that is known
pub record IsEntered (ray : RayShape) (grid : GridShape) (scale : ℕ) (known : Option Candidate) (height node : ℕ) : Type 0 where
  pub ticks : ℕ
  pub at : InBox ray grid height node ticks scale
  pub in_time : IfSome known (λ best. ticks ≤ best.ticks)
