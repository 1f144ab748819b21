-- Which filled cell a ray hits first.
use Rattle.std.specs.Prelude.{ℕ, ◌≤◌, List}
use Rattle.std.specs.List.{Contains}
use Rattle.svo_base.specs.GridShape.{GridShape}
use Rattle.octree_specs.specs.Cells.{Cell, codes_of}
use Rattle.octree_specs.specs.NodeCube.{node_cube}
use Rattle.ray_fraction.specs.Fractions.{IsUpTo}
use Rattle.ray_fraction.specs.InCube.{InAt}
use Rattle.ray_fraction.specs.RayShape.{RayShape}

-- one of the cells has this code, and the ray is in its cube at the time n / m
pub record IsHit (ray : RayShape) (grid : GridShape) (cells : List Cell) (code n m : ℕ) : Type 0 where
  pub filled : Contains (codes_of cells) code
  pub at : InAt ray (node_cube grid grid.depth code) n m

-- the code a at the time n / m is not behind the code b at k / l: it is sooner, or at the same time and not greater
pub record Precedes (n m a k l b : ℕ) : Type 0 where
  pub sooner : IsUpTo n m k l
  pub tie : IsUpTo k l n m → a ≤ b

-- of all codes that are met at some times this one is met first, at n / m
pub record IsFirstMet (Met : ℕ → ℕ → ℕ → Type 0) (code n m : ℕ) : Type 0 where
  pub met : Met code n m
  pub first : (other k l : ℕ) → Met other k l → Precedes n m code k l other

-- the ray hits this cell first of all the filled ones, at n / m
abbrev pub IsFirstHit : RayShape → GridShape → List Cell → ℕ → ℕ → ℕ → Type 0
IsFirstHit ray grid cells code n m = IsFirstMet (IsHit ray grid cells) code n m

-- it hits none
abbrev pub HitsNone : RayShape → GridShape → List Cell → Type 0
HitsNone ray grid cells = (code n m : ℕ) → IsHit ray grid cells code n m → ⊥
