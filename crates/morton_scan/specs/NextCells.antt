-- The next filled cell, as slots say it.
use Rattle.std.specs.Prelude.{◌≡◌, ℕ, ◌+◌, ◌<◌, ◌≤◌, List, slice_index}

-- from a code on every cell is empty, of so many from the first code on
abbrev pub HasNoCellFrom : List ℕ → ℕ → ℕ → ℕ → Type 0
HasNoCellFrom slots first codes from = (place : ℕ) → place < codes → from ≤ first + place → slice_index slots place ≡ 0

-- the cell is the filled one with the least code from a code on, of so many from the first code on, and has this face
pub record IsNextCell (slots : List ℕ) (first codes from code face : ℕ) : Type 0 where
  pub later : from ≤ code
  pub place : ℕ
  pub within : place < codes
  pub is_code : code ≡ first + place
  pub is_face : slice_index slots place ≡ face + 1
  pub least : (other : ℕ) → other < codes → from ≤ first + other → other < place → slice_index slots other ≡ 0
