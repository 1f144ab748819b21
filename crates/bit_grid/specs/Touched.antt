-- Slots in blocks, of which a table says which ones may have slots that are not 0.
use Rattle.std.specs.Prelude.{◌≡◌, ℕ, ◌*◌, ◌/◌, ◌^◌, ◌<◌, ◌≤◌, Bool, false, List, length, slice_index}
use Rattle.bit_grid.specs.Places.{is_set_at}
use Rattle.bit_grid.specs.declared.touched.TouchedBlocks.{TouchedBlocks}

-- the block of a place is among those that were touched. A block has two to the shift places
abbrev pub is_touched : TouchedBlocks → ℕ → Bool
is_touched blocks place = is_set_at blocks.table (place / 2 ^ blocks.shift)

-- each slot has a block, and slots of blocks that were not touched are 0
pub record AreTouched (slots : List ℕ) (blocks : TouchedBlocks) : Type 0 where
  pub short : length slots < 2 ^ 62
  pub long : length blocks.table ≡ 512
  pub shallow : blocks.shift < 48
  pub covered : length slots ≤ 32768 * 2 ^ blocks.shift
  pub empty : (place : ℕ) → is_touched blocks place ≡ false → slice_index slots place ≡ 0

-- of the places below a count, none from a place on is touched
abbrev pub HasNoTouchedFrom : TouchedBlocks → ℕ → ℕ → Type 0
HasNoTouchedFrom blocks from count = (place : ℕ) → from ≤ place → place < count → is_touched blocks place ≡ false

-- the places from a start to an end are the next ones, from a place on and below a count, that may be touched
pub record IsNextRun (blocks : TouchedBlocks) (from count start end : ℕ) : Type 0 where
  pub later : from ≤ start
  pub ordered : start ≤ end
  pub further : from < end
  pub within : end ≤ count
  pub before : (place : ℕ) → from ≤ place → place < start → is_touched blocks place ≡ false
