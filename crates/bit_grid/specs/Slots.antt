-- What lent slots say. A slot is 0 where nothing stands in it, else one more than the least number that was put there.
use Rattle.std.specs.Prelude.{◌≡◌, ℕ, zero, suc, ◌+◌, ◌<◌, ◌≤◌, List, length, slice_index, min, cond, ◌==◌}

-- what a slot keeps once this number is put into it
unfoldable pub lesser_slot : ℕ → ℕ → ℕ
lesser_slot zero face = face + 1
lesser_slot (suc held) face = min held face + 1

-- what a slot is once it is turned
abbrev pub turned_slot : ℕ → ℕ
turned_slot slot = cond (slot == 0) 1 0

-- from here on every slot is 0
abbrev pub HasNoSlotFrom : List ℕ → ℕ → Type 0
HasNoSlotFrom slots from = (place : ℕ) → from ≤ place → slice_index slots place ≡ 0

-- the place is the least one from here on whose slot is not 0
pub record IsNextSlot (slots : List ℕ) (from place : ℕ) : Type 0 where
  pub later : from ≤ place
  pub within : place < length slots
  pub filled : 0 < slice_index slots place
  pub least : (other : ℕ) → from ≤ other → other < place → slice_index slots other ≡ 0
