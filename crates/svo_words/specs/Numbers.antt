-- Lists of numbers in the values of options.
use Rattle.std.specs.Prelude.{ℕ, ◌==◌, Bool, if◌then◌else◌, List, [], ◌∷◌, length, map, ℤ, Option, None, Some}
use Rattle.std.specs.List.{slice_split}
use Rattle.text_words.specs.Numbers.{number_of, ◌>>=◌}

-- the values, where each of them is there
abbrev pub all_some : {A : Type 0} → List (Option A) → Option (List A)
all_some [] = Some []
all_some (o ∷ os) = do
  x ← o
  xs ← all_some os
  Some (x ∷ xs)

abbrev pub is_comma : ℕ → Bool
is_comma byte = byte == 44

-- so many numbers with commas between them
unfoldable pub numbers_of : ℕ → List ℕ → Option (List ℤ)
numbers_of count text =
    let parts = slice_split is_comma text in if length parts == count then all_some (map number_of parts) else None
