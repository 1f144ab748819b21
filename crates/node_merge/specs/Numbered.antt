-- One number for a list of numbers, and one for a file: two lists, or two files, that have the same number are the same.
use Rattle.std.specs.Prelude.{ℕ, ◌+◌, ◌*◌, ◌^◌, List, [], ◌∷◌, map, Option, None, Some, ℤ, pos, negsuc}
use Rattle.node_file.specs.FileView.{FileView}

-- each number as that many zeros behind the next 1, in binary digits
unfoldable pub list_number : List ℕ → ℕ
list_number [] = 0
list_number (n ∷ rest) = 2 ^ n * (2 * list_number rest + 1)

abbrev pub told_number : Option (List ℕ) → ℕ
told_number None = 0
told_number (Some numbers) = list_number numbers + 1

abbrev pub signed_number : ℤ → ℕ
signed_number (pos n) = 2 * n
signed_number (negsuc n) = 2 * n + 1

unfoldable pub view_number : FileView → ℕ
view_number file =
    list_number (file.format ∷ file.grid.depth ∷ list_number (map signed_number file.grid.origin) ∷ file.grid.cell
    ∷ file.totals.records ∷ file.totals.cells ∷ told_number file.words ∷ [])
