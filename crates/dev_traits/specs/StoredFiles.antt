-- The files of a store in memory, as contracts see them.
use Rattle.std.specs.Prelude.{◌≡◌, ◌<◌, ℕ, List, [], length, map, get_or, Option, Some}
use Rattle.std.specs.Option.{option_map}
use Rattle.std.specs.String.{string_bytes}
use Rattle.dev_traits.specs.Files.{NamedFile, file_named}
use Rattle.dev_traits.specs.declared.stored_files.StoredFile.{StoredFile}

abbrev pub named : StoredFile → NamedFile
named file = record { name = string_bytes file.name; bytes = file.bytes.items }

-- the file at a place
abbrev pub file_at : List StoredFile → ℕ → NamedFile
file_at files place = get_or (map named files) place (record { name = []; bytes = [] })

-- the name of the file at a place
abbrev pub name_at : List StoredFile → Option ℕ → Option (List ℕ)
name_at files place = option_map (λ at. (file_at files at).name) place

-- a file stands at the place, and it is the first of its name
pub record IsPlaced (files : List StoredFile) (place : ℕ) : Type 0 where
  pub within : place < length files
  pub first : file_named (map named files) (file_at files place).name ≡ Some (file_at files place).bytes
