-- Files with names. Files that a store does not tell stay untold.
use Rattle.std.specs.Prelude.{◌≡◌, ℕ, ◌+◌, ◌≤◌, List, [], ◌∷◌, length, take, drop, Option, None, Some, Result, cond, is_some, Bool, IfSome, IfOk, OnOk, IsSome, MatchResult}
use Rattle.std.specs.Str.{bytes_eq}

pub record NamedFile : Type 0 where
  pub name : List ℕ
  pub bytes : List ℕ

-- the bytes of the file of a name; of two files of one name the first counts
unfoldable pub file_named : List NamedFile → List ℕ → Option (List ℕ)
file_named [] name = None
file_named (file ∷ rest) name = cond (bytes_eq file.name name) (Some file.bytes) (file_named rest name)

-- the bytes of the current file, where one is current and the store tells
abbrev pub current_bytes : Option (List NamedFile) → Option (List ℕ) → Option (List ℕ)
current_bytes (Some files) (Some name) = file_named files name
current_bytes _ _ = None

-- an answer whether a file has the name
abbrev pub IsHeld : {E : Type 0} → Option (List NamedFile) → List ℕ → Result Bool E → Type 0
IsHeld told name result = IfOk result (λ held. IfSome told (λ files. held ≡ is_some (file_named files name)))

-- a file has the name
abbrev pub HasFile : Option (List NamedFile) → List ℕ → Type 0
HasFile told name = IfSome told (λ files. IsSome (file_named files name))

-- the named file is the current one, or none is where the call was refused
abbrev pub Selects : {T E : Type 0} → Option (List ℕ) → List ℕ → Result T E → Type 0
Selects current name result = MatchResult result (λ _. current ≡ Some name) (λ _. current ≡ None)

-- a file has so many bytes from a place on
abbrev pub HasBytes : Option (List ℕ) → ℕ → ℕ → Type 0
HasBytes bytes at count = IfSome bytes (λ bytes. at + count ≤ length bytes)

-- a read gives the file's bytes from a place on
abbrev pub ReadsBytes : {T E : Type 0} → Option (List ℕ) → ℕ → List ℕ → Result T E → Type 0
ReadsBytes bytes at into result = OnOk result (IfSome bytes (λ bytes. into ≡ take (length into) (drop at bytes)))

-- an answered length is the file's
abbrev pub IsFileLength : {E : Type 0} → Option (List ℕ) → Result ℕ E → Type 0
IsFileLength bytes result = IfOk result (λ n. IfSome bytes (λ bytes. n ≡ length bytes))
