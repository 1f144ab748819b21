-- What contracts see of a store in memory, and what its calls do to it.
use Rattle.std.specs.Prelude.{◌≡◌, ℕ, List, Contains, Option, Result, IsErr, OnOk, OnErr, ◌↔◌}
use Rattle.dev_traits.specs.Faults.{counted}
use Rattle.dev_traits.specs.Files.{NamedFile}

-- the files, the name of the current one, the numbers of the calls to refuse, and the calls and faults so far
pub record StoreView : Type 0 where
  pub files : List NamedFile
  pub current : Option (List ℕ)
  pub fails : List ℕ
  pub calls : ℕ
  pub faults : ℕ

-- a call is counted; it is refused, and a fault counted, just where its number is listed; no file changes
pub record AsksAsSet {T E : Type 0} (old new : StoreView) (result : Result T E) : Type 0 where
  pub calls : new.calls ≡ counted old.calls
  pub refused : IsErr result ↔ Contains old.fails new.calls
  pub fault : OnErr result (new.faults ≡ counted old.faults)
  pub no_fault : OnOk result (new.faults ≡ old.faults)
  pub files : new.files ≡ old.files
  pub fails : new.fails ≡ old.fails
