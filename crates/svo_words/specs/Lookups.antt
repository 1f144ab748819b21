-- Values by the names of their options.
use Rattle.std.specs.Prelude.{ℕ, List, Option}

-- the value of each option that stands, by its name
abbrev pub Lookup : Type 0
Lookup = List ℕ → Option (List ℕ)
