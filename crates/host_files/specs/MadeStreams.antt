-- Which streams have files of this run, by a table with an entry for each stream that is kept apart.
use Rattle.std.specs.Prelude.{ℕ, List, Bool, true, get_or}

-- a stream without an entry counts as made
abbrev pub is_made : List Bool → ℕ → Bool
is_made made stream = get_or made stream true
