-- Bytes that wait in a block before they are put.
use Rattle.std.specs.Prelude.{◌≡◌, ℕ, List, take, Option}
use Rattle.std.specs.Io.KnownBytes.{append_known}

-- the bytes of a sink, where it tells them, and those that wait in the first places of a block
abbrev pub given_by : Option (List ℕ) → List ℕ → ℕ → Option (List ℕ)
given_by written block used = append_known written (take used block)

-- some front of these bytes was written behind those that were there
abbrev pub GrewByFront : Option (List ℕ) → Option (List ℕ) → List ℕ → Type 0
GrewByFront before after bytes = (n : ℕ) × (after ≡ append_known before (take n bytes))
