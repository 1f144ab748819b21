-- Buffers whose lengths stay.
use Rattle.std.specs.Prelude.{List, ◌++◌, length, take, drop}

-- items that were written over old ones, in as many places as there were
abbrev pub in_length_of : {A : Type 0} → List A → List A → List A
in_length_of old items = take (length old) (items ++ drop (length items) old)
