-- What a read of a word gives.
use Rattle.std.specs.Prelude.{◌≡◌, ℕ, List, Option, Result, slice_index, IfSome, IfOk}

-- the word of this number, where the words are told
abbrev pub GivesWord : {E : Type 0} → Option (List ℕ) → ℕ → Result ℕ E → Type 0
GivesWord told number result = IfOk result (λ word. IfSome told (λ words. word ≡ slice_index words number))
