-- What a call does to the bytes of a device. Bytes that a device does not tell stay untold.
use Rattle.std.specs.Prelude.{◌≡◌, ℕ, ◌≤◌, List, take, Option, Result, IfOk, MatchResult}
use Rattle.std.specs.Io.KnownBytes.{append_known, prepend_known, IsAtEnd}

-- a read gives at most so many bytes
abbrev pub GivesAtMost : {E : Type 0} → ℕ → Result ℕ E → Type 0
GivesAtMost room result = IfOk result (λ n. n ≤ room)

-- a read takes the front of the bytes to come, none only at their end, and leaves them as they were where it is refused
abbrev pub TakesFront : {E : Type 0} → Option (List ℕ) → Option (List ℕ) → List ℕ → Result ℕ E → Type 0
TakesFront before after into result =
    MatchResult result (λ n. (before ≡ prepend_known (take n into) after) × (n ≡ 0 → IsAtEnd after)) (λ _. after ≡ before)

-- a put adds the piece at the end, and some front of it where it is refused
abbrev pub PutsPiece : {T E : Type 0} → Option (List ℕ) → Option (List ℕ) → List ℕ → Result T E → Type 0
PutsPiece before after piece result =
    MatchResult result (λ _. after ≡ append_known before piece) (λ _. (n : ℕ) × (after ≡ append_known before (take n piece)))
