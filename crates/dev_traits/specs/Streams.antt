-- Streams of bytes on a scratch, numbered from 0. Streams that a scratch does not tell stay untold.
use Rattle.std.specs.Prelude.{◌≡◌, ℕ, zero, suc, ◌+◌, ◌≤◌, List, [], ◌∷◌, ◌++◌, length, take, drop, get_or, replicate, Option, Result, IfSome, IfOk, OnOk, MatchResult}
use Rattle.std.specs.Option.{option_map}

-- what a scratch was asked to start: how many streams, and the first 201 bytes of the place
pub record Asked : Type 0 where
  pub streams : ℕ
  pub place : List ℕ

abbrev pub asked_of : List ℕ → ℕ → Asked
asked_of place streams = record { streams = streams; place = take 201 place }

-- the bytes of a stream
abbrev pub stream_of : List (List ℕ) → ℕ → List ℕ
stream_of streams stream = get_or streams stream []

-- the streams after one of them grew by some bytes
unfoldable pub grown : List (List ℕ) → ℕ → List ℕ → List (List ℕ)
grown [] stream bytes = []
grown (first ∷ rest) zero bytes = (first ++ bytes) ∷ rest
grown (first ∷ rest) (suc stream) bytes = first ∷ grown rest stream bytes

abbrev pub grown_known : Option (List (List ℕ)) → ℕ → List ℕ → Option (List (List ℕ))
grown_known known stream bytes = option_map (λ streams. grown streams stream bytes) known

-- so many streams were started, all empty
abbrev pub StartsEmpty : {T E : Type 0} → Option (List (List ℕ)) → Option (List (List ℕ)) → ℕ → Result T E → Type 0
StartsEmpty before after streams result = OnOk result (after ≡ option_map (λ _. replicate streams []) before)

-- an append adds the piece to its stream, and some front of it where it is refused; other streams stay
abbrev pub AppendsPiece : {T E : Type 0} → Option (List (List ℕ)) → Option (List (List ℕ)) → ℕ → List ℕ → Result T E → Type 0
AppendsPiece before after stream piece result =
    MatchResult result (λ _. after ≡ grown_known before stream piece) (λ _. (n : ℕ) × (after ≡ grown_known before stream (take n piece)))

-- the stream has so many bytes from a place on
abbrev pub HasPiece : Option (List (List ℕ)) → ℕ → ℕ → ℕ → Type 0
HasPiece told stream at count = IfSome told (λ streams. at + count ≤ length (stream_of streams stream))

-- a read gives the stream's bytes from a place on
abbrev pub ReadsPiece : {T E : Type 0} → Option (List (List ℕ)) → ℕ → ℕ → List ℕ → Result T E → Type 0
ReadsPiece told stream at into result =
    OnOk result (IfSome told (λ streams. into ≡ take (length into) (drop at (stream_of streams stream))))

-- an answered length is the stream's
abbrev pub IsStreamLength : {E : Type 0} → Option (List (List ℕ)) → ℕ → Result ℕ E → Type 0
IsStreamLength told stream result = IfOk result (λ n. IfSome told (λ streams. n ≡ length (stream_of streams stream)))
