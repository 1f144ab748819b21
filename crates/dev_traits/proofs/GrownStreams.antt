-- Streams that grow by one piece after another.
use Rattle.std.proofs.Common.{◌≡◌, ◌≢◌, ◌<◌, ℕ, zero, suc, List, [], ◌∷◌, ◌++◌, length, replicate, Some, None, refl, arith, ap, append_assoc, append-nil}
use Rattle.std.specs.Prelude.{Option}
use Rattle.dev_traits.specs.Streams.{stream_of, grown, grown_known}

pub grown_none : (streams : List (List ℕ)) (stream : ℕ) → grown streams stream [] ≡ streams
unfolding grown
grown_none [] stream = refl
grown_none (first ∷ rest) zero = ap (λ l. l ∷ rest) (append-nil first)
grown_none (first ∷ rest) (suc stream) = ap (λ l. first ∷ l) (grown_none rest stream)

pub grown_twice : (streams : List (List ℕ)) (stream : ℕ) (a b : List ℕ) → grown (grown streams stream a) stream b ≡ grown streams stream (a ++ b)
unfolding grown
grown_twice [] stream a b = refl
grown_twice (first ∷ rest) zero a b = ap (λ l. l ∷ rest) (append_assoc first a b)
grown_twice (first ∷ rest) (suc stream) a b = ap (λ l. first ∷ l) (grown_twice rest stream a b)

-- ---- one stream among them

pub length_grown : (streams : List (List ℕ)) (stream : ℕ) (bytes : List ℕ) → length (grown streams stream bytes) ≡ length streams
unfolding grown
length_grown [] stream bytes = refl
length_grown (first ∷ rest) zero bytes = refl
length_grown (first ∷ rest) (suc stream) bytes = ap suc (length_grown rest stream bytes)

pub grown_here : (streams : List (List ℕ)) (stream : ℕ) (bytes : List ℕ) → stream < length streams → stream_of (grown streams stream bytes) stream ≡ stream_of streams stream ++ bytes
unfolding grown
grown_here [] stream bytes within = absurd (omega (arith, within))
grown_here (first ∷ rest) zero bytes within = refl
grown_here (first ∷ rest) (suc stream) bytes within = grown_here rest stream bytes (omega (arith, within))

pub grown_elsewhere : (streams : List (List ℕ)) (stream other : ℕ) (bytes : List ℕ) → stream ≢ other → stream_of (grown streams stream bytes) other ≡ stream_of streams other
unfolding grown
grown_elsewhere [] stream other bytes differ = refl
grown_elsewhere (first ∷ rest) zero zero bytes differ = absurd (differ refl)
grown_elsewhere (first ∷ rest) zero (suc other) bytes differ = refl
grown_elsewhere (first ∷ rest) (suc stream) zero bytes differ = refl
grown_elsewhere (first ∷ rest) (suc stream) (suc other) bytes differ = grown_elsewhere rest stream other bytes (λ same. differ (ap suc same))

-- streams that were just started
pub started_empty : (count stream : ℕ) → stream_of (replicate count []) stream ≡ []
started_empty zero stream = refl
started_empty (suc count) zero = refl
started_empty (suc count) (suc stream) = started_empty count stream

-- ---- where they are told, or not

-- nothing was appended
pub known_none : (told : Option (List (List ℕ))) (stream : ℕ) → grown_known told stream [] ≡ told
known_none None stream = refl
known_none (Some streams) stream = ap Some (grown_none streams stream)

-- two pieces are one
pub known_twice : (told : Option (List (List ℕ))) (stream : ℕ) (a b : List ℕ) → grown_known (grown_known told stream a) stream b ≡ grown_known told stream (a ++ b)
known_twice None stream a b = refl
known_twice (Some streams) stream a b = ap Some (grown_twice streams stream a b)
