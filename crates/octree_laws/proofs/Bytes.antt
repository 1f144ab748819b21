-- Numbers as bytes, one after another.
use Rattle.std.proofs.Common.{◌≡◌, ℕ, zero, suc, ◌+◌, ◌*◌, ◌%◌, ◌^◌, ◌<◌, ◌≤◌, List, [], ◌∷◌, ◌++◌, length, get_or, take, drop, refl, sym, ap, ◌∙◌, arith, ℤ, pos, negsuc}
use Rattle.std.specs.Prelude.{All, FitsSigned, unsigned_abs}
use Rattle.std.specs.List.{flat_map}
use Rattle.std.specs.Int.{w32, w64, cast_signed, cast_unsigned, to_le_bytes, from_le_bytes}
use Rattle.std.proofs.lemmas.Int.{to_z-of_z, fits_signed_from_abs}
use Rattle.std.proofs.lemmas.List.{append_assoc, length-append, take_at, drop_at, get_or-append-add}
use Rattle.std.proofs.lemmas.List.Concat.{flat_map-cons}
use Rattle.std.proofs.lemmas.List.Elements.{All-head, All-tail}
use Rattle.std.proofs.lemmas.Nat.{from_le_bytes-to_le_bytes_4, from_le_bytes-to_le_bytes_8}

-- lists of equal parts
pub same_parts : {A : Type 0} (a b c d : List A) → length a ≡ length c → a ++ b ≡ c ++ d → (a ≡ c) × (b ≡ d)
same_parts a b c d long same = (
  sym (take_at a b (length c) long) ∙ (ap (take (length c)) same ∙ take_at c d (length c) refl),
  sym (drop_at a b (length c) long) ∙ (ap (drop (length c)) same ∙ drop_at c d (length c) refl),
)

pub same_ends : {A : Type 0} (a b c d : List A) → length b ≡ length d → a ++ b ≡ c ++ d → (a ≡ c) × (b ≡ d)
same_ends a b c d long same =
    same_parts a b c d (omega (arith, length-append a b, length-append c d, ap length same, long)) same

-- numbers of four and of eight bytes
pub same_four : (m n : ℕ) → m < 2 ^ 32 → n < 2 ^ 32 → to_le_bytes w32 m ≡ to_le_bytes w32 n → m ≡ n
same_four m n small_m small_n same = sym (from_le_bytes-to_le_bytes_4 m small_m) ∙ (ap (from_le_bytes w32) same ∙ from_le_bytes-to_le_bytes_4 n small_n)

pub same_eight : (m n : ℕ) → m < 2 ^ 64 → n < 2 ^ 64 → to_le_bytes w64 m ≡ to_le_bytes w64 n → m ≡ n
same_eight m n small_m small_n same = sym (from_le_bytes-to_le_bytes_8 m small_m) ∙ (ap (from_le_bytes w64) same ∙ from_le_bytes-to_le_bytes_8 n small_n)

pub length-eight : (n : ℕ) → length (to_le_bytes w64 n) ≡ 8
length-eight n = refl

-- a number with a sign that is near 0
near_fits : (z : ℤ) → unsigned_abs z ≤ 2 ^ 30 → FitsSigned w64 z
near_fits z near = fits_signed_from_abs w64 z (omega arith)

cast_small : (z : ℤ) → unsigned_abs z ≤ 2 ^ 30 → cast_unsigned w64 z < 2 ^ 64
cast_small (pos n) near = omega arith
cast_small (negsuc k) near = omega arith

pub same_signed : (y z : ℤ) → unsigned_abs y ≤ 2 ^ 30 → unsigned_abs z ≤ 2 ^ 30 → to_le_bytes w64 (cast_unsigned w64 y) ≡ to_le_bytes w64 (cast_unsigned w64 z) → y ≡ z
same_signed y z near_y near_z same =
    sym (to_z-of_z w64 y (near_fits y near_y))
    ∙ (ap (cast_signed w64) (same_eight (cast_unsigned w64 y) (cast_unsigned w64 z) (cast_small y near_y) (cast_small z near_z) same) ∙ to_z-of_z w64 z (near_fits z near_z))

-- words of eight bytes each
abbrev pub bytes_of : List ℕ → List ℕ
bytes_of words = flat_map (to_le_bytes w64) words

pub bytes_of-cons : (word : ℕ) (words : List ℕ) → bytes_of (word ∷ words) ≡ to_le_bytes w64 word ++ bytes_of words
bytes_of-cons word words = flat_map-cons (to_le_bytes w64) word words

pub length-bytes_of : (words : List ℕ) → length (bytes_of words) ≡ 8 * length words
length-bytes_of [] = refl
length-bytes_of (word ∷ words) =
    let rest : length (bytes_of words) ≡ 8 * length words = length-bytes_of words in
    ap length (bytes_of-cons word words) ∙ (length-append (to_le_bytes w64 word) (bytes_of words) ∙ omega (arith, rest, length-eight word))

pub same_words : (xs ys : List ℕ) → All (λ w. w < 2 ^ 64) xs → All (λ w. w < 2 ^ 64) ys → bytes_of xs ≡ bytes_of ys → xs ≡ ys
same_words [] [] wide_x wide_y same = refl
same_words [] (y ∷ ys) wide_x wide_y same = absurd (omega (arith, ap length same, length-bytes_of [], length-bytes_of (y ∷ ys)))
same_words (x ∷ xs) [] wide_x wide_y same = absurd (omega (arith, ap length same, length-bytes_of [], length-bytes_of (x ∷ xs)))
same_words (x ∷ xs) (y ∷ ys) wide_x wide_y same =
    let parts : (to_le_bytes w64 x ≡ to_le_bytes w64 y) × (bytes_of xs ≡ bytes_of ys) =
    same_parts (to_le_bytes w64 x) (bytes_of xs) (to_le_bytes w64 y) (bytes_of ys) refl (sym (bytes_of-cons x xs) ∙ (same ∙ bytes_of-cons y ys)) in
    let first : x ≡ y = same_eight x y (All-head (λ w. w < 2 ^ 64) x xs wide_x) (All-head (λ w. w < 2 ^ 64) y ys wide_y) parts.0 in
    let rest : xs ≡ ys = same_words xs ys (All-tail (λ w. w < 2 ^ 64) x xs wide_x) (All-tail (λ w. w < 2 ^ 64) y ys wide_y) parts.1 in
    rw (first, rest) refl

-- the first byte of a word
pub first_byte : (words : List ℕ) (k : ℕ) (rest : List ℕ) → k < length words → get_or (bytes_of words ++ rest) (8 * k) 0 ≡ get_or words k 0 % 256
first_byte [] k rest within = absurd (omega (arith, within))
first_byte (word ∷ words) zero rest within = refl
first_byte (word ∷ words) (suc k) rest within =
    let next : 8 * suc k ≡ length (to_le_bytes w64 word) + 8 * k = omega (arith, length-eight word) in
    let whole : bytes_of (word ∷ words) ++ rest ≡ to_le_bytes w64 word ++ (bytes_of words ++ rest) =
    ap (λ bytes. bytes ++ rest) (bytes_of-cons word words) ∙ append_assoc (to_le_bytes w64 word) (bytes_of words) rest in
    ap (λ bytes. get_or bytes (8 * suc k) 0) whole
    ∙ (ap (λ n. get_or (to_le_bytes w64 word ++ (bytes_of words ++ rest)) n 0) next
    ∙ (get_or-append-add (to_le_bytes w64 word) (bytes_of words ++ rest) (8 * k) 0 ∙ first_byte words k rest (omega (arith, within))))
