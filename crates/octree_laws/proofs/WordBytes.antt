-- The words of a framed file, read from its bytes by number.
use Rattle.std.proofs.Common.{◌≡◌, ℕ, zero, suc, ◌+◌, ◌*◌, ◌^◌, ◌<◌, List, [], ◌∷◌, ◌++◌, length, get_or, take, drop, refl, sym, ap, ◌∙◌, inl, inr, arith, lit<}
use Rattle.std.specs.Prelude.{All, slice_index}
use Rattle.std.specs.Int.{w64, to_le_bytes, from_le_bytes}
use Rattle.std.proofs.lemmas.Bool.{cases_lt}
use Rattle.std.proofs.lemmas.List.{append_assoc, length-take, length-drop, take_at, drop_at, drop-drop, take-append-drop, nil_from_length, get_or_past}
use Rattle.std.proofs.lemmas.List.Elements.{All-get_or, All-nil, All-cons, All-drop, All-take}
use Rattle.std.proofs.lemmas.Nat.{le_bytes_8, from_le_bytes-to_le_bytes_8}
use Rattle.svo_base.specs.GridShape.{GridShape}
use Rattle.octree_specs.specs.OctreeFile.{header_of, trailer_of, frame_of, IsFramed}
use Rattle.octree_laws.proofs.Bytes.{bytes_of, bytes_of-cons, length-eight}
use Rattle.octree_laws.proofs.Frames.{length-header}

-- the eight bytes of a word, among others
word_bytes : (words : List ℕ) (k : ℕ) (rest : List ℕ) → k < length words → take 8 (drop (8 * k) (bytes_of words ++ rest)) ≡ to_le_bytes w64 (get_or words k 0)
word_bytes [] k rest within = absurd (omega (arith, within))
word_bytes (word ∷ words) zero rest within =
    ap (λ bytes. take 8 (bytes ++ rest)) (bytes_of-cons word words)
    ∙ (ap (take 8) (append_assoc (to_le_bytes w64 word) (bytes_of words) rest) ∙ take_at (to_le_bytes w64 word) (bytes_of words ++ rest) 8 (length-eight word))
word_bytes (word ∷ words) (suc k) rest within =
    let next : 8 * suc k ≡ 8 + 8 * k = omega arith in
    let whole : bytes_of (word ∷ words) ++ rest ≡ to_le_bytes w64 word ++ (bytes_of words ++ rest) =
    ap (λ bytes. bytes ++ rest) (bytes_of-cons word words) ∙ append_assoc (to_le_bytes w64 word) (bytes_of words) rest in
    ap (λ n. take 8 (drop n (bytes_of (word ∷ words) ++ rest))) next
    ∙ (ap (take 8) (sym (drop-drop (8 * k) 8 (bytes_of (word ∷ words) ++ rest)) ∙ ap (drop (8 * k)) (ap (drop 8) whole ∙ drop_at (to_le_bytes w64 word) (bytes_of words ++ rest) 8 (length-eight word)))
    ∙ word_bytes words k rest (omega (arith, within)))

-- so the word of each number is what its eight bytes say
pub word_at : (format : ℕ) (grid : GridShape) (words : List ℕ) (cells : ℕ) (bytes : List ℕ) → IsFramed format grid words cells bytes → (k : ℕ) → k < length words
    → from_le_bytes w64 (take 8 (drop (48 + 8 * k) bytes)) ≡ slice_index words k
unfolding frame_of
word_at format grid words cells bytes framed k within =
    let header : List ℕ = header_of format grid in
    let trailer : List ℕ = trailer_of format (length words) cells in
    let whole : bytes ≡ header ++ (bytes_of words ++ trailer) = framed.frame ∙ append_assoc header (bytes_of words) trailer in
    let past : drop 48 bytes ≡ bytes_of words ++ trailer = ap (drop 48) whole ∙ drop_at header (bytes_of words ++ trailer) 48 (length-header format grid framed.limits) in
    let eight : take 8 (drop (48 + 8 * k) bytes) ≡ to_le_bytes w64 (get_or words k 0) =
    ap (take 8) (sym (drop-drop (8 * k) 48 bytes) ∙ ap (drop (8 * k)) past) ∙ word_bytes words k trailer within in
    ap (from_le_bytes w64) eight ∙ from_le_bytes-to_le_bytes_8 (get_or words k 0) (All-get_or (λ w. w < 2 ^ 64) words k 0 within framed.wide)

small_bytes : (xs : List ℕ) → All (λ b. b < 256) xs → (i : ℕ) → get_or xs i 0 < 256
small_bytes xs small i = elim (cases_lt i (length xs)) [
  | inl within ↦ All-get_or (λ b. b < 256) xs i 0 within small
  | inr past ↦ rw (get_or_past xs i 0 past) (lit< tt)
]

-- eight bytes are a number of 64 bits
wide_word : (xs : List ℕ) → length xs ≡ 8 → ((i : ℕ) → get_or xs i 0 < 256) → from_le_bytes w64 xs < 2 ^ 64
wide_word (a ∷ b ∷ c ∷ d ∷ e ∷ f ∷ g ∷ h ∷ []) long small = omega (arith, small 0, small 1, small 2, small 3, small 4, small 5, small 6, small 7)
wide_word xs long small = absurd (omega (arith, long))

-- any bytes, eight for each, are words
pub record AreWords (bytes : List ℕ) (count : ℕ) : Type 0 where
  pub words : List ℕ
  pub long : length words ≡ count
  pub wide : All (λ w. w < 2 ^ 64) words
  pub are : bytes ≡ bytes_of words

pub words_from : (count : ℕ) (bytes : List ℕ) → length bytes ≡ 8 * count → All (λ b. b < 256) bytes → AreWords bytes count
words_from zero bytes long small = record { words = []; long = refl; wide = All-nil (λ w. w < 2 ^ 64); are = nil_from_length bytes long }
words_from (suc count) bytes long small =
    let front : List ℕ = take 8 bytes in
    let word : ℕ = from_le_bytes w64 front in
    let front_long : length front ≡ 8 = omega (arith, length-take 8 bytes, long) in
    let back_long : length (drop 8 bytes) ≡ 8 * count = omega (arith, length-drop 8 bytes, long) in
    let back : AreWords (drop 8 bytes) count = words_from count (drop 8 bytes) back_long (All-drop (λ b. b < 256) 8 bytes small) in
    let front_is : to_le_bytes w64 word ≡ front = le_bytes_8 front word front_long (small_bytes front (All-take (λ b. b < 256) 8 bytes small)) refl in
    record {
      words = word ∷ back.words;
      long = ap suc back.long;
      wide = All-cons (λ w. w < 2 ^ 64) word back.words (wide_word front front_long (small_bytes front (All-take (λ b. b < 256) 8 bytes small))) back.wide;
      are = sym (take-append-drop 8 bytes) ∙ (ap (λ xs. xs ++ drop 8 bytes) (sym front_is) ∙ (ap (λ xs. to_le_bytes w64 word ++ xs) back.are ∙ sym (bytes_of-cons word back.words)));
    }
