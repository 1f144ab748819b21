-- A file's header and trailer, and its bytes as those of a frame.
use Rattle.std.proofs.Common.{◌≡◌, ℕ, zero, suc, ◌+◌, ◌-◌, ◌*◌, ◌<◌, ◌≤◌, List, ◌++◌, length, get_or, take, drop, map, Option, None, Some, refl, sym, ap, ◌∙◌, ◌⊎◌, inl, inr, arith, zero-add}
use Rattle.std.specs.Prelude.{slice_index, IfSome}
use Rattle.std.specs.List.{range_with_len}
use Rattle.std.specs.Int.{w64, from_le_bytes}
use Rattle.std.proofs.lemmas.List.{length-append, take_at, drop_at, drop-take, drop-drop, take-take, append_assoc}
use Rattle.std.proofs.lemmas.List.FromFn.{length-map-range_with_len, get_or-map-range_with_len}
use Rattle.std.proofs.Math.Seq.{take-length}
use Rattle.svo_base.specs.GridShape.{GridShape, IsGrid}
use Rattle.octree_specs.specs.Formats.{IsFormat}
use Rattle.octree_specs.specs.OctreeFile.{header_of, trailer_of, frame_of}
use Rattle.octree_laws.proofs.Frames.{same_headers, length-header, length-frame}
use Rattle.octree_laws.proofs.Bytes.{bytes_of, length-bytes_of}
use Rattle.node_file.specs.FileView.{IsFileView}
use Rattle.node_file.specs.Framing.{IsHeader, IsTrailer}
use Rattle.node_file.specs.Loading.{IsFrameOf, AreNoFrame, IsUnframed}
use Rattle.node_file.specs.Stored.{word_in, words_in}
use Rattle.node_file.specs.declared.records.Totals.{Totals}
use Rattle.node_file.specs.declared.loading.Frame.{Frame}
use Rattle.node_file.proofs.Fields.{totals_are}

-- ---- one format and one pair of numbers a trailer

last_of : (format records cells : ℕ) → get_or (trailer_of format records cells) 31 0 ≡ get_or (trailer_of format 0 0) 31 0
unfolding trailer_of
last_of format records cells = refl

last_one : get_or (trailer_of 1 0 0) 31 0 ≡ 49
unfolding trailer_of
last_one = refl

last_two : get_or (trailer_of 2 0 0) 31 0 ≡ 50
unfolding trailer_of
last_two = refl

apart : (a b : ℕ) → a ≡ 49 → b ≡ 50 → a ≡ b → ⊥
apart a b one two same = absurd (omega arith)

pub one_end : (f g : ℕ) (s t : Totals) (bytes : List ℕ) → IsTrailer f s bytes → IsTrailer g t bytes → f ≡ g
one_end f g s t bytes x y =
    let same : get_or (trailer_of f 0 0) 31 0 ≡ get_or (trailer_of g 0 0) 31 0 =
    sym (last_of f s.records s.cells) ∙ (ap (λ l. get_or l 31 0) (sym x.trailer ∙ y.trailer) ∙ last_of g t.records t.cells) in
    let end : ℕ → ℕ = λ h. get_or (trailer_of h 0 0) 31 0 in
    elim x.known [
      | inl f_one ↦ elim y.known [
        | inl g_one ↦ f_one ∙ sym g_one
        | inr g_two ↦ absurd (apart (end f) (end g) (ap end f_one ∙ last_one) (ap end g_two ∙ last_two) same)
      ]
      | inr f_two ↦ elim y.known [
        | inl g_one ↦ absurd (apart (end g) (end f) (ap end g_one ∙ last_one) (ap end f_two ∙ last_two) (sym same))
        | inr g_two ↦ f_two ∙ sym g_two
      ]
    ]

pub one_totals : (f g : ℕ) (s t : Totals) (bytes : List ℕ) → IsTrailer f s bytes → IsTrailer g t bytes → s ≡ t
one_totals f g s t bytes x y =
    let m : ℕ = from_le_bytes w64 (take 8 (drop 8 bytes)) in
    let n : ℕ = from_le_bytes w64 (take 8 (drop 16 bytes)) in
    sym (totals_are f m n s bytes x refl refl) ∙ totals_are g m n t bytes y refl refl

pub one_format : (f g : ℕ) (grid other : GridShape) (bytes : List ℕ) → IsHeader f grid bytes → IsHeader g other bytes → f ≡ g
one_format f g grid other bytes x y = (same_headers f g grid other x.known y.known x.limits y.limits (sym x.header ∙ y.header)).0

no_frame : (records e f : ℕ) (grid : GridShape) (totals : Totals) (header trailer : List ℕ) → IsHeader f grid header → IsTrailer e totals trailer
    → (e ≡ f → ⊥) → AreNoFrame records header trailer
no_frame records e f grid totals header trailer head end differ = λ frame is.
    differ (one_end e frame.format totals frame.totals trailer end is.end ∙ one_format frame.format f frame.grid grid header is.head head)

pub no_frame_of : (records e f : ℕ) (grid : GridShape) (totals : Totals) (header trailer : List ℕ) → IsHeader f grid header → IsTrailer e totals trailer
    → (e ≡ f → ⊥) ⊎ ((e ≡ f) × (totals.records ≡ records → ⊥)) → AreNoFrame records header trailer
no_frame_of records e f grid totals header trailer head end (inl differ) = no_frame records e f grid totals header trailer head end differ
no_frame_of records e f grid totals header trailer head end (inr other) = λ frame is.
    other.1 (ap (λ (t : Totals). t.records) (one_totals e frame.format totals frame.totals trailer end is.end) ∙ is.count)

-- ---- pieces of bytes

pub eight_at : (k m : ℕ) (xs ys : List ℕ) → 8 ≤ m → take (k + m) xs ≡ take (k + m) ys → take 8 (drop k xs) ≡ take 8 (drop k ys)
eight_at k m xs ys wide same =
    sym (take-take 8 m (drop k xs) wide) ∙ (ap (take 8) (sym (drop-take k m xs) ∙ (ap (drop k) same ∙ drop-take k m ys)) ∙ take-take 8 m (drop k ys) wide)

-- the word of a number, in a file's bytes
word_told : (bytes : List ℕ) (records number : ℕ) → number < records → slice_index (map (word_in bytes) (range_with_len 0 records)) number ≡ word_in bytes number
word_told bytes records number within = get_or-map-range_with_len (word_in bytes) 0 records number number 0 within (zero-add number)

pub held_word_is : (told : Option (List ℕ)) (records first held number word : ℕ) (block : List ℕ)
    → ((bytes : List ℕ) → told ≡ Some bytes → take (8 * held) block ≡ take (8 * held) (drop (48 + 8 * first) bytes))
    → first ≤ number → number < first + held → first + held ≤ records → word ≡ from_le_bytes w64 (take 8 (drop (8 * (number - first)) block))
    → IfSome (words_in told records) (λ words. word ≡ slice_index words number)
unfolding words_in
held_word_is None records first held number word block kept from below inside read = tt
held_word_is (Some bytes) records first held number word block kept from below inside read =
    let k : ℕ = number - first in
    let wide : 8 ≤ 8 * held - 8 * k = omega (arith, from, below) in
    let parts : 8 * k + (8 * held - 8 * k) ≡ 8 * held = omega (arith, from, below) in
    let front : List ℕ = drop (48 + 8 * first) bytes in
    let same : take (8 * k + (8 * held - 8 * k)) block ≡ take (8 * k + (8 * held - 8 * k)) front = rw parts (kept bytes refl) in
    let piece : take 8 (drop (8 * k) block) ≡ take 8 (drop (8 * k) front) = eight_at (8 * k) (8 * held - 8 * k) block front wide same in
    let place : 48 + 8 * first + 8 * k ≡ 48 + 8 * number = omega (arith, from) in
    read
    ∙ (ap (from_le_bytes w64) (piece ∙ (ap (take 8) (drop-drop (8 * k) (48 + 8 * first) bytes) ∙ ap (λ n. take 8 (drop n bytes)) place))
    ∙ sym (word_told bytes records number (omega (arith, below, inside))))

pub block_words : (told : Option (List ℕ)) (records from count : ℕ) (into : List ℕ) → length into ≡ 8 * count → from + count ≤ records
    → IfSome told (λ bytes. into ≡ take (length into) (drop (48 + 8 * from) bytes))
    → IfSome (words_in told records) (λ words. (k : ℕ) → 8 * k < length into → slice_index words (from + k) ≡ from_le_bytes w64 (take 8 (drop (8 * k) into)))
unfolding words_in
block_words None records from count into long inside read = tt
block_words (Some bytes) records from count into long inside read = λ k within.
    let below : k < count = omega (arith, long, within) in
    let front : List ℕ = drop (48 + 8 * from) bytes in
    let wide : 8 ≤ 8 * count - 8 * k = omega (arith, below) in
    let parts : 8 * k + (8 * count - 8 * k) ≡ length into = omega (arith, below, long) in
    let whole : take (8 * k + (8 * count - 8 * k)) into ≡ take (8 * k + (8 * count - 8 * k)) front =
    rw parts (take-length into ∙ read) in
    let piece : take 8 (drop (8 * k) into) ≡ take 8 (drop (8 * k) front) = eight_at (8 * k) (8 * count - 8 * k) into front wide whole in
    let place : 48 + 8 * from + 8 * k ≡ 48 + 8 * (from + k) = omega arith in
    word_told bytes records (from + k) (omega (arith, below, inside))
    ∙ sym (ap (from_le_bytes w64) (piece ∙ (ap (take 8) (drop-drop (8 * k) (48 + 8 * from) bytes) ∙ ap (λ n. take 8 (drop n bytes)) place)))

-- ---- what contracts see of a file

format_known : (format : ℕ) → 1 ≤ format → format ≤ 2 → IsFormat format
format_known zero least most = absurd (omega (arith, least))
format_known (suc zero) least most = inl refl
format_known (suc (suc zero)) least most = inr refl
format_known (suc (suc (suc n))) least most = absurd (omega (arith, most))

as_many : (told : Option (List ℕ)) (records : ℕ) → IfSome (words_in told records) (λ words. length words ≡ records)
unfolding words_in
as_many None records = tt
as_many (Some bytes) records = length-map-range_with_len (word_in bytes) 0 records

pub file_view : (told : Option (List ℕ)) (frame : Frame) → (1 ≤ frame.format) × (frame.format ≤ 2) → IsGrid frame.grid → 1 ≤ frame.totals.records
    → IsFileView (record { format = frame.format; grid = frame.grid; totals = frame.totals; words = words_in told frame.totals.records })
file_view told frame format limits some = record {
  known = format_known frame.format format.0 format.1;
  limits = limits;
  some = some;
  told = as_many told frame.totals.records;
}

-- ---- a file that is not framed

pub unframed_length : (bytes : List ℕ) → ((records : ℕ) → 1 ≤ records → length bytes ≡ 80 + 8 * records → ⊥) → IsUnframed bytes
unframed_length bytes other = λ format grid words cells framed.
    other (length words) framed.some (ap length framed.frame ∙ length-frame format grid words cells framed.limits)

frame_parts : (format : ℕ) (grid : GridShape) (words : List ℕ) (cells : ℕ) → IsGrid grid
    → (take 48 (frame_of format grid words cells) ≡ header_of format grid) × (drop (48 + 8 * length words) (frame_of format grid words cells) ≡ trailer_of format (length words) cells)
unfolding frame_of
frame_parts format grid words cells limits =
    let header : List ℕ = header_of format grid in
    let trailer : List ℕ = trailer_of format (length words) cells in
    let whole : header ++ bytes_of words ++ trailer ≡ header ++ (bytes_of words ++ trailer) = append_assoc header (bytes_of words) trailer in
    let long : length (header ++ bytes_of words) ≡ 48 + 8 * length words =
    length-append header (bytes_of words) ∙ rw (length-header format grid limits, length-bytes_of words) refl in (
      ap (take 48) whole ∙ take_at header (bytes_of words ++ trailer) 48 (length-header format grid limits),
      drop_at (header ++ bytes_of words) trailer (48 + 8 * length words) long,
    )

pub unframed_ends : (bytes : List ℕ) (records : ℕ) → length bytes ≡ 80 + 8 * records
    → ((frame : Frame) → IsFrameOf frame records (take 48 bytes) (drop (48 + 8 * records) bytes) → ⊥) → IsUnframed bytes
unframed_ends bytes records long other = λ format grid words cells framed.
    let many : length words ≡ records = omega (arith, long, ap length framed.frame, length-frame format grid words cells framed.limits) in
    let parts : (take 48 (frame_of format grid words cells) ≡ header_of format grid) × (drop (48 + 8 * length words) (frame_of format grid words cells) ≡ trailer_of format (length words) cells) =
    frame_parts format grid words cells framed.limits in
    other (record { format = format; grid = grid; totals = record { records = length words; cells = cells } }) (record {
      head = record { known = framed.known; limits = framed.limits; header = ap (take 48) framed.frame ∙ parts.0 };
      end = record {
        known = framed.known;
        records = framed.few;
        cells = framed.count;
        trailer = ap (drop (48 + 8 * records)) framed.frame ∙ (ap (λ n. drop (48 + 8 * n) (frame_of format grid words cells)) (sym many) ∙ parts.1);
      };
      count = many;
    })
