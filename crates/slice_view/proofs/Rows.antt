-- Bands of rows, one after another, are the picture.
use Rattle.std.proofs.Common.{◌≡◌, ℕ, ◌+◌, ◌-◌, ◌*◌, ◌/◌, ◌%◌, ◌^◌, ◌<◌, ◌≤◌, cond, is_some, List, ◌++◌, length, take, map, Option, Ok, Err, refl, sym, ap, subst, ◌∙◌, arith}
use Rattle.std.specs.Prelude.{⊤, replicate, min, Result}
use Rattle.std.specs.Io.KnownBytes.{append_known}
use Rattle.std.specs.List.{range_with_len}
use Rattle.std.proofs.Math.Nat.{div-eq_of_lt, mul-add-mod_self_right, mul-add-div_right}
use Rattle.std.proofs.Math.Seq.{take-length}
use Rattle.std.proofs.lemmas.Grind.{same_number_lists}
use Rattle.std.proofs.lemmas.List.{get_or-replicate, get_or-take, length-take-le, map-append}
use Rattle.std.proofs.lemmas.List.FromFn.{length-map-range_with_len, get_or-map-range_with_len}
use Rattle.std.proofs.lemmas.Nat.{pow_pos}
use Rattle.slice_view.specs.declared.bands.TheConstants.{BAND_EXPONENT}
use Rattle.octree_specs.specs.Cells.{Cell}
use Rattle.octree_laws.proofs.FirstChildren.{range-add}
use Rattle.morton_code.proofs.Coordinates.{code_below}
use Rattle.node_file.proofs.Fronts.{front_of_more, front_of_longer, append_twice}
use Rattle.node_check.specs.Stops.{PutsFront, Puts}
use Rattle.node_check.specs.Walks.{face_at}
use Rattle.node_check.specs.declared.stops.AnswerStop.{AnswerStop}
use Rattle.node_check.specs.declared.stops.AnswerStop.TheVariants.{WriteFault, Walk}
use Rattle.node_check.specs.declared.walking.WalkFault.TheVariants.{Failed, Refused}
use Rattle.slice_view.specs.Bands.{IsBand, ArePainted, band_samples, band_size, cell_of, IsBandOf, rows_of}
use Rattle.slice_view.specs.Slices.{cell_in, sample_of, slice_sample}
use Rattle.slice_view.specs.declared.axes.Axis.{Axis}
use Rattle.slice_view.specs.declared.axes.Axis.TheVariants.{X, Y, Z}
use Rattle.slice_view.specs.declared.bands.Band.{Band}

-- ---- the samples of one band

inside_octree : (depth : ℕ) (axis : Axis) (at column row : ℕ) → cell_in depth axis at column row < 8 ^ depth
inside_octree depth X at column row = code_below depth at column row
inside_octree depth Y at column row = code_below depth column at row
inside_octree depth Z at column row = code_below depth column row at

-- once the root is painted in a black block, its front are the band's samples
pub band_is_painted : (band : Band) (cells : List Cell) (block : List ℕ) → IsBand band → length block ≡ 4096 → ArePainted band cells band.depth 0 1 (replicate 4096 0) block
    → take (band_size band) block ≡ band_samples band cells
band_is_painted band cells block is long painted =
    let size : length (take (band_size band) block) ≡ band_size band = length-take-le (band_size band) block (omega (arith, long, is.fits)) in
    same_number_lists (take (band_size band) block) (band_samples band cells)
    (size ∙ sym (length-map-range_with_len (λ number. sample_of cells (cell_of band number)) 0 (band_size band)))
    (λ number below.
    let within : number < band_size band = omega (arith, below, size) in
    let under : cell_of band number / 8 ^ band.depth ≡ 0 = div-eq_of_lt (inside_octree band.depth band.axis band.at (number % 2 ^ band.depth) (band.high - number / 2 ^ band.depth)) in
    get_or-take (band_size band) block number 0 within
    ∙ ((painted number within).here (omega (arith, under), omega (arith, under))
    ∙ (ap (λ n. cond (is_some (face_at cells (cell_of band number))) 255 n) (get_or-replicate 4096 number 0 0 (omega (arith, within, is.fits)))
    ∙ sym (get_or-map-range_with_len (λ n. sample_of cells (cell_of band n)) 0 (band_size band) number number 0 within (omega arith)))))

-- and these are samples of the picture
pub band_of_picture : (band : Band) (depth : ℕ) (axis : Axis) (at number : ℕ) (cells : List Cell) → IsBandOf band depth axis at number
    → band_samples band cells ≡ map (slice_sample depth axis at cells) (range_with_len (number * (rows_of depth * 2 ^ depth)) (rows_of depth * 2 ^ depth))
band_of_picture band depth axis at number cells is =
    same_number_lists (band_samples band cells) (map (slice_sample depth axis at cells) (range_with_len (number * (rows_of depth * 2 ^ depth)) (rows_of depth * 2 ^ depth)))
    (length-map-range_with_len (λ n. sample_of cells (cell_of band n)) 0 (band_size band)
    ∙ (size ∙ sym (length-map-range_with_len (slice_sample depth axis at cells) (number * (rows_of depth * 2 ^ depth)) (rows_of depth * 2 ^ depth))))
    (λ n below.
    let within : n < band_size band = omega (arith, below, length-map-range_with_len (λ n. sample_of cells (cell_of band n)) 0 (band_size band)) in
    get_or-map-range_with_len (λ n. sample_of cells (cell_of band n)) 0 (band_size band) n n 0 within (omega arith)
    ∙ (ap (sample_of cells) (same_cell n)
    ∙ sym (get_or-map-range_with_len (slice_sample depth axis at cells) (number * (rows_of depth * 2 ^ depth)) (rows_of depth * 2 ^ depth) n (number * (rows_of depth * 2 ^ depth) + n) 0 (omega (arith, within, size)) refl)))
  where
    size : band_size band ≡ rows_of depth * 2 ^ depth
    size = ap (λ d. (band.high - band.low + 1) * 2 ^ d) is.depth_is ∙ ap (λ n. n * 2 ^ depth) (let rows : band.high - band.low + 1 ≡ rows_of depth = omega (arith, is.rows, pow_pos (min depth (BAND_EXPONENT - depth))) in rows)

    regrouped : (n : ℕ) → number * (rows_of depth * 2 ^ depth) + n ≡ number * rows_of depth * 2 ^ depth + n
    regrouped n = omega arith

    column : (n : ℕ) → n % 2 ^ depth ≡ (number * (rows_of depth * 2 ^ depth) + n) % 2 ^ depth
    column n = sym (ap (λ m. m % 2 ^ depth) (regrouped n) ∙ mul-add-mod_self_right (number * rows_of depth) (2 ^ depth) n)

    row : (n : ℕ) → band.high - n / 2 ^ depth ≡ 2 ^ depth - 1 - (number * (rows_of depth * 2 ^ depth) + n) / 2 ^ depth
    row n =
        let above : (number * (rows_of depth * 2 ^ depth) + n) / 2 ^ depth ≡ number * rows_of depth + n / 2 ^ depth =
        ap (λ m. m / 2 ^ depth) (regrouped n) ∙ mul-add-div_right (pow_pos depth) (number * rows_of depth) n in
        omega (arith, is.high_is, above)

    same_cell : (n : ℕ) → cell_of band n ≡ cell_in depth axis at ((number * (rows_of depth * 2 ^ depth) + n) % 2 ^ depth) (2 ^ depth - 1 - (number * (rows_of depth * 2 ^ depth) + n) / 2 ^ depth)
    same_cell n =
        ap (λ d. cell_in d band.axis band.at (n % 2 ^ d) (band.high - n / 2 ^ d)) is.depth_is
        ∙ (ap (λ a. cell_in depth a band.at (n % 2 ^ depth) (band.high - n / 2 ^ depth)) is.axis_is
        ∙ (ap (λ a. cell_in depth axis a (n % 2 ^ depth) (band.high - n / 2 ^ depth)) is.at_is
        ∙ (ap (λ c. cell_in depth axis at c (band.high - n / 2 ^ depth)) (column n) ∙ ap (cell_in depth axis at ((number * (rows_of depth * 2 ^ depth) + n) % 2 ^ depth)) (row n))))

-- ---- pieces that are put out one after another

abbrev pub the_stop : AnswerStop → Result ⊤ AnswerStop
the_stop stop = Err stop

-- a front of some bytes was put out before a stop
abbrev pub Stopped : Option (List ℕ) → Option (List ℕ) → List ℕ → AnswerStop → Type 0
Stopped before after text stop = Puts before after text (the_stop stop)

-- what was put out behind a front
pub puts_behind : (a b c : Option (List ℕ)) (front rest : List ℕ) (result : Result ⊤ AnswerStop) → b ≡ append_known a front → Puts b c rest result → Puts a c (front ++ rest) result
puts_behind a b c front rest result first later = puts_with result later
  where
    whole_front : (n : ℕ) → c ≡ append_known b (take n rest) → PutsFront a c (front ++ rest)
    whole_front n same =
        front_of_more a b c front rest rest
        (length front, first ∙ ap (append_known a) (sym (take-length front))) (ap (λ o. append_known o rest) first) (n, same)

    puts_with : (result : Result ⊤ AnswerStop) → Puts b c rest result → Puts a c (front ++ rest) result
    puts_with (Ok answer) later = later ∙ (ap (λ o. append_known o rest) first ∙ append_twice a front rest)
    puts_with (Err WriteFault) later = whole_front later.0 later.1
    puts_with (Err (Walk Failed)) later = whole_front later.0 later.1
    puts_with (Err (Walk (Refused number word))) later = later

-- a stop in the midst of more
pub stops_within : (b c : Option (List ℕ)) (piece rest : List ℕ) (stop : AnswerStop) → Stopped b c piece stop → Stopped b c (piece ++ rest) stop
stops_within b c piece rest WriteFault puts = front_of_longer b c piece rest puts
stops_within b c piece rest (Walk Failed) puts = front_of_longer b c piece rest puts
stops_within b c piece rest (Walk (Refused number word)) puts = puts

range_from : (count more : ℕ) → range_with_len 0 (count + more) ≡ range_with_len 0 count ++ range_with_len count more
range_from count more =
    let none : 0 + count ≡ count = omega arith in
    range-add 0 count more ∙ ap (λ n. range_with_len 0 count ++ range_with_len n more) none

-- the samples before a band, its own, and those behind it
pub samples_more : (sample : ℕ → ℕ) (number size : ℕ) → map sample (range_with_len 0 ((number + 1) * size)) ≡ map sample (range_with_len 0 (number * size)) ++ map sample (range_with_len (number * size) size)
samples_more sample number size =
    let sum : (number + 1) * size ≡ number * size + size = omega arith in
    ap (λ n. map sample (range_with_len 0 n)) sum ∙ (ap (map sample) (range_from (number * size) size) ∙ map-append sample (range_with_len 0 (number * size)) (range_with_len (number * size) size))

pub samples_all : (sample : ℕ → ℕ) (number bands size total : ℕ) → number ≤ bands → total ≡ bands * size
    → map sample (range_with_len 0 total) ≡ map sample (range_with_len 0 (number * size)) ++ map sample (range_with_len (number * size) ((bands - number) * size))
samples_all sample number bands size total within is =
    let split : bands ≡ number + (bands - number) = omega (arith, within) in
    let sum : total ≡ number * size + (bands - number) * size = is ∙ (ap (λ n. n * size) split ∙ omega arith) in
    ap (λ n. map sample (range_with_len 0 n)) sum
    ∙ (ap (map sample) (range_from (number * size) ((bands - number) * size)) ∙ map-append sample (range_with_len 0 (number * size)) (range_with_len (number * size) ((bands - number) * size)))

-- a stop in a band
pub band_stops : (a b c : Option (List ℕ)) (sample : ℕ → ℕ) (number bands size total : ℕ) (stop : AnswerStop) → number < bands → total ≡ bands * size
    → b ≡ append_known a (map sample (range_with_len 0 (number * size))) → Stopped b c (map sample (range_with_len (number * size) size)) stop → Stopped a c (map sample (range_with_len 0 total)) stop
band_stops a b c sample number bands size total stop within is before puts =
    let more : bands - number ≡ 1 + (bands - number - 1) = omega (arith, within) in
    let sum : (bands - number) * size ≡ size + (bands - number - 1) * size = ap (λ n. n * size) more ∙ omega arith in
    let rest : map sample (range_with_len (number * size) ((bands - number) * size)) ≡ map sample (range_with_len (number * size) size) ++ map sample (range_with_len (number * size + size) ((bands - number - 1) * size)) =
    ap (λ n. map sample (range_with_len (number * size) n)) sum
    ∙ (ap (map sample) (range-add (number * size) size ((bands - number - 1) * size)) ∙ map-append sample (range_with_len (number * size) size) (range_with_len (number * size + size) ((bands - number - 1) * size))) in
    subst (λ w. Stopped a c w stop) (sym (samples_all sample number bands size total (omega (arith, within)) is))
    (puts_behind a b c (map sample (range_with_len 0 (number * size))) (map sample (range_with_len (number * size) ((bands - number) * size))) (Err stop) before
    (subst (λ w. Stopped b c w stop) (sym rest)
    (stops_within b c (map sample (range_with_len (number * size) size)) (map sample (range_with_len (number * size + size) ((bands - number - 1) * size))) stop puts)))
