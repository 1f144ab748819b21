-- What is found of a named file, from what its store gave.
use Rattle.std.proofs.Common.{◌≡◌, ℕ, zero, suc, ◌+◌, ◌-◌, ◌*◌, ◌^◌, ◌<◌, ◌≤◌, List, [], ◌∷◌, ◌++◌, length, get_or, take, drop, map, Option, None, Some, Ok, Err, refl, sym, ap, subst, ◌∙◌, arith}
use Rattle.std.specs.Prelude.{All, IfSome}
use Rattle.std.specs.List.{range_with_len}
use Rattle.std.specs.Int.{w64, to_le_bytes, from_le_bytes}
use Rattle.std.proofs.lemmas.List.{take-append-drop, drop-drop, length-take-le, length-drop, take_all, append_assoc}
use Rattle.std.proofs.lemmas.List.Elements.{All-drop, All-take, All-cons, All-nil, All-head, All-tail}
use Rattle.std.proofs.lemmas.List.FromFn.{length-map-range_with_len}
use Rattle.std.proofs.lemmas.Nat.{le_bytes_8}
use Rattle.std.proofs.Math.Seq.{take-add}
use Rattle.dev_traits.specs.Files.{NamedFile, file_named, current_bytes}
use Rattle.octree_specs.specs.OctreeFile.{header_of, trailer_of, frame_of, IsFramed}
use Rattle.octree_laws.proofs.Bytes.{bytes_of, bytes_of-cons}
use Rattle.node_file.specs.FileView.{FileView}
use Rattle.node_file.specs.Framing.{IsHeader, IsTrailer}
use Rattle.node_file.specs.Loading.{IsFrameOf, AreNoFrame, HasFrame, FindsFrame, OpensFile, ShowsFile, IsLoaded}
use Rattle.node_file.specs.Stored.{word_in, words_in, AreBytes}
use Rattle.node_file.specs.declared.loading.Frame.{Frame}
use Rattle.node_file.specs.declared.loading.LoadFault.TheVariants.{NotNodes}
use Rattle.node_file.proofs.Frames.{unframed_length, unframed_ends}

-- a fact of an option's value
at_value : {T : Type 0} (o : Option T) (x : T) (P : T → Type 0) → o ≡ Some x → IfSome o P → P x
at_value o x P is holds = subst (λ p. IfSome p P) is holds

-- the file's length, of which no file is framed
pub no_length : (told : Option (List NamedFile)) (name : List ℕ) (size : ℕ) → IfSome told (λ files. OpensFile (file_named files name) (Ok size))
    → ((records : ℕ) → 1 ≤ records → size ≡ 80 + 8 * records → ⊥) → IfSome told (λ files. FindsFrame (file_named files name) (Err NotNodes))
no_length None name size opened other = tt
no_length (Some files) name size opened other = (opened.0, opened.1, unframed_length opened.0 (λ records some long. other records some (opened.2 ∙ long)))

-- a piece of the current file, which is the named one
pub piece_read : (told now : Option (List NamedFile)) (current : Option (List ℕ)) (name : List ℕ) (P : List ℕ → Type 0) → now ≡ told → current ≡ Some name → IfSome (current_bytes now current) P
    → IfSome told (λ files. IfSome (file_named files name) P)
piece_read told now current name P same is read =
    piece_of told name P (subst (λ c. IfSome (current_bytes told c) P) is (subst (λ n. IfSome (current_bytes n current) P) same read))
  where
    piece_of : (told : Option (List NamedFile)) (name : List ℕ) (P : List ℕ → Type 0) → IfSome (current_bytes told (Some name)) P → IfSome told (λ files. IfSome (file_named files name) P)
    piece_of None name P read = tt
    piece_of (Some files) name P read = read

-- the last bytes of a file are its trailer's
ends_are : (bytes header trailer : List ℕ) (size records : ℕ) → size ≡ length bytes → size ≡ 80 + 8 * records → header ≡ take 48 (drop 0 bytes) → trailer ≡ take 32 (drop (size - 32) bytes)
    → (header ≡ take 48 bytes) × (trailer ≡ drop (48 + 8 * records) bytes)
ends_are bytes header trailer size records whole long head end =
    let place : size - 32 ≡ 48 + 8 * records = omega (arith, long) in
    let few : length (drop (48 + 8 * records) bytes) ≡ 32 = length-drop (48 + 8 * records) bytes ∙ omega (arith, whole, long) in (
      head,
      end ∙ (ap (λ n. take 32 (drop n bytes)) place ∙ take_all 32 (drop (48 + 8 * records) bytes) (omega (arith, few))),
    )

module _ (name : List ℕ) (size records : ℕ) (header trailer : List ℕ) (long : size ≡ 80 + 8 * records) where
  pub frame_found : (told : Option (List NamedFile)) (frame : Frame) → IfSome told (λ files. OpensFile (file_named files name) (Ok size))
      → IfSome told (λ files. IfSome (file_named files name) (λ bytes. header ≡ take 48 (drop 0 bytes)))
      → IfSome told (λ files. IfSome (file_named files name) (λ bytes. trailer ≡ take 32 (drop (size - 32) bytes)))
      → IsFrameOf frame records header trailer → IfSome told (λ files. FindsFrame (file_named files name) (Ok frame))
  frame_found None frame opened head end is = tt
  frame_found (Some files) frame opened head end is =
      let bytes : List ℕ = opened.0 in
      let ends : (header ≡ take 48 bytes) × (trailer ≡ drop (48 + 8 * records) bytes) =
      ends_are bytes header trailer size records opened.2 long
      (at_value (file_named files name) bytes (λ bytes. header ≡ take 48 (drop 0 bytes)) opened.1 head)
      (at_value (file_named files name) bytes (λ bytes. trailer ≡ take 32 (drop (size - 32) bytes)) opened.1 end) in (
        bytes,
        opened.1,
        record {
          long = sym opened.2 ∙ (long ∙ ap (λ n. 80 + 8 * n) (sym is.count));
          head = subst (IsHeader frame.format frame.grid) ends.0 is.head;
          end = subst (IsTrailer frame.format frame.totals) (ends.1 ∙ ap (λ n. drop (48 + 8 * n) bytes) (sym is.count)) is.end;
        },
      )

  pub no_frame_found : (told : Option (List NamedFile)) → IfSome told (λ files. OpensFile (file_named files name) (Ok size))
      → IfSome told (λ files. IfSome (file_named files name) (λ bytes. header ≡ take 48 (drop 0 bytes)))
      → IfSome told (λ files. IfSome (file_named files name) (λ bytes. trailer ≡ take 32 (drop (size - 32) bytes)))
      → AreNoFrame records header trailer → IfSome told (λ files. FindsFrame (file_named files name) (Err NotNodes))
  no_frame_found None opened head end other = tt
  no_frame_found (Some files) opened head end other =
      let bytes : List ℕ = opened.0 in
      let ends : (header ≡ take 48 bytes) × (trailer ≡ drop (48 + 8 * records) bytes) =
      ends_are bytes header trailer size records opened.2 long
      (at_value (file_named files name) bytes (λ bytes. header ≡ take 48 (drop 0 bytes)) opened.1 head)
      (at_value (file_named files name) bytes (λ bytes. trailer ≡ take 32 (drop (size - 32) bytes)) opened.1 end) in (
        bytes,
        opened.1,
        unframed_ends bytes records (sym opened.2 ∙ long) (subst (λ h. AreNoFrame records h (drop (48 + 8 * records) bytes)) ends.0 (subst (AreNoFrame records header) ends.1 other)),
      )

-- ---- the words between the header and the trailer

byte_at : (bytes : List ℕ) → AreBytes bytes → (i : ℕ) → get_or bytes i 0 < 256
byte_at [] are i = omega arith
byte_at (b ∷ rest) are zero = All-head (λ byte. byte < 256) b rest are
byte_at (b ∷ rest) are (suc i) = byte_at rest (All-tail (λ byte. byte < 256) b rest are) i

number_small : (bytes : List ℕ) → AreBytes bytes → from_le_bytes w64 bytes < 2 ^ 64
number_small bytes are =
    omega (arith, byte_at bytes are 0, byte_at bytes are 1, byte_at bytes are 2, byte_at bytes are 3, byte_at bytes are 4, byte_at bytes are 5, byte_at bytes are 6, byte_at bytes are 7)

-- eight bytes of a file
eight_bytes : (bytes : List ℕ) (at : ℕ) → AreBytes bytes → AreBytes (take 8 (drop at bytes))
eight_bytes bytes at are = All-take (λ byte. byte < 256) 8 (drop at bytes) (All-drop (λ byte. byte < 256) at bytes are)

words_small : (bytes : List ℕ) (first count : ℕ) → AreBytes bytes → All (λ word. word < 2 ^ 64) (map (word_in bytes) (range_with_len first count))
words_small bytes first zero are = All-nil (λ word. word < 2 ^ 64)
words_small bytes first (suc count) are =
    All-cons (λ word. word < 2 ^ 64) (word_in bytes first) (map (word_in bytes) (range_with_len (first + 1) count)) (number_small (take 8 (drop (48 + 8 * first) bytes)) (eight_bytes bytes (48 + 8 * first) are))
    (words_small bytes (first + 1) count are)

words_between : (bytes : List ℕ) (first count : ℕ) → AreBytes bytes → 48 + 8 * (first + count) ≤ length bytes
    → take (8 * count) (drop (48 + 8 * first) bytes) ≡ bytes_of (map (word_in bytes) (range_with_len first count))
words_between bytes first zero are within = refl
words_between bytes first (suc count) are within =
    let rest : List ℕ = drop (48 + 8 * first) bytes in
    let room : length rest ≡ length bytes - (48 + 8 * first) = length-drop (48 + 8 * first) bytes in
    let split : 8 * suc count ≡ 8 + 8 * count = omega arith in
    let word : to_le_bytes w64 (word_in bytes first) ≡ take 8 rest =
    le_bytes_8 (take 8 rest) (word_in bytes first) (length-take-le 8 rest (omega (arith, room, within))) (byte_at (take 8 rest) (eight_bytes bytes (48 + 8 * first) are)) refl in
    let next : 48 + 8 * first + 8 ≡ 48 + 8 * (first + 1) = omega arith in
    let later : take (8 * count) (drop 8 rest) ≡ bytes_of (map (word_in bytes) (range_with_len (first + 1) count)) =
    ap (take (8 * count)) (drop-drop 8 (48 + 8 * first) bytes ∙ ap (λ n. drop n bytes) next) ∙ words_between bytes (first + 1) count are (omega (arith, within)) in
    ap (λ n. take n rest) split
    ∙ (take-add 8 (8 * count) rest
    ∙ ((λ i. sym word i ++ later i) ∙ sym (bytes_of-cons (word_in bytes first) (map (word_in bytes) (range_with_len (first + 1) count)))))

pub is_framed : (frame : Frame) (bytes : List ℕ) → HasFrame frame bytes → 1 ≤ frame.totals.records → AreBytes bytes
    → IsFramed frame.format frame.grid (map (word_in bytes) (range_with_len 0 frame.totals.records)) frame.totals.cells bytes
unfolding frame_of
is_framed frame bytes has some are =
    let records : ℕ = frame.totals.records in
    let words : List ℕ = map (word_in bytes) (range_with_len 0 records) in
    let many : length words ≡ records = length-map-range_with_len (word_in bytes) 0 records in
    let middle : take (8 * records) (drop 48 bytes) ≡ bytes_of words = words_between bytes 0 records are (omega (arith, has.long)) in
    let behind : drop (8 * records) (drop 48 bytes) ≡ trailer_of frame.format (length words) frame.totals.cells =
    drop-drop (8 * records) 48 bytes ∙ (has.end.trailer ∙ ap (λ n. trailer_of frame.format n frame.totals.cells) (sym many)) in
    record {
      known = has.head.known;
      limits = has.head.limits;
      some = omega (arith, many, some);
      few = omega (arith, many, has.end.records);
      wide = words_small bytes 0 records are;
      count = has.end.cells;
      frame =
          sym (take-append-drop 48 bytes)
          ∙ ((λ i. has.head.header i ++ (sym (take-append-drop (8 * records) (drop 48 bytes)) ∙ (λ j. middle j ++ behind j)) i)
          ∙ sym (append_assoc (header_of frame.format frame.grid) (bytes_of words) (trailer_of frame.format (length words) frame.totals.cells)));
    }

-- ---- the file that is shown

module _ {T : Type 0} (view : T → FileView) (name : List ℕ) (nodes : T) (frame : Frame) where
  pub is_loaded : (told now : Option (List NamedFile)) (current : Option (List ℕ)) → IfSome told (λ files. FindsFrame (file_named files name) (Ok frame)) → now ≡ told → current ≡ Some name
      → view nodes ≡ record { format = frame.format; grid = frame.grid; totals = frame.totals; words = words_in (current_bytes now current) frame.totals.records }
      → 1 ≤ frame.totals.records → IfSome told (λ files. IsLoaded view (file_named files name) (Ok nodes))
  unfolding words_in
  is_loaded None now current found same is seen some = tt
  is_loaded (Some files) now current found same is seen some =
      let bytes : List ℕ = found.0 in
      let file : FileView = record { format = frame.format; grid = frame.grid; totals = frame.totals; words = Some (map (word_in bytes) (range_with_len 0 frame.totals.records)) } in
      let told : current_bytes now current ≡ Some bytes = ap (λ n. current_bytes n current) same ∙ (ap (λ c. current_bytes (Some files) c) is ∙ found.1) in
      let shown : view nodes ≡ file =
      seen ∙ ap (λ (t : Option (List ℕ)). record { format = frame.format; grid = frame.grid; totals = frame.totals; words = words_in t frame.totals.records }) told in
      let shows : ShowsFile file bytes = record {
        told = refl;
        framed = λ words are whole. subst (λ ws. IsFramed frame.format frame.grid ws frame.totals.cells bytes) (one_value (map (word_in bytes) (range_with_len 0 frame.totals.records)) words are) (is_framed frame bytes found.2 some whole);
      } in
      (bytes, found.1, subst (λ f. ShowsFile f bytes) (sym shown) shows)
    where
      one_value : (x y : List ℕ) → Some x ≡ Some y → x ≡ y
      one_value x y same = cc
