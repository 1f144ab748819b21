-- What a caller knows of its sink, from `begin` on: a front of the file of the cells pushed and of any that follow.
use Rattle.std.proofs.Common.{◌≡◌, List, [], ◌∷◌, ◌++◌, ℕ, length, sym, ap, subst, ◌∙◌, append-nil, append_assoc}
use Rattle.std.specs.Prelude.{Option}
use Rattle.std.specs.List.{flat_map}
use Rattle.std.specs.Int.{w64, to_le_bytes}
use Rattle.std.specs.Io.KnownBytes.{append_known}
use Rattle.std.proofs.lemmas.List.Concat.{flat_map-append}
use Rattle.svo_base.specs.GridShape.{GridShape}
use Rattle.node_file.specs.Waiting.{GrewByFront}
use Rattle.node_file.proofs.Fronts.{front_of_none, front_of_longer, front_onward}
use Rattle.octree_specs.specs.Cells.{Cell}
use Rattle.octree_specs.specs.Formats.{file_words}
use Rattle.octree_specs.specs.OctreeFile.{header_of, trailer_of, frame_of, image_of}
use Rattle.level_queues.specs.Fronts.{Ascend, GrewToward, HoldsFront}
use Rattle.level_queues.specs.GivenWords.{with_words}
use Rattle.level_queues.proofs.Wording.{append-twice}

-- the bytes that wait, those of the words to come and the trailer bring the sink to the whole file
whole_from : (grid : GridShape) (cells : List Cell) (words rest waiting : List ℕ) (start before : Option (List ℕ)) → append_known before waiting ≡ with_words (append_known start (header_of 2 grid)) words
    → words ++ rest ≡ file_words 2 grid.depth cells
    → append_known before ((waiting ++ flat_map (to_le_bytes w64) rest) ++ trailer_of 2 (length (file_words 2 grid.depth cells)) (length cells)) ≡ append_known start (image_of 2 grid cells)
unfolding with_words frame_of image_of
whole_from grid cells words rest waiting start before given all =
    let header : List ℕ = header_of 2 grid in
    let first : List ℕ = flat_map (to_le_bytes w64) words in
    let second : List ℕ = flat_map (to_le_bytes w64) rest in
    let trailer : List ℕ = trailer_of 2 (length (file_words 2 grid.depth cells)) (length cells) in
    let joined : (header ++ first) ++ second ≡ header ++ flat_map (to_le_bytes w64) (file_words 2 grid.depth cells) =
    append_assoc header first second ∙ ap (λ l. header ++ l) (sym (flat_map-append (to_le_bytes w64) words rest) ∙ ap (flat_map (to_le_bytes w64)) all) in
    sym (append-twice before (waiting ++ second) trailer)
    ∙ (ap (λ o. append_known o trailer) (sym (append-twice before waiting second) ∙ ap (λ o. append_known o second) (given ∙ append-twice start header first))
    ∙ (ap (λ o. append_known o trailer) (append-twice start (header ++ first) second ∙ ap (append_known start) joined)
    ∙ append-twice start (header ++ flat_map (to_le_bytes w64) (file_words 2 grid.depth cells)) trailer))

-- a call goes on with a front of the file
module _ (grid : GridShape) (cells : List Cell) (words waiting : List ℕ) (start before after : Option (List ℕ)) (holds : GrewByFront start before (image_of 2 grid cells))
    (given : append_known before waiting ≡ with_words (append_known start (header_of 2 grid)) words) where
  goes_toward : (depth : ℕ) → depth ≡ grid.depth → GrewToward words (file_words 2 depth cells) before after waiting → GrewByFront start after (image_of 2 grid cells)
  goes_toward depth same grew =
      let trailer : List ℕ = trailer_of 2 (length (file_words 2 grid.depth cells)) (length cells) in
      front_onward start before after (image_of 2 grid cells) ((waiting ++ flat_map (to_le_bytes w64) grew.rest) ++ trailer) holds
      (whole_from grid cells words grew.rest waiting start before given (grew.whole ∙ ap (λ d. file_words 2 d cells) same))
      (front_of_longer before after (waiting ++ flat_map (to_le_bytes w64) grew.rest) trailer grew.front)

-- before the first cell
pub front_begun : (grid : GridShape) (start now : Option (List ℕ)) → now ≡ start → HoldsFront grid [] start now
front_begun grid start now same = record { follows = λ later are. subst (λ o. GrewByFront start o (image_of 2 grid later)) (sym same) (front_of_none start (image_of 2 grid later)) }

-- after a cell was pushed, or its push was refused
pub front_pushed : (grid : GridShape) (cells : List Cell) (cell : Cell) (words waiting : List ℕ) (start before after : Option (List ℕ)) (depth : ℕ) → HoldsFront grid cells start before
    → append_known before waiting ≡ with_words (append_known start (header_of 2 grid)) words → depth ≡ grid.depth
    → ((later : List Cell) → Ascend depth (cells ++ cell ∷ later) → GrewToward words (file_words 2 depth (cells ++ cell ∷ later)) before after waiting)
    → HoldsFront grid (cells ++ cell ∷ []) start after
front_pushed grid cells cell words waiting start before after depth holds given same push = record {
  follows = λ later are.
      let e : (cells ++ cell ∷ []) ++ later ≡ cells ++ cell ∷ later = append_assoc cells (cell ∷ []) later in
      let ascend : Ascend grid.depth (cells ++ cell ∷ later) = subst (Ascend grid.depth) e are in
      subst (λ l. GrewByFront start after (image_of 2 grid l)) (sym e)
      (goes_toward grid (cells ++ cell ∷ later) words waiting start before after (holds.follows (cell ∷ later) ascend) given depth same
      (push later (subst (λ d. Ascend d (cells ++ cell ∷ later)) (sym same) ascend)));
}

-- no cell follows
pub front_now : (grid : GridShape) (cells : List Cell) (start now : Option (List ℕ)) → Ascend grid.depth cells → HoldsFront grid cells start now → GrewByFront start now (image_of 2 grid cells)
front_now grid cells start now are holds =
    let e : cells ++ [] ≡ cells = append-nil cells in
    subst (λ l. GrewByFront start now (image_of 2 grid l)) e (holds.follows [] (subst (Ascend grid.depth) (sym e) are))

-- after the last words were given, or refused
pub front_ended : (grid : GridShape) (cells : List Cell) (words waiting : List ℕ) (start before after : Option (List ℕ)) (depth : ℕ) → GrewByFront start before (image_of 2 grid cells)
    → append_known before waiting ≡ with_words (append_known start (header_of 2 grid)) words → depth ≡ grid.depth
    → GrewToward words (file_words 2 depth cells) before after waiting → GrewByFront start after (image_of 2 grid cells)
front_ended grid cells words waiting start before after depth holds given same end = goes_toward grid cells words waiting start before after holds given depth same end

-- after the trailer was put, or refused
pub front_closed : (grid : GridShape) (cells : List Cell) (words waiting : List ℕ) (start before after : Option (List ℕ)) (records count : ℕ) → GrewByFront start before (image_of 2 grid cells)
    → append_known before waiting ≡ with_words (append_known start (header_of 2 grid)) words → words ≡ file_words 2 grid.depth cells → records ≡ length words → count ≡ length cells
    → GrewByFront before after (waiting ++ trailer_of 2 records count) → GrewByFront start after (image_of 2 grid cells)
front_closed grid cells words waiting start before after records count holds given all long many close =
    let trailer : List ℕ = trailer_of 2 (length (file_words 2 grid.depth cells)) (length cells) in
    let same : trailer_of 2 records count ≡ trailer = λ i. trailer_of 2 ((long ∙ ap length all) i) (many i) in
    let last : waiting ++ trailer_of 2 records count ≡ (waiting ++ []) ++ trailer = ap (λ l. waiting ++ l) same ∙ ap (λ l. l ++ trailer) (sym (append-nil waiting)) in
    front_onward start before after (image_of 2 grid cells) ((waiting ++ []) ++ trailer) holds
    (whole_from grid cells words [] waiting start before given (append-nil words ∙ all))
    (subst (λ l. GrewByFront before after l) last close)
