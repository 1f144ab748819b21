-- A header, the words of some cells and a trailer of their numbers are the cells' file.
use Rattle.std.proofs.Common.{◌≡◌, ℕ, List, ◌++◌, length, Some, None, refl, ap, ◌∙◌, append_assoc}
use Rattle.std.specs.Prelude.{Option}
use Rattle.std.specs.List.{flat_map}
use Rattle.std.specs.Int.{w64, to_le_bytes}
use Rattle.std.specs.Io.KnownBytes.{append_known}
use Rattle.svo_base.specs.GridShape.{GridShape}
use Rattle.octree_specs.specs.Cells.{Cell}
use Rattle.octree_specs.specs.Formats.{file_words}
use Rattle.octree_specs.specs.OctreeFile.{header_of, trailer_of, frame_of, image_of}
use Rattle.level_queues.specs.GivenWords.{with_words}

three_parts : (told : Option (List ℕ)) (a b c : List ℕ) → append_known (append_known (append_known told a) b) c ≡ append_known told (a ++ b ++ c)
three_parts None a b c = refl
three_parts (Some l) a b c = ap Some (simp append_assoc)

pub whole_file : (told before given last : Option (List ℕ)) (grid : GridShape) (cells : List Cell) (words : List ℕ) (records count : ℕ)
    → before ≡ append_known told (header_of 2 grid) → given ≡ with_words before words → last ≡ append_known given (trailer_of 2 records count)
    → words ≡ file_words 2 grid.depth cells → records ≡ length words → count ≡ length cells → last ≡ append_known told (image_of 2 grid cells)
unfolding with_words frame_of image_of
whole_file told before given last grid cells words records count begun added ended are long many =
    ended
    ∙ (ap (λ l. append_known l (trailer_of 2 records count)) (added ∙ ap (λ l. append_known l (flat_map (to_le_bytes w64) words)) begun)
    ∙ (three_parts told (header_of 2 grid) (flat_map (to_le_bytes w64) words) (trailer_of 2 records count)
    ∙ (λ i. append_known told (header_of 2 grid ++ flat_map (to_le_bytes w64) (are i) ++ trailer_of 2 ((long ∙ ap length are) i) (many i)))))
