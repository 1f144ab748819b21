-- The laws as they are stated.
use Rattle.std.proofs.Common.{◌≡◌, ℕ, suc, ◌<◌, ◌≤◌, List, length, None, sym, ap, subst, ◌∙◌}
use Rattle.std.specs.Prelude.{◌↔◌}
use Rattle.svo_base.specs.GridShape.{GridShape}
use Rattle.octree_specs.specs.Checking.{refused_in}
use Rattle.octree_specs.specs.Formats.{IsFormat, AreCellsIn, StandFor, face_leaves, file_words}
use Rattle.octree_specs.specs.OctreeFile.{IsFramed, IsNodeFile, frame_of, image_of}
use Rattle.octree_specs.specs.Walking.{HasTree, HasMasks}
use Rattle.octree_laws.specs.Laws.{LeadToCells, StandForOne, StandForMany, AreAcceptedExactly, SetsHaveFormatOne}
use Rattle.octree_laws.proofs.FormatOne.{set_image}
use Rattle.octree_laws.proofs.Frames.{AreOneFrame, one_frame}
use Rattle.octree_laws.proofs.Images.{at_depth, file_framed, one_file}
use Rattle.octree_laws.proofs.Verdicts.{stand_if_accepted, accepted_if_stand}
use Rattle.octree_laws.proofs.Maps.{map_has_masks, map_has_faces, one_map}

pub lead_to_cells : LeadToCells
lead_to_cells = record {
  masks = λ format depth number words cells deep stand long.
      let at : (levels : ℕ) × (depth ≡ suc levels) = at_depth depth deep in
      subst (λ d. HasMasks words cells d 0 number) (sym at.1) (map_has_masks format at.0 number words cells (subst (λ d. StandFor format d words cells) at.1 stand) long);
  faces = λ depth number words cells deep stand long.
      let at : (levels : ℕ) × (depth ≡ suc levels) = at_depth depth deep in
      subst (λ d. HasTree words (face_leaves cells) d 0 number) (sym at.1) (map_has_faces at.0 number words cells (subst (λ d. StandFor 2 d words cells) at.1 stand) long);
}

pub stand_for_one : StandForOne
stand_for_one = record {
  words = λ format depth words xs ys deep x y.
      let at : (levels : ℕ) × (depth ≡ suc levels) = at_depth depth deep in
      one_map format at.0 words xs ys (subst (λ d. StandFor format d words xs) at.1 x) (subst (λ d. StandFor format d words ys) at.1 y);
  bytes = one_file;
  framed = file_framed;
}

pub sets_have_format : SetsHaveFormatOne
sets_have_format grid cells deep are =
    let at : (levels : ℕ) × (grid.depth ≡ suc levels) = at_depth grid.depth deep in
    set_image grid at.0 cells at.1 are.inside

accepted_words : (format depth count : ℕ) (words : List ℕ) → IsFormat format → 1 ≤ depth → 0 < length words → (refused_in format depth words count ≡ None) ↔ StandForMany format depth words count
accepted_words format depth count words known deep some =
    let at : (levels : ℕ) × (depth ≡ suc levels) = at_depth depth deep in
    subst (λ d. (refused_in format d words count ≡ None) ↔ StandForMany format d words count) (sym at.1) (
      stand_if_accepted format at.0 count words known some,
      λ many. subst (λ n. refused_in format (suc at.0) words n ≡ None) many.count_is (accepted_if_stand format at.0 words many.cells many.stand),
    )

-- cells for which a framed file's words stand make it their file
file_of : (format : ℕ) (grid : GridShape) (words : List ℕ) (count : ℕ) (bytes : List ℕ) → IsFramed format grid words count bytes → StandForMany format grid.depth words count → IsNodeFile bytes
unfolding image_of
file_of format grid words count bytes framed many = record {
  format = format;
  grid = grid;
  cells = many.cells;
  file = record {
    limits = framed.limits;
    cells_are = many.stand.cells_are;
    image = framed.frame ∙ (ap (λ n. frame_of format grid words n) (sym many.count_is) ∙ ap (λ ws. frame_of format grid ws (length many.cells)) many.stand.words_are);
  };
}

-- the cells of a node file that is framed so
cells_of : (format : ℕ) (grid : GridShape) (words : List ℕ) (count : ℕ) (bytes : List ℕ) → IsFramed format grid words count bytes → IsNodeFile bytes → StandForMany format grid.depth words count
cells_of format grid words count bytes framed file =
    let one : AreOneFrame file.format format file.grid grid (file_words file.format file.grid.depth file.cells) words (length file.cells) count =
    one_frame bytes file.format format file.grid grid (file_words file.format file.grid.depth file.cells) words (length file.cells) count (file_framed file.format file.grid file.cells bytes file.file) framed in
    let depth : file.grid.depth ≡ grid.depth = ap (λ (g : GridShape). g.depth) one.grids in
    record {
      cells = file.cells;
      stand = record {
        cells_are = subst (λ f. AreCellsIn f grid.depth file.cells) one.formats (subst (λ d. AreCellsIn file.format d file.cells) depth file.file.cells_are);
        words_are = sym one.words ∙ (ap (λ d. file_words file.format d file.cells) depth ∙ ap (λ f. file_words f grid.depth file.cells) one.formats);
      };
      count_is = one.counts;
    }

pub accepted_exactly : AreAcceptedExactly
accepted_exactly = record {
  words = accepted_words;
  bytes = λ format grid words count bytes framed.
      let both : (refused_in format grid.depth words count ≡ None) ↔ StandForMany format grid.depth words count = accepted_words format grid.depth count words framed.known framed.limits.halved framed.some in
      (λ accepted. file_of format grid words count bytes framed (both.0 accepted), λ file. both.1 (cells_of format grid words count bytes framed file));
}
