-- A loaded file, and what its named file's bytes are.
use Rattle.std.proofs.Common.{◌≡◌, ℕ, List, length, map, Option, None, Some, sym, ap, subst, ◌∙◌}
use Rattle.std.specs.Prelude.{IfSome}
use Rattle.std.specs.List.{range_with_len}
use Rattle.svo_base.specs.GridShape.{GridShape}
use Rattle.octree_specs.specs.Cells.{Cell}
use Rattle.octree_specs.specs.Checking.{refused_in}
use Rattle.octree_specs.specs.Formats.{AreCellsIn, file_words}
use Rattle.octree_specs.specs.OctreeFile.{IsFramed, frame_of, image_of}
use Rattle.octree_laws.proofs.Frames.{AreOneFrame, one_frame}
use Rattle.octree_laws.proofs.Images.{file_framed}
use Rattle.node_file.specs.FileView.{FileView, IsFileView}
use Rattle.node_file.specs.Loading.{ShowsFile}
use Rattle.node_file.specs.Stored.{word_in, words_in, AreBytes}
use Rattle.svo_top.specs.NodeFiles.{IsRefusedAt, IsRefusedFor, Keeps, KeepsCells, refused_of}
use Rattle.svo_top.specs.declared.outcome.NodeRefusal.TheVariants.{NoFile, NotNodes, Number}
use Rattle.svo_top.proofs.OpenFileAnswers.{keeps_if_accepted}

pub at_some : {T : Type 0} (o : Option T) (x : T) (P : T → Type 0) → o ≡ Some x → IfSome o P → P x
at_some o x P is holds = subst (λ p. IfSome p P) is holds

pub not_two : {T : Type 0} (o : Option T) (x : T) → o ≡ None → o ≡ Some x → ⊥
not_two o x none some = let both : ◌≡◌ {A = Option _} None (Some x) = sym none ∙ some in cc

pub one_value : {T : Type 0} (o : Option T) (x y : T) → o ≡ Some x → o ≡ Some y → x ≡ y
one_value o x y a b = let both : ◌≡◌ {A = Option _} (Some x) (Some y) = sym a ∙ b in cc

-- the named file's bytes are told, and this is what contracts see of them
pub record IsShown (file : FileView) (bytes : Option (List ℕ)) : Type 0 where
  pub content : List ℕ
  pub some : bytes ≡ Some content
  pub are : AreBytes content
  pub shows : ShowsFile file content
  pub framed : IsFileView file

module _ (file : FileView) (bytes : Option (List ℕ)) (shown : IsShown file bytes) where
  abbrev pub words : List ℕ
  words = map (word_in shown.content) (range_with_len 0 file.totals.records)

  pub told : file.words ≡ Some words
  unfolding words_in
  told = shown.shows.told

  pub is_framed : IsFramed file.format file.grid words file.totals.cells shown.content
  is_framed = shown.shows.framed words told shown.are

  -- another framing of these bytes is the same
  one : (format : ℕ) (grid : GridShape) (others : List ℕ) (cells : ℕ) (content : List ℕ) → bytes ≡ Some content → IsFramed format grid others cells content
      → AreOneFrame format file.format grid file.grid others words cells file.totals.cells
  one format grid others cells content is other =
      one_frame shown.content format file.format grid file.grid others words cells file.totals.cells (subst (IsFramed format grid others cells) (one_value bytes content shown.content is shown.some) other) is_framed

  pub framed_as : (format : ℕ) (grid : GridShape) (cells : List Cell) → (keeps : Keeps bytes format grid cells) → AreOneFrame format file.format grid file.grid (file_words format grid.depth cells) words (length cells) file.totals.cells
  framed_as format grid cells keeps =
      one format grid (file_words format grid.depth cells) (length cells) keeps.content keeps.is (file_framed format grid cells keeps.content keeps.file)

  pub keeps_cells : (format : ℕ) (grid : GridShape) (cells : List Cell) → Keeps bytes format grid cells → KeepsCells file cells
  keeps_cells format grid cells keeps =
      let same : AreOneFrame format file.format grid file.grid (file_words format grid.depth cells) words (length cells) file.totals.cells = framed_as format grid cells keeps in
      let depth : grid.depth ≡ file.grid.depth = ap (λ (g : GridShape). g.depth) same.grids in
      record {
        words = words;
        told = told;
        stand = record {
          cells_are = subst (λ f. AreCellsIn f file.grid.depth cells) same.formats (subst (λ d. AreCellsIn format d cells) depth keeps.file.cells_are);
          words_are = sym same.words ∙ (ap (λ d. file_words format d cells) depth ∙ ap (λ f. file_words f file.grid.depth cells) same.formats);
        };
        count = same.counts;
      }

  -- accepted words make the bytes the file of their cells
  pub kept_as : (cells : List Cell) → KeepsCells file cells → Keeps bytes file.format file.grid cells
  unfolding image_of
  kept_as cells keeps =
      let one : keeps.words ≡ words = one_value file.words keeps.words words keeps.told told in
      record {
        content = shown.content;
        is = shown.some;
        file = record {
          limits = is_framed.limits;
          cells_are = keeps.stand.cells_are;
          image = is_framed.frame ∙ (ap (λ n. frame_of file.format file.grid words n) (sym keeps.count) ∙ ap (λ ws. frame_of file.format file.grid ws (length cells)) (sym one ∙ keeps.stand.words_are));
        };
      }

  -- they are such a file where the checker takes them
  pub node_file : refused_of file words ≡ None → (cells : List Cell) × Keeps bytes file.format file.grid cells
  node_file accepted =
      let keeps = keeps_if_accepted file words shown.framed told accepted in
      (keeps.0, kept_as keeps.0 keeps.1)

  -- a number that is refused of the words is refused of the bytes, and the other way
  pub refused_as : (number : ℕ) → refused_of file words ≡ Some number → IsRefusedFor (Number number) bytes
  refused_as number is =
      (shown.content, shown.some, record { format = file.format; grid = file.grid; words = words; cells = file.totals.cells; framed = is_framed; refused = is })

  pub refused_number : (number : ℕ) → IsRefusedFor (Number number) bytes → refused_of file words ≡ Some number
  refused_number number is =
      let at : IsRefusedAt number is.0 = is.2 in
      let same : AreOneFrame at.format file.format at.grid file.grid at.words words at.cells file.totals.cells = one at.format at.grid at.words at.cells is.0 is.1 at.framed in
      subst (λ c. refused_in file.format file.grid.depth words c ≡ Some number) same.counts
      (subst (λ ws. refused_in file.format file.grid.depth ws at.cells ≡ Some number) same.words
      (subst (λ (g : GridShape). refused_in file.format g.depth at.words at.cells ≡ Some number) same.grids
      (subst (λ f. refused_in f at.grid.depth at.words at.cells ≡ Some number) same.formats at.refused)))

  -- they are there and framed
  pub not_missing : IsRefusedFor NoFile bytes → ⊥
  not_missing is = not_two bytes shown.content is shown.some

  pub not_unframed : IsRefusedFor NotNodes bytes → ⊥
  not_unframed is =
      is.2 file.format file.grid words file.totals.cells (subst (IsFramed file.format file.grid words file.totals.cells) (one_value bytes shown.content is.0 shown.some is.1) is_framed)
