-- What the merge of two named files answers, from what their loads, their checks and the walk over both gave.
use Rattle.std.proofs.Common.{◌≡◌, ◌≢◌, ℕ, ◌≤◌, List, length, map, Option, None, Some, Result, Ok, Err, refl, sym, ap, subst, ◌∙◌, inl, inr, arith}
use Rattle.std.specs.Prelude.{IfSome}
use Rattle.std.specs.List.{range_with_len}
use Rattle.svo_base.specs.GridShape.{GridShape}
use Rattle.dev_traits.specs.Change.{Change, StoreChange, IsKept}
use Rattle.dev_traits.specs.Faults.{Rose, DidNotRise}
use Rattle.dev_traits.specs.Files.{NamedFile, file_named, current_bytes}
use Rattle.dev_traits.specs.declared.file_device.NodeStore.{Ghosts}
use Rattle.octree_specs.specs.Cells.{Cell}
use Rattle.octree_specs.specs.Checking.{refused_in}
use Rattle.octree_specs.specs.Formats.{StandFor, file_words}
use Rattle.octree_specs.specs.OctreeFile.{IsFramed, IsFileOf, image_of}
use Rattle.octree_laws.proofs.Frames.{AreOneFrame, one_frame}
use Rattle.octree_laws.proofs.Images.{file_framed}
use Rattle.node_file.specs.FileView.{FileView, IsFileView}
use Rattle.node_file.specs.Loading.{FindsFrame, IsLoaded}
use Rattle.node_file.specs.Stored.{word_in, words_in, AreBytes}
use Rattle.node_file.specs.declared.loading.Frame.{Frame}
use Rattle.node_file.proofs.Loads.{is_loaded, is_framed as is_framed_by}
use Rattle.node_check.specs.Stops.{Puts, HasStopCause}
use Rattle.node_check.specs.declared.stops.AnswerStop.{AnswerStop}
use Rattle.node_check.specs.declared.stops.AnswerStop.TheVariants.{WriteFault, Walk}
use Rattle.node_check.specs.declared.walking.WalkFault.TheVariants as walk
use Rattle.node_merge.specs.Combined.{merged, coarse, coarse_grid}
use Rattle.node_merge.specs.Maps.{IsMapOf, IsMerged, IsCoarse}
use Rattle.node_merge.specs.PairFrames.{FindsFrames, FailsOnlyByRise, HasFirstFrame}
use Rattle.node_merge.specs.Pushing.{PutsMap}
use Rattle.node_merge.specs.Sides.{turn_view}
use Rattle.node_merge.specs.declared.kinds.MergeKind.{MergeKind}
use Rattle.node_merge.specs.declared.pair_loading.Frames.{Frames}
use Rattle.node_merge.specs.declared.pair_loading.PairFault.{PairFault}
use Rattle.node_merge.specs.declared.pair_loading.PairFault.TheVariants as pair
use Rattle.node_merge.specs.declared.pairs.Pair.{Pair}
use Rattle.node_merge.specs.declared.pairs.Turn.TheVariants.{First, Second}
use Rattle.svo_words.specs.declared.combining.MergeWords.{MergeWords}
use Rattle.svo_top.specs.FileQuestion.{Answers}
use Rattle.svo_top.specs.Loaded.{status_of_answer}
use Rattle.svo_top.specs.Merging.{IsFramedFile, IsNodeFile, IsRefusedOfPair, AreNodeFiles, EndsUnwritten, MergesBytes, MayEndMerge, EndsMerge, Merges, StopsMerge, AdmitsPair, IsAccepted, merge_kind_from, status_of_pair}
use Rattle.svo_top.specs.NodeFiles.{Tells, IsRefusedFor, Keeps, KeepsCells, refused_of}
use Rattle.svo_top.specs.declared.outcome.Status.{Status}
use Rattle.svo_top.specs.declared.outcome.Status.TheVariants.{Done, Usage, Input, Range, Device, Refused, Memory}
use Rattle.svo_top.specs.declared.outcome.RangeFault.{RangeFault}
use Rattle.svo_top.specs.declared.outcome.RangeFault.TheVariants.{Grids}
use Rattle.svo_top.specs.declared.outcome.NodeRefusal.{NodeRefusal}
use Rattle.svo_top.specs.declared.outcome.NodeRefusal.TheVariants.{NoFile, NotNodes, Number, WithNoFile, WithNotNodes, WithNumber}
use Rattle.svo_top.specs.declared.outcome.Device.TheVariants.{Read, Scratch, Write, Nodes}
use Rattle.svo_top.proofs.LoadedFiles.{IsShown, at_some, not_two, one_value, words, told, is_framed, framed_as, keeps_cells, node_file, refused_as}
use Rattle.svo_top.proofs.OpenFileAnswers.{clash, answers_later, answers_of, sure_of, unanswered, accepted_if_keeps}

-- ---- one file's bytes are refused for one reason

framed_there : (bytes : Option (List ℕ)) → IsFramedFile bytes → IsRefusedFor NoFile bytes → ⊥
framed_there bytes framed missing = not_two bytes framed.content missing framed.is

framed_so : (bytes : Option (List ℕ)) → IsFramedFile bytes → IsRefusedFor NotNodes bytes → ⊥
framed_so bytes framed other =
    other.2 framed.format framed.grid framed.words framed.cells
    (subst (IsFramed framed.format framed.grid framed.words framed.cells) (one_value bytes framed.content other.0 framed.is other.1) framed.framed)

framed_if_kept : (bytes : Option (List ℕ)) (format : ℕ) (grid : GridShape) (cells : List Cell) → Keeps bytes format grid cells → IsFramedFile bytes
framed_if_kept bytes format grid cells keeps = record {
  content = keeps.content;
  is = keeps.is;
  format = format;
  grid = grid;
  words = file_words format grid.depth cells;
  cells = length cells;
  framed = file_framed format grid cells keeps.content keeps.file;
}

framed_if_refused : (bytes : Option (List ℕ)) (number : ℕ) → IsRefusedFor (Number number) bytes → IsFramedFile bytes
framed_if_refused bytes number is =
    record { content = is.0; is = is.1; format = is.2.format; grid = is.2.grid; words = is.2.words; cells = is.2.cells; framed = is.2.framed }

framed_by : (file : FileView) (bytes : Option (List ℕ)) → IsShown file bytes → IsFramedFile bytes
framed_by file bytes shown =
    record { content = shown.content; is = shown.some; format = file.format; grid = file.grid; words = words file bytes shown; cells = file.totals.cells; framed = is_framed file bytes shown }

framed_if_node : (bytes : Option (List ℕ)) → IsNodeFile bytes → IsFramedFile bytes
framed_if_node bytes node = framed_if_kept bytes node.format node.grid node.cells node.keeps

-- the words of a node file are accepted
kept_accepted : (format : ℕ) (grid : GridShape) (cells : List Cell) (content : List ℕ) → IsFileOf format grid cells content
    → refused_in format grid.depth (file_words format grid.depth cells) (length cells) ≡ None
kept_accepted format grid cells content is =
    let own : List ℕ = file_words format grid.depth cells in
    let framed : IsFramed format grid own (length cells) content = file_framed format grid cells content is in
    let file : FileView = record { format = format; grid = grid; totals = record { records = length own; cells = length cells }; words = Some own } in
    let viewed : IsFileView file = record { known = framed.known; limits = framed.limits; some = omega (arith, framed.some); told = refl } in
    let keeps : KeepsCells file cells = record { words = own; told = refl; stand = record { cells_are = is.cells_are; words_are = refl }; count = refl } in
    accepted_if_keeps file cells viewed keeps

kept_unrefused : (bytes : Option (List ℕ)) (format : ℕ) (grid : GridShape) (cells : List Cell) → Keeps bytes format grid cells → (number : ℕ) → IsRefusedFor (Number number) bytes → ⊥
kept_unrefused bytes format grid cells keeps number is =
    let own : List ℕ = file_words format grid.depth cells in
    let at = is.2 in
    let same : AreOneFrame at.format format at.grid grid at.words own at.cells (length cells) =
    one_frame keeps.content at.format format at.grid grid at.words own at.cells (length cells)
    (subst (IsFramed at.format at.grid at.words at.cells) (one_value bytes is.0 keeps.content is.1 keeps.is) at.framed) (file_framed format grid cells keeps.content keeps.file) in
    let refused : refused_in format grid.depth own (length cells) ≡ Some number =
    subst (λ c. refused_in format grid.depth own c ≡ Some number) same.counts
    (subst (λ ws. refused_in format grid.depth ws at.cells ≡ Some number) same.words
    (subst (λ (g : GridShape). refused_in format g.depth at.words at.cells ≡ Some number) same.grids
    (subst (λ f. refused_in f at.grid.depth at.words at.cells ≡ Some number) same.formats at.refused))) in
    not_two (refused_in format grid.depth own (length cells)) number (kept_accepted format grid cells keeps.content keeps.file) refused

one_number : (bytes : Option (List ℕ)) (m n : ℕ) → IsRefusedFor (Number m) bytes → IsRefusedFor (Number n) bytes → m ≡ n
one_number bytes m n a b =
    let x = a.2 in
    let y = b.2 in
    let same : AreOneFrame x.format y.format x.grid y.grid x.words y.words x.cells y.cells =
    one_frame b.0 x.format y.format x.grid y.grid x.words y.words x.cells y.cells (subst (IsFramed x.format x.grid x.words x.cells) (one_value bytes a.0 b.0 a.1 b.1) x.framed) y.framed in
    let refused : refused_in y.format y.grid.depth y.words y.cells ≡ Some m =
    subst (λ c. refused_in y.format y.grid.depth y.words c ≡ Some m) same.counts
    (subst (λ ws. refused_in y.format y.grid.depth ws x.cells ≡ Some m) same.words
    (subst (λ (g : GridShape). refused_in y.format g.depth x.words x.cells ≡ Some m) same.grids
    (subst (λ f. refused_in f x.grid.depth x.words x.cells ≡ Some m) same.formats x.refused))) in
    one_value (refused_in y.format y.grid.depth y.words y.cells) m n refused y.refused

-- ---- two files' bytes are refused for one reason

module _ (first second : Option (List ℕ)) where
  one_refusal : (a b : NodeRefusal) → IsRefusedOfPair a first second → IsRefusedOfPair b first second → a ≡ b
  one_refusal NoFile NoFile x y = refl
  one_refusal NoFile NotNodes x y = absurd (not_two first y.0 x y.1)
  one_refusal NoFile WithNoFile x (y, z) = absurd (framed_there first y x)
  one_refusal NoFile WithNotNodes x (y, z) = absurd (framed_there first y x)
  one_refusal NoFile (Number n) x (y, z) = absurd (framed_there first (framed_if_refused first n y) x)
  one_refusal NoFile (WithNumber n) x (y, z) = absurd (framed_there first (framed_if_node first y) x)
  one_refusal NotNodes NoFile x y = absurd (not_two first x.0 y x.1)
  one_refusal NotNodes NotNodes x y = refl
  one_refusal NotNodes WithNoFile x (y, z) = absurd (framed_so first y x)
  one_refusal NotNodes WithNotNodes x (y, z) = absurd (framed_so first y x)
  one_refusal NotNodes (Number n) x (y, z) = absurd (framed_so first (framed_if_refused first n y) x)
  one_refusal NotNodes (WithNumber n) x (y, z) = absurd (framed_so first (framed_if_node first y) x)
  one_refusal WithNoFile NoFile (x, w) y = absurd (framed_there first x y)
  one_refusal WithNoFile NotNodes (x, w) y = absurd (framed_so first x y)
  one_refusal WithNoFile WithNoFile x y = refl
  one_refusal WithNoFile WithNotNodes (x, w) (y, z) = absurd (not_two second z.0 w z.1)
  one_refusal WithNoFile (Number n) (x, w) (y, z) = absurd (framed_there second z w)
  one_refusal WithNoFile (WithNumber n) (x, w) (y, z) = absurd (framed_there second (framed_if_refused second n z) w)
  one_refusal WithNotNodes NoFile (x, w) y = absurd (framed_there first x y)
  one_refusal WithNotNodes NotNodes (x, w) y = absurd (framed_so first x y)
  one_refusal WithNotNodes WithNoFile (x, w) (y, z) = absurd (not_two second w.0 z w.1)
  one_refusal WithNotNodes WithNotNodes x y = refl
  one_refusal WithNotNodes (Number n) (x, w) (y, z) = absurd (framed_so second z w)
  one_refusal WithNotNodes (WithNumber n) (x, w) (y, z) = absurd (framed_so second (framed_if_refused second n z) w)
  one_refusal (Number m) NoFile (x, w) y = absurd (framed_there first (framed_if_refused first m x) y)
  one_refusal (Number m) NotNodes (x, w) y = absurd (framed_so first (framed_if_refused first m x) y)
  one_refusal (Number m) WithNoFile (x, w) (y, z) = absurd (framed_there second w z)
  one_refusal (Number m) WithNotNodes (x, w) (y, z) = absurd (framed_so second w z)
  one_refusal (Number m) (Number n) (x, w) (y, z) = ap Number (one_number first m n x y)
  one_refusal (Number m) (WithNumber n) (x, w) (y, z) = absurd (kept_unrefused first y.format y.grid y.cells y.keeps m x)
  one_refusal (WithNumber m) NoFile (x, w) y = absurd (framed_there first (framed_if_node first x) y)
  one_refusal (WithNumber m) NotNodes (x, w) y = absurd (framed_so first (framed_if_node first x) y)
  one_refusal (WithNumber m) WithNoFile (x, w) (y, z) = absurd (framed_there second (framed_if_refused second m w) z)
  one_refusal (WithNumber m) WithNotNodes (x, w) (y, z) = absurd (framed_so second (framed_if_refused second m w) z)
  one_refusal (WithNumber m) (Number n) (x, w) (y, z) = absurd (kept_unrefused first x.format x.grid x.cells x.keeps n y)
  one_refusal (WithNumber m) (WithNumber n) (x, w) (y, z) = ap WithNumber (one_number second m n w z)

  -- and those of two node files for none
  kept_pair : (one other : GridShape) → AreNodeFiles first second one other → (refusal : NodeRefusal) → IsRefusedOfPair refusal first second → ⊥
  kept_pair one other files NoFile is = framed_there first (framed_if_kept first files.first_format one files.first_cells files.first_keeps) is
  kept_pair one other files NotNodes is = framed_so first (framed_if_kept first files.first_format one files.first_cells files.first_keeps) is
  kept_pair one other files WithNoFile (framed, is) = framed_there second (framed_if_kept second files.second_format other files.second_cells files.second_keeps) is
  kept_pair one other files WithNotNodes (framed, is) = framed_so second (framed_if_kept second files.second_format other files.second_cells files.second_keeps) is
  kept_pair one other files (Number number) (is, framed) = kept_unrefused first files.first_format one files.first_cells files.first_keeps number is
  kept_pair one other files (WithNumber number) (node, is) = kept_unrefused second files.second_format other files.second_cells files.second_keeps number is

-- ---- a merge that was stopped before it put anything out

same_refusal : (one refusal : NodeRefusal) → Refused one ≡ Refused refusal → one ≡ refusal
same_refusal one refusal e = cc

module _ (kind : MergeKind) (first second : Option (List ℕ)) (out : Change) (before after : ℕ) (kept : IsKept out) where
  at_once : (wanted status : Status) → (DidNotRise before after → status ≡ wanted) → EndsUnwritten wanted out before after status
  at_once wanted status is = record { unwritten = kept; is = is }

  -- the store failed
  failed_pair : Rose before after → MergesBytes kind first second out before after (Device Nodes)
  failed_pair rose = record {
    refused = λ refusal e. absurd cc;
    refuses = λ refusal is. at_once (Refused refusal) (Device Nodes) (λ quiet. absurd (clash before after rose quiet));
    parted = λ e. absurd cc;
    parts = λ one other files differ. at_once (Range Grids) (Device Nodes) (λ quiet. absurd (clash before after rose quiet));
    accepted = λ comes. absurd comes;
    merges = λ grid files. unanswered out before after kept _ (Device Nodes) (λ e. cc) (λ a quiet. absurd (clash before after rose quiet));
  }

  refused_pair : (refusal : NodeRefusal) → IsRefusedOfPair refusal first second → MergesBytes kind first second out before after (Refused refusal)
  refused_pair refusal is = record {
    refused = λ other e. subst (λ r. IsRefusedOfPair r first second) (same_refusal refusal other e) is;
    refuses = λ other are. at_once (Refused other) (Refused refusal) (λ quiet. ap Refused (one_refusal first second refusal other is are));
    parted = λ e. absurd cc;
    parts = λ one other files differ. absurd (kept_pair first second one other files refusal is);
    accepted = λ comes. absurd comes;
    merges = λ grid files. absurd (kept_pair first second grid grid files refusal is);
  }

  -- a file was not loaded
  first_framed : IfSome first AreBytes → (frame : Frame) → HasFirstFrame first frame → IsFramedFile first
  first_framed are frame ((b, is, has), some) = record {
    content = b;
    is = is;
    format = frame.format;
    grid = frame.grid;
    words = map (word_in b) (range_with_len 0 frame.totals.records);
    cells = frame.totals.cells;
    framed = is_framed_by frame b has some (at_some first b AreBytes is are);
  }

  load_of : IfSome first AreBytes → (fault : PairFault) → FindsFrames first second (Err fault) → FailsOnlyByRise {T = Frames} before after (Err fault)
      → MergesBytes kind first second out before after (status_of_pair fault)
  load_of are pair.NoFirst found cause = refused_pair NoFile found
  load_of are pair.First found cause = refused_pair NotNodes found
  load_of are pair.NoSecond (frame, has, none) cause = refused_pair WithNoFile (first_framed are frame has, none)
  load_of are pair.Second (frame, has, other) cause = refused_pair WithNotNodes (first_framed are frame has, other)
  load_of are pair.Failed found cause = failed_pair (cause.failed refl)

rose_later : (before between after : ℕ) → before ≤ between → Rose between after → Rose before after
rose_later before between after early (inl rose) = inl (omega (arith, early, rose))
rose_later before between after early (inr last) = inr last

-- ---- two files that were loaded

module _ (kind : MergeKind) (one other : FileView) (first second : Option (List ℕ)) (first_shown : IsShown one first) (second_shown : IsShown other second)
    (out : Change) (before between after : ℕ) (early : before ≤ between) where
  grids_are : (g h : GridShape) → AreNodeFiles first second g h → (g ≡ one.grid) × (h ≡ other.grid)
  grids_are g h files = (
    (framed_as one first first_shown files.first_format g files.first_cells files.first_keeps).grids,
    (framed_as other second second_shown files.second_format h files.second_cells files.second_keeps).grids,
  )

  first_accepted : IsAccepted one → refused_of one (words one first first_shown) ≡ None
  first_accepted accepted = at_some one.words (words one first first_shown) (λ ws. refused_of one ws ≡ None) (told one first first_shown) accepted

  second_accepted : IsAccepted other → refused_of other (words other second second_shown) ≡ None
  second_accepted accepted = at_some other.words (words other second second_shown) (λ ws. refused_of other ws ≡ None) (told other second second_shown) accepted

  both_files : IsAccepted one → IsAccepted other → AreNodeFiles first second one.grid other.grid
  both_files a b =
      let x = node_file one first first_shown (first_accepted a) in
      let y = node_file other second second_shown (second_accepted b) in
      record { first_format = one.format; first_cells = x.0; first_keeps = x.1; second_format = other.format; second_cells = y.0; second_keeps = y.1 }

  parted_pair : IsKept out → IsAccepted one → IsAccepted other → other.grid ≢ one.grid → MergesBytes kind first second out before after (Range Grids)
  parted_pair kept a b differ = record {
    refused = λ refusal e. absurd cc;
    refuses = λ refusal is. absurd (kept_pair first second one.grid other.grid (both_files a b) refusal is);
    parted = λ e. (one.grid, other.grid, both_files a b, differ);
    parts = λ g h files unlike. record { unwritten = kept; is = λ quiet. refl };
    accepted = λ comes. absurd comes;
    merges = λ grid files. let grids = grids_are grid grid files in absurd (differ (sym grids.1 ∙ grids.0));
  }

  pub stopped_pair : IsKept out → (status : Status) → AdmitsPair {T = Unit {0}} one other between after (Err status) → MergesBytes kind first second out before after status
  stopped_pair kept Done admits = absurd admits
  stopped_pair kept (Usage usage) admits = absurd admits
  stopped_pair kept (Input input place) admits = absurd admits
  stopped_pair kept (Range fault) (is, a, b, differ) =
      subst (λ (f : RangeFault). MergesBytes kind first second out before after (Range f)) (sym is) (parted_pair kept a b differ)
  stopped_pair kept (Device Read) admits = absurd admits
  stopped_pair kept (Device Scratch) admits = absurd admits
  stopped_pair kept (Device Write) admits = absurd admits
  stopped_pair kept (Device Nodes) admits = failed_pair kind first second out before after kept (rose_later before between after early admits)
  stopped_pair kept (Refused NoFile) admits = absurd admits
  stopped_pair kept (Refused NotNodes) admits = absurd admits
  stopped_pair kept (Refused WithNoFile) admits = absurd admits
  stopped_pair kept (Refused WithNotNodes) admits = absurd admits
  stopped_pair kept (Refused (Number number)) admits =
      let refused = refused_as one first first_shown number (at_some one.words (words one first first_shown) (λ ws. refused_of one ws ≡ Some number) (told one first first_shown) admits) in
      refused_pair kind first second out before after kept (Number number) (refused, framed_by other second second_shown)
  stopped_pair kept (Refused (WithNumber number)) (a, admits) =
      let node = node_file one first first_shown (first_accepted a) in
      let refused = refused_as other second second_shown number (at_some other.words (words other second second_shown) (λ ws. refused_of other ws ≡ Some number) (told other second second_shown) admits) in
      refused_pair kind first second out before after kept (WithNumber number) (record { format = one.format; grid = one.grid; cells = node.0; keeps = node.1 }, refused)
  stopped_pair kept Memory admits = absurd admits

  -- both maps stand for the words that are told
  map_of : (file : FileView) (cells : List Cell) → KeepsCells file cells → IsMapOf file cells
  map_of file cells keeps = record { words = keeps.words; told = keeps.told; stand = keeps.stand }

  module _ {T : Type 0} (result : Result T AnswerStop) (put : PutsMap one.grid (IsMerged kind one other) out.before out.after result) where
    put_of : (g h : GridShape) → (files : AreNodeFiles first second g h) → Puts out.before out.after (image_of 2 one.grid (merged kind one.grid.depth files.first_cells files.second_cells)) result
    put_of g h files = put (merged kind one.grid.depth files.first_cells files.second_cells) (record {
      first_cells = files.first_cells;
      first_map = map_of one files.first_cells (keeps_cells one first first_shown files.first_format g files.first_cells files.first_keeps);
      second_cells = files.second_cells;
      second_map = map_of other files.second_cells (keeps_cells other second second_shown files.second_format h files.second_cells files.second_keeps);
      cells_are = refl;
    })

    pub merged_pair : between ≤ after → IsAccepted one → IsAccepted other → other.grid ≡ one.grid → HasStopCause out.faults_before out.faults_after between after result
        → MergesBytes kind first second out before after (status_of_answer result)
    merged_pair late a b same cause = record {
      refused = λ refusal e. absurd (sure_of _ out result (put_of one.grid other.grid (both_files a b)) refusal e);
      refuses = λ refusal is. absurd (kept_pair first second one.grid other.grid (both_files a b) refusal is);
      parted = λ e. absurd (no_range result e);
      parts = λ g h files unlike. let grids = grids_are g h files in absurd (unlike (grids.1 ∙ (same ∙ sym grids.0)));
      accepted = λ comes. (one.grid, subst (λ (g : GridShape). AreNodeFiles first second one.grid g) same (both_files a b));
      merges = λ grid files.
          let grids = grids_are grid grid files in
          subst (λ (g : GridShape). Answers (image_of 2 g (merged kind g.depth files.first_cells files.second_cells)) out before after (status_of_answer result)) (sym grids.0)
          (answers_later _ out before between after (status_of_answer result) early late (answers_of _ out between after result (put_of grid grid files) cause));
    }
      where
        no_range : (r : Result T AnswerStop) → status_of_answer r ≡ Range Grids → ⊥
        no_range (Ok done) e = cc
        no_range (Err WriteFault) e = cc
        no_range (Err (Walk walk.Failed)) e = cc
        no_range (Err (Walk (walk.Refused number word))) e = cc

-- a pair whose files are the same puts out the same
pub put_as : {T : Type 0} (kind way : MergeKind) (one other now then : FileView) (before after : Option (List ℕ)) (result : Result T AnswerStop) → kind ≡ way → one ≡ now → other ≡ then
    → PutsMap one.grid (IsMerged kind one other) before after result → PutsMap now.grid (IsMerged way now then) before after result
put_as kind way one other now then before after result ways ones others put =
    subst (λ (k : MergeKind). PutsMap now.grid (IsMerged k now then) before after result) ways
    (subst (λ (file : FileView). PutsMap now.grid (IsMerged kind now file) before after result) others
    (subst (λ (file : FileView). PutsMap file.grid (IsMerged kind file other) before after result) ones put))

-- a stop puts out a front, whatever would have been answered
stop_as : (T U : Type 0) (text : List ℕ) (before after : Option (List ℕ)) (stop : AnswerStop) → Puts {T = T} before after text (Err stop) → Puts {T = U} before after text (Err stop)
stop_as T U text before after WriteFault put = put
stop_as T U text before after (Walk walk.Failed) put = put
stop_as T U text before after (Walk (walk.Refused number word)) put = absurd put

-- what is put out of a coarser map until a stop is of each map that told words stand for
pub coarse_stop : (T U : Type 0) (file : FileView) (levels : ℕ) (before after : Option (List ℕ)) (stop : AnswerStop)
    → PutsMap {T = T} (coarse_grid levels file.grid) (IsCoarse file levels) before after (Err stop)
    → IfSome file.words (λ words. (cells : List Cell) → StandFor file.format file.grid.depth words cells → Puts {T = U} before after (image_of 2 (coarse_grid levels file.grid) (coarse levels file.grid.depth cells)) (Err stop))
coarse_stop T U file levels before after stop put = go file.words refl
  where
    go : (o : Option (List ℕ)) → file.words ≡ o
        → IfSome o (λ words. (cells : List Cell) → StandFor file.format file.grid.depth words cells → Puts {T = U} before after (image_of 2 (coarse_grid levels file.grid) (coarse levels file.grid.depth cells)) (Err stop))
    go None is = tt
    go (Some own) is = λ cells stand.
        stop_as T U (image_of 2 (coarse_grid levels file.grid) (coarse levels file.grid.depth cells)) before after stop
        (put (coarse levels file.grid.depth cells) (record { fine_cells = cells; fine_map = record { words = own; told = is; stand = stand }; cells_are = refl }))

-- ---- how it ends, whatever is told

load_ends : (out : Change) (before after : ℕ) (fault : PairFault) → FailsOnlyByRise {T = Frames} before after (Err fault) → EndsMerge out before after (status_of_pair fault)
load_ends out before after pair.NoFirst cause = record { may = tt; written = λ e. absurd cc; looked = λ e. absurd cc; parted = λ e. absurd cc }
load_ends out before after pair.First cause = record { may = tt; written = λ e. absurd cc; looked = λ e. absurd cc; parted = λ e. absurd cc }
load_ends out before after pair.NoSecond cause = record { may = tt; written = λ e. absurd cc; looked = λ e. absurd cc; parted = λ e. absurd cc }
load_ends out before after pair.Second cause = record { may = tt; written = λ e. absurd cc; looked = λ e. absurd cc; parted = λ e. absurd cc }
load_ends out before after pair.Failed cause = record { may = tt; written = λ e. absurd cc; looked = λ e. cause.failed refl; parted = λ e. absurd cc }

module _ (out : Change) (before between after : ℕ) (early : before ≤ between) where
  pub stop_ends : (one other : FileView) → IsKept out → (status : Status) → AdmitsPair {T = Unit {0}} one other between after (Err status) → EndsMerge out before after status
  stop_ends one other kept Done admits = absurd admits
  stop_ends one other kept (Usage usage) admits = absurd admits
  stop_ends one other kept (Input input place) admits = absurd admits
  stop_ends one other kept (Range fault) (is, a, b, differ) = record { may = is; written = λ e. absurd cc; looked = λ e. absurd cc; parted = λ e. kept }
  stop_ends one other kept (Device Read) admits = absurd admits
  stop_ends one other kept (Device Scratch) admits = absurd admits
  stop_ends one other kept (Device Write) admits = absurd admits
  stop_ends one other kept (Device Nodes) admits = record { may = tt; written = λ e. absurd cc; looked = λ e. rose_later before between after early admits; parted = λ e. absurd cc }
  stop_ends one other kept (Refused refusal) admits = record { may = tt; written = λ e. absurd cc; looked = λ e. absurd cc; parted = λ e. absurd cc }
  stop_ends one other kept Memory admits = absurd admits

  pub merge_ends : {T : Type 0} (result : Result T AnswerStop) → HasStopCause out.faults_before out.faults_after between after result → EndsMerge out before after (status_of_answer result)
  merge_ends (Ok done) cause = record { may = tt; written = λ e. absurd cc; looked = λ e. absurd cc; parted = λ e. absurd cc }
  merge_ends (Err WriteFault) cause = record { may = tt; written = λ e. cause.written refl; looked = λ e. absurd cc; parted = λ e. absurd cc }
  merge_ends (Err (Walk walk.Failed)) cause = record { may = tt; written = λ e. absurd cc; looked = λ e. rose_later before between after early (cause.read refl); parted = λ e. absurd cc }
  merge_ends (Err (Walk (walk.Refused number word))) cause = record { may = tt; written = λ e. absurd cc; looked = λ e. absurd cc; parted = λ e. absurd cc }

pub stops_of : (out : Change) (before after : ℕ) (status : Status) → EndsMerge out before after status → StopsMerge status
stops_of out before after status ends = record {
  usage = λ usage e. subst MayEndMerge e ends.may;
  only = λ fault e. subst MayEndMerge e ends.may;
  reads = λ input place e. subst MayEndMerge e ends.may;
  unread = λ e. subst MayEndMerge e ends.may;
  unspilled = λ e. subst MayEndMerge e ends.may;
  remembers = λ e. subst MayEndMerge e ends.may;
}

-- ---- over the store

module _ (asked : MergeWords) (out : Change) (nodes : StoreChange) where
  -- the second name's bytes, by the files that the first name was told of
  second_named : (first second : Option (List ℕ)) → (tells : Tells nodes asked.nodes first) → Tells nodes asked.with second → file_named tells.files asked.with ≡ second
  second_named first second tells others =
      ap (λ (files : List NamedFile). file_named files asked.with) (one_value nodes.before tells.files others.files tells.told others.told) ∙ others.named

  pub not_loaded : IsKept out → (fault : PairFault) → IfSome nodes.before (λ files. FindsFrames (file_named files asked.nodes) (file_named files asked.with) (Err fault))
      → FailsOnlyByRise {T = Frames} nodes.faults_before nodes.faults_after (Err fault) → Merges asked out nodes (status_of_pair fault)
  not_loaded kept fault found cause = record {
    told = λ first second tells others.
        let there : FindsFrames (file_named tells.files asked.nodes) (file_named tells.files asked.with) (Err fault) =
        at_some nodes.before tells.files (λ files. FindsFrames (file_named files asked.nodes) (file_named files asked.with) (Err fault)) tells.told found in
        load_of (merge_kind_from asked.kind) first second out nodes.faults_before nodes.faults_after kept tells.are fault
        (subst (λ b. FindsFrames b second (Err fault)) tells.named (subst (λ b. FindsFrames (file_named tells.files asked.nodes) b (Err fault)) (second_named first second tells others) there)) cause;
    ends = load_ends out nodes.faults_before nodes.faults_after fault cause;
  }

  -- what contracts see of a file that was loaded by its name
  shown_by : (name : List ℕ) (file : FileView) (bytes : Option (List ℕ)) → IsFileView file → IfSome nodes.before (λ files. IsLoaded {T = FileView} (λ f. f) (file_named files name) (Ok file))
      → Tells nodes name bytes → IsShown file bytes
  shown_by name file bytes framed loaded tells =
      let there = at_some nodes.before tells.files (λ files. IsLoaded {T = FileView} (λ f. f) (file_named files name) (Ok file)) tells.told loaded in
      let some : bytes ≡ Some there.0 = sym tells.named ∙ there.1 in
      record { content = there.0; some = some; are = at_some bytes there.0 AreBytes some tells.are; shows = there.2; framed = framed }

  -- `after` is the count of the store once it is known again
  pub loaded_pair : (one other : FileView) (after : ℕ) (status : Status) → nodes.faults_after ≡ after → IsFileView one → IsFileView other
      → IfSome nodes.before (λ files. IsLoaded {T = FileView} (λ f. f) (file_named files asked.nodes) (Ok one))
      → IfSome nodes.before (λ files. IsLoaded {T = FileView} (λ f. f) (file_named files asked.with) (Ok other))
      → ((first second : Option (List ℕ)) → IsShown one first → IsShown other second → MergesBytes (merge_kind_from asked.kind) first second out nodes.faults_before after status)
      → EndsMerge out nodes.faults_before after status → Merges asked out nodes status
  loaded_pair one other after status known one_framed other_framed one_loaded other_loaded means ends = record {
    told = λ first second tells others.
        subst (λ n. MergesBytes (merge_kind_from asked.kind) first second out nodes.faults_before n status) (sym known)
        (means first second (shown_by asked.nodes one first one_framed one_loaded tells) (shown_by asked.with other second other_framed other_loaded others));
    ends = subst (λ n. EndsMerge out nodes.faults_before n status) (sym known) ends;
  }

-- the files of a pair as their frames were found
module _ {N : Type 0} {g : Ghosts N} (loaded : Pair N g) (frames : Frames) (first second : List ℕ) (telling : Option (List NamedFile)) (same : g.files loaded.store.now ≡ telling)
    (found : IfSome telling (λ files. FindsFrames (file_named files first) (file_named files second) (Ok frames))) where
  found_in : (told : Option (List NamedFile)) → IfSome told (λ files. FindsFrames (file_named files first) (file_named files second) (Ok frames))
      → IfSome told (λ files. FindsFrame (file_named files first) (Ok frames.first)) × IfSome told (λ files. FindsFrame (file_named files second) (Ok frames.second))
  found_in None both = (tt, tt)
  found_in (Some files) (one, other) = (one, other)

  pub first_loaded : loaded.first.frame ≡ frames.first → loaded.first.name.now ≡ first → 1 ≤ frames.first.totals.records
      → IfSome telling (λ files. IsLoaded {T = FileView} (λ f. f) (file_named files first) (Ok (turn_view First loaded)))
  first_loaded frame name some =
      is_loaded {T = FileView} (λ f. f) first (turn_view First loaded) frames.first telling (g.files loaded.store.now) (Some first) (found_in telling found).0 same refl
      (λ i. record {
        format = (frame i).format;
        grid = (frame i).grid;
        totals = (frame i).totals;
        words = words_in (current_bytes (g.files loaded.store.now) (Some (name i))) (frame i).totals.records;
      }) some

  pub second_loaded : loaded.second.frame ≡ frames.second → loaded.second.name.now ≡ second → 1 ≤ frames.second.totals.records
      → IfSome telling (λ files. IsLoaded {T = FileView} (λ f. f) (file_named files second) (Ok (turn_view Second loaded)))
  second_loaded frame name some =
      is_loaded {T = FileView} (λ f. f) second (turn_view Second loaded) frames.second telling (g.files loaded.store.now) (Some second) (found_in telling found).1 same refl
      (λ i. record {
        format = (frame i).format;
        grid = (frame i).grid;
        totals = (frame i).totals;
        words = words_in (current_bytes (g.files loaded.store.now) (Some (name i))) (frame i).totals.records;
      }) some
