-- What a question answers of a named file, from what its load and its parts gave.
use Rattle.std.proofs.Common.{◌≡◌, ℕ, ◌≤◌, List, length, Option, None, Some, Ok, Err, refl, sym, subst, ◌∙◌, inl, inr, arith}
use Rattle.std.specs.Prelude.{IfSome, Bool, true, false, if◌then◌else◌}
use Rattle.dev_traits.specs.Change.{Change, StoreChange, IsKept}
use Rattle.dev_traits.specs.Faults.{Rose, DidNotRise}
use Rattle.dev_traits.specs.Files.{NamedFile, file_named}
use Rattle.svo_base.specs.GridShape.{GridShape}
use Rattle.octree_specs.specs.Cells.{Cell}
use Rattle.octree_specs.specs.Formats.{file_words}
use Rattle.octree_specs.specs.OctreeFile.{IsFramed}
use Rattle.octree_laws.proofs.Images.{file_framed}
use Rattle.node_file.specs.FileView.{FileView, IsFileView}
use Rattle.node_file.specs.Loading.{IsUnframed, FindsFrame, FailsOnlyByFault, IsLoaded}
use Rattle.node_file.specs.Stored.{AreBytes}
use Rattle.node_file.specs.declared.loading.Frame.{Frame}
use Rattle.node_file.specs.declared.loading.LoadFault.{LoadFault}
use Rattle.node_file.specs.declared.loading.LoadFault.TheVariants as load
use Rattle.ray_answers.specs.QueryTexts.{queries_of}
use Rattle.ray_answers.specs.declared.stops.LineStop.{LineStop}
use Rattle.svo_top.specs.InputLines.{EndsText}
use Rattle.svo_top.specs.FileAnswers.{bar, is_code, is_coarser}
use Rattle.svo_top.specs.Picturing.{is_layer}
use Rattle.svo_top.specs.FileQuestion.{Works, Admits, AsksFile, AsksBytes, EndsAtOnce, IsLate, NeedsGrid, Ends, Reads, Asks, keeps_blocks}
use Rattle.svo_top.specs.Loaded.{status_of_load}
use Rattle.svo_top.specs.NodeFiles.{Tells, IsRefusedFor, Keeps}
use Rattle.svo_top.specs.declared.file_question.Question.{Question}
use Rattle.svo_top.specs.declared.file_question.Question.TheVariants as question
use Rattle.svo_top.specs.declared.outcome.Status.{Status}
use Rattle.svo_top.specs.declared.outcome.Status.TheVariants.{Done, Usage, Input, Range, Device, Refused, Memory}
use Rattle.svo_top.specs.declared.outcome.RangeFault.{RangeFault}
use Rattle.svo_top.specs.declared.outcome.RangeFault.TheVariants.{Code, Levels, Slice as BadSlice}
use Rattle.svo_top.specs.declared.outcome.NodeRefusal.{NodeRefusal}
use Rattle.svo_top.specs.declared.outcome.NodeRefusal.TheVariants.{NoFile, NotNodes, Number, WithNoFile, WithNotNodes, WithNumber}
use Rattle.svo_top.specs.declared.outcome.Device.TheVariants.{Read, Scratch, Write, Nodes}
use Rattle.svo_top.proofs.LoadedFiles.{IsShown, at_some, not_two, one_value, words, told, framed_as, keeps_cells, node_file, refused_as, refused_number, not_missing, not_unframed}
use Rattle.svo_top.proofs.OpenFileAnswers.{clash, later_quiet, works_failed, works_later}

same_refusal : (one refusal : NodeRefusal) → Refused one ≡ Refused refusal → one ≡ refusal
same_refusal one refusal e = cc

-- ---- a file that is not loaded

module _ (question : Question) (bytes : Option (List ℕ)) (input out : Change) (before after : ℕ) (unread : IsKept input) (unwritten : IsKept out) where
  at_once : (wanted status : Status) → (DidNotRise before after → status ≡ wanted) → EndsAtOnce wanted input out before after status
  at_once wanted status is = record { unread = unread; unwritten = unwritten; is = is }

  -- the store failed
  failed_load : Rose before after → AsksBytes question bytes input out before after (Device Nodes)
  failed_load rose = record {
    refused = λ refusal e. absurd cc;
    refuses = λ refusal is. at_once (Refused refusal) (Device Nodes) (λ quiet. absurd (clash before after rose quiet));
    barred = λ fault needs e. absurd cc;
    bars = λ format grid cells fault keeps is. at_once (Range fault) (Device Nodes) (λ quiet. absurd (clash before after rose quiet));
    accepted = λ comes. absurd comes;
    works = λ format grid cells keeps free. works_failed out before after unwritten question format grid cells input unread rose;
  }

  -- no file has the name
  missing : bytes ≡ None → AsksBytes question bytes input out before after (Refused NoFile)
  missing none = record {
    refused = λ refusal e. subst (λ r. IsRefusedFor r bytes) (same_refusal NoFile refusal e) none;
    refuses = refuses_missing;
    barred = λ fault needs e. absurd cc;
    bars = λ format grid cells fault keeps is. absurd (not_two bytes keeps.content none keeps.is);
    accepted = λ comes. absurd comes;
    works = λ format grid cells keeps free. absurd (not_two bytes keeps.content none keeps.is);
  }
    where
      refuses_missing : (refusal : NodeRefusal) → IsRefusedFor refusal bytes → EndsAtOnce (Refused refusal) input out before after (Refused NoFile)
      refuses_missing NoFile is = at_once (Refused NoFile) (Refused NoFile) (λ quiet. refl)
      refuses_missing NotNodes is = absurd (not_two bytes is.0 none is.1)
      refuses_missing (Number number) is = absurd (not_two bytes is.0 none is.1)
      refuses_missing WithNoFile is = absurd is
      refuses_missing WithNotNodes is = absurd is
      refuses_missing (WithNumber number) is = absurd is

  -- the file is not framed
  unframed : (b : List ℕ) → bytes ≡ Some b → IsUnframed b → AsksBytes question bytes input out before after (Refused NotNodes)
  unframed b some other = record {
    refused = λ refusal e. subst (λ r. IsRefusedFor r bytes) (same_refusal NotNodes refusal e) (b, some, other);
    refuses = refuses_unframed;
    barred = λ fault needs e. absurd cc;
    bars = λ format grid cells fault keeps is. absurd (no_file format grid cells keeps);
    accepted = λ comes. absurd comes;
    works = λ format grid cells keeps free. absurd (no_file format grid cells keeps);
  }
    where
      no_file : (format : ℕ) (grid : GridShape) (cells : List Cell) → Keeps bytes format grid cells → ⊥
      no_file format grid cells keeps =
          let framed : IsFramed format grid (file_words format grid.depth cells) (length cells) keeps.content = file_framed format grid cells keeps.content keeps.file in
          other format grid (file_words format grid.depth cells) (length cells)
          (subst (IsFramed format grid (file_words format grid.depth cells) (length cells)) (one_value bytes keeps.content b keeps.is some) framed)

      refuses_unframed : (refusal : NodeRefusal) → IsRefusedFor refusal bytes → EndsAtOnce (Refused refusal) input out before after (Refused NotNodes)
      refuses_unframed NoFile is = absurd (not_two bytes b is some)
      refuses_unframed NotNodes is = at_once (Refused NotNodes) (Refused NotNodes) (λ quiet. refl)
      refuses_unframed (Number number) is =
          absurd (other is.2.format is.2.grid is.2.words is.2.cells (subst (IsFramed is.2.format is.2.grid is.2.words is.2.cells) (one_value bytes is.0 b is.1 some) is.2.framed))
      refuses_unframed WithNoFile is = absurd is
      refuses_unframed WithNotNodes is = absurd is
      refuses_unframed (WithNumber number) is = absurd is

  load_of : (fault : LoadFault) → FindsFrame bytes (Err fault) → FailsOnlyByFault {T = Frame} before after (Err fault) → AsksBytes question bytes input out before after (status_of_load fault)
  load_of load.NoFile found cause = missing found
  load_of load.NotNodes found cause = unframed found.0 found.1 found.2
  load_of load.Failed found cause = failed_load (cause.failed refl)

pub not_loaded : (question : Question) (name : List ℕ) (input out : Change) (nodes : StoreChange) → IsKept input → IsKept out → (fault : LoadFault)
    → IfSome nodes.before (λ files. FindsFrame (file_named files name) (Err fault)) → FailsOnlyByFault {T = Frame} nodes.faults_before nodes.faults_after (Err fault)
    → (bytes : Option (List ℕ)) → Tells nodes name bytes → AsksBytes question bytes input out nodes.faults_before nodes.faults_after (status_of_load fault)
not_loaded question name input out nodes unread unwritten fault found cause bytes tells =
    let there : FindsFrame (file_named tells.files name) (Err fault) = at_some nodes.before tells.files (λ files. FindsFrame (file_named files name) (Err fault)) tells.told found in
    load_of question bytes input out nodes.faults_before nodes.faults_after unread unwritten fault (subst (λ b. FindsFrame b (Err fault)) tells.named there) cause

-- ---- a file that is loaded

module _ (question : Question) (file : FileView) (bytes : Option (List ℕ)) (shown : IsShown file bytes)
    (input out : Change) (before between after : ℕ) (early : before ≤ between) (late : between ≤ after) (status : Status) (asks : AsksFile question file input out between after status) where
  abbrev file_words_told : List ℕ
  file_words_told = words file bytes shown

  file_told : file.words ≡ Some file_words_told
  file_told = told file bytes shown

  earlier : (wanted : Status) → EndsAtOnce wanted input out between after status → EndsAtOnce wanted input out before after status
  earlier wanted ends = record { unread = ends.unread; unwritten = ends.unwritten; is = λ quiet. ends.is (later_quiet before between after early late quiet) }

  refuses_for : (refusal : NodeRefusal) → IsRefusedFor refusal bytes → EndsAtOnce (Refused refusal) input out before after status
  refuses_for NoFile is = absurd (not_missing file bytes shown is)
  refuses_for NotNodes is = absurd (not_unframed file bytes shown is)
  refuses_for (Number number) is = earlier (Refused (Number number)) (asks.refuses file_words_told number file_told (refused_number file bytes shown number is))
  refuses_for WithNoFile is = absurd is
  refuses_for WithNotNodes is = absurd is
  refuses_for (WithNumber number) is = absurd is

  pub loaded : AsksBytes question bytes input out before after status
  loaded = record {
    refused = λ refusal e.
        let named = asks.refused file_words_told refusal file_told e in
        subst (λ r. IsRefusedFor r bytes) (sym named.1) (refused_as file bytes shown named.0 named.2);
    refuses = refuses_for;
    barred = λ fault needs e.
        let named = asks.barred file_words_told fault file_told needs e in
        let keeps = node_file file bytes shown named.0 in
        (file.format, file.grid, keeps.0, keeps.1, named.1);
    bars = λ format grid cells fault keeps is.
        let grids : grid ≡ file.grid = (framed_as file bytes shown format grid cells keeps).grids in
        earlier (Range fault) (asks.bars cells fault (keeps_cells file bytes shown format grid cells keeps) (subst (λ (g : GridShape). bar question g.depth ≡ Some fault) grids is));
    accepted = λ comes.
        let free = asks.accepted file_words_told file_told comes in
        let keeps = node_file file bytes shown free.0 in
        (file.format, file.grid, keeps.0, keeps.1, free.1);
    works = λ format grid cells keeps free.
        let same = framed_as file bytes shown format grid cells keeps in
        subst (λ f. Works question f grid cells input out before after status) (sym same.formats)
        (subst (λ (g : GridShape). Works question file.format g cells input out before after status) (sym same.grids)
        (works_later question file.format file.grid cells input out before between after status early late
        (asks.works cells (keeps_cells file bytes shown format grid cells keeps) (subst (λ (g : GridShape). bar question g.depth ≡ None) same.grids free))));
  }

-- what the load of a name shows makes the question's answer over the file that over the store
pub asked_by_name : {T : Type 0} (view : T → FileView) (loaded_as : T) (question : Question) (name : List ℕ) (input out : Change) (nodes : StoreChange) (between : ℕ) (status : Status)
    → IsFileView (view loaded_as) → IfSome nodes.before (λ files. IsLoaded view (file_named files name) (Ok loaded_as))
    → nodes.faults_before ≤ between → between ≤ nodes.faults_after → AsksFile question (view loaded_as) input out between nodes.faults_after status
    → (bytes : Option (List ℕ)) → Tells nodes name bytes → AsksBytes question bytes input out nodes.faults_before nodes.faults_after status
asked_by_name view loaded_as question name input out nodes between status framed shown early late asks bytes tells =
    let there : IsLoaded view (file_named tells.files name) (Ok loaded_as) = at_some nodes.before tells.files (λ files. IsLoaded view (file_named files name) (Ok loaded_as)) tells.told shown in
    let some : bytes ≡ Some there.0 = sym tells.named ∙ there.1 in
    loaded question (view loaded_as) bytes (record { content = there.0; some = some; are = at_some bytes there.0 AreBytes some tells.are; shows = there.2; framed = framed }) input out nodes.faults_before between nodes.faults_after early late status asks

-- ---- how it ends

-- a text of which nothing was read ends in no way that a status would name
pub reads_kept : (question : Question) (input : Change) (status : Status) → IsKept input → ((text : List ℕ) (end : Option LineStop) → EndsText text end input.after status) → Reads question input status
reads_kept question.Check input status kept none = kept
reads_kept (question.Has code) input status kept none = kept
reads_kept question.Cells input status kept none = kept
reads_kept question.Lift input status kept none = kept
reads_kept (question.Slice axis at) input status kept none = kept
reads_kept (question.View camera) input status kept none = kept
reads_kept (question.Coarse levels) input status kept none = kept
reads_kept (question.Lines kind) input status kept none = λ text told. none text (queries_of kind text).end

pub load_ends : (question : Question) (input out : Change) (before after : ℕ) → IsKept input → (fault : LoadFault) → FailsOnlyByFault {T = Frame} before after (Err fault)
    → Ends question input out before after (status_of_load fault)
load_ends question input out before after kept load.NoFile cause =
    record { may = tt; reads = reads_kept question input (Refused NoFile) kept (λ text end. tt); read = λ e. absurd cc; written = λ e. absurd cc; looked = λ e. absurd cc; memory = λ taken e. absurd cc; barred = λ one needs e. absurd cc }
load_ends question input out before after kept load.NotNodes cause =
    record { may = tt; reads = reads_kept question input (Refused NotNodes) kept (λ text end. tt); read = λ e. absurd cc; written = λ e. absurd cc; looked = λ e. absurd cc; memory = λ taken e. absurd cc; barred = λ one needs e. absurd cc }
load_ends question input out before after kept load.Failed cause =
    record { may = tt; reads = reads_kept question input (Device Nodes) kept (λ text end. tt); read = λ e. absurd cc; written = λ e. absurd cc; looked = λ e. cause.failed refl; memory = λ taken e. absurd cc; barred = λ one needs e. absurd cc }

-- a store that had counted before is blamed still
pub ends_later : (question : Question) (input out : Change) (before between after : ℕ) (status : Status) → before ≤ between → Ends question input out between after status
    → Ends question input out before after status
ends_later question input out before between after status early ends = record {
  may = ends.may;
  reads = ends.reads;
  read = ends.read;
  written = ends.written;
  looked = λ e. later_rose (ends.looked e);
  memory = ends.memory;
  barred = ends.barred;
}
  where
    later_rose : Rose between after → Rose before after
    later_rose (inl rose) = inl (omega (arith, early, rose))
    later_rose (inr last) = inr last

-- a question about a file that was loaded by its name; `after` is the count of the store once it is known again
pub asked : {T : Type 0} (view : T → FileView) (loaded_as : T) (question : Question) (name : List ℕ) (input out : Change) (nodes : StoreChange) (between after : ℕ) (status : Status)
    → IsFileView (view loaded_as) → IfSome nodes.before (λ files. IsLoaded view (file_named files name) (Ok loaded_as))
    → nodes.faults_before ≤ between → between ≤ after → nodes.faults_after ≡ after
    → AsksFile question (view loaded_as) input out between after status → Ends question input out between after status → Asks question name input out nodes status
asked view loaded_as question name input out nodes between after status framed shown early late known asks ends = record {
  told = asked_by_name view loaded_as question name input out nodes between status framed shown early (subst (λ n. between ≤ n) (sym known) late)
      (subst (λ n. AsksFile question (view loaded_as) input out between n status) (sym known) asks);
  ends = ends_later question input out nodes.faults_before between nodes.faults_after status early (subst (λ n. Ends question input out between n status) (sym known) ends);
}

-- memory ran out behind an accepted file
pub memory_ends : (question : Question) (input out : Change) (before after : ℕ) → keeps_blocks question ≡ true → IsKept input → IsKept out → Ends question input out before after Memory
memory_ends question input out before after keeps kept_input kept_out = record {
  may = keeps;
  reads = reads_kept question input Memory kept_input (λ text end. tt);
  read = λ e. absurd cc;
  written = λ e. absurd cc;
  looked = λ e. absurd cc;
  memory = λ taken e. (kept_input, kept_out);
  barred = λ fault needs e. absurd cc;
}

-- a file that was not admitted
module _ (asked_of : Question) (file : FileView) (input out : Change) (before after : ℕ) (unread : IsKept input) (unwritten : IsKept out) where
  is_late : (asked : Question) (depth : ℕ) (fault : RangeFault) → bar asked depth ≡ Some fault → IsLate asked fault × Reads asked input (Range fault)
  is_late question.Check depth fault e = absurd cc
  is_late (question.Has code) depth fault e = (code_late (is_code code depth) e, unread)
    where
      code_late : (b : Bool) → (if b then None else Some Code) ≡ Some fault → IsLate (question.Has code) fault
      code_late true e = absurd cc
      code_late false e = let same : Code ≡ fault = cc in subst (λ f. IsLate (question.Has code) f) same tt
  is_late question.Cells depth fault e = absurd cc
  is_late question.Lift depth fault e = absurd cc
  is_late (question.Lines kind) depth fault e = absurd cc
  is_late (question.Slice axis at) depth fault e = (layer_late (is_layer at depth) e, unread)
    where
      layer_late : (b : Bool) → (if b then None else Some BadSlice) ≡ Some fault → IsLate (question.Slice axis at) fault
      layer_late true e = absurd cc
      layer_late false e = let same : BadSlice ≡ fault = cc in subst (λ f. IsLate (question.Slice axis at) f) same tt
  is_late (question.View camera) depth fault e = absurd cc
  is_late (question.Coarse levels) depth fault e = (levels_late (is_coarser levels depth) e, unread)
    where
      levels_late : (b : Bool) → (if b then None else Some Levels) ≡ Some fault → IsLate (question.Coarse levels) fault
      levels_late true e = absurd cc
      levels_late false e = let same : Levels ≡ fault = cc in subst (λ f. IsLate (question.Coarse levels) f) same tt

  pub stop_ends : (status : Status) → Admits {T = Unit {0}} asked_of file before after (Err status) → Ends asked_of input out before after status
  stop_ends Done admits = absurd admits
  stop_ends (Usage kind) admits = absurd admits
  stop_ends (Input kind place) admits = absurd admits
  stop_ends (Range fault) admits =
      let late = is_late asked_of file.grid.depth fault admits.1 in
      record { may = late.0; reads = late.1; read = λ e. absurd cc; written = λ e. absurd cc; looked = λ e. absurd cc; memory = λ taken e. absurd cc; barred = λ one needs e. unwritten }
  stop_ends (Device Read) admits = absurd admits
  stop_ends (Device Scratch) admits = absurd admits
  stop_ends (Device Write) admits = absurd admits
  stop_ends (Device Nodes) admits =
      record { may = tt; reads = reads_kept asked_of input (Device Nodes) unread (λ text end. tt); read = λ e. absurd cc; written = λ e. absurd cc; looked = λ e. admits; memory = λ taken e. absurd cc; barred = λ one needs e. absurd cc }
  stop_ends (Refused NoFile) admits = absurd admits
  stop_ends (Refused NotNodes) admits = absurd admits
  stop_ends (Refused (Number number)) admits =
      record { may = tt; reads = reads_kept asked_of input (Refused (Number number)) unread (λ text end. tt); read = λ e. absurd cc; written = λ e. absurd cc; looked = λ e. absurd cc; memory = λ taken e. absurd cc; barred = λ one needs e. absurd cc }
  stop_ends (Refused WithNoFile) admits = absurd admits
  stop_ends (Refused WithNotNodes) admits = absurd admits
  stop_ends (Refused (WithNumber number)) admits = absurd admits
  stop_ends Memory admits = absurd admits
