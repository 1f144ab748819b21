-- What the command `merge` does with two files of a store.
use Rattle.std.specs.Prelude.{◌≡◌, ◌≢◌, ⊤, ℕ, List, Option, None, Some, Result, Ok, Err, IfSome}
use Rattle.svo_base.specs.GridShape.{GridShape}
use Rattle.dev_traits.specs.Change.{Change, StoreChange, IsFaulted, IsKept}
use Rattle.dev_traits.specs.Faults.{Rose, DidNotRise}
use Rattle.octree_specs.specs.Cells.{Cell}
use Rattle.octree_specs.specs.OctreeFile.{IsFramed, image_of}
use Rattle.node_file.specs.FileView.{FileView}
use Rattle.node_check.specs.declared.checking.CheckFault.{CheckFault}
use Rattle.node_check.specs.declared.checking.CheckFault.TheVariants as check
use Rattle.node_merge.specs.Combined.{merged}
use Rattle.node_merge.specs.declared.kinds.MergeKind.{MergeKind}
use Rattle.node_merge.specs.declared.kinds.MergeKind.TheVariants as way
use Rattle.node_merge.specs.declared.pair_loading.PairFault.{PairFault}
use Rattle.node_merge.specs.declared.pair_loading.PairFault.TheVariants as pair
use Rattle.node_merge.specs.declared.pairs.Turn.{Turn}
use Rattle.node_merge.specs.declared.pairs.Turn.TheVariants.{First, Second}
use Rattle.svo_words.specs.declared.kinds.MergeWord.{MergeWord}
use Rattle.svo_words.specs.declared.kinds.MergeWord.TheVariants.{Union, Both, Minus}
use Rattle.svo_words.specs.declared.combining.MergeWords.{MergeWords}
use Rattle.svo_top.specs.FileQuestion.{Answers, ComesAfterFile}
use Rattle.svo_top.specs.NodeFiles.{Tells, IsRefusedFor, Keeps, refused_of}
use Rattle.svo_top.specs.declared.outcome.Status.{Status}
use Rattle.svo_top.specs.declared.outcome.Status.TheVariants.{Done, Usage, Input, Range, Device, Refused, Memory}
use Rattle.svo_top.specs.declared.outcome.UsageKind.{UsageKind}
use Rattle.svo_top.specs.declared.outcome.InputKind.{InputKind}
use Rattle.svo_top.specs.declared.outcome.RangeFault.{RangeFault}
use Rattle.svo_top.specs.declared.outcome.RangeFault.TheVariants.{Grids}
use Rattle.svo_top.specs.declared.outcome.NodeRefusal.{NodeRefusal}
use Rattle.svo_top.specs.declared.outcome.NodeRefusal.TheVariants.{NoFile, NotNodes, Number, WithNoFile, WithNotNodes, WithNumber}
use Rattle.svo_top.specs.declared.outcome.Device.TheVariants.{Read, Scratch, Write, Nodes}

abbrev pub merge_kind_from : MergeWord → MergeKind
merge_kind_from Union = way.Union
merge_kind_from Both = way.Both
merge_kind_from Minus = way.Minus

-- ---- two named files

-- the bytes are framed as those of a node file are
pub record IsFramedFile (bytes : Option (List ℕ)) : Type 0 where
  pub content : List ℕ
  pub is : bytes ≡ Some content
  pub format : ℕ
  pub grid : GridShape
  pub words : List ℕ
  pub cells : ℕ
  pub framed : IsFramed format grid words cells content

-- they are the node file of some cells
pub record IsNodeFile (bytes : Option (List ℕ)) : Type 0 where
  pub format : ℕ
  pub grid : GridShape
  pub cells : List Cell
  pub keeps : Keeps bytes format grid cells

-- why two named files are not put together: one is missing or not framed, the first before the second; and where both are framed, the number of one is refused, of the first before that of the second
abbrev pub IsRefusedOfPair : NodeRefusal → Option (List ℕ) → Option (List ℕ) → Type 0
IsRefusedOfPair NoFile first second = IsRefusedFor NoFile first
IsRefusedOfPair NotNodes first second = IsRefusedFor NotNodes first
IsRefusedOfPair WithNoFile first second = IsFramedFile first × IsRefusedFor NoFile second
IsRefusedOfPair WithNotNodes first second = IsFramedFile first × IsRefusedFor NotNodes second
IsRefusedOfPair (Number number) first second = IsRefusedFor (Number number) first × IsFramedFile second
IsRefusedOfPair (WithNumber number) first second = IsNodeFile first × IsRefusedFor (Number number) second

-- both are node files, of these two grids
pub record AreNodeFiles (first second : Option (List ℕ)) (one other : GridShape) : Type 0 where
  pub first_format : ℕ
  pub first_cells : List Cell
  pub first_keeps : Keeps first first_format one first_cells
  pub second_format : ℕ
  pub second_cells : List Cell
  pub second_keeps : Keeps second second_format other second_cells

-- nothing was put out, and where no fault of the store was counted, the run ends so
pub record EndsUnwritten (wanted : Status) (out : Change) (before after : ℕ) (status : Status) : Type 0 where
  pub unwritten : IsKept out
  pub is : DidNotRise before after → status ≡ wanted

-- what the bytes of the two named files, if there are such files, make of the command
pub record MergesBytes (kind : MergeKind) (first second : Option (List ℕ)) (out : Change) (before after : ℕ) (status : Status) : Type 0 where
  pub refused : (refusal : NodeRefusal) → status ≡ Refused refusal → IsRefusedOfPair refusal first second
  pub refuses : (refusal : NodeRefusal) → IsRefusedOfPair refusal first second → EndsUnwritten (Refused refusal) out before after status
  pub parted : status ≡ Range Grids → (one other : GridShape) × AreNodeFiles first second one other × (other ≢ one)
  pub parts : (one other : GridShape) → AreNodeFiles first second one other → other ≢ one → EndsUnwritten (Range Grids) out before after status
  pub accepted : ComesAfterFile status → (grid : GridShape) × AreNodeFiles first second grid grid
  pub merges : (grid : GridShape) → (files : AreNodeFiles first second grid grid) → Answers (image_of 2 grid (merged kind grid.depth files.first_cells files.second_cells)) out before after status

-- ---- how it may end, whatever the files

abbrev pub MayEndMerge : Status → Type 0
MayEndMerge Done = ⊤
MayEndMerge (Range fault) = fault ≡ Grids
MayEndMerge (Device Write) = ⊤
MayEndMerge (Device Nodes) = ⊤
MayEndMerge (Refused refusal) = ⊤
MayEndMerge status = ⊥

-- a device is named only where its count of faults rose, and nothing is put out where the grids differ
pub record EndsMerge (out : Change) (before after : ℕ) (status : Status) : Type 0 where
  pub may : MayEndMerge status
  pub written : status ≡ Device Write → IsFaulted out
  pub looked : status ≡ Device Nodes → Rose before after
  pub parted : status ≡ Range Grids → IsKept out

-- the files of two names are put together
pub record Merges (words : MergeWords) (out : Change) (nodes : StoreChange) (status : Status) : Type 0 where
  pub told : (first second : Option (List ℕ)) → Tells nodes words.nodes first → Tells nodes words.with second
      → MergesBytes (merge_kind_from words.kind) first second out nodes.faults_before nodes.faults_after status
  pub ends : EndsMerge out nodes.faults_before nodes.faults_after status

-- a merge reads no input, keeps nothing on scratch and takes no memory
pub record StopsMerge (status : Status) : Type 0 where
  pub usage : (kind : UsageKind) → status ≢ Usage kind
  pub only : (fault : RangeFault) → status ≡ Range fault → fault ≡ Grids
  pub reads : (kind : InputKind) (place : ℕ) → status ≢ Input kind place
  pub unread : status ≢ Device Read
  pub unspilled : status ≢ Device Scratch
  pub remembers : status ≢ Memory

-- ---- how it ends

abbrev pub status_of_pair : PairFault → Status
status_of_pair pair.NoFirst = Refused NoFile
status_of_pair pair.First = Refused NotNodes
status_of_pair pair.NoSecond = Refused WithNoFile
status_of_pair pair.Second = Refused WithNotNodes
status_of_pair pair.Failed = Device Nodes

abbrev pub status_of_check : Turn → CheckFault → Status
status_of_check turn check.Failed = Device Nodes
status_of_check First (check.Refused number) = Refused (Number number)
status_of_check Second (check.Refused number) = Refused (WithNumber number)

-- the checker takes the words of a file, where they are told
abbrev pub IsAccepted : FileView → Type 0
IsAccepted file = IfSome file.words (λ words. refused_of file words ≡ None)

-- it refuses this number of them
abbrev pub RefusesNumber : FileView → ℕ → Type 0
RefusesNumber file number = IfSome file.words (λ words. refused_of file words ≡ Some number)

-- two loaded files are node files of one grid; or how the run ends
abbrev pub AdmitsPair : {T : Type 0} → FileView → FileView → ℕ → ℕ → Result T Status → Type 0
AdmitsPair first second before after (Ok done) = IsAccepted first × IsAccepted second × (second.grid ≡ first.grid)
AdmitsPair first second before after (Err (Range fault)) = (fault ≡ Grids) × IsAccepted first × IsAccepted second × (second.grid ≢ first.grid)
AdmitsPair first second before after (Err (Device Nodes)) = Rose before after
AdmitsPair first second before after (Err (Refused (Number number))) = RefusesNumber first number
AdmitsPair first second before after (Err (Refused (WithNumber number))) = IsAccepted first × RefusesNumber second number
AdmitsPair first second before after (Err status) = ⊥
