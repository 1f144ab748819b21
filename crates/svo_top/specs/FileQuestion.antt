-- What a question about a node file answers, and what it leaves of the devices.
use Rattle.std.specs.Prelude.{◌≡◌, ◌⊎◌, ⊤, ℕ, ◌≤◌, Bool, true, false, is_some, unsigned_abs, List, length, Option, None, Some, Result, Ok, Err, IfSome}
use Rattle.svo_base.specs.GridShape.{GridShape}
use Rattle.dev_traits.specs.Change.{Change, StoreChange, IsFaulted, IsFaultless, IsKept, Grew}
use Rattle.dev_traits.specs.Faults.{Rose, DidNotRise}
use Rattle.octree_specs.specs.Cells.{Cell}
use Rattle.octree_specs.specs.Formats.{file_words}
use Rattle.octree_specs.specs.OctreeFile.{image_of}
use Rattle.node_check.specs.Stops.{PutsFront}
use Rattle.node_check.specs.Walks.{face_at}
use Rattle.node_file.specs.FileView.{FileView}
use Rattle.node_merge.specs.Combined.{coarse, coarse_grid}
use Rattle.cell_lists.specs.Lists.{cells_text}
use Rattle.svo_top.specs.FileAnswers.{bar, check_line, has_line}
use Rattle.slice_view.specs.Slices.{slice_picture}
use Rattle.svo_top.specs.Picturing.{Views}
use Rattle.ray_answers.specs.declared.queries.QueryKind.{QueryKind}
use Rattle.ray_answers.specs.declared.queries.QueryKind.TheVariants.{Rays, Points}
use Rattle.svo_top.specs.InputLines.{AnswersInput, ReadsLines}
use Rattle.svo_top.specs.declared.outcome.InputKind.{InputKind}
use Rattle.svo_top.specs.declared.outcome.InputKind.TheVariants.{BadRay, BadPoint, LineTooLong, TooLong}
use Rattle.svo_top.specs.NodeFiles.{Tells, IsRefusedFor, Keeps, KeepsCells, refused_of}
use Rattle.svo_top.specs.declared.outcome.Status.{Status}
use Rattle.svo_top.specs.declared.outcome.Status.TheVariants.{Done, Usage, Input, Range, Device, Refused, Memory}
use Rattle.svo_top.specs.declared.outcome.RangeFault.{RangeFault}
use Rattle.svo_top.specs.declared.outcome.RangeFault.TheVariants.{Decimals, Grid, TooLarge, TooSmall, Triangle, Cube, Keep, Code, Made, Slice as BadSlice, View as BadView, Ray, Point, Levels}
use Rattle.svo_top.specs.declared.outcome.NodeRefusal.{NodeRefusal}
use Rattle.svo_top.specs.declared.outcome.NodeRefusal.TheVariants.{NoFile, NotNodes, Number}
use Rattle.svo_top.specs.declared.outcome.Device.TheVariants.{Read, Scratch, Write, Nodes}
use Rattle.svo_top.specs.declared.file_question.Question.{Question}
use Rattle.svo_top.specs.declared.file_question.Question.TheVariants.{Check, Has, Cells, Lift, Lines, Slice, View, Coarse}

-- ---- the work over a node file

-- a text was put out, or a front of it where a device failed
pub record Answers (text : List ℕ) (out : Change) (before after : ℕ) (status : Status) : Type 0 where
  pub done : status ≡ Done → Grew out text
  pub front : PutsFront out.before out.after text
  pub complete : IsFaultless out → DidNotRise before after → (status ≡ Done) ⊎ (status ≡ Memory)

-- what a question does over the node file, in this format, of a grid and cells; `before` and `after` are the faults of the store
abbrev pub Works : Question → ℕ → GridShape → List Cell → Change → Change → ℕ → ℕ → Status → Type 0
Works Check format grid cells input out before after status = Answers (check_line grid.depth (length (file_words format grid.depth cells)) (length cells)) out before after status
Works (Has code) format grid cells input out before after status = Answers (has_line (is_some (face_at cells (unsigned_abs code)))) out before after status
Works Cells format grid cells input out before after status = Answers (cells_text cells) out before after status
Works Lift format grid cells input out before after status = Answers (image_of 2 grid cells) out before after status
Works (Lines kind) format grid cells input out before after status = AnswersInput kind grid cells input out before after status
Works (Slice axis at) format grid cells input out before after status = Answers (slice_picture grid.depth axis (unsigned_abs at) cells) out before after status
Works (View camera) format grid cells input out before after status = Views camera grid cells out before after status
Works (Coarse levels) format grid cells input out before after status =
    Answers (image_of 2 (coarse_grid (unsigned_abs levels) grid) (coarse (unsigned_abs levels) grid.depth cells)) out before after status

-- ---- how a question may end, whatever the file

-- the input is read as rays or points alone
abbrev pub Reads : Question → Change → Status → Type 0
Reads Check input status = IsKept input
Reads (Has code) input status = IsKept input
Reads Cells input status = IsKept input
Reads Lift input status = IsKept input
Reads (Lines kind) input status = ReadsLines kind input status
Reads (Slice axis at) input status = IsKept input
Reads (View camera) input status = IsKept input
Reads (Coarse levels) input status = IsKept input

-- a range that is tested once the file is loaded
abbrev pub IsLate : Question → RangeFault → Type 0
IsLate (Has code) Code = ⊤
IsLate (Lines kind) (Ray place) = kind ≡ Rays
IsLate (Lines kind) (Point place) = kind ≡ Points
IsLate (Slice axis at) BadSlice = ⊤
IsLate (Coarse levels) Levels = ⊤
IsLate question fault = ⊥

-- that one of them needs the file's grid
abbrev pub NeedsGrid : RangeFault → Type 0
NeedsGrid Code = ⊤
NeedsGrid BadSlice = ⊤
NeedsGrid Levels = ⊤
NeedsGrid fault = ⊥

abbrev pub ReadsInput : Question → Type 0
ReadsInput (Lines kind) = ⊤
ReadsInput question = ⊥

-- the input may be refused so: a bad ray is one of rays, and a bad point one of points
abbrev pub MayRefuse : Question → InputKind → Type 0
MayRefuse (Lines kind) BadRay = kind ≡ Rays
MayRefuse (Lines kind) BadPoint = kind ≡ Points
MayRefuse (Lines kind) LineTooLong = ⊤
MayRefuse (Lines kind) TooLong = ⊤
MayRefuse question refused = ⊥

-- memory is taken while the question is answered, for the search of nearest cells; all others take it before they read or put out anything
abbrev pub takes_memory : Question → Bool
takes_memory (Lines Points) = true
takes_memory (Lines Rays) = false
takes_memory Check = false
takes_memory (Has code) = false
takes_memory Cells = false
takes_memory Lift = false
takes_memory (Slice axis at) = false
takes_memory (View camera) = false
takes_memory (Coarse levels) = false

-- the words of the file are read by blocks that are kept, for which there may be no memory
abbrev pub keeps_blocks : Question → Bool
keeps_blocks Check = false
keeps_blocks (Has code) = false
keeps_blocks Cells = true
keeps_blocks Lift = false
keeps_blocks (Lines kind) = true
keeps_blocks (Slice axis at) = true
keeps_blocks (View camera) = true
keeps_blocks (Coarse levels) = false

-- what is refused is the one file that is asked about
abbrev pub IsOfOneFile : NodeRefusal → Type 0
IsOfOneFile NoFile = ⊤
IsOfOneFile NotNodes = ⊤
IsOfOneFile (Number number) = ⊤
IsOfOneFile refusal = ⊥

abbrev pub MayEnd : Question → Status → Type 0
MayEnd question Done = ⊤
MayEnd question (Usage kind) = ⊥
MayEnd question (Input refused place) = MayRefuse question refused
MayEnd question (Range fault) = IsLate question fault
MayEnd question (Device Read) = ReadsInput question
MayEnd question (Device Scratch) = ⊥
MayEnd question (Device Write) = ⊤
MayEnd question (Device Nodes) = ⊤
MayEnd question (Refused refusal) = IsOfOneFile refusal
MayEnd question Memory = keeps_blocks question ≡ true

-- a question ends so; a device is named only where its count of faults rose; where memory runs out that is not taken while it is answered, nothing was read or put out, nor was anything put out where a number is out of the file's grid
pub record Ends (question : Question) (input out : Change) (before after : ℕ) (status : Status) : Type 0 where
  pub may : MayEnd question status
  pub reads : Reads question input status
  pub read : status ≡ Device Read → IsFaulted input
  pub written : status ≡ Device Write → IsFaulted out
  pub looked : status ≡ Device Nodes → Rose before after
  pub memory : takes_memory question ≡ false → status ≡ Memory → IsKept input × IsKept out
  pub barred : (fault : RangeFault) → NeedsGrid fault → status ≡ Range fault → IsKept out

-- an ending that comes only once the file was accepted and no number was out of its grid
abbrev pub ComesAfterFile : Status → Type 0
ComesAfterFile Done = ⊤
ComesAfterFile (Usage kind) = ⊥
ComesAfterFile (Input kind place) = ⊤
ComesAfterFile (Range (Ray place)) = ⊤
ComesAfterFile (Range (Point place)) = ⊤
ComesAfterFile (Range fault) = ⊥
ComesAfterFile (Device Read) = ⊤
ComesAfterFile (Device Scratch) = ⊥
ComesAfterFile (Device Write) = ⊤
ComesAfterFile (Device Nodes) = ⊥
ComesAfterFile (Refused refusal) = ⊥
ComesAfterFile Memory = ⊤

-- nothing was read or put out, and where no fault of the store was counted, the run ends so
pub record EndsAtOnce (wanted : Status) (input out : Change) (before after : ℕ) (status : Status) : Type 0 where
  pub unread : IsKept input
  pub unwritten : IsKept out
  pub is : DidNotRise before after → status ≡ wanted

-- ---- over a loaded file

-- the file is a node file, and no number of the question is out of its grid; or how the run ends
abbrev pub Admits : {T : Type 0} → Question → FileView → ℕ → ℕ → Result T Status → Type 0
Admits question file before after (Ok done) = IfSome file.words (λ words. refused_of file words ≡ None) × (bar question file.grid.depth ≡ None)
Admits question file before after (Err (Device Nodes)) = Rose before after
Admits question file before after (Err (Refused (Number number))) = IfSome file.words (λ words. refused_of file words ≡ Some number)
Admits question file before after (Err (Range fault)) = IfSome file.words (λ words. refused_of file words ≡ None) × (bar question file.grid.depth ≡ Some fault) × NeedsGrid fault
Admits question file before after (Err status) = ⊥

pub record AsksFile (question : Question) (file : FileView) (input out : Change) (before after : ℕ) (status : Status) : Type 0 where
  pub refused : (words : List ℕ) (refusal : NodeRefusal) → file.words ≡ Some words → status ≡ Refused refusal → (number : ℕ) × (refusal ≡ Number number) × (refused_of file words ≡ Some number)
  pub refuses : (words : List ℕ) (number : ℕ) → file.words ≡ Some words → refused_of file words ≡ Some number → EndsAtOnce (Refused (Number number)) input out before after status
  pub barred : (words : List ℕ) (fault : RangeFault) → file.words ≡ Some words → NeedsGrid fault → status ≡ Range fault → (refused_of file words ≡ None) × (bar question file.grid.depth ≡ Some fault)
  pub bars : (cells : List Cell) (fault : RangeFault) → KeepsCells file cells → bar question file.grid.depth ≡ Some fault → EndsAtOnce (Range fault) input out before after status
  pub accepted : (words : List ℕ) → file.words ≡ Some words → ComesAfterFile status → (refused_of file words ≡ None) × (bar question file.grid.depth ≡ None)
  pub works : (cells : List Cell) → KeepsCells file cells → bar question file.grid.depth ≡ None → Works question file.format file.grid cells input out before after status

-- ---- over a store

-- what the named file's bytes, if there is one, make of the question
pub record AsksBytes (question : Question) (bytes : Option (List ℕ)) (input out : Change) (before after : ℕ) (status : Status) : Type 0 where
  pub refused : (refusal : NodeRefusal) → status ≡ Refused refusal → IsRefusedFor refusal bytes
  pub refuses : (refusal : NodeRefusal) → IsRefusedFor refusal bytes → EndsAtOnce (Refused refusal) input out before after status
  pub barred : (fault : RangeFault) → NeedsGrid fault → status ≡ Range fault → (format : ℕ) × (grid : GridShape) × (cells : List Cell) × Keeps bytes format grid cells × (bar question grid.depth ≡ Some fault)
  pub bars : (format : ℕ) (grid : GridShape) (cells : List Cell) (fault : RangeFault) → Keeps bytes format grid cells → bar question grid.depth ≡ Some fault → EndsAtOnce (Range fault) input out before after status
  pub accepted : ComesAfterFile status → (format : ℕ) × (grid : GridShape) × (cells : List Cell) × Keeps bytes format grid cells × (bar question grid.depth ≡ None)
  pub works : (format : ℕ) (grid : GridShape) (cells : List Cell) → Keeps bytes format grid cells → bar question grid.depth ≡ None → Works question format grid cells input out before after status

-- a question about the file of a name
pub record Asks (question : Question) (name : List ℕ) (input out : Change) (nodes : StoreChange) (status : Status) : Type 0 where
  pub told : (bytes : Option (List ℕ)) → Tells nodes name bytes → AsksBytes question bytes input out nodes.faults_before nodes.faults_after status
  pub ends : Ends question input out nodes.faults_before nodes.faults_after status
