-- What is found where a file is loaded by its name.
use Rattle.std.specs.Prelude.{◌≡◌, ℕ, ◌+◌, ◌*◌, ◌≤◌, ⊤, List, length, take, drop, Option, None, Some, Result, Ok, Err}
use Rattle.svo_base.specs.GridShape.{GridShape}
use Rattle.dev_traits.specs.Faults.{Rose}
use Rattle.octree_specs.specs.OctreeFile.{IsFramed}
use Rattle.node_file.specs.FileView.{FileView}
use Rattle.node_file.specs.Framing.{IsHeader, IsTrailer}
use Rattle.node_file.specs.Stored.{words_in, AreBytes}
use Rattle.node_file.specs.declared.loading.Frame.{Frame}
use Rattle.node_file.specs.declared.loading.LoadFault.{LoadFault}
use Rattle.node_file.specs.declared.loading.LoadFault.TheVariants.{NoFile, NotNodes, Failed}

-- the bytes are those of no framed file
abbrev pub IsUnframed : List ℕ → Type 0
IsUnframed bytes = (format : ℕ) (grid : GridShape) (words : List ℕ) (cells : ℕ) → IsFramed format grid words cells bytes → ⊥

-- the bytes are so framed, and these are their words
pub record ShowsFile (file : FileView) (bytes : List ℕ) : Type 0 where
  pub told : file.words ≡ words_in (Some bytes) file.totals.records
  pub framed : (words : List ℕ) → file.words ≡ Some words → AreBytes bytes → IsFramed file.format file.grid words file.totals.cells bytes

-- the answer to a load of a name whose file has these bytes, if one has the name; `view` is what contracts see of the file
abbrev pub IsLoaded : {T : Type 0} → (T → FileView) → Option (List ℕ) → Result T LoadFault → Type 0
IsLoaded view bytes (Ok file) = (b : List ℕ) × (bytes ≡ Some b) × ShowsFile (view file) b
IsLoaded view bytes (Err NoFile) = bytes ≡ None
IsLoaded view bytes (Err NotNodes) = (b : List ℕ) × (bytes ≡ Some b) × IsUnframed b
IsLoaded view bytes (Err Failed) = ⊤

-- a count of faults did not fall, and a load failed only where it rose
pub record FailsOnlyByFault {T : Type 0} (before after : ℕ) (result : Result T LoadFault) : Type 0 where
  pub later : before ≤ after
  pub failed : result ≡ Err Failed → Rose before after

-- header and trailer of one file with so many words say this of it
pub record IsFrameOf (frame : Frame) (records : ℕ) (header trailer : List ℕ) : Type 0 where
  pub head : IsHeader frame.format frame.grid header
  pub end : IsTrailer frame.format frame.totals trailer
  pub count : frame.totals.records ≡ records

-- they are not those of one file with so many words
abbrev pub AreNoFrame : ℕ → List ℕ → List ℕ → Type 0
AreNoFrame records header trailer = (frame : Frame) → IsFrameOf frame records header trailer → ⊥

-- the bytes have a header, so many words and a trailer, which say this
pub record HasFrame (frame : Frame) (bytes : List ℕ) : Type 0 where
  pub long : length bytes ≡ 80 + 8 * frame.totals.records
  pub head : IsHeader frame.format frame.grid (take 48 bytes)
  pub end : IsTrailer frame.format frame.totals (drop (48 + 8 * frame.totals.records) bytes)

-- the answer where only the frame is looked at
abbrev pub FindsFrame : Option (List ℕ) → Result Frame LoadFault → Type 0
FindsFrame bytes (Ok frame) = (b : List ℕ) × (bytes ≡ Some b) × HasFrame frame b
FindsFrame bytes (Err NoFile) = bytes ≡ None
FindsFrame bytes (Err NotNodes) = (b : List ℕ) × (bytes ≡ Some b) × IsUnframed b
FindsFrame bytes (Err Failed) = ⊤

-- the answer where only the file's length is asked for
abbrev pub OpensFile : Option (List ℕ) → Result ℕ LoadFault → Type 0
OpensFile bytes (Ok size) = (b : List ℕ) × (bytes ≡ Some b) × (size ≡ length b)
OpensFile bytes (Err NoFile) = bytes ≡ None
OpensFile bytes (Err NotNodes) = ⊥
OpensFile bytes (Err Failed) = ⊤
