-- What a run of `build` does.
use Rattle.std.specs.Prelude.{◌≡◌, ◌≢◌, ◌⊎◌, ℕ, ◌+◌, ◌^◌, ◌<◌, List, [], length, take, Some, Ok, Err}
use Rattle.octree_specs.specs.OctreeFile.{image_of, IsNodeFile}
use Rattle.dev_traits.specs.Change.{Change, ScratchChange, IsFaultless, IsKept, IsScratchKept}
use Rattle.dev_traits.specs.Streams.{asked_of}
use Rattle.ply_binary.specs.AsciiChanges.{EndsWhole, IsReadAsAscii}
use Rattle.ply_binary.specs.HeaderTexts.{ascii}
use Rattle.ply_reader.specs.PlyMeaning.{PlyMesh, ply_meaning}
use Rattle.ply_reader.specs.WholeMeshes.{IsReadTo}
use Rattle.ply_reader.specs.declared.fault.PlyFault.TheVariants.{Refused as IsRefused}
use Rattle.ply_reader.specs.declared.fault.PlyKind.{PlyKind}
use Rattle.build_core.specs.Building.{HasBuilt, HasBegun, devices_of}
use Rattle.build_core.specs.Meshes.{scale_of}
use Rattle.build_core.specs.declared.jobs.Job.{Job}
use Rattle.build_core.specs.declared.jobs.Built.{Built}
use Rattle.svo_top.specs.Ranges.{job_from, range_of_build}
use Rattle.svo_top.specs.Lines.{Says, built_line}
use Rattle.svo_words.specs.declared.build.BuildWords.{BuildWords}
use Rattle.svo_top.specs.declared.reporting.Counts.{Counts}
use Rattle.svo_top.specs.declared.outcome.Status.{Status}
use Rattle.svo_top.specs.declared.outcome.Status.TheVariants.{Done, Input, Device, Memory}
use Rattle.svo_top.specs.declared.outcome.InputKind.{InputKind}
use Rattle.svo_top.specs.declared.outcome.InputKind.TheVariants.{Ply}
use Rattle.svo_top.specs.declared.outcome.Device.TheVariants.{Scratch, Write}
use Rattle.svo_top.specs.declared.outcome.RangeFault.{RangeFault}

abbrev pub counts_of : Built → Counts
counts_of built = record { cells = built.cells; records = built.records; parts = built.parts }

-- ---- of the text of an input as ASCII

-- the words' job was done, with these counts
pub record IsBuilt (words : BuildWords) (text out : Change) (scratch : ScratchChange) (counts : Counts) : Type 0 where
  pub job : Job
  pub named : job_from words ≡ Ok job
  pub built : Built
  pub moves : ℕ
  pub moved : ℕ
  pub tests : ℕ
  pub tested : ℕ
  pub done : HasBuilt job (devices_of text out scratch) moves moved tests tested built
  pub counts_are : counts ≡ counts_of built

-- it was done, and the line counts the cells and records of the file and the parts of the grid
pub record Finished (words : BuildWords) (text out : Change) (scratch : ScratchChange) (err : Change) : Type 0 where
  pub counts : Counts
  pub built : IsBuilt words text out scratch counts
  pub line : Says err (built_line counts.cells counts.records counts.parts)

-- the text was accepted, and the output grew by a front of its node file; less than the whole of it is no node file
pub record IsCutOff (words : BuildWords) (text out : Change) (scratch : ScratchChange) : Type 0 where
  pub job : Job
  pub named : job_from words ≡ Ok job
  pub begun : HasBegun job (devices_of text out scratch)
  pub part : begun.front.0 < length (image_of 2 begun.grid begun.cells) → IsNodeFile (take begun.front.0 (image_of 2 begun.grid begun.cells)) → ⊥

-- the text is refused so, and all bytes before the place were given
pub record Refused (words : BuildWords) (kind : InputKind) (place : ℕ) (text : Change) : Type 0 where
  pub job : Job
  pub named : job_from words ≡ Ok job
  pub ply : PlyKind
  pub kind_is : kind ≡ Ply ply
  pub cause : (bytes : List ℕ) → text.before ≡ Some bytes → (ply_meaning (scale_of job) bytes ≡ Err (IsRefused ply place)) × IsReadTo place bytes text.after

-- the scratch was asked for a stream of the vertices and one for each part, at the words' place
pub record IsAskedFor (words : BuildWords) (scratch : ScratchChange) : Type 0 where
  pub job : Job
  pub named : job_from words ≡ Ok job
  pub asked : scratch.asked_after ≡ Some (asked_of words.scratch (1 + 8 ^ job.plan.split))

-- nothing was read, put out or kept
abbrev pub IsUntouched : Change → Change → ScratchChange → Type 0
IsUntouched input out scratch = IsKept input × IsKept out × IsScratchKept scratch

-- what each answer of a build means and leaves, and which one a faultless run gives; `text` is the input's text as ASCII. Where a build is done of a text
-- in ASCII, or of a binary one that ends whole, the input was read to its end
pub record BuildMeans (words : BuildWords) (input text out : Change) (scratch : ScratchChange) (status : Status) : Type 0 where
  pub untouched : (fault : RangeFault) → range_of_build words ≡ Some fault → IsUntouched input out scratch
  pub memory : status ≡ Memory → IsUntouched input out scratch
  pub asked : (scratch.asked_after ≡ scratch.asked_before) ⊎ IsAskedFor words scratch
  pub read : status ≡ Done → (bytes : List ℕ) → input.before ≡ Some bytes → (ascii bytes ≡ bytes) ⊎ EndsWhole bytes → input.after ≡ Some []
  pub kept : status ≢ Done → status ≢ Device Write → status ≢ Device Scratch → IsKept out
  pub cut_off : status ≡ Device Write → IsCutOff words text out scratch
  pub cut_short : status ≡ Device Scratch → (out.after ≡ out.before) ⊎ IsCutOff words text out scratch
  pub refused : (kind : InputKind) (place : ℕ) → status ≡ Input kind place → Refused words kind place text
  pub accepts : (bytes : List ℕ) (job : Job) (mesh : PlyMesh) → job_from words ≡ Ok job → text.before ≡ Some bytes → ply_meaning (scale_of job) bytes ≡ Ok mesh
      → IsFaultless input → IsFaultless out → IsFaultless scratch.streams → (status ≡ Done) ⊎ (status ≡ Memory)
  pub rejects : (bytes : List ℕ) (job : Job) (ply : PlyKind) (place : ℕ) → job_from words ≡ Ok job → text.before ≡ Some bytes → ply_meaning (scale_of job) bytes ≡ Err (IsRefused ply place)
      → IsFaultless input → IsFaultless scratch.streams → (status ≡ Input (Ply ply) place) ⊎ (status ≡ Memory)

-- a run of `build`, on the text of the input as ASCII
pub record BuildRun (words : BuildWords) (input out : Change) (scratch : ScratchChange) (err : Change) (status : Status) : Type 0 where
  pub text : Change
  pub ascii : IsReadAsAscii input text
  pub finished : status ≡ Done → Finished words text out scratch err
  pub means : BuildMeans words input text out scratch status
