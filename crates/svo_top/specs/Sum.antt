-- What a run of `sum` does.
use Rattle.std.specs.Prelude.{◌≡◌, ◌≢◌, ◌⊎◌, ℕ, ◌+◌, ◌*◌, ◌^◌, List, length, ◌++◌, take, codes, unsigned_abs, ⊤, Option, None, Some, Result, Ok, IfOk, OnErr, IfSome}
use Rattle.std.specs.Fmt.{decimal}
use Rattle.octree_specs.specs.Cells.{Cell, AreFacedCells}
use Rattle.octree_specs.specs.FilledCells.{AreFilledCells}
use Rattle.octree_specs.specs.Formats.{file_words}
use Rattle.dev_traits.specs.Change.{Change, ScratchChange, IsFaultless, IsFaulted, IsKept, IsScratchKept, Grew}
use Rattle.dev_traits.specs.declared.device.Failed.{Failed}
use Rattle.dev_traits.specs.Streams.{asked_of}
use Rattle.ply_reader.specs.PlyMeaning.{PlyMesh, ply_meaning}
use Rattle.mesh_laws.specs.Meshes.{faced_of}
use Rattle.mesh_maker.specs.MadeText.{made_text, face_total}
use Rattle.build_core.specs.Meshes.{IsGridOf, IsOnScratch, scale_of}
use Rattle.build_core.specs.declared.jobs.Built.{Built}
use Rattle.build_core.specs.declared.jobs.Job.{Job}
use Rattle.svo_words.specs.declared.made.SumWords.{SumWords}
use Rattle.svo_top.specs.Ranges.{sum_job_from, range_of_sum}
use Rattle.svo_top.specs.declared.outcome.Status.{Status}
use Rattle.svo_top.specs.declared.outcome.Status.TheVariants.{Done, Usage, Input, Range, Device, Refused, Memory}
use Rattle.svo_top.specs.declared.outcome.RangeFault.{RangeFault}
use Rattle.svo_top.specs.declared.outcome.Device.TheVariants.{Read, Scratch, Write, Nodes}
use Rattle.svo_top.specs.declared.reporting.Ending.{Ending}
use Rattle.svo_top.specs.declared.reporting.Ending.TheVariants.{Built as EndsBuilt, Answered, Stopped}

abbrev pub text_of_sum : SumWords → List ℕ
text_of_sum words = made_text (unsigned_abs words.number) (unsigned_abs words.side)

-- the counts of a mesh and of its octree
unfoldable pub sum_line : ℕ → ℕ → ℕ → ℕ → ℕ → List ℕ
sum_line faces triangles parts cells records =
    codes "faces " ++ decimal faces ++ codes " triangles " ++ decimal triangles ++ codes " parts " ++ decimal parts
    ++ codes " cells " ++ decimal cells ++ codes " records " ++ decimal records ++ codes "\n"

-- the made mesh was built: it lies on scratch, the cells are those that its triangles fill, and the counts are those of the mesh and of the node file of the cells
pub record Sums (words : SumWords) (job : Job) (streams : Option (List (List ℕ))) (built : Built) : Type 0 where
  pub mesh : PlyMesh
  pub cells : List Cell
  pub means : ply_meaning (scale_of job) (text_of_sum words) ≡ Ok mesh
  pub grid : IsGridOf job.grid mesh.points built.grid
  pub scratch : IfSome streams (IsOnScratch built.grid job.plan.split mesh)
  pub are : AreFacedCells built.grid.depth cells
  pub filled : IfSome streams (λ _. AreFilledCells built.grid (faced_of mesh) cells)
  pub faces : built.faces ≡ face_total (unsigned_abs words.side)
  pub triangles : built.triangles ≡ 2 * face_total (unsigned_abs words.side)
  pub parts : built.parts ≡ 8 ^ job.plan.split
  pub cells_are : built.cells ≡ length cells
  pub records : built.records ≡ length (file_words 2 built.grid.depth cells)

-- what the build of the made mesh answers: these counts, or the scratch failed; and what the scratch was asked
pub record BuildsMade (words : SumWords) (job : Job) (scratch : ScratchChange) (result : Result Built Failed) : Type 0 where
  pub sums : IfOk result (Sums words job scratch.streams.after)
  pub spilled : OnErr result (IsFaulted scratch.streams)
  pub asked : scratch.asked_after ≡ Some (asked_of words.scratch (1 + 8 ^ job.plan.split))

-- the line of the counts
pub record IsSum (words : SumWords) (streams : Option (List (List ℕ))) (answer : List ℕ) : Type 0 where
  pub job : Job
  pub named : sum_job_from words ≡ Ok job
  pub built : Built
  pub sums : Sums words job streams built
  pub answer_is : answer ≡ sum_line built.faces built.triangles built.parts built.cells built.records

-- the scratch was asked for a stream of the vertices and one for each part, at the words' place
pub record IsAskedForSum (words : SumWords) (scratch : ScratchChange) : Type 0 where
  pub job : Job
  pub named : sum_job_from words ≡ Ok job
  pub asked : scratch.asked_after ≡ Some (asked_of words.scratch (1 + 8 ^ job.plan.split))

-- the output grew by the line where it is done, by a front of it where the output failed, and else by nothing; what the scratch was asked; and how a faultless run ends
pub record SumMeans (words : SumWords) (out : Change) (scratch : ScratchChange) (status : Status) : Type 0 where
  pub done : status ≡ Done → (answer : List ℕ) × IsSum words scratch.streams.after answer × Grew out answer
  pub cut_off : status ≡ Device Write → (answer : List ℕ) × (count : ℕ) × IsSum words scratch.streams.after answer × Grew out (take count answer)
  pub kept : status ≢ Done → status ≢ Device Write → IsKept out
  pub unspilled : (fault : RangeFault) → range_of_sum words ≡ Some fault → IsScratchKept scratch
  pub memory : status ≡ Memory → IsScratchKept scratch
  pub asked : (scratch.asked_after ≡ scratch.asked_before) ⊎ IsAskedForSum words scratch
  pub sums : range_of_sum words ≡ None → IsFaultless out → IsFaultless scratch.streams → (status ≡ Done) ⊎ (status ≡ Memory)

-- a run of `sum` reads nothing, and has no line on the error output where it is done
pub record SumRun (words : SumWords) (input out : Change) (scratch : ScratchChange) (err : Change) (status : Status) : Type 0 where
  pub means : SumMeans words out scratch status
  pub unread : IsKept input
  pub silent : status ≡ Done → IsKept err

-- a sum has its line on the output alone, and it reads no input
abbrev pub EndsSum : Ending → Type 0
EndsSum (EndsBuilt counts) = ⊥
EndsSum Answered = ⊤
EndsSum (Stopped Done) = ⊥
EndsSum (Stopped (Usage kind)) = ⊥
EndsSum (Stopped (Input kind place)) = ⊥
EndsSum (Stopped (Range fault)) = ⊤
EndsSum (Stopped (Device Read)) = ⊥
EndsSum (Stopped (Device Scratch)) = ⊤
EndsSum (Stopped (Device Write)) = ⊤
EndsSum (Stopped (Device Nodes)) = ⊥
EndsSum (Stopped (Refused refusal)) = ⊥
EndsSum (Stopped Memory) = ⊤
