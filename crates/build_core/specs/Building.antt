-- What a build answers, and what it leaves.
use Rattle.std.specs.Prelude.{◌≡◌, ℕ, ◌+◌, ◌*◌, ◌^◌, ◌≤◌, Bool, ◌⊎◌, List, [], length, Option, Some, IfSome, Result, Ok, Err, MatchResult}
use Rattle.std.specs.Io.KnownBytes.{append_known}
use Rattle.dev_traits.specs.Change.{Change, ScratchChange}
use Rattle.svo_base.specs.GridShape.{GridShape, IsGrid}
use Rattle.octree_specs.specs.Cells.{Cell, AreFacedCells}
use Rattle.octree_specs.specs.FacedTriangles.{Faced}
use Rattle.octree_specs.specs.FilledCells.{AreFilledCells}
use Rattle.octree_specs.specs.Formats.{file_words}
use Rattle.octree_specs.specs.OctreeFile.{image_of}
use Rattle.ply_reader.specs.declared.fault.PlyFault.TheVariants as ply
use Rattle.ply_reader.specs.PlyMeaning.{PlyMesh, ply_meaning}
use Rattle.ply_reader.specs.WholeMeshes.{IsReadTo}
use Rattle.mesh_laws.specs.Meshes.{faced_of}
use Rattle.morton_scan.specs.FilledParts.{TestEachParcel}
use Rattle.node_file.specs.Waiting.{GrewByFront}
use Rattle.build_core.specs.declared.faults.BuildFault.{BuildFault}
use Rattle.build_core.specs.declared.faults.BuildFault.TheVariants.{Input, ReadFault, ScratchFault, WriteFault}
use Rattle.build_core.specs.declared.faults.SpillFault.{SpillFault}
use Rattle.build_core.specs.declared.faults.SpillFault.TheVariants as spill
use Rattle.build_core.specs.declared.faults.NodesFault.{NodesFault}
use Rattle.build_core.specs.declared.faults.NodesFault.TheVariants as nodes
use Rattle.build_core.specs.declared.jobs.Job.{Job}
use Rattle.build_core.specs.declared.jobs.Built.{Built}
use Rattle.build_core.specs.Meshes.{IsGridOf, IsOnScratch, scale_of}
use Rattle.build_core.specs.ScratchParts.{tests_of_parts}
use Rattle.build_core.specs.Spilling.{faces_of}

-- ---- faults by their kinds

abbrev pub spill_fault : SpillFault → BuildFault
spill_fault (spill.Text (ply.Refused kind place)) = Input kind place
spill_fault (spill.Text ply.ReadFault) = ReadFault
spill_fault spill.Scratch = ScratchFault

abbrev pub nodes_fault : NodesFault → BuildFault
nodes_fault nodes.Scratch = ScratchFault
nodes_fault nodes.Sink = WriteFault

-- ---- answers

-- the bytes of the input, those of the sink with its count of faults, and the streams, as far as they are told, before and after
pub record Devices : Type 0 where
  pub read_before : Option (List ℕ)
  pub read_after : Option (List ℕ)
  pub written_before : Option (List ℕ)
  pub written_after : Option (List ℕ)
  pub faults_before : ℕ
  pub faults_after : ℕ
  pub streams : Option (List (List ℕ))

abbrev pub devices_of : Change → Change → ScratchChange → Devices
devices_of input out scratch = record {
  read_before = input.before;
  read_after = input.after;
  written_before = out.before;
  written_after = out.after;
  faults_before = out.faults_before;
  faults_after = out.faults_after;
  streams = scratch.streams.after;
}

-- a told text means this mesh
abbrev pub MeansMesh : Job → Option (List ℕ) → PlyMesh → Type 0
MeansMesh job read mesh = (text : List ℕ) → read ≡ Some text → ply_meaning (scale_of job) text ≡ Ok mesh

-- the mesh of the text lies on scratch, the input is read to its end, and the node file of the cells that the mesh fills was put out
pub record HasBuilt (job : Job) (d : Devices) (moves moved tests tested : ℕ) (built : Built) : Type 0 where
  pub mesh : PlyMesh
  pub cells : List Cell
  pub means : MeansMesh job d.read_before mesh
  pub nothing_left : (text : List ℕ) → d.read_before ≡ Some text → d.read_after ≡ Some []
  pub grid : IsGridOf job.grid mesh.points built.grid
  pub scratch : IfSome d.streams (IsOnScratch built.grid job.plan.split mesh)
  pub are : AreFacedCells built.grid.depth cells
  pub filled : IfSome d.streams (λ _. AreFilledCells built.grid (faced_of mesh) cells)
  pub written : d.written_after ≡ append_known d.written_before (image_of 2 built.grid cells)
  pub faces : built.faces ≡ faces_of mesh.triangles
  pub triangles : built.triangles ≡ length mesh.triangles
  pub cells_are : built.cells ≡ length cells
  pub records : built.records ≡ length (file_words 2 built.grid.depth cells)
  pub parts : built.parts ≡ 8 ^ job.plan.split
  pub few_moves : moved ≤ moves + built.grid.depth * (length cells + 1)
  pub few_tests : IfSome d.streams (λ _. (test : Faced → ℕ → ℕ → Bool) → TestEachParcel built.grid test
      → tested ≤ tests + tests_of_parts built.grid job.plan.split (8 ^ job.plan.split) test (faced_of mesh))

-- the text was accepted, and the sink grew by a front of its node file
pub record HasBegun (job : Job) (d : Devices) : Type 0 where
  pub mesh : PlyMesh
  pub grid : GridShape
  pub cells : List Cell
  pub means : MeansMesh job d.read_before mesh
  pub grid_is : IsGridOf job.grid mesh.points grid
  pub limits : IsGrid grid
  pub are : AreFacedCells grid.depth cells
  pub filled : IfSome d.streams (λ _. AreFilledCells grid (faced_of mesh) cells)
  pub front : GrewByFront d.written_before d.written_after (image_of 2 grid cells)

-- the sink was not called
abbrev pub IsUnwritten : Devices → Type 0
IsUnwritten d = (d.written_after ≡ d.written_before) × (d.faults_after ≡ d.faults_before)

-- why there is no node file, and what the sink then holds
abbrev pub StopsBuild : Job → Devices → BuildFault → Type 0
StopsBuild job d (Input kind place) =
    ((text : List ℕ) → d.read_before ≡ Some text → (ply_meaning (scale_of job) text ≡ Err (ply.Refused kind place)) × IsReadTo place text d.read_after) × IsUnwritten d
StopsBuild job d ReadFault = IsUnwritten d
StopsBuild job d ScratchFault = IsUnwritten d ⊎ HasBegun job d
StopsBuild job d WriteFault = HasBegun job d

-- the file, or why there is none
abbrev pub Builds : Job → Devices → (moves moved tests tested : ℕ) → Result Built BuildFault → Type 0
Builds job d moves moved tests tested result = MatchResult result (HasBuilt job d moves moved tests tested) (StopsBuild job d)

-- ---- steps of a build that stops

-- nothing was moved or tested
abbrev pub IsUnstepped : (moves moved tests tested : ℕ) → Type 0
IsUnstepped moves moved tests tested = (moved ≡ moves) × (tested ≡ tests)

-- no more was moved and tested than for the whole file
pub record StepsFew (job : Job) (d : Devices) (moves moved tests tested : ℕ) : Type 0 where
  pub begun : HasBegun job d
  pub few_moves : moved ≤ moves + begun.grid.depth * (length begun.cells + 1)
  pub few_tests : IfSome d.streams (λ _. (test : Faced → ℕ → ℕ → Bool) → TestEachParcel begun.grid test
      → tested ≤ tests + tests_of_parts begun.grid job.plan.split (8 ^ job.plan.split) test (faced_of begun.mesh))

-- nothing, before the text was accepted
abbrev pub StopsInTime : Job → Devices → (moves moved tests tested : ℕ) → BuildFault → Type 0
StopsInTime job d moves moved tests tested (Input kind place) = IsUnstepped moves moved tests tested
StopsInTime job d moves moved tests tested ReadFault = IsUnstepped moves moved tests tested
StopsInTime job d moves moved tests tested ScratchFault = IsUnstepped moves moved tests tested ⊎ StepsFew job d moves moved tests tested
StopsInTime job d moves moved tests tested WriteFault = StepsFew job d moves moved tests tested
