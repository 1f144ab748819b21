-- From a mesh on scratch and a file that was put to what the whole build answers.
use Rattle.std.proofs.Common.{◌≡◌, ℕ, ◌+◌, ◌-◌, ◌^◌, ◌≤◌, ◌<◌, arith, All, List, refl, sym, ap, subst, inl, inr, Option, None, Some, Result, Ok, Err, MatchResult, IfSome, ⊎_elim}
use Rattle.std.specs.Prelude.{IfErr}
use Rattle.std.specs.Prelude.{Bool}
use Rattle.std.proofs.lemmas.Bool.{cases_lt}
use Rattle.grid_parts.proofs.PartCells.{of_any}
use Rattle.std.specs.Result.{IsErr, IsErrAnd}
use Rattle.std.proofs.lemmas.List.Elements.{All-weaker, All-map}
use Rattle.svo_base.specs.GridShape.{GridShape, IsGrid}
use Rattle.octree_specs.specs.Cells.{Cell, AreFacedCells}
use Rattle.octree_specs.specs.FacedTriangles.{Faced}
use Rattle.octree_specs.specs.FilledCells.{MeetsCell, IsLeastFace, AreFilledCells}
use Rattle.ply_reader.specs.declared.fans.FaceTriangle.{FaceTriangle}
use Rattle.ply_reader.specs.declared.fault.PlyFault.TheVariants as ply
use Rattle.ply_reader.specs.PlyMeaning.{PlyMesh}
use Rattle.mesh_laws.specs.Meshes.{faced_at, faced_of}
use Rattle.morton_scan.specs.FilledParts.{TestEachParcel}
use Rattle.node_file.specs.declared.records.Totals.{Totals}
use Rattle.build_core.specs.declared.faults.BuildFault.{BuildFault}
use Rattle.build_core.specs.declared.faults.SpillFault.{SpillFault}
use Rattle.build_core.specs.declared.faults.SpillFault.TheVariants as spill
use Rattle.build_core.specs.declared.faults.NodesFault.{NodesFault}
use Rattle.build_core.specs.declared.faults.NodesFault.TheVariants as nodes
use Rattle.build_core.specs.declared.jobs.Job.{Job}
use Rattle.build_core.specs.declared.spilling.Spilled.{Spilled}
use Rattle.build_core.specs.Building.{Devices, HasBuilt, HasBegun, StopsBuild, StopsInTime, StepsFew, IsUnwritten, spill_fault, nodes_fault}
use Rattle.build_core.specs.Meshes.{AreReadBack, SpillsText, TellsStop}
use Rattle.build_core.specs.PutFiles.{HasPutFile, HasPutFront}
use Rattle.build_core.specs.ScratchParts.{HasPartsOf, tests_of_parts}

-- ---- the parts of the mesh

faces_fit : (mesh : PlyMesh) → All (λ t. t.face < 2 ^ 32 - 1) mesh.triangles → All (λ x. x.face ≤ 2 ^ 32 - 2) (faced_of mesh)
unfolding faced_of
faces_fit mesh numbered =
    All-map (λ (x : Faced). x.face ≤ 2 ^ 32 - 2) (faced_at mesh.points) mesh.triangles
    (All-weaker (λ (t : FaceTriangle). t.face < 2 ^ 32 - 1) (λ t. (faced_at mesh.points t).face ≤ 2 ^ 32 - 2) (λ t below. omega (arith, below)) mesh.triangles numbered)

has_parts : (grid : GridShape) (split : ℕ) (mesh : PlyMesh) (streams : List (List ℕ)) → AreReadBack grid split mesh streams → All (λ t. t.face < 2 ^ 32 - 1) mesh.triangles
    → HasPartsOf grid split (Some streams) (faced_of mesh)
has_parts grid split mesh streams read_back numbered = λ part within. record { streams = streams; are_told = refl; faces = faces_fit mesh numbered; parcels = read_back part within }

-- what holds of all triangles whose parts are told
told_of_mesh : (grid : GridShape) (split : ℕ) (mesh : PlyMesh) (told : Option (List (List ℕ))) (P : List Faced → Type 0) → IfSome told (AreReadBack grid split mesh) → All (λ t. t.face < 2 ^ 32 - 1) mesh.triangles
    → ((faced : List Faced) → HasPartsOf grid split told faced → P faced) → IfSome told (λ _. P (faced_of mesh))
told_of_mesh grid split mesh None P read_back numbered h = tt
told_of_mesh grid split mesh (Some streams) P read_back numbered h = h (faced_of mesh) (has_parts grid split mesh streams read_back numbered)

-- ---- the whole file

pub file_built : (job : Job) (d : Devices) (spilled : Spilled) (totals : Totals) (parts moves moved tests tested : ℕ) → SpillsText job d.read_before d.read_after d.streams spilled
    → HasPutFile spilled.grid job.plan.split d.streams d.written_before d.written_after totals moves moved
    → ((test : Faced → ℕ → ℕ → Bool) → TestEachParcel spilled.grid test → (faced : List Faced) → HasPartsOf spilled.grid job.plan.split d.streams faced
    → tested ≤ tests + tests_of_parts spilled.grid job.plan.split (8 ^ job.plan.split) test faced)
    → parts ≡ 8 ^ job.plan.split
    → HasBuilt job d moves moved tests tested (record { grid = spilled.grid; faces = spilled.taken.faces; triangles = spilled.taken.triangles; cells = totals.cells; records = totals.records; parts = parts })
file_built job d spilled totals parts moves moved tests tested text file few parts_are = record {
  mesh = text.mesh;
  cells = file.cells;
  means = λ t told. (text.means t told).0;
  nothing_left = λ t told. (text.means t told).1;
  grid = text.is.grid;
  scratch = text.is.scratch;
  are = file.are;
  filled = told_of_mesh spilled.grid job.plan.split text.mesh d.streams (λ faced. AreFilledCells spilled.grid faced file.cells) text.is.read_back text.is.numbered file.filled;
  written = file.written;
  faces = text.is.faces;
  triangles = text.is.triangles;
  cells_are = ap (λ t. t.cells) file.totals_are;
  records = ap (λ t. t.records) file.totals_are;
  parts = parts_are;
  few_moves = file.few_moves;
  few_tests = told_of_mesh spilled.grid job.plan.split text.mesh d.streams
      (λ faced. (test : Faced → ℕ → ℕ → Bool) → TestEachParcel spilled.grid test → tested ≤ tests + tests_of_parts spilled.grid job.plan.split (8 ^ job.plan.split) test faced)
      text.is.read_back text.is.numbered (λ faced parted test tests_each. few test tests_each faced parted);
}

-- ---- stops

-- a face that is the least of a cell is one of the faces
face_fits : (grid : GridShape) (faced : List Faced) (code face : ℕ) → All (λ x. x.face ≤ 2 ^ 32 - 2) faced → IsLeastFace grid faced code face → face ≤ 2 ^ 32 - 2
face_fits grid faced code face faces least =
    ⊎_elim
    (λ above. absurd (of_any (λ (x : Faced). x.face ≤ 2 ^ 32 - 2) (λ (x : Faced). (x.face ≡ face) × MeetsCell grid code x) faced faces (λ x small has. omega (arith, small, has.0, above)) least.met))
    (λ below. below)
    (cases_lt (2 ^ 32 - 2) face)

faced_cells : (grid : GridShape) (faced : List Faced) (cells : List Cell) → All (λ x. x.face ≤ 2 ^ 32 - 2) faced → AreFilledCells grid faced cells → AreFacedCells grid.depth cells
faced_cells grid faced cells faces are = record {
  ascending = are.ascending;
  inside = are.inside;
  faces = All-weaker (λ (cell : Cell). IsLeastFace grid faced cell.code cell.face) (λ (cell : Cell). cell.face ≤ 2 ^ 32 - 2) (λ cell least. face_fits grid faced cell.code cell.face faces least) cells are.faces;
}

begun : (job : Job) (d : Devices) (spilled : Spilled) (moves moved : ℕ) (streams : Option (List (List ℕ))) → d.streams ≡ streams → IsGrid spilled.grid → SpillsText job d.read_before d.read_after streams spilled
    → HasPutFront spilled.grid job.plan.split streams d.written_before d.written_after moves moved → HasBegun job d
begun job d spilled moves moved None told limits text front = record {
  mesh = text.mesh;
  grid = spilled.grid;
  cells = front.some.cells;
  means = λ t known. (text.means t known).0;
  grid_is = text.is.grid;
  limits = limits;
  are = front.some.are;
  filled = subst (λ s. IfSome s (λ _. AreFilledCells spilled.grid (faced_of text.mesh) front.some.cells)) (sym told) tt;
  front = front.some.front;
}
begun job d spilled moves moved (Some streams) told limits text front =
    let faced = faced_of text.mesh in
    let of = front.filled faced (has_parts spilled.grid job.plan.split text.mesh streams text.is.read_back text.is.numbered) in
    record {
      mesh = text.mesh;
      grid = spilled.grid;
      cells = of.cells;
      means = λ t known. (text.means t known).0;
      grid_is = text.is.grid;
      limits = limits;
      are = faced_cells spilled.grid faced of.cells (faces_fit text.mesh text.is.numbered) of.are;
      filled = subst (λ s. IfSome s (λ _. AreFilledCells spilled.grid faced of.cells)) (sym told) of.are;
      front = of.front;
    }

-- with few moves and tests
stepped : (job : Job) (d : Devices) (spilled : Spilled) (moves moved tests tested : ℕ) (streams : Option (List (List ℕ))) → d.streams ≡ streams → IsGrid spilled.grid → SpillsText job d.read_before d.read_after streams spilled
    → HasPutFront spilled.grid job.plan.split streams d.written_before d.written_after moves moved
    → ((test : Faced → ℕ → ℕ → Bool) → TestEachParcel spilled.grid test → (faced : List Faced) → HasPartsOf spilled.grid job.plan.split streams faced
    → tested ≤ tests + tests_of_parts spilled.grid job.plan.split (8 ^ job.plan.split) test faced)
    → StepsFew job d moves moved tests tested
unfolding begun
stepped job d spilled moves moved tests tested None told limits text front few = record {
  begun = begun job d spilled moves moved None told limits text front;
  few_moves = front.some.few_moves;
  few_tests = subst (λ s. IfSome s (λ _. (test : Faced → ℕ → ℕ → Bool) → TestEachParcel spilled.grid test
      → tested ≤ tests + tests_of_parts spilled.grid job.plan.split (8 ^ job.plan.split) test (faced_of text.mesh))) (sym told) tt;
}
stepped job d spilled moves moved tests tested (Some streams) told limits text front few =
    let faced = faced_of text.mesh in
    let parts = has_parts spilled.grid job.plan.split text.mesh streams text.is.read_back text.is.numbered in
    record {
      begun = begun job d spilled moves moved (Some streams) told limits text front;
      few_moves = (front.filled faced parts).few_moves;
      few_tests = subst (λ s. IfSome s (λ _. (test : Faced → ℕ → ℕ → Bool) → TestEachParcel spilled.grid test
          → tested ≤ tests + tests_of_parts spilled.grid job.plan.split (8 ^ job.plan.split) test faced)) (sym told) (λ test each. few test each faced parts);
    }

-- the nodes were not all put out
pub nodes_stop : (job : Job) (d : Devices) (spilled : Spilled) (moves moved : ℕ) (stop : NodesFault) → IsGrid spilled.grid → SpillsText job d.read_before d.read_after d.streams spilled
    → HasPutFront spilled.grid job.plan.split d.streams d.written_before d.written_after moves moved → StopsBuild job d (nodes_fault stop)
nodes_stop job d spilled moves moved nodes.Scratch limits text front = inr (begun job d spilled moves moved d.streams refl limits text front)
nodes_stop job d spilled moves moved nodes.Sink limits text front = begun job d spilled moves moved d.streams refl limits text front

pub nodes_in_time : (job : Job) (d : Devices) (spilled : Spilled) (moves moved tests tested : ℕ) (stop : NodesFault) → IsGrid spilled.grid → SpillsText job d.read_before d.read_after d.streams spilled
    → HasPutFront spilled.grid job.plan.split d.streams d.written_before d.written_after moves moved
    → ((test : Faced → ℕ → ℕ → Bool) → TestEachParcel spilled.grid test → (faced : List Faced) → HasPartsOf spilled.grid job.plan.split d.streams faced
    → tested ≤ tests + tests_of_parts spilled.grid job.plan.split (8 ^ job.plan.split) test faced)
    → StopsInTime job d moves moved tests tested (nodes_fault stop)
nodes_in_time job d spilled moves moved tests tested nodes.Scratch limits text front few = inr (stepped job d spilled moves moved tests tested d.streams refl limits text front few)
nodes_in_time job d spilled moves moved tests tested nodes.Sink limits text front few = stepped job d spilled moves moved tests tested d.streams refl limits text front few

-- the mesh was not put on scratch
pub spill_stop : (job : Job) (d : Devices) (stop : SpillFault) → TellsStop job d.read_before d.read_after stop → IsUnwritten d → StopsBuild job d (spill_fault stop)
spill_stop job d (spill.Text (ply.Refused kind place)) tells none = (tells, none)
spill_stop job d (spill.Text ply.ReadFault) tells none = none
spill_stop job d spill.Scratch tells none = inl none

pub spill_in_time : (job : Job) (d : Devices) (moves tests : ℕ) (stop : SpillFault) → StopsInTime job d moves moves tests tests (spill_fault stop)
spill_in_time job d moves tests (spill.Text (ply.Refused kind place)) = (refl, refl)
spill_in_time job d moves tests (spill.Text ply.ReadFault) = (refl, refl)
spill_in_time job d moves tests spill.Scratch = inl (refl, refl)

-- what `?` answers
build_stop_is : {A : Type 0} (result : Result A BuildFault) (stop : BuildFault) → IsErr result × IsErrAnd result (λ e. e ≡ stop) → result ≡ Err stop
build_stop_is (Ok x) stop h = absurd (let e = h.0 in cc)
build_stop_is (Err e) stop h = ap Err h.1

pub build_answer : {A : Type 0} (good : A → Type 0) (job : Job) (d : Devices) (result : Result A BuildFault) (stop : BuildFault) → IsErr result × IsErrAnd result (λ e. e ≡ stop)
    → StopsBuild job d stop → MatchResult result good (StopsBuild job d)
build_answer good job d result stop is why = subst (λ r. MatchResult r good (StopsBuild job d)) (sym (build_stop_is result stop is)) why

pub late_answer : {A : Type 0} (job : Job) (d : Devices) (moves moved tests tested : ℕ) (result : Result A BuildFault) (stop : BuildFault) → IsErr result × IsErrAnd result (λ e. e ≡ stop)
    → StopsInTime job d moves moved tests tested stop → IfErr result (StopsInTime job d moves moved tests tested)
late_answer job d moves moved tests tested result stop is few = subst (λ r. IfErr r (StopsInTime job d moves moved tests tested)) (sym (build_stop_is result stop is)) few
