-- A mesh that was read, on scratch.
use Rattle.std.specs.Prelude.{◌≡◌, ℕ, ◌-◌, ◌^◌, ◌<◌, ◌≤◌, List, [], length, replicate, Option, Some, IfSome, Ok, Err, All}
use Rattle.svo_base.specs.GridShape.{GridShape}
use Rattle.svo_base.specs.Boxes.{IsFitted, FitsBox}
use Rattle.svo_base.specs.declared.shapes.Point.{Point}
use Rattle.svo_base.specs.declared.boxes.Bounds.{Bounds}
use Rattle.dev_traits.specs.Streams.{stream_of}
use Rattle.mesh_laws.specs.Meshes.{faced_of}
use Rattle.octree_specs.specs.Parcels.{vertex_bytes, HoldAlike, HoldsParcels}
use Rattle.octree_specs.specs.Parts.{part_of}
use Rattle.ply_text.specs.Reading.{Reading}
use Rattle.ply_reader.specs.declared.scales.Scale.{Scale}
use Rattle.ply_reader.specs.declared.whole_mesh.MeshFault.TheVariants.{Text}
use Rattle.ply_reader.specs.PlyMeaning.{PlyMesh}
use Rattle.ply_reader.specs.MeshCalls.{MeshReading}
use Rattle.ply_reader.specs.Gathering.{Gave, GaveAll}
use Rattle.ply_reader.specs.WholeMeshes.{Answers, IsReadTo}
use Rattle.room_plan.specs.Planning.{IsValid}
use Rattle.tri_partition.specs.PartStreams.{part_stream, parcels_in}
use Rattle.build_core.specs.declared.jobs.GridChoice.{GridChoice}
use Rattle.build_core.specs.declared.jobs.GridChoice.TheVariants.{Given, Fit}
use Rattle.build_core.specs.declared.jobs.Job.{Job}
use Rattle.build_core.specs.declared.faults.SpillFault.{SpillFault}
use Rattle.build_core.specs.declared.faults.SpillFault.TheVariants as spill
use Rattle.build_core.specs.declared.spilling.Spilled.{Spilled}
use Rattle.build_core.specs.Spilling.{faces_of}

-- ---- jobs

abbrev pub depth_of : GridChoice → ℕ
depth_of (Given grid) = grid.depth
depth_of (Fit depth) = depth

abbrev pub scale_of : Job → Scale
scale_of job = record { decimals = job.decimals; cut = job.cut }

-- the plan is one for the depth of the grid
pub record IsJob (job : Job) : Type 0 where
  pub planned : IsValid job.plan
  pub depth : depth_of job.grid ≡ job.plan.depth
  pub decimals : job.decimals ≤ 9

-- the grid that is given, or the one that is fitted to the points
abbrev pub IsGridOf : GridChoice → List Point → GridShape → Type 0
IsGridOf (Given grid) points chosen = chosen ≡ grid
IsGridOf (Fit depth) points chosen = IsFitted depth points chosen

-- the same by the box around the points
abbrev pub IsGridFor : GridChoice → Option Bounds → GridShape → Type 0
IsGridFor (Given grid) bounds chosen = chosen ≡ grid
IsGridFor (Fit depth) bounds chosen = (chosen.depth ≡ depth) × FitsBox bounds chosen

-- ---- the mesh on scratch

-- so many streams are there, all empty
abbrev pub AreEmpty : ℕ → Option (List (List ℕ)) → Type 0
AreEmpty count told = IfSome told (λ streams. streams ≡ replicate count [])

-- the vertices stand in stream 0, in order, and in the stream of each part the parcels of the triangles that reach it
pub record IsOnScratch (grid : GridShape) (split : ℕ) (mesh : PlyMesh) (streams : List (List ℕ)) : Type 0 where
  pub vertices : stream_of streams 0 ≡ vertex_bytes mesh.points
  pub parts : (part : ℕ) → part < 8 ^ split → HoldsParcels (part_stream streams part) (part_of grid split part (faced_of mesh))

-- the parcels of each part are read back from its stream
abbrev pub AreReadBack : GridShape → ℕ → PlyMesh → List (List ℕ) → Type 0
AreReadBack grid split mesh streams = (part : ℕ) → part < 8 ^ split → HoldAlike (parcels_in (part_stream streams part)) (part_of grid split part (faced_of mesh))

-- the mesh was put on scratch, whole
pub record IsSpilled (job : Job) (mesh : PlyMesh) (told : Option (List (List ℕ))) (spilled : Spilled) : Type 0 where
  pub grid : IsGridOf job.grid mesh.points spilled.grid
  pub depth : spilled.grid.depth ≡ job.plan.depth
  pub faces : spilled.taken.faces ≡ faces_of mesh.triangles
  pub triangles : spilled.taken.triangles ≡ length mesh.triangles
  pub numbered : All (λ t. t.face < 2 ^ 32 - 1) mesh.triangles
  pub scratch : IfSome told (IsOnScratch spilled.grid job.plan.split mesh)
  pub read_back : IfSome told (AreReadBack spilled.grid job.plan.split mesh)

-- a reader that had given nothing gave this mesh, whole, and it was put on scratch
pub record SpillsMesh (job : Job) (old new : MeshReading) (told : Option (List (List ℕ))) (spilled : Spilled) : Type 0 where
  pub mesh : PlyMesh
  pub gave : (scale : Scale) (start : Reading) → Gave scale start [] [] old → GaveAll scale start mesh new
  pub is : IsSpilled job mesh told spilled

-- the mesh of a text was put on scratch: of a told input it is what its text means, and nothing is left
pub record SpillsText (job : Job) (before after : Option (List ℕ)) (told : Option (List (List ℕ))) (spilled : Spilled) : Type 0 where
  pub mesh : PlyMesh
  pub means : (text : List ℕ) → before ≡ Some text → Answers (scale_of job) text after (Ok mesh)
  pub is : IsSpilled job mesh told spilled

-- of a told input a stop is the refusal that its text means; else a front of it was read
abbrev pub TellsStop : Job → Option (List ℕ) → Option (List ℕ) → SpillFault → Type 0
TellsStop job before after (spill.Text fault) = (text : List ℕ) → before ≡ Some text → Answers (scale_of job) text after (Err (Text fault))
TellsStop job before after spill.Scratch = (text : List ℕ) → before ≡ Some text → IsReadTo 0 text after
