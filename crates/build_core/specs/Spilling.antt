-- A mesh that is read and put on scratch, item by item.
use Rattle.std.specs.Prelude.{◌≡◌, ℕ, ◌+◌, ◌-◌, ◌^◌, ◌<◌, List, [], ◌∷◌, length, map, Option, true, IfSome, All}
use Rattle.std.specs.List.{flat_map}
use Rattle.svo_base.specs.GridShape.{GridShape}
use Rattle.svo_base.specs.declared.shapes.Point.{Point}
use Rattle.svo_base.specs.declared.boxes.Bounds.{Bounds}
use Rattle.svo_base.specs.Boxes.{IsBoxOf}
use Rattle.dev_traits.specs.Streams.{grown_known, stream_of}
use Rattle.ply_text.specs.Reading.{Reading}
use Rattle.ply_reader.specs.declared.scales.Scale.{Scale}
use Rattle.ply_reader.specs.declared.whole_mesh.MeshFault.TheVariants.{Text}
use Rattle.ply_reader.specs.Bounds.{IsNear}
use Rattle.ply_reader.specs.Gathering.{Gave, WentOn, IsStopped}
use Rattle.ply_reader.specs.MeshCalls.{MeshReading}
use Rattle.ply_reader.specs.declared.fans.FaceTriangle.{FaceTriangle}
use Rattle.mesh_laws.specs.Meshes.{faced_at}
use Rattle.octree_specs.specs.Parcels.{vertex_bytes}
use Rattle.room_plan.specs.declared.elements.Parcel.{Parcel}
use Rattle.tri_partition.specs.Partitioning.{Spills, parcels_of}
use Rattle.vertex_spool.specs.Spooling.{SpoolView, HasPoints}
use Rattle.build_core.specs.declared.faults.SpillFault.{SpillFault}
use Rattle.build_core.specs.declared.faults.SpillFault.TheVariants as spill

-- why nothing more is read: the reader is stopped by this, or the scratch failed
abbrev pub IsSpillStop : Scale → Reading → MeshReading → SpillFault → Type 0
IsSpillStop scale start now (spill.Text fault) = IsStopped scale start now (Text fault)
IsSpillStop scale start now spill.Scratch = WentOn start now

-- so it is for whatever the reader gave before
abbrev pub StopsSpilling : MeshReading → MeshReading → SpillFault → Type 0
StopsSpilling old new stop = (scale : Scale) (start : Reading) → Gave scale start [] [] old → IsSpillStop scale start new stop

-- these points were taken from a reader that had given none
abbrev pub TakesPoints : MeshReading → MeshReading → List Point → Type 0
TakesPoints old new points = (scale : Scale) (start : Reading) → Gave scale start [] [] old → Gave scale start points [] new

-- all points of a mesh were taken, put into stream 0, and a box stands around them
pub record SpoolsPoints (old new : MeshReading) (before after : Option (List (List ℕ))) (spool : SpoolView) (bounds : Option Bounds) : Type 0 where
  pub points : List Point
  pub takes : TakesPoints old new points
  pub near : All IsNear points
  pub count : spool.count ≡ length points
  pub put : after ≡ grown_known before 0 (vertex_bytes points)
  pub is_box : IsBoxOf points bounds

-- ---- triangles

-- faces are numbered from 0 in order, and each has a triangle: there are one more than the number of the last triangle's face
abbrev pub faces_after : ℕ → List FaceTriangle → ℕ
faces_after count [] = count
faces_after count (t ∷ rest) = faces_after (t.face + 1) rest

abbrev pub faces_of : List FaceTriangle → ℕ
faces_of triangles = faces_after 0 triangles

-- the points stand in stream 0, and may be fetched
pub record IsSpooled (points : List Point) (spool : SpoolView) (told : Option (List (List ℕ))) : Type 0 where
  pub closed : spool.closed ≡ true
  pub count : spool.count ≡ length points
  pub near : All IsNear points
  pub held : IfSome told (λ streams. HasPoints (stream_of streams 0) spool)
  pub bytes : IfSome told (λ streams. stream_of streams 0 ≡ vertex_bytes points)

-- these triangles were taken from a reader that had given the points and no triangle
abbrev pub TakesTriangles : List Point → MeshReading → MeshReading → List FaceTriangle → Type 0
TakesTriangles points old new triangles = (scale : Scale) (start : Reading) → Gave scale start points [] old → Gave scale start points triangles new

-- triangles were taken and given to the parts that their boxes reach; where the points are told, the parcels are those of the mesh's triangles
pub record SpillsTriangles (grid : GridShape) (split : ℕ) (points : List Point) (old new : MeshReading) (before after : Option (List (List ℕ))) (waited waits : List Parcel) (faces count : ℕ) : Type 0 where
  pub triangles : List FaceTriangle
  pub takes : TakesTriangles points old new triangles
  pub numbered : All (λ t. t.face < 2 ^ 32 - 1) triangles
  pub count_is : count ≡ length triangles
  pub faces_are : faces ≡ faces_of triangles
  pub more : List Parcel
  pub spills : Spills before after waited more waits
  pub parcels : IfSome before (λ _. more ≡ flat_map (parcels_of grid split) (map (faced_at points) triangles))

-- what is said of a stop while triangles are taken
abbrev pub StopsTriangles : List Point → MeshReading → MeshReading → SpillFault → Type 0
StopsTriangles points old new stop = (scale : Scale) (start : Reading) → Gave scale start points [] old → IsSpillStop scale start new stop
