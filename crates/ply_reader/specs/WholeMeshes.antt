-- A mesh that is read whole.
use Rattle.std.specs.Prelude.{◌≡◌, ℕ, ◌^◌, ◌<◌, ◌≤◌, List, [], length, drop, Option, Some, Result, Ok, Err}
use Rattle.std.specs.List.{All}
use Rattle.ply_reader.specs.declared.fault.PlyFault.TheVariants.{Refused, ReadFault}
use Rattle.ply_reader.specs.declared.scales.Scale.{Scale}
use Rattle.ply_reader.specs.declared.whole_mesh.MeshFault.{MeshFault}
use Rattle.ply_reader.specs.declared.whole_mesh.MeshFault.TheVariants.{Text, Memory}
use Rattle.ply_reader.specs.Bounds.{IsNear}
use Rattle.ply_reader.specs.PlyMeaning.{PlyMesh, ply_meaning}

-- there are at most 4,294,967,295 points, none far out, and each corner of a triangle is the number of one of them
pub record IsWhole (mesh : PlyMesh) : Type 0 where
  pub few : length mesh.points < 2 ^ 32
  pub near : All IsNear mesh.points
  pub known : All (λ triangle. All (λ corner. corner < length mesh.points) triangle.corners) mesh.triangles

-- a front of the text was read, with all bytes before a place
pub record IsReadTo (place : ℕ) (text : List ℕ) (left : Option (List ℕ)) : Type 0 where
  pub count : ℕ
  pub reached : place ≤ count
  pub behind : left ≡ Some (drop count text)

-- the answer is what the text means: its mesh, and then nothing is left, or its first refusal, and then all bytes before it were read;
-- nothing is said where the source or memory failed
abbrev pub Answers : Scale → List ℕ → Option (List ℕ) → Result PlyMesh MeshFault → Type 0
Answers scale text left (Ok mesh) = (ply_meaning scale text ≡ Ok mesh) × (left ≡ Some [])
Answers scale text left (Err (Text (Refused kind place))) = (ply_meaning scale text ≡ Err (Refused kind place)) × IsReadTo place text left
Answers scale text left (Err (Text ReadFault)) = IsReadTo 0 text left
Answers scale text left (Err Memory) = IsReadTo 0 text left
