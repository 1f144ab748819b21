-- What a reader of a mesh gave since it began.
use Rattle.std.specs.Prelude.{◌≡◌, ◌≢◌, ℕ, ◌+◌, ◌≤◌, List, [], ◌++◌, Some, IfSome, MatchOption, Ok, Err}
use Rattle.svo_base.specs.declared.shapes.Point.{Point}
use Rattle.dev_traits.specs.Faults.{Rose}
use Rattle.ply_text.specs.Reading.{Reading, StandsIn}
use Rattle.ply_reader.specs.declared.fault.PlyFault.TheVariants.{ReadFault}
use Rattle.ply_reader.specs.declared.fans.FaceTriangle.{FaceTriangle}
use Rattle.ply_reader.specs.declared.scales.Scale.{Scale}
use Rattle.ply_reader.specs.declared.whole_mesh.MeshFault.{MeshFault}
use Rattle.ply_reader.specs.declared.whole_mesh.MeshFault.TheVariants.{Text, Memory}
use Rattle.ply_reader.specs.Cursors.{Cursor, at}
use Rattle.ply_reader.specs.HeaderSteps.{whole_header}
use Rattle.ply_reader.specs.PlyMeaning.{Outcome, PlyMesh, reach, body_rest, meaning_of}
use Rattle.ply_reader.specs.Runs.{refused_place}
use Rattle.ply_reader.specs.MeshCalls.{MeshReading, rest_of}

-- what a text gives from its first byte on
abbrev pub outcome_from : Scale → Cursor → Outcome
outcome_from scale c = reach (whole_header c) (body_rest scale)

-- points and triangles in front of what is still to come
abbrev pub give_all : List Point → List FaceTriangle → Outcome → Outcome
give_all points triangles o = record { points = points ++ o.points; triangles = triangles ++ o.triangles; ends = o.ends }

-- a reader that began at `start` goes on in its text, and its source counts no fault less
pub record WentOn (start : Reading) (now : MeshReading) : Type 0 where
  pub later : start.faults ≤ now.body.text.faults
  pub stands : (text : List ℕ) → StandsIn text start → StandsIn text now.body.text

-- it gave these points and triangles so far, or is stopped by the text's refusal or its source's
pub record Gave (scale : Scale) (start : Reading) (points : List Point) (triangles : List FaceTriangle) (now : MeshReading) : Type 0 where
  pub went : WentOn start now
  pub failed : now.stopped ≡ Some ReadFault → Rose start.faults now.body.text.faults
  pub reached : IfSome now.stopped (λ fault. refused_place fault ≤ now.body.text.place + now.body.text.ahead)
  pub told : (text : List ℕ) → start.left ≡ Some text → now.stopped ≢ Some ReadFault → MatchOption now.stopped
      ((rest : List ℕ) × (now.body.text.left ≡ Some rest) × (outcome_from scale (at start.place text) ≡ give_all points triangles (rest_of now.body rest)))
      (λ fault. (outcome_from scale (at start.place text)).ends ≡ Err fault)

-- why nothing is given: the reader is stopped by this, or memory ran out
abbrev pub IsStopped : Scale → Reading → MeshReading → MeshFault → Type 0
IsStopped scale start now (Text fault) = Gave scale start [] [] now × (now.stopped ≡ Some fault)
IsStopped scale start now Memory = WentOn start now

-- it gave all that its text has, and is at the text's end
pub record GaveAll (scale : Scale) (start : Reading) (mesh : PlyMesh) (now : MeshReading) : Type 0 where
  pub went : WentOn start now
  pub read : now.body.text.ahead ≡ 0
  pub told : (text : List ℕ) → start.left ≡ Some text → (now.body.text.left ≡ Some [])
      × (meaning_of (outcome_from scale (at start.place text)) (outcome_from scale (at start.place text)).ends ≡ Ok mesh)
