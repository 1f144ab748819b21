-- A reader of a mesh between calls, and what its calls do.
use Rattle.std.specs.Prelude.{◌≡◌, ◌≢◌, ℕ, suc, ◌+◌, ◌*◌, ◌-◌, ◌<◌, ◌≤◌, Bool, true, false, List, [], Option, None, Some, IfSome, MatchOption, Result, Err, IfOk, IfErr, MatchResult}
use Rattle.std.specs.Result.{result_err}
use Rattle.std.specs.List.{All}
use Rattle.svo_base.specs.declared.shapes.Point.{Point}
use Rattle.dev_traits.specs.declared.device.ByteSource.{Ghosts}
use Rattle.dev_traits.specs.Faults.{Rose}
use Rattle.ply_text.specs.declared.tokens.Tokens.{Tokens}
use Rattle.ply_text.specs.Reading.{Reading, StandsIn, reading}
use Rattle.ply_reader.specs.declared.fault.PlyFault.{PlyFault}
use Rattle.ply_reader.specs.declared.fault.PlyFault.TheVariants.{ReadFault}
use Rattle.ply_reader.specs.declared.fans.Fan.{Fan}
use Rattle.ply_reader.specs.declared.fans.FaceTriangle.{FaceTriangle}
use Rattle.ply_reader.specs.declared.scales.Scale.{Scale}
use Rattle.ply_reader.specs.declared.body.Body.{Body}
use Rattle.ply_reader.specs.declared.mesh.MeshReader.{MeshReader}
use Rattle.ply_reader.specs.Declarations.{Declared, declared, nothing_declared}
use Rattle.ply_reader.specs.Layout.{vertex_count, face_count}
use Rattle.ply_reader.specs.Cursors.{Cursor, at}
use Rattle.ply_reader.specs.HeaderSteps.{whole_header}
use Rattle.ply_reader.specs.PlyMeaning.{Outcome, stopped_by, ended_at, give_point, give_triangle, reach, behind_rest, fan_rest, faces_rest, vertices_rest, face_element_rest, body_rest}
use Rattle.ply_reader.specs.Runs.{refused_place}
use Rattle.ply_reader.specs.Bounds.{IsNear}

-- the text that is read; the scale; what the header declares; how many vertices are left; whether the elements before the faces are still to be passed;
-- how many faces are left whose corners were not begun; the face whose corners are being read
pub record BodyReading : Type 0 where
  pub text : Reading
  pub scale : Scale
  pub header : Declared
  pub vertices : ℕ
  pub waits : Bool
  pub faces : ℕ
  pub fan : Option Fan

abbrev pub body_reading : Reading → Body → BodyReading
body_reading text body = record {
  text = text;
  scale = body.scale;
  header = declared body.header;
  vertices = body.vertices;
  waits = body.waits;
  faces = body.faces;
  fan = body.fan;
}

-- a reader: what it has still to read, and why it stopped
pub record MeshReading : Type 0 where
  pub body : BodyReading
  pub stopped : Option PlyFault

module _ {I : Type 0} {g : Ghosts I} where
  abbrev pub mesh_reading : Tokens I g → MeshReader → MeshReading
  mesh_reading tokens reader = record { body = body_reading (reading tokens) reader.body; stopped = reader.stopped }

-- a reader that is not stopped reads a text that is not
abbrev pub IsReady : MeshReading → Type 0
IsReady r = r.stopped ≡ None → r.body.text.stopped ≡ None

-- the faces left, and the rest of the one that was begun
abbrev pub begun_rest : Declared → ℕ → Option Fan → Cursor → Outcome
begun_rest d faces None = faces_rest d faces (behind_rest d)
begun_rest d faces (Some fan) = fan_rest d (face_count d - suc faces) fan.first fan.last fan.left (faces_rest d faces (behind_rest d))

abbrev pub waiting_rest : Declared → Bool → ℕ → Option Fan → Cursor → Outcome
waiting_rest d true faces fan = face_element_rest d
waiting_rest d false faces fan = begun_rest d faces fan

-- what the bytes left give
unfoldable pub rest_of : BodyReading → List ℕ → Outcome
rest_of r text = vertices_rest r.scale r.header r.vertices (waiting_rest r.header r.waits r.faces r.fan) (at r.text.place text)

-- the scale and the header stay
pub record SameHeader (old new : BodyReading) : Type 0 where
  pub scale : new.scale ≡ old.scale
  pub header : new.header ≡ old.header

-- what a call of a reader that was not stopped does: for told bytes it takes what it answers off what the bytes left give
pub record MeshRun {A : Type 0} (give : A → Outcome → Outcome) (old new : BodyReading) (result : Result A PlyFault) : Type 0 where
  pub same : SameHeader old new
  pub later : old.text.faults ≤ new.text.faults
  pub failed : result ≡ Err ReadFault → Rose old.text.faults new.text.faults
  pub free : IfOk result (λ _. new.text.stopped ≡ None)
  pub reached : IfErr result (λ fault. refused_place fault ≤ new.text.place + new.text.ahead)
  pub stands : (text : List ℕ) → StandsIn text old.text → StandsIn text new.text
  pub told : (text : List ℕ) → old.text.left ≡ Some text → result ≢ Err ReadFault → MatchResult result
      (λ a. (rest : List ℕ) × (new.text.left ≡ Some rest) × (rest_of old text ≡ give a (rest_of new rest)))
      (λ fault. rest_of old text ≡ stopped_by fault)

-- a call of any reader: a refusal or read fault stops it, and it answers that again and stays as it is
pub record MeshCall {A : Type 0} (give : A → Outcome → Outcome) (old new : MeshReading) (result : Result A PlyFault) : Type 0 where
  pub stays : (fault : PlyFault) → old.stopped ≡ Some fault → (result ≡ Err fault) × (new ≡ old)
  pub stops : new.stopped ≡ result_err result
  pub run : old.stopped ≡ None → MeshRun give old.body new.body result

-- nothing is taken, or one item
abbrev pub give_nothing : {A : Type 0} → A → Outcome → Outcome
give_nothing _ o = o

abbrev pub give_vertex : Option Point → Outcome → Outcome
give_vertex None o = o
give_vertex (Some point) o = give_point point o

abbrev pub give_face : Option FaceTriangle → Outcome → Outcome
give_face None o = o
give_face (Some triangle) o = give_triangle triangle o

-- the end of the text is what was left, at the place that is answered
abbrev pub give_end : ℕ → Outcome → Outcome
give_end size o = ended_at size

-- a body at its first vertex
abbrev pub start_of : Reading → Scale → Declared → BodyReading
start_of text scale d =
    record { text = text; scale = scale; header = d; vertices = vertex_count d; waits = true; faces = face_count d; fan = None }

-- how a reader begins: at the vertices, or stopped by what it met before them, and then with nothing declared
pub record Begins (scale : Scale) (old : Reading) (new : MeshReading) : Type 0 where
  pub start : new.body ≡ start_of new.body.text scale new.body.header
  pub empty : IfSome new.stopped (λ _. new.body.header ≡ nothing_declared)
  pub later : old.faults ≤ new.body.text.faults
  pub failed : new.stopped ≡ Some ReadFault → Rose old.faults new.body.text.faults
  pub reached : IfSome new.stopped (λ fault. refused_place fault ≤ new.body.text.place + new.body.text.ahead)
  pub stands : (text : List ℕ) → StandsIn text old → StandsIn text new.body.text
  pub told : (text : List ℕ) → old.left ≡ Some text → new.stopped ≢ Some ReadFault → MatchOption new.stopped
      ((rest : List ℕ) × (new.body.text.left ≡ Some rest) × (reach (whole_header (at old.place text)) (body_rest scale) ≡ rest_of new.body rest))
      (λ fault. reach (whole_header (at old.place text)) (body_rest scale) ≡ stopped_by fault)

-- no face is left, and no corner of one
abbrev pub HasNoCorner : Option Fan → Type 0
HasNoCorner fan = IfSome fan (λ f. f.left ≡ 0)

pub record HasNoFace (r : BodyReading) : Type 0 where
  pub vertices : r.vertices ≡ 0
  pub faces : r.faces ≡ 0
  pub corners : HasNoCorner r.fan

-- a vertex was given, or none was left
abbrev pub CountsVertex : BodyReading → BodyReading → Option Point → Type 0
CountsVertex old new None = (old.vertices ≡ 0) × (new ≡ old)
CountsVertex old new (Some point) = (old.vertices ≡ new.vertices + 1) × IsNear point

-- the corners of a triangle are vertices, and its face one of the faces
pub record IsWithinMesh (d : Declared) (triangle : FaceTriangle) : Type 0 where
  pub face : triangle.face < face_count d
  pub corners : All (λ corner. corner < vertex_count d) triangle.corners

-- how many corners may still be read one by one: a face has 253 behind its first two at most
abbrev pub corners_in : Option Fan → ℕ
corners_in None = 0
corners_in (Some fan) = fan.left

abbrev pub most_corners : BodyReading → ℕ
most_corners r = r.faces * 253 + corners_in r.fan

-- a triangle was given, or none was left
abbrev pub CountsFace : BodyReading → BodyReading → Option FaceTriangle → Type 0
CountsFace old new None = HasNoFace new
CountsFace old new (Some triangle) = IsWithinMesh old.header triangle × (new.vertices ≡ old.vertices) × (most_corners new < most_corners old)

-- the text was read to its end, and its length is given
pub record AtEnd (old new : Reading) (size : ℕ) : Type 0 where
  pub size_is : size ≡ new.place
  pub read : new.ahead ≡ 0
  pub nothing : (text : List ℕ) → old.left ≡ Some text → new.left ≡ Some []
